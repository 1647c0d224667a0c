-- What is shown keeps what holds of every element.
use Rattle.std.proofs.Common.{ℕ, Bool, true, false, not, List, [], ◌∷◌, ◌++◌, bytes_eq, map, filter, Option, Some, None, IfSome, find, if◌then◌else◌, IsUtf8}
use Rattle.std.specs.List.{All, AllByRecursion}
use Rattle.std.specs.Option.{option_map, option_or}
use Rattle.std.proofs.ByRecursion.{All-append, All-map, All-weaker, all_kept_by}
use Rattle.std.proofs.lemmas.List.Elements.{All-from_recursion, recursion_from_All}
use Rattle.std.proofs.lemmas.List.Sorted.{All-permutation}
use Rattle.json_text.specs.FirstOccurrences as texts
use Rattle.elem.specs.declared.parts.BoundRef.{BoundRef}
use Rattle.elem.specs.ElementValue.{ElementValue}
use Rattle.elem.specs.Facts.{IsElement}
use Rattle.elem.specs.Said.{IsBindingText, HasValidTexts}
use Rattle.links.specs.Arrows.{names_target, is_bound_to, is_true_entry, arrow_entries, text_entries, listing, with_settled_links}
use Rattle.elem.specs.Listings.{same_listing_entry}
use Rattle.links.specs.Entries.{arrow_entry, first_entries}
use Rattle.links.specs.Names.{can_hold_text, id_of, names_container, target_of}
use Rattle.links.specs.Settled.{settled_links}
use Rattle.links.specs.Texts.{is_text_entry, listed_text, first_text, text_of, keeps_container, with_settled_container, settled_texts}
use Rattle.frames_groups.specs.Frames.{has_frame, keeps_frame, framed, without_frame, frames_settled}
use Rattle.frames_groups.specs.Groups.{grouped}
use Rattle.view.specs.Settled.{settled}
use Rattle.elem.proofs.CallerLemmas as parts
use Rattle.elem.proofs.CallerLemmas.{IsKept, AreKept, kept-from, kept-to, HasText}
use Rattle.index_repair.proofs.CallerLemmas.{repaired-kept}
use Rattle.view.specs.Shown.{is_live, live_elements, in_scene_order, placed, shown}
use Rattle.view.proofs.SceneOrder.{IsPermutation-in_scene_order}

-- ---- lists and options
map-all : {X Y : Type 0} (P : X → Type 0) (Q : Y → Type 0) (f : X → Y) (xs : List X) → ((x : X) → P x → Q (f x))
    → AllByRecursion P xs → AllByRecursion Q (map f xs)
map-all P Q f xs each all = All-map Q f xs (All-weaker P (λ x. Q (f x)) each xs all)

find-some : {X : Type 0} (P : X → Type 0) (p : X → Bool) (xs : List X) → AllByRecursion P xs → IfSome (find p xs) P
find-some P p [] all = tt
find-some P p (x ∷ xs) all = elim (p x) as (λ (b : Bool). IfSome (if b then Some x else find p xs) P) [
  | true ↦ all.0
  | false ↦ find-some P p xs all.1
]

pub map-some : {X Y : Type 0} (P : X → Type 0) (Q : Y → Type 0) (f : X → Y) (o : Option X) → ((x : X) → P x → Q (f x))
    → IfSome o P → IfSome (option_map f o) Q
map-some P Q f None each is = tt
map-some P Q f (Some x) each is = each x is

pub or-some : {X : Type 0} (P : X → Type 0) (o other : Option X) → IfSome o P → IfSome other P
    → IfSome (option_or o other) P
or-some P None other first second = second
or-some P (Some x) other first second = first

if-some : {X : Type 0} (P : X → Type 0) (b : Bool) (o : Option X) → IfSome o P → IfSome (if b then o else None) P
if-some P true o is = is
if-some P false o is = tt

-- ---- keys
ordered-kept : (es : List ElementValue) → AreKept es → AreKept (in_scene_order es)
ordered-kept es all = recursion_from_All IsKept (in_scene_order es)
    (All-permutation IsKept es (in_scene_order es) (IsPermutation-in_scene_order es) (All-from_recursion IsKept es all))

placed-kept : (live : List ElementValue) → AreKept live → AreKept (placed live)
unfolding placed
placed-kept live all = repaired-kept (in_scene_order live) (ordered-kept live all)

-- ---- texts
container-kept : (list : List ElementValue) (e : ElementValue) → IsKept e → IsKept (with_settled_container list e)
container-kept list e kept =
    parts.with_container e kept (if keeps_container list e then e.container else None)
    (if-some _ (keeps_container list e) e.container kept.element.container)
    (if-some IsUtf8 (keeps_container list e) e.container kept.written.container)

-- ---- arrows
first-all : (entries : List BoundRef) → AllByRecursion HasText entries → AllByRecursion HasText (first_entries entries)
first-all [] all = tt
first-all (entry ∷ entries) all = (
  all.0,
  all_kept_by (λ other. not (same_listing_entry entry other)) HasText (first_entries entries)
      (first-all entries all.1),
)

text_of-written : (list : List ElementValue) (e : ElementValue) → AreKept list → IsKept e
    → IfSome (text_of list e) IsUtf8
unfolding text_of
text_of-written list e all kept =
    if-some IsUtf8 (can_hold_text e.kind) (option_or (listed_text list e) (first_text list e))
    (or-some IsUtf8 (listed_text list e) (first_text list e)
    (map-some HasText IsUtf8 (λ (entry : BoundRef). entry.id) (find (is_text_entry list e) e.bound) (λ entry is. is)
    (find-some HasText (is_text_entry list e) e.bound kept.written.bound))
    (map-some IsKept IsUtf8 id_of (find (names_container e.id) list) (λ x is. is.written.id)
    (find-some IsKept (names_container e.id) list all)))

entries-of : (o : Option (List ℕ)) → IfSome o IsUtf8 → AllByRecursion HasText (text_entries o)
entries-of None is = tt
entries-of (Some id) is = (is, tt)

listing-written : (list : List ElementValue) (e : ElementValue) → AreKept list → IsKept e
    → AllByRecursion HasText (listing list e)
unfolding listing
listing-written list e all kept =
    first-all (filter (is_true_entry list e) e.bound ++ (arrow_entries list e ++ text_entries (text_of list e)))
    (All-append HasText (filter (is_true_entry list e) e.bound) (arrow_entries list e ++ text_entries (text_of list e))
    (all_kept_by (is_true_entry list e) HasText e.bound kept.written.bound)
    (All-append HasText (arrow_entries list e) (text_entries (text_of list e))
    (map-all IsKept HasText (λ (arrow : ElementValue). arrow_entry arrow.id) (filter (is_bound_to e) list)
    (λ x is. is.written.id) (all_kept_by (is_bound_to e) IsKept list all))
    (entries-of (text_of list e) (text_of-written list e all kept))))

links-kept : (list : List ElementValue) (e : ElementValue) → AreKept list → IsKept e
    → IsKept (with_settled_links list e)
links-kept list e all kept =
    let a = kept.element in
    let w = kept.written in
    let starts = names_target list (target_of e.start_binding) in
    let ends = names_target list (target_of e.end_binding) in
    parts.with_parts e kept e.deleted e.index e.groups e.frame (listing list e) e.container
    (if starts then e.start_binding else None) (if ends then e.end_binding else None)
    w.index w.groups w.frame (listing-written list e all kept) a.container w.container
    (if-some _ starts e.start_binding a.start_binding) (if-some IsBindingText starts e.start_binding w.start_binding)
    (if-some _ ends e.end_binding a.end_binding) (if-some IsBindingText ends e.end_binding w.end_binding)

-- ---- frames and groups
frame-kept : (names_frame : List ℕ → Bool) (e : ElementValue) → IsKept e → IsKept (framed names_frame e)
frame-kept names_frame e kept =
    elim (keeps_frame names_frame e) as (λ (b : Bool). IsKept (if b then e else without_frame e)) [
      | true ↦ kept
      | false ↦ parts.with_frame e kept None tt
    ]

groups-written : (groups : List (List ℕ)) → AllByRecursion IsUtf8 groups
    → AllByRecursion IsUtf8 (texts.first_texts groups)
groups-written [] all = tt
groups-written (group ∷ groups) all =
    (all.0, all_kept_by (texts.is_other bytes_eq group) IsUtf8 (texts.first_texts groups) (groups-written groups all.1))

group-kept : (e : ElementValue) → IsKept e → IsKept (grouped e)
group-kept e kept = parts.with_groups e kept (texts.first_texts e.groups) (groups-written e.groups kept.written.groups)

-- ---- all of it
settled-kept : (es : List ElementValue) → AreKept es → AreKept (settled es)
unfolding settled
settled-kept es all =
    let texted = map-all IsKept IsKept (with_settled_container es) es (container-kept es) all in
    let linked = map-all IsKept IsKept (with_settled_links (settled_texts es)) (settled_texts es)
    (λ e is. links-kept (settled_texts es) e texted is) texted in
    let framed' = map-all IsKept IsKept (framed (has_frame (settled_links es))) (settled_links es)
    (frame-kept (has_frame (settled_links es))) linked in
    map-all IsKept IsKept grouped (frames_settled (settled_links es)) group-kept framed'

pub shown-kept : (live : List ElementValue) → AreKept live → AreKept (shown live)
unfolding shown
shown-kept live all = settled-kept (placed live) (placed-kept live all)

pub live-kept : (stored : List ElementValue) → AreKept stored → AreKept (live_elements stored)
live-kept stored all = all_kept_by is_live IsKept stored all

-- ---- as laws say it
pub shown-elements : (live : List ElementValue) → All (λ e. IsElement e × HasValidTexts e) live
    → All (λ e. IsElement e × HasValidTexts e) (shown live)
shown-elements live all = kept-to (shown live) (shown-kept live (kept-from live all))
