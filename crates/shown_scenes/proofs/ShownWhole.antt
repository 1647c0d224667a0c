-- Elements that are whole stay so as they are shown.
use Rattle.std.proofs.Common.{ℕ, List, [], ◌∷◌, ◌++◌, Bool, cond, not, Option, Some, None, IfSome, All, find, bytes_eq, filter, map, refl, inl, IsUtf8}
use Rattle.std.specs.List.{AllByRecursion}
use Rattle.std.specs.Option.{option_or}
use Rattle.std.proofs.lemmas.Bool.{cond_both}
use Rattle.std.proofs.lemmas.List.Elements.{All-from_recursion, recursion_from_All, All-nil, All-cons, All-head, All-tail, All-append, All-weaker, All-map, All-filter}
use Rattle.std.proofs.lemmas.List.Sorted.{All-permutation}
use Rattle.json_text.specs.FirstOccurrences as texts
use Rattle.elem.specs.declared.parts.BoundRef.{BoundRef}
use Rattle.elem.specs.ElementValue.{ElementValue}
use Rattle.elem_read.proofs.CallerLemmas.{IsSound}
use Rattle.links.specs.Arrows.{names_target, is_true_entry, arrow_entries, text_entries, listing, with_settled_links, settled_arrows}
use Rattle.links.specs.Arrows as arrows
use Rattle.elem.specs.Listings.{same_listing_entry}
use Rattle.links.specs.Entries.{arrow_entry, text_entry, first_entries}
use Rattle.links.specs.Names.{id_of, names_container, target_of, can_hold_text}
use Rattle.links.specs.Settled.{settled_links}
use Rattle.links.specs.Texts.{is_text_entry, listed_text, first_text, text_of, keeps_container, with_settled_container, settled_texts}
use Rattle.frames_groups.specs.Frames.{has_frame, keeps_frame, without_frame, framed, frames_settled}
use Rattle.frames_groups.specs.Groups.{grouped, groups_settled}
use Rattle.view.specs.Settled.{settled}
use Rattle.view.specs.Shown.{in_scene_order, placed, shown}
use Rattle.view.proofs.CallerLemmas.{IsPermutation-in_scene_order, map-some, or-some}
use Rattle.elem_read.specs.Reading.{IsWholeElement}
use Rattle.scene_file.proofs.CallerLemmas.{stays-if, IsListed, sound-with, AreSound, repaired-sound, sounds-whole, wholes-sound}

placed-sound : (live : List ElementValue) → AreSound live → AreSound (placed live)
unfolding placed
placed-sound live sound = repaired-sound (in_scene_order live)
    (All-permutation IsSound live (in_scene_order live) (IsPermutation-in_scene_order live) sound)

-- ---- settled links
map-all : {X Y : Type 0} (P : X → Type 0) (Q : Y → Type 0) (f : X → Y) (xs : List X) → ((x : X) → P x → Q (f x))
    → All P xs → All Q (map f xs)
map-all P Q f xs each all = All-map Q f xs (All-weaker P (λ x. Q (f x)) each xs all)

find-all : {X : Type 0} (P : X → Type 0) (test : X → Bool) (xs : List X) → All P xs → IfSome (find test xs) P
find-all P test [] all = tt
find-all P test (x ∷ xs) all = cond_both (test x) (Some x) (find test xs) (λ o. IfSome o P) (λ _. All-head P x xs all)
    (λ _. find-all P test xs (All-tail P x xs all))

abbrev AreListed : List BoundRef → Type 0
AreListed entries = All IsListed entries

first-listed : (entries : List BoundRef) → AreListed entries → AreListed (first_entries entries)
first-listed [] all = all
first-listed (entry ∷ entries) all =
    let rest = first_entries entries in
    All-cons IsListed entry (filter (λ other. not (same_listing_entry entry other)) rest)
    (All-head IsListed entry entries all)
    (All-filter (λ other. not (same_listing_entry entry other)) IsListed rest
    (first-listed entries (All-tail IsListed entry entries all)))

text-written : (list : List ElementValue) (e : ElementValue) → AreSound list → IsSound e
    → IfSome (text_of list e) IsUtf8
unfolding text_of
text-written list e sounds sound =
    cond_both (can_hold_text e.kind) (option_or (listed_text list e) (first_text list e)) None (λ o. IfSome o IsUtf8)
    (λ _. or-some IsUtf8 (listed_text list e) (first_text list e)
    (map-some IsListed IsUtf8 (λ (entry : BoundRef). entry.id) (find (is_text_entry list e) e.bound) (λ entry is. is)
    (find-all IsListed (is_text_entry list e) e.bound (All-from_recursion IsListed e.bound sound.written.bound)))
    (map-some IsSound IsUtf8 id_of (find (names_container e.id) list)
    (λ (text : ElementValue) (is : IsSound text). is.written.id)
    (find-all IsSound (names_container e.id) list sounds)))
    (λ _. tt)

text-listed : (text : Option (List ℕ)) → IfSome text IsUtf8 → AreListed (text_entries text)
text-listed None is = All-nil IsListed
text-listed (Some id) is = All-cons IsListed (text_entry id) [] is (All-nil IsListed)

listing-written : (list : List ElementValue) (e : ElementValue) → AreSound list → IsSound e
    → AllByRecursion IsListed (listing list e)
unfolding listing
listing-written list e sounds sound =
    let own = filter (is_true_entry list e) e.bound in
    let entries = arrow_entries list e in
    let texts = text_entries (text_of list e) in
    recursion_from_All IsListed (first_entries (own ++ (entries ++ texts)))
    (first-listed (own ++ (entries ++ texts))
    (All-append IsListed own (entries ++ texts)
    (All-filter (is_true_entry list e) IsListed e.bound (All-from_recursion IsListed e.bound sound.written.bound))
    (All-append IsListed entries texts
    (map-all IsSound IsListed (λ (arrow : ElementValue). arrow_entry arrow.id) (filter (arrows.is_bound_to e) list)
    (λ (arrow : ElementValue) (is : IsSound arrow). is.written.id)
    (All-filter (arrows.is_bound_to e) IsSound list sounds))
    (text-listed (text_of list e) (text-written list e sounds sound)))))

texts-sound : (list : List ElementValue) → AreSound list → AreSound (settled_texts list)
texts-sound list sounds = map-all IsSound IsSound (with_settled_container list) list each sounds
  where
    each : (e : ElementValue) → IsSound e → IsSound (with_settled_container list e)
    each e sound =
        sound-with e e.index e.groups e.frame e.bound (cond (keeps_container list e) e.container None) e.start_binding
        e.end_binding
        sound sound.written.index sound.written.groups sound.written.frame sound.written.bound
        (stays-if (keeps_container list e) e.container) (inl refl) (inl refl)

arrows-sound : (list : List ElementValue) → AreSound list → AreSound (settled_arrows list)
arrows-sound list sounds = map-all IsSound IsSound (with_settled_links list) list each sounds
  where
    each : (e : ElementValue) → IsSound e → IsSound (with_settled_links list e)
    each e sound =
        sound-with e e.index e.groups e.frame (listing list e) e.container (arrows.settled_end list e.start_binding)
        (arrows.settled_end list e.end_binding)
        sound sound.written.index sound.written.groups sound.written.frame (listing-written list e sounds sound)
        (inl refl)
        (stays-if (names_target list (target_of e.start_binding)) e.start_binding)
        (stays-if (names_target list (target_of e.end_binding)) e.end_binding)

-- ---- settled frames and groups
frames-sound : (list : List ElementValue) → AreSound list → AreSound (frames_settled list)
frames-sound list sounds = map-all IsSound IsSound (framed (has_frame list)) list each sounds
  where
    each : (e : ElementValue) → IsSound e → IsSound (framed (has_frame list) e)
    each e sound =
        cond_both (keeps_frame (has_frame list) e) e (without_frame e) IsSound (λ _. sound)
        (λ _. sound-with e e.index e.groups None e.bound e.container e.start_binding e.end_binding sound
        sound.written.index sound.written.groups tt sound.written.bound (inl refl) (inl refl) (inl refl))

first-texts : (groups : List (List ℕ)) → All IsUtf8 groups → All IsUtf8 (texts.first_texts groups)
first-texts [] all = all
first-texts (text ∷ groups) all =
    let rest = texts.first_texts groups in
    All-cons IsUtf8 text (filter (texts.is_other bytes_eq text) rest) (All-head IsUtf8 text groups all)
    (All-filter (texts.is_other bytes_eq text) IsUtf8 rest (first-texts groups (All-tail IsUtf8 text groups all)))

groups-sound : (list : List ElementValue) → AreSound list → AreSound (groups_settled list)
groups-sound list sounds = map-all IsSound IsSound grouped list each sounds
  where
    each : (e : ElementValue) → IsSound e → IsSound (grouped e)
    each e sound =
        let groups = texts.first_texts e.groups in
        sound-with e e.index groups e.frame e.bound e.container e.start_binding e.end_binding sound sound.written.index
        (recursion_from_All IsUtf8 groups (first-texts e.groups
        (All-from_recursion IsUtf8 e.groups sound.written.groups))) sound.written.frame sound.written.bound
        (inl refl) (inl refl) (inl refl)

pub shown-sound : (live : List ElementValue) → AreSound live → AreSound (shown live)
unfolding shown settled
shown-sound live sounds =
    let there = placed live in
    groups-sound (frames_settled (settled_links there))
    (frames-sound (settled_links there)
    (arrows-sound (settled_texts there) (texts-sound there (placed-sound live sounds))))

pub shown-whole : (live : List ElementValue) → All IsWholeElement live → All IsWholeElement (shown live)
shown-whole live whole = sounds-whole (shown live) (shown-sound live (wholes-sound live whole))
