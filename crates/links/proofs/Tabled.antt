-- Tables of a list: what a row adds, and what a test finds among the rows of an id.
use Rattle.std.proofs.Common.{◌≡◌, ℕ, ◌+◌, ◌<◌, Bool, true, false, cond, ◌&&◌, ◌||◌, List, [], ◌∷◌, ◌++◌, length, get_or, take, find, filter, map, slice_get, Option, Some, None, is_some, bytes_eq, nat_cmp, refl, sym, ap, ap₂, ◌∙◌, append_assoc, append-nil}
use Rattle.std.specs.Cmp.Lexicographic.{slice_cmp}
use Rattle.std.specs.List.{list_any, zip}
use Rattle.std.specs.Option.{option_copied, option_map, option_or}
use Rattle.std.specs.Ordering.{is_eq}
use denote.Ref.{Bor}
use Rattle.std.proofs.lemmas.Bool.{both_ways, cond-true, cond-false}
use Rattle.std.proofs.lemmas.List.{map-append, take_more}
use Rattle.std.proofs.lemmas.List.Elements.{filter-append, filter_more}
use Rattle.std.proofs.lemmas.Slice.Eq.{bytes_eq-Decides}
use Rattle.elem.specs.declared.kind.Role.TheVariants.{Arrow}
use Rattle.elem.specs.declared.parts.BoundRef.{BoundRef}
use Rattle.elem.specs.ElementValue.{ElementValue}
use Rattle.elem.specs.Order.{has_id}
use Rattle.links.specs.declared.table.Row.{Row}
use Rattle.links.specs.Arrows.{is_bound_to, is_true_as, is_true_entry, arrow_entries, text_entries, listing}
use Rattle.links.specs.Entries.{arrow_entry, first_entries}
use Rattle.links.specs.Names.{id_of, is_text, is_arrow, is_id, can_hold_text, names_container, target_of, end_names, has_end_at, is_target}
use Rattle.links.specs.Tables.{is_under, row_element, elements_under, Adds, with_listing_entry}
use Rattle.links.specs.inner.Tables.{IsTable, with_entries}
use Rattle.links.specs.Texts.{is_for_text, is_text_entry, listed_text, first_text, text_of, is_text_of, keeps_container}
use Rattle.links.proofs.EntryLaws.{first_entries-push, with_entries-first, with_entries-push}
use Rattle.links.proofs.Sorting.{bytes_eq-cmp}

pub elements_under-append : (key : List ℕ) (rows others : List Row)
    → elements_under key (rows ++ others) ≡ elements_under key rows ++ elements_under key others
elements_under-append key rows others =
    ap (map row_element) (filter-append (is_under key) rows others)
    ∙ map-append row_element (filter (is_under key) rows) (filter (is_under key) others)

-- what one row has under an id
under_one : (key : List ℕ) (row : Row) (b : Bool) → is_under key row ≡ b
    → elements_under key (row ∷ []) ≡ cond b (row_element row ∷ []) []
under_one key row true h = ap (map row_element) (cond-true (is_under key row) (row ∷ []) [] h)
under_one key row false h = ap (map row_element) (cond-false (is_under key row) (row ∷ []) [] h)

module _ (names : List ℕ → ElementValue → Bool) (e : ElementValue) (old new : List Row) where
  pub Adds-one : (row : Row) → row_element row ≡ e → ((key : List ℕ) → names key e ≡ is_under key row)
      → new ≡ old ++ row ∷ [] → Adds names e old new
  Adds-one row is same made = record {
    each = λ key. ap (elements_under key) made ∙ elements_under-append key old (row ∷ [])
        ∙ ap (λ more. elements_under key old ++ more)
        (under_one key row (is_under key row) refl
        ∙ ap₂ (λ b (f : ElementValue). cond b (f ∷ []) []) (sym (same key)) is);
  }

  either_one : (b d : Bool) → (b ≡ true → d ≡ false) → (cond b (e ∷ []) [] ++ cond d (e ∷ []) [])
      ≡ cond (b || d) (e ∷ []) []
  either_one true d h = ap (λ x. e ∷ cond x (e ∷ []) []) (h refl)
  either_one false d h = refl

  pub Adds-two : (row other : Row) → row_element row ≡ e → row_element other ≡ e
      → ((key : List ℕ) → names key e ≡ (is_under key row || is_under key other))
      → ((key : List ℕ) → is_under key row ≡ true → is_under key other ≡ false) → new ≡ (old ++ row ∷ []) ++ other ∷ []
      → Adds names e old new
  Adds-two row other is is' same apart made = record {
    each = λ key.
        let under = λ (r : Row) (i : row_element r ≡ e). under_one key r (is_under key r) refl
        ∙ ap (λ (f : ElementValue). cond (is_under key r) (f ∷ []) []) i in
        ap (elements_under key) (made ∙ append_assoc old (row ∷ []) (other ∷ []))
        ∙ elements_under-append key old (row ∷ other ∷ [])
        ∙ ap (λ more. elements_under key old ++ more)
        (elements_under-append key (row ∷ []) (other ∷ []) ∙ ap₂ (λ xs ys. xs ++ ys) (under row is) (under other is')
        ∙ either_one (is_under key row) (is_under key other) (apart key)
        ∙ ap (λ b. cond b (e ∷ []) []) (sym (same key)));
  }

-- ---- the ends of an arrow that has both
module _ (e : ElementValue) (s t : List ℕ) (arrow : is_arrow e.kind ≡ true) (start : target_of e.start_binding ≡ Some s)
    (end' : target_of e.end_binding ≡ Some t) where
  pub has_end_at-both : (key : List ℕ) → has_end_at key e ≡ (bytes_eq key s || bytes_eq key t)
  has_end_at-both key =
      ap (λ b. b && (end_names key e.start_binding || end_names key e.end_binding)) arrow
      ∙ ap₂ (λ x y. is_id key x || is_id key y) start end'

  pub has_end_at-same : bytes_eq s t ≡ true → (key : List ℕ) → has_end_at key e ≡ bytes_eq key s
  has_end_at-same same key =
      has_end_at-both key ∙ ap (λ x. bytes_eq key s || bytes_eq key x) (sym ((bytes_eq-Decides s t).0 same))
      ∙ or_itself (bytes_eq key s)
    where
      or_itself : (b : Bool) → (b || b) ≡ b
      or_itself true = refl
      or_itself false = refl

pub bytes_eq-apart : (s t : List ℕ) → bytes_eq s t ≡ false → (key : List ℕ) → bytes_eq key s ≡ true
    → bytes_eq key t ≡ false
bytes_eq-apart s t apart key h = ap (λ k. bytes_eq k t) ((bytes_eq-Decides key s).0 h) ∙ apart

-- ---- what a test finds among the rows of an id
pub list_any-map : {X Y : Type 0} (f : X → Y) (p : Y → Bool) (xs : List X)
    → list_any p (map f xs) ≡ list_any (λ x. p (f x)) xs
list_any-map f p [] = refl
list_any-map f p (x ∷ xs) = ap (λ b. p (f x) || b) (list_any-map f p xs)

pub list_any-filter : {X : Type 0} (p q : X → Bool) (xs : List X)
    → list_any q (filter p xs) ≡ list_any (λ x. p x && q x) xs
list_any-filter p q [] = refl
list_any-filter p q (x ∷ xs) =
    elim (p x) as (λ b. list_any q (cond b (x ∷ filter p xs) (filter p xs))
    ≡ ((b && q x) || list_any (λ x. p x && q x) xs)) [
      | true ↦ ap (λ b. q x || b) (list_any-filter p q xs)
      | false ↦ list_any-filter p q xs
    ]

find-filter : {X : Type 0} (p : X → Bool) (xs : List X) → find p xs ≡ slice_get (filter p xs) 0
find-filter p [] = refl
find-filter p (x ∷ xs) =
    elim (p x) as (λ b. cond b (Some x) (find p xs) ≡ slice_get (cond b (x ∷ filter p xs) (filter p xs)) 0)
    [ true ↦ refl | false ↦ find-filter p xs ]

-- q is what the rows are under
module _ (q : ElementValue → Bool) (rows : List Row) (list : List ElementValue) (under : map row_element rows
    ≡ filter q list) where
  pub any-under : (p : ElementValue → Bool) → list_any (λ row. p (row_element row)) rows
      ≡ list_any (λ e. q e && p e) list
  any-under p = sym (list_any-map row_element p rows) ∙ ap (list_any p) under ∙ list_any-filter q p list

  pub first-under : option_map row_element (slice_get rows 0) ≡ find q list
  first-under = mapped rows ∙ ap (λ es. slice_get es 0) under ∙ sym (find-filter q list) where
    mapped : (rows : List Row) → option_map row_element (slice_get rows 0) ≡ slice_get (map row_element rows) 0
    mapped [] = refl
    mapped (row ∷ rows) = refl

-- ---- what the code looks up
first_text-is : (list : List ElementValue) (c : ElementValue) (id : List ℕ) (rows : List Row) (r : Option (Bor Row))
    → id ≡ c.id → map row_element rows ≡ filter (names_container id) list → option_copied r ≡ slice_get rows 0
    → option_map (λ (row : Bor Row). row.now.element.now.id) r ≡ first_text list c
first_text-is list c id rows r is under first =
    mapped r ∙ ap (λ o. option_map id_of (option_map row_element o)) first
    ∙ ap (option_map id_of) (first-under (names_container id) rows list under
    ∙ ap (λ i. find (names_container i) list) is)
  where
    mapped : (r : Option (Bor Row)) → option_map (λ (row : Bor Row). row.now.element.now.id) r
        ≡ option_map id_of (option_map row_element (option_copied r))
    mapped None = refl
    mapped (Some row) = refl

pub first_text-None : (list : List ElementValue) (c : ElementValue) (id : List ℕ) (rows : List Row)
    (r : Option (Bor Row))
    → id ≡ c.id → map row_element rows ≡ filter (names_container id) list → option_copied r ≡ slice_get rows 0
    → r ≡ None → first_text list c ≡ None
first_text-None list c id rows r is under first none =
    sym (first_text-is list c id rows r is under first)
    ∙ ap (option_map (λ (row : Bor Row). row.now.element.now.id)) none

pub first_text-Some : (list : List ElementValue) (c : ElementValue) (id : List ℕ) (rows : List Row)
    (r : Option (Bor Row)) (row : Bor Row)
    → id ≡ c.id → map row_element rows ≡ filter (names_container id) list → option_copied r ≡ slice_get rows 0
    → r ≡ Some row → first_text list c ≡ Some row.now.element.now.id
first_text-Some list c id rows r row is under first some =
    sym (first_text-is list c id rows r is under first)
    ∙ ap (option_map (λ (row : Bor Row). row.now.element.now.id)) some

pub text_entry-is : (list : List ElementValue) (c : ElementValue) (id : List ℕ) (entry : BoundRef) → id ≡ c.id
    → is_for_text entry.role ≡ true
    → list_any (λ e. has_id entry.id e && names_container id e) list ≡ is_text_entry list c entry
text_entry-is list c id entry is for_text =
    ap (λ i. list_any (λ e. has_id entry.id e && names_container i e) list) is
    ∙ ap (λ b. b && list_any (λ e. has_id entry.id e && names_container c.id e) list) (sym for_text)

pub keeps_container-is : (list : List ElementValue) (e : ElementValue) (rows : List Row)
    → IsTable (is_text_of list) list rows
    → list_any (λ (container : ElementValue). names_container container.id e) (elements_under e.id rows)
    ≡ keeps_container list e
unfolding keeps_container
keeps_container-is list e rows table =
    ap (list_any (λ (container : ElementValue). names_container container.id e)) (table.found e.id)
    ∙ list_any-filter (is_text_of list e.id) (λ container. names_container container.id e) list

-- an element that is no text with a container names none
pub uncontained : (e : ElementValue) → (is_text e.kind && is_some e.container) ≡ false → (id : List ℕ)
    → names_container id e ≡ false
uncontained e h id = none (is_text e.kind) e.container h where
  none : (text : Bool) (container : Option (List ℕ)) → (text && is_some container) ≡ false
      → (text && is_id id container) ≡ false
  none true None h = refl
  none true (Some other) h = absurd (both_ways true h refl)
  none false container h = refl

-- ---- the text of a container
pub held : (list : List ElementValue) (c : ElementValue) → can_hold_text c.kind ≡ true
    → text_of list c ≡ option_or (listed_text list c) (first_text list c)
unfolding text_of
held list c h = cond-true (can_hold_text c.kind) (option_or (listed_text list c) (first_text list c)) None h

pub not_held : (list : List ElementValue) (c : ElementValue) → can_hold_text c.kind ≡ false → text_of list c ≡ None
unfolding text_of
not_held list c h = cond-false (can_hold_text c.kind) (option_or (listed_text list c) (first_text list c)) None h

pub text_of-listed : (list : List ElementValue) (c : ElementValue) (id : List ℕ) → can_hold_text c.kind ≡ true
    → listed_text list c ≡ Some id → Some id ≡ text_of list c
text_of-listed list c id h listed = sym (held list c h ∙ ap (λ o. option_or o (first_text list c)) listed)

pub text_of-first : (list : List ElementValue) (c : ElementValue) → can_hold_text c.kind ≡ true
    → listed_text list c ≡ None → first_text list c ≡ text_of list c
text_of-first list c h listed = sym (held list c h ∙ ap (λ o. option_or o (first_text list c)) listed)

-- ---- arrows that are bound to an element
pub list_any-none : {X : Type 0} (p : X → Bool) (xs : List X) → ((x : X) → p x ≡ false) → list_any p xs ≡ false
list_any-none p [] h = refl
list_any-none p (x ∷ xs) h = ap (λ b. b || list_any p xs) (h x) ∙ list_any-none p xs h

pub bound_arrow-is : (list : List ElementValue) (e : ElementValue) (id arrow : List ℕ) → id ≡ e.id → is_target e ≡ true
    → list_any (λ a. has_id arrow a && has_end_at id a) list ≡ is_true_as Arrow list e arrow
bound_arrow-is list e id arrow is target =
    ap (λ i. list_any (λ a. has_id arrow a && has_end_at i a) list) is
    ∙ ap (λ b. list_any (λ a. has_id arrow a && (b && has_end_at e.id a)) list) (sym target)

pub bound_arrow-none : (list : List ElementValue) (e : ElementValue) (arrow : List ℕ) → is_target e ≡ false
    → false ≡ is_true_as Arrow list e arrow
bound_arrow-none list e arrow target =
    sym (list_any-none (λ a. has_id arrow a && is_bound_to e a) list
    (λ a. ap (λ b. has_id arrow a && (b && has_end_at e.id a)) target ∙ and_false (has_id arrow a)))
  where
    and_false : (a : Bool) → (a && false) ≡ false
    and_false true = refl
    and_false false = refl

filter-none : {X : Type 0} (xs : List X) → filter (λ _. false) xs ≡ []
filter-none [] = refl
filter-none (x ∷ xs) = filter-none xs

pub arrow_entries-none : (list : List ElementValue) (e : ElementValue) → is_target e ≡ false → arrow_entries list e ≡ []
arrow_entries-none list e target =
    ap (λ b. map (λ (arrow : ElementValue). arrow_entry arrow.id) (filter (λ a. b && has_end_at e.id a) list)) target
    ∙ ap (map (λ (arrow : ElementValue). arrow_entry arrow.id)) (filter-none list)

-- ---- loops that add entries
pub with_entries-row : (start : List BoundRef) (rows : List Row) (i : ℕ) (row : Row) (id : List ℕ)
    (entries new : List BoundRef) → i < length rows → row ≡ get_or rows i row
    → id ≡ row.element.now.id → entries
    ≡ with_entries start (map (λ (e : ElementValue). arrow_entry e.id) (map row_element (take i rows)))
    → new ≡ with_listing_entry entries (arrow_entry id)
    → new ≡ with_entries start (map (λ (e : ElementValue). arrow_entry e.id) (map row_element (take (i + 1) rows)))
with_entries-row start rows i row id entries new l is same so_far added =
    let more : take (i + 1) rows ≡ take i rows ++ row ∷ [] =
    take_more rows i row l ∙ ap (λ r. take i rows ++ r ∷ []) (sym is) in
    added ∙ ap₂ with_listing_entry so_far (ap arrow_entry same)
    ∙ sym (with_entries-push start (map (λ (e : ElementValue). arrow_entry e.id) (map row_element (take i rows)))
    (arrow_entry row.element.now.id))
    ∙ ap (with_entries start) (sym (ap (λ rs. map (λ (e : ElementValue). arrow_entry e.id) (map row_element rs)) more
    ∙ ap (map (λ (e : ElementValue). arrow_entry e.id)) (map-append row_element (take i rows) (row ∷ []))
    ∙ map-append (λ (e : ElementValue). arrow_entry e.id) (map row_element (take i rows)) (row_element row ∷ [])))

module _ (p : BoundRef → Bool) (xs : List BoundRef) (i : ℕ) (x : BoundRef) (entries new : List BoundRef)
    (l : i < length xs) (is : x ≡ get_or xs i x)
    (so_far : entries ≡ first_entries (filter p (take i xs))) where
  kept_more : filter p (take (i + 1) xs) ≡ filter p (take i xs) ++ cond (p x) (x ∷ []) []
  kept_more = filter_more p xs i x l ∙ ap (λ (y : BoundRef). filter p (take i xs) ++ cond (p y) (y ∷ []) []) (sym is)

  pub first_entries-kept : p x ≡ true → new ≡ with_listing_entry entries x
      → new ≡ first_entries (filter p (take (i + 1) xs))
  first_entries-kept h added =
      added ∙ ap (λ ys. with_listing_entry ys x) so_far ∙ sym (first_entries-push (filter p (take i xs)) x)
      ∙ ap first_entries (sym (kept_more ∙ ap (λ b. filter p (take i xs) ++ cond b (x ∷ []) []) h))

  pub first_entries-left : p x ≡ false → entries ≡ first_entries (filter p (take (i + 1) xs))
  first_entries-left h =
      so_far ∙ ap first_entries (sym (kept_more ∙ ap (λ b. filter p (take i xs) ++ cond b (x ∷ []) []) h
      ∙ append-nil (filter p (take i xs))))

pub listing-made : (list : List ElementValue) (e : ElementValue) (own entries : List BoundRef)
    → own ≡ first_entries (filter (is_true_entry list e) e.bound)
    → entries ≡ with_entries own (arrow_entries list e) → with_entries entries (text_entries (text_of list e))
    ≡ listing list e
unfolding listing
listing-made list e own entries is made =
    let true' = filter (is_true_entry list e) e.bound in
    ap (λ es. with_entries es (text_entries (text_of list e))) (made
    ∙ ap (λ es. with_entries es (arrow_entries list e)) is ∙ with_entries-first true' (arrow_entries list e))
    ∙ with_entries-first (true' ++ arrow_entries list e) (text_entries (text_of list e))
    ∙ ap first_entries (append_assoc true' (arrow_entries list e) (text_entries (text_of list e)))

-- ---- each element with what was found of it
pub zip-map : {X Y Z : Type 0} (f : X → Y) (g : X → Y → Z) (xs : List X)
    → map (λ (p : X × Y). g p.0 p.1) (zip xs (map f xs)) ≡ map (λ x. g x (f x)) xs
zip-map f g [] = refl
zip-map f g (x ∷ xs) = ap (λ zs. g x (f x) ∷ zs) (zip-map f g xs)

-- ---- ids that were seen
or-is : (b d : Bool) → cond b true d ≡ (b || d)
or-is true d = refl
or-is false d = refl

pub seen-more : (id other : List ℕ) (seen : Bool) → cond (is_eq (slice_cmp nat_cmp id other)) true seen
    ≡ (bytes_eq other id || seen)
seen-more id other seen = ap (λ b. cond b true seen) (sym (bytes_eq-cmp other id)) ∙ or-is (bytes_eq other id) seen
