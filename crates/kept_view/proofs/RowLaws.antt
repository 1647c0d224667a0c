-- The rows of who names whom after elements took the places of others.
use Rattle.std.proofs.Common.{◌≡◌, ℕ, ◌+◌, ◌<◌, Bool, true, false, not, cond, ◌&&◌, ◌||◌, List, [], ◌∷◌, ◌++◌, length, take, get_or, Option, Some, None, is_some, bytes_eq, filter_map, map, refl, sym, ap, ap₂, ◌∙◌, inl, inr}
use Rattle.std.specs.List.{AllByRecursion, IsDistinct, list_any, cons_option}
use Rattle.std.specs.Option.{option_map_or, option_or}
use Rattle.std.proofs.lemmas.Bool.{cases_Bool}
use Rattle.std.proofs.lemmas.Slice.Eq.{bytes_eq-Decides}
use Rattle.std.proofs.lemmas.List.{take_more}
use Rattle.std.proofs.lemmas.List.Folds.{list_any-append}
use Rattle.elem.specs.ElementValue.{ElementValue}
use Rattle.elem.specs.Order.{has_id, HaveDistinctIds}
use Rattle.elem_store.specs.Updates.{element_of, ids_of, is_among}
use Rattle.elem_store.proofs.CallerLemmas.{same_id, find-Some, is_some-find}
use Rattle.links.specs.declared.rows.LinkRow.{LinkRow}
use Rattle.links.specs.Rows.{has_row, same_row, is_for, row_of, rows_of}
use Rattle.links.specs.Steps.{names_id}
use Rattle.links.proofs.CallerLemmas.{rows_of-named, list_any-map}
use Rattle.kept_view.specs.inner.Coming.{HasGone}
use Rattle.view.specs.Kept.{HaveRowsOf}
use Rattle.kept_view.specs.inner.Replacing.{names_as, AreRowsOfAll, HaveReplaced}

-- ---- truths
either-both : (a b : Bool) → ((true && b) || (a && b)) ≡ (true && b)
either-both a true = refl
either-both true false = refl
either-both false false = refl

pub none-of : (a : Bool) → (a && false) ≡ false
none-of true = refl
none-of false = refl

pub or-none : (a : Bool) → (a || false) ≡ a
or-none true = refl
or-none false = refl

gone : (a b : Bool) → (a || (b && not (true && b))) ≡ a
gone true b = refl
gone false true = refl
gone false false = refl

stays : (b : Bool) → (false || (b && not (false && b))) ≡ b
stays true = refl
stays false = refl

-- ---- who is among elements
pub among-ids : (es : List ElementValue) (id : List ℕ) → is_among (ids_of es) id ≡ is_some (element_of es id)
among-ids es id = list_any-map (λ (e : ElementValue). e.id) (bytes_eq id) es ∙ sym (is_some-find (has_id id) es)

none_apart : (id : List ℕ) (es : List ElementValue) → AllByRecursion (λ other. bytes_eq id other ≡ false) (ids_of es)
    → is_among (ids_of es) id ≡ false
none_apart id [] apart = refl
none_apart id (e ∷ es) apart = ap₂ (λ a b. a || b) apart.0 (none_apart id es apart.1)

none_named : (named namer : List ℕ) (es : List ElementValue) → is_among (ids_of es) namer ≡ false
    → list_any (names_as named namer) es ≡ false
none_named named namer [] none = refl
none_named named namer (e ∷ es) none =
    elim (cases_Bool (bytes_eq namer e.id)) [
      | inl is ↦ let never = rw is at none in cc
      | inr off ↦ rw off (none_named named namer es (rw off at none))
    ]

pub any-named : (named namer : List ℕ) (es : List ElementValue) → HaveDistinctIds es
    → list_any (names_as named namer) es ≡ option_map_or (names_id named) (element_of es namer) false
unfolding IsDistinct
any-named named namer [] apart = refl
any-named named namer (e ∷ es) apart =
    elim (cases_Bool (bytes_eq namer e.id)) [
      | inl is ↦
          let none =
          none_named named namer es (ap (is_among (ids_of es)) (same_id namer e is) ∙ none_apart e.id es apart.0) in
          rw (is, none) (or-none (names_id named e))
      | inr off ↦ rw off (any-named named namer es apart.1)
    ]

-- ---- the elements held at new ones' ids
module _ (live : List ElementValue) (named namer : List ℕ) where
  abbrev here : Bool
  here = option_map_or (names_id named) (element_of live namer) false

  abbrev IsHeld : List ElementValue → Type 0
  IsHeld ns = list_any (names_as named namer) (filter_map (λ (e : ElementValue). element_of live e.id) ns)
      ≡ (is_among (ids_of ns) namer && here)

  held-own : (n : ElementValue) (ns : List ElementValue) (o : Option ElementValue) → element_of live n.id ≡ o
      → bytes_eq namer n.id ≡ true → IsHeld ns → IsHeld (n ∷ ns)
  held-own n ns None at' is rest =
      let never : here ≡ false =
      ap (λ o. option_map_or (names_id named) o false) (ap (element_of live) (same_id namer n is) ∙ at') in
      rw (at', is) (rest ∙ (ap (λ b. is_among (ids_of ns) namer && b) never ∙ none-of (is_among (ids_of ns) namer))
      ∙ sym never)
  held-own n ns (Some x) at' is rest =
      let yes : here ≡ names_id named x =
      ap (λ o. option_map_or (names_id named) o false) (ap (element_of live) (same_id namer n is) ∙ at') in
      let named' : bytes_eq namer x.id ≡ true =
      ap (bytes_eq namer) (sym (same_id n.id x (find-Some (has_id n.id) live x at').1)) ∙ is in
      rw (at', is, named') (ap (λ b. names_id named x || b) (rest ∙ ap (λ b. is_among (ids_of ns) namer && b) yes)
      ∙ either-both (is_among (ids_of ns) namer) (names_id named x) ∙ sym yes)

  held-other : (n : ElementValue) (ns : List ElementValue) (o : Option ElementValue) → element_of live n.id ≡ o
      → bytes_eq namer n.id ≡ false → IsHeld ns → IsHeld (n ∷ ns)
  held-other n ns None at' off rest = rw (at', off) rest
  held-other n ns (Some x) at' off rest =
      let named' : bytes_eq namer x.id ≡ false =
      ap (bytes_eq namer) (sym (same_id n.id x (find-Some (has_id n.id) live x at').1)) ∙ off in
      rw (at', off, named') rest

  pub any-held : (news : List ElementValue)
      → list_any (names_as named namer) (filter_map (λ (e : ElementValue). element_of live e.id) news)
      ≡ (is_among (ids_of news) namer && here)
  any-held [] = refl
  any-held (n ∷ ns) = elim (cases_Bool (bytes_eq namer n.id)) [
    | inl is ↦ held-own n ns (element_of live n.id) refl is (any-held ns)
    | inr off ↦ held-other n ns (element_of live n.id) refl off (any-held ns)
  ]

-- ---- the rows of elements, one element more each time
rows-one : (e : ElementValue) (named namer : List ℕ) (ids : List (List ℕ)) (b : Bool) → bytes_eq namer e.id ≡ b
    → has_row (map (row_of e) ids) (record { named = named; namer = namer })
    ≡ (b && list_any (is_for named) (map (row_of e) ids))
rows-one e named namer [] true is = refl
rows-one e named namer [] false is = refl
rows-one e named namer (id ∷ ids) true is =
    ap₂ (λ a c. a || c) (ap (λ b. bytes_eq named id && b) is
    ∙ and-true (bytes_eq named id)) (rows-one e named namer ids true is)
  where
    and-true : (a : Bool) → (a && true) ≡ a
    and-true true = refl
    and-true false = refl
rows-one e named namer (id ∷ ids) false is =
    ap₂ (λ a c. a || c) (ap (λ b. bytes_eq named id && b) is
    ∙ none-of (bytes_eq named id)) (rows-one e named namer ids false is)

pub has-rows_of : (e : ElementValue) (named namer : List ℕ)
    → has_row (rows_of e) (record { named = named; namer = namer }) ≡ names_as named namer e
has-rows_of e named namer =
    rows-one e named namer _ (bytes_eq namer e.id) refl ∙ ap (λ b. bytes_eq namer e.id && b) (rows_of-named e named)

pub rows-more : (elements : List ElementValue) (i : ℕ) (e : ElementValue) → i < length elements
    → e ≡ get_or elements i e → (rows more new : List LinkRow)
    → AreRowsOfAll (take i elements) rows → more ≡ rows_of e → new ≡ rows ++ more
    → AreRowsOfAll (take (i + 1) elements) new
rows-more elements i e within there rows more new so_far are pushed named namer =
    let row : LinkRow = record { named = named; namer = namer } in
    let p = names_as named namer in
    ap (λ rs. has_row rs row) (pushed ∙ ap (λ m. rows ++ m) are) ∙ list_any-append (same_row row) rows (rows_of e)
    ∙ ap₂ (λ a b. a || b) (so_far named namer) (has-rows_of e named namer ∙ sym (or-none (p e)))
    ∙ sym (ap (list_any p) (take_more elements i e within
    ∙ ap (λ (f : ElementValue). take i elements ++ f ∷ []) (sym there))
    ∙ list_any-append p (take i elements) (e ∷ []))

-- ---- all rows
pub rows-made : (live : List ElementValue) (rows : List LinkRow) → HaveDistinctIds live → AreRowsOfAll live rows
    → HaveRowsOf live rows
rows-made live rows apart are named namer = are named namer ∙ any-named named namer live apart

pub rows-replaced : (live news after : List ElementValue) (rows old_rows new_rows new : List LinkRow)
    → HaveDistinctIds news → HaveRowsOf live rows
    → AreRowsOfAll (filter_map (λ (e : ElementValue). element_of live e.id) news) old_rows → AreRowsOfAll news new_rows
    → ((row : LinkRow) → has_row new row ≡ (has_row new_rows row || (has_row rows row && not (has_row old_rows row))))
    → HaveReplaced live news after → HaveRowsOf after new
rows-replaced live news after rows old_rows new_rows new apart have are_old are_new has replaced named namer =
    let row : LinkRow = record { named = named; namer = namer } in
    has row
    ∙ ap₂ (λ a b. a || b) (are_new named namer ∙ any-named named namer news apart)
    (ap₂ (λ a b. a && not b) (have named namer) (are_old named namer ∙ any-held live named namer news
    ∙ ap (λ b. b && here') (among-ids news namer)))
    ∙ by (element_of news namer)
    ∙ sym (ap (λ o. option_map_or (names_id named) o false) (replaced.each namer))
  where
    here' : Bool
    here' = option_map_or (names_id named) (element_of live namer) false

    by : (o : Option ElementValue) → (option_map_or (names_id named) o false || (here' && not (is_some o && here')))
        ≡ option_map_or (names_id named) (option_or o (element_of live namer)) false
    by None = stays here'
    by (Some e) = gone (names_id named e) here'

-- ---- the rows where one element comes or goes
pub rows-with : (live after : List ElementValue) (e : ElementValue) (rows new_rows new : List LinkRow)
    → HaveRowsOf live rows → element_of live e.id ≡ None → new_rows ≡ rows_of e
    → ((row : LinkRow) → has_row new row ≡ (has_row new_rows row || (has_row rows row && not (has_row [] row))))
    → HaveReplaced live (e ∷ []) after → HaveRowsOf after new
unfolding IsDistinct
rows-with live after e rows new_rows new have none are has replaced =
    rows-replaced live (e ∷ []) after rows [] new_rows new (tt, tt) have
    (λ named namer. sym (ap (λ o. list_any (names_as named namer) (cons_option o [])) none))
    (λ named namer. ap (λ rs. has_row rs (record { named = named; namer = namer })) are ∙ has-rows_of e named namer
    ∙ sym (or-none (names_as named namer e)))
    has replaced

pub rows-without : (live after : List ElementValue) (e : ElementValue) (rows old_rows new : List LinkRow)
    → HaveRowsOf live rows → element_of live e.id ≡ Some e → old_rows ≡ rows_of e
    → ((row : LinkRow) → has_row new row ≡ (has_row [] row || (has_row rows row && not (has_row old_rows row))))
    → HasGone live e.id after → HaveRowsOf after new
rows-without live after e rows old_rows new have known are has gone named namer =
    has row
    ∙ ap₂ (λ a b. a && not b) (have named namer) (ap (λ rs. has_row rs row) are ∙ has-rows_of e named namer)
    ∙ by (bytes_eq namer e.id) refl
    ∙ sym (ap (λ o. option_map_or (names_id named) o false) (gone.each namer))
  where
    row : LinkRow
    row = record { named = named; namer = namer }

    off : (b : Bool) → (b && not (true && b)) ≡ false
    off true = refl
    off false = refl

    on : (b : Bool) → (b && not (false && names_id named e)) ≡ b
    on true = refl
    on false = refl

    by : (b : Bool) → bytes_eq namer e.id ≡ b
        → (option_map_or (names_id named) (element_of live namer) false && not (b && names_id named e))
        ≡ option_map_or (names_id named) (cond b None (element_of live namer)) false
    by true own = ap (λ o. option_map_or (names_id named) o false && not (true && names_id named e))
        (ap (element_of live) ((bytes_eq-Decides namer e.id).0 own) ∙ known) ∙ off (names_id named e)
    by false other = on (option_map_or (names_id named) (element_of live namer) false)
