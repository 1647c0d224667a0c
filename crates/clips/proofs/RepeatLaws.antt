-- The first element that has the id of an earlier one.
use Rattle.std.proofs.Common.{◌≡◌, ◌↔◌, ℕ, Bool, true, false, cond, ◌||◌, List, [], ◌∷◌, ◌++◌, Some, None, map, bytes_eq, refl, sym, ap, ◌∙◌, subst, append_assoc, append-nil}
use Rattle.std.specs.List.{IsDistinct, AllByRecursion}
use Rattle.std.proofs.lemmas.Bool.{or_parts}
use Rattle.std.proofs.lemmas.Option.{same_Some}
use Rattle.std.specs.Cmp.Lexicographic.{nat_list_eq_equiv}
use Rattle.elem.specs.ElementValue.{ElementValue}
use Rattle.elem.specs.Order.{has_id, HaveDistinctIds}
use Rattle.copies.specs.Copies.{is_among}
use Rattle.clips.specs.Placed.{elements_in, repeat_after, first_repeat, IsFirstRepeat}
use Rattle.clips.specs.declared.placed.Placed.{Placed}

abbrev ids : List ElementValue → List (List ℕ)
ids xs = map (λ (e : ElementValue). e.id) xs

abbrev Apart : List ℕ → List (List ℕ) → Type 0
Apart id others = AllByRecursion (λ y. bytes_eq id y ≡ false) others

-- ---- one element more
apart-more : (id : List ℕ) (xs : List ElementValue) (e : ElementValue) → Apart id (ids xs) → bytes_eq id e.id ≡ false
    → Apart id (ids (xs ++ e ∷ []))
apart-more id [] e apart other = (other, tt)
apart-more id (x ∷ xs) e apart other = (apart.0, apart-more id xs e apart.1 other)

distinct-more : (xs : List ElementValue) (e : ElementValue) → HaveDistinctIds xs → is_among xs e.id ≡ false
    → HaveDistinctIds (xs ++ e ∷ [])
unfolding IsDistinct
distinct-more [] e d none = (tt, tt)
distinct-more (x ∷ xs) e d none =
    let parts = or_parts (has_id e.id x) (is_among xs e.id) none in
    (apart-more x.id xs e d.0 (nat_list_eq_equiv.symm x.id e.id ∙ parts.0), distinct-more xs e d.1 parts.1)

apart-at : (id : List ℕ) (xs : List ElementValue) (e : ElementValue) (ys : List ElementValue)
    → Apart id (ids (xs ++ e ∷ ys)) → bytes_eq id e.id ≡ false
apart-at id [] e ys apart = apart.0
apart-at id (x ∷ xs) e ys apart = apart-at id xs e ys apart.1

none-among : (xs : List ElementValue) (e : ElementValue) (ys : List ElementValue) → HaveDistinctIds (xs ++ e ∷ ys)
    → is_among xs e.id ≡ false
unfolding IsDistinct
none-among [] e ys d = refl
none-among (x ∷ xs) e ys d =
    ap (λ b. b || is_among xs e.id) (nat_list_eq_equiv.symm e.id x.id ∙ apart-at x.id xs e ys d.0)
    ∙ none-among xs e ys d.1

-- ---- none comes again
none-after : (seen : List ElementValue) (placed : List Placed) → HaveDistinctIds seen → repeat_after seen placed ≡ None
    → HaveDistinctIds (seen ++ elements_in placed)
none-after seen [] d none = subst HaveDistinctIds (sym (append-nil seen)) d
none-after seen (p ∷ placed) d none =
    go (is_among seen p.element.id) refl none (none-after (seen ++ p.element ∷ []) placed)
  where
    go : (b : Bool) → is_among seen p.element.id ≡ b
        → cond b (Some p.place) (repeat_after (seen ++ p.element ∷ []) placed) ≡ None
        → (HaveDistinctIds (seen ++ p.element ∷ []) → repeat_after (seen ++ p.element ∷ []) placed ≡ None
        → HaveDistinctIds ((seen ++ p.element ∷ []) ++ elements_in placed))
        → HaveDistinctIds (seen ++ p.element ∷ elements_in placed)
    go true t e later = absurd cc
    go false t e later = subst HaveDistinctIds (append_assoc seen (p.element ∷ []) (elements_in placed))
        (later (distinct-more seen p.element d t) e)

after-none : (seen : List ElementValue) (placed : List Placed) → HaveDistinctIds (seen ++ elements_in placed)
    → repeat_after seen placed ≡ None
after-none seen [] d = refl
after-none seen (p ∷ placed) d =
    ap (λ b. cond b (Some p.place) (repeat_after (seen ++ p.element ∷ []) placed))
    (none-among seen p.element (elements_in placed) d)
    ∙ after-none (seen ++ p.element ∷ []) placed
    (subst HaveDistinctIds (sym (append_assoc seen (p.element ∷ []) (elements_in placed))) d)

no-ids : HaveDistinctIds []
unfolding IsDistinct
no-ids = tt

pub repeat-none : (placed : List Placed) → (first_repeat placed ≡ None) ↔ HaveDistinctIds (elements_in placed)
repeat-none placed = (none-after [] placed no-ids, after-none [] placed)

-- ---- the first that comes again
record Again (seen : List ElementValue) (placed : List Placed) (place : ℕ) : Type 0 where
  before : List Placed
  again : Placed
  after : List Placed
  parts : placed ≡ before ++ again ∷ after
  place_is : place ≡ again.place
  distinct : HaveDistinctIds (seen ++ elements_in before)
  repeated : is_among (seen ++ elements_in before) again.element.id ≡ true

first-after : (seen : List ElementValue) (placed : List Placed) (place : ℕ) → HaveDistinctIds seen
    → repeat_after seen placed ≡ Some place → Again seen placed place
first-after seen [] place d e = absurd cc
first-after seen (p ∷ placed) place d e =
    go (is_among seen p.element.id) refl e (first-after (seen ++ p.element ∷ []) placed place)
  where
    go : (b : Bool) → is_among seen p.element.id ≡ b
        → cond b (Some p.place) (repeat_after (seen ++ p.element ∷ []) placed) ≡ Some place
        → (HaveDistinctIds (seen ++ p.element ∷ []) → repeat_after (seen ++ p.element ∷ []) placed ≡ Some place
        → Again (seen ++ p.element ∷ []) placed place) → Again seen (p ∷ placed) place
    go true t f later = record {
      before = [];
      again = p;
      after = placed;
      parts = refl;
      place_is = sym (same_Some p.place place f);
      distinct = subst HaveDistinctIds (sym (append-nil seen)) d;
      repeated = ap (λ xs. is_among xs p.element.id) (append-nil seen) ∙ t;
    }
    go false t f later =
        let r = later (distinct-more seen p.element d t) f in
        let same = append_assoc seen (p.element ∷ []) (elements_in r.before) in record {
          before = p ∷ r.before;
          again = r.again;
          after = r.after;
          parts = ap (λ ps. p ∷ ps) r.parts;
          place_is = r.place_is;
          distinct = subst HaveDistinctIds same r.distinct;
          repeated = ap (λ xs. is_among xs r.again.element.id) (sym same) ∙ r.repeated;
        }

pub repeat-first : (placed : List Placed) (place : ℕ) → first_repeat placed ≡ Some place → IsFirstRepeat placed place
repeat-first placed place e =
    let r = first-after [] placed place no-ids e in record {
      before = r.before;
      again = r.again;
      after = r.after;
      parts = r.parts;
      place_is = r.place_is;
      distinct = r.distinct;
      repeated = r.repeated;
    }
