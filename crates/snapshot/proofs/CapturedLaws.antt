-- Elements in the order of their ids: where an id is found among them, and what they are once an element is put.
use Rattle.std.proofs.Common.{◌≡◌, ℕ, ◌+◌, ◌<◌, ◌≤◌, Bool, true, false, cond, ◌&&◌, List, length, get_or, set, Option, Some, None, Result, Ok, Err, Ordering, Greater, IfOk, IfErr, IfSome, slice_get, insert, is_lt, nat_cmp, bytes_eq, if◌then◌else◌, refl, sym, ap, ◌∙◌, subst, inl, inr, length-set, length-take, length-drop, get_or-set_same, arith}
use Rattle.std.specs.Cmp.Lexicographic.{slice_cmp}
use Rattle.std.specs.List.Sorted.{IsBinarySearchResult, IsSearchInRange}
use Rattle.std.specs.Option.{option_map}
use Rattle.std.specs.Ordering.{ordering_reverse}
use Rattle.std.proofs.lemmas.Bool.{cases_Bool, cond-true, cond-false, false_from_ne_true}
use Rattle.std.proofs.lemmas.Cmp.{nat_list_cmp_total}
use Rattle.std.proofs.lemmas.List.{get_or-take, get_or-drop}
use Rattle.std.proofs.lemmas.List.Folds.{find_past}
use Rattle.std.proofs.lemmas.List.Sorted.{searchable_from_sorted}
use Rattle.std.proofs.lemmas.Map.Lookups.{exact_bytes}
use Rattle.std.proofs.lemmas.Option.{none-some, same_Some, slice_get_within, get_or_from_slice_get}
use Rattle.frac_keys.specs.Keys.{bytes_less}
use Rattle.frac_keys.specs.Rising.{are_rising}
use Rattle.elem.specs.ElementValue.{ElementValue}
use Rattle.elem.specs.Facts.{IsElement}
use Rattle.elem.specs.Order.{has_id}
use Rattle.delta.specs.Applied.{IsApplied}
use Rattle.delta.specs.Delta.{Delta}
use Rattle.delta.specs.Pairs.{Pair}
use Rattle.delta.specs.Parts.{PartStandsFor}
use Rattle.elem_store.specs.Places.{IsAt, IsGapFor}
use Rattle.elem_store.specs.Updates.{element_of, ids_of}
use Rattle.elem_store.proofs.CallerLemmas.{ids-set, is_taken-gap, HasTaken-insert, same_id, of_same, find-Some, some_within, member, earlier_less, less-less}
use Rattle.undo_model.specs.Carrying.{with_put}
use Rattle.undo_model.specs.Differing.{same_kind}
use Rattle.undo_model.specs.Undoing.{undone, undone_in}
use Rattle.snapshot.specs.Carried.{IsCarried, HasCarried}
use Rattle.snapshot.specs.inner.Carried.{HasPut, carried_to, with_made}
use Rattle.snapshot.proofs.PutLaws.{HasPut-put}

-- how the id of an element compares with an id
abbrev pub order_of : List ℕ → ElementValue → Ordering
order_of id e = slice_cmp nat_cmp e.id id

module _ (elements : List ElementValue) (rising : are_rising (ids_of elements) ≡ true) where
  -- a search by id ends at the id, or at the gap for it
  pub searched : (id : List ℕ) (r : Result ℕ ℕ) → IsSearchInRange r (length elements)
      → IsBinarySearchResult (order_of id) elements r → IfOk r (IsAt elements id) × IfErr r (IsGapFor elements id)
  searched id (Ok i) in_range equal =
      let x = some_within elements i in_range in (
        rw x.1 (exact_bytes x.0.id id (ap (order_of id) (sym (get_or_from_slice_get elements i x.0 x.0 x.1))
            ∙ equal x.0)),
        tt,
      )
  searched id (Err i) in_range parted =
      let sorted = λ (k : ℕ) (d : ElementValue) (low : 0 ≤ k) (m : k + 1 < length elements). false_from_ne_true
      (bytes_less (get_or elements (k + 1) d).id (get_or elements k d).id)
      (less-less (get_or elements k d).id (get_or elements (k + 1) d).id
      (earlier_less None None elements k (k + 1) d rising (omega arith) m)) in
      let parts =
      parted (searchable_from_sorted nat_list_cmp_total (λ (e : ElementValue). e.id) elements id sorted) in (
        tt,
        record {
          in_range = in_range;
          less_before = λ k d l.
              let m : k < i = omega (arith, length-take i elements) in
              rw (get_or-take i elements k d m) (ap is_lt (parts.0 k d (omega arith) m));
          greater_after = λ k d l.
              let m : i + k < length elements = omega (arith, length-drop i elements) in
              rw (get_or-drop i elements k d) (greater (get_or elements (i + k) d).id id
              (parts.1 (i + k) d (omega arith) m));
        },
      )
    where
      greater : (a b : List ℕ) → slice_cmp nat_cmp a b ≡ Greater → bytes_less b a ≡ true
      greater a b h = ap is_lt (nat_list_cmp_total.antisymm b a ∙ ap ordering_reverse h)

  -- the element in the place of the one of its id
  pub HasPut-set : (e : ElementValue) (i : ℕ) (x : ElementValue) → slice_get elements i ≡ Some x → x.id ≡ e.id
      → HasPut elements e (set elements i e)
  HasPut-set e i x at same = record { ordered = ordered; each = each }
    where
      within : i < length elements
      within = slice_get_within elements i x at

      ordered : are_rising (ids_of (set elements i e)) ≡ true
      ordered = ap are_rising (ids-set elements rising e i x at same) ∙ rising

      each : (id : List ℕ) → element_of (set elements i e) id ≡ cond (has_id id e) (Some e) (element_of elements id)
      each id = elim (cases_Bool (has_id id e)) [
        | inl t ↦ ap (element_of (set elements i e)) (same_id id e t)
            ∙ member None None (set elements i e) e ordered (
              i,
              rw (length-set elements i e) within,
              get_or-set_same elements i e e within,
            )
            ∙ sym (cond-true (has_id id e) (Some e) (element_of elements id) t)
        | inr f ↦ find_past (has_id id) elements i e e (ap (has_id id) (get_or_from_slice_get elements i x e at)
            ∙ ap (bytes_eq id) same ∙ f) f
            ∙ sym (cond-false (has_id id e) (Some e) (element_of elements id) f)
      ]

  -- a new one in the gap for its id
  pub HasPut-insert : (e : ElementValue) (i : ℕ) → IsGapFor elements e.id i → HasPut elements e (insert elements i e)
  HasPut-insert e i gap =
      let taken = HasTaken-insert elements e i rising gap in
      record {
        ordered = taken.ordered;
        each = λ id. taken.each id ∙ ap (λ b. cond (has_id id e && b) (Some e) (element_of elements id))
            (is_taken-gap elements e i gap) ∙ own (has_id id e) (element_of elements id);
      }
    where
      own : (b : Bool) (o : Option ElementValue) → cond (b && true) (Some e) o ≡ cond b (Some e) o
      own true o = refl
      own false o = refl

-- an element that was put is carried
pub HasCarried-put : (before : List ElementValue) (old : Option ElementValue) (new e : ElementValue)
    (after : List ElementValue) → HasPut before e after → e.id ≡ new.id
    → IsCarried (element_of before new.id) old new (Some e) → HasCarried before old new after
HasCarried-put before old new e after put id carried = record {
  ordered = put.ordered;
  own = subst (IsCarried (element_of before new.id) old new)
      (sym (put.each new.id ∙ cond-true (has_id new.id e) (Some e) (element_of before new.id)
      (of_same new.id e (sym id)))) carried;
  others = λ other f. put.each other ∙ cond-false (has_id other e) (Some e) (element_of before other)
      (ap (bytes_eq other) id ∙ f);
}

-- an element that is found has the id
pub found-id : (elements : List ElementValue) (id : List ℕ) (o : Option ElementValue) → o ≡ element_of elements id
    → IfSome o (λ old. old.id ≡ id)
found-id elements id None h = tt
found-id elements id (Some e) h = sym (same_id id e (find-Some (has_id id) elements e (sym h)).1)

-- a captured element is led as the stored one was
pub IsCarried-led : (old new captured e : ElementValue) (part : Delta) → old.kind ≡ new.kind → IsElement e
    → PartStandsFor part old new → IsApplied part captured e → IsCarried (Some captured) (Some old) new (Some e)
IsCarried-led old new captured e part kind is stands applied = record {
  created = λ none. absurd (none-some old (sym none));
  other_kind =
      λ stored same other. absurd (other (ap (λ (x : ElementValue). x.kind) (sym (same_Some old stored same)) ∙ kind));
  absent = λ stored same kinds none. absurd (none-some captured (sym none));
  changed = λ stored x same kinds some. (
    e,
    record {
      is_element = is;
      applied = (
        part,
        subst (λ o. PartStandsFor part o new) (same_Some old stored same) stands,
        subst (λ h. IsApplied part h e) (same_Some captured x some) applied,
      );
    },
    refl,
  );
}

-- nothing comes where nothing is captured
pub IsCarried-absent : (old new : ElementValue) → old.kind ≡ new.kind → IsCarried None (Some old) new None
IsCarried-absent old new kind = record {
  created = λ e. absurd (none-some old (sym e));
  other_kind =
      λ stored e other. absurd (other (ap (λ (x : ElementValue). x.kind) (sym (same_Some old stored e)) ∙ kind));
  absent = λ stored e same captured. refl;
  changed = λ stored x e same captured. absurd (none-some x captured);
}

-- what is made has the id
undone-id : (pair : Pair) (now : ElementValue) → (undone pair now).id ≡ now.id
unfolding undone
undone-id pair now = elim (same_kind pair.after.kind now.kind) as (λ b. (if b then undone_in pair now else now).id
    ≡ now.id) [ true ↦ refl | false ↦ refl ]

pub made-id : (captured old : Option ElementValue) (new e : ElementValue) → IfSome captured (λ h. h.id ≡ new.id)
    → Some e ≡ carried_to captured old new → e.id ≡ new.id
made-id captured None new e id h = ap (λ (x : ElementValue). x.id) (same_Some e new h)
made-id captured (Some old) new e id h = made (same_kind old.kind new.kind) captured id h
  where
    made : (b : Bool) (captured : Option ElementValue) → IfSome captured (λ h. h.id ≡ new.id)
        → Some e ≡ cond b (option_map (undone (record { before = new; after = old })) captured) (Some new)
        → e.id ≡ new.id
    made false captured id h = ap (λ (x : ElementValue). x.id) (same_Some e new h)
    made true None id h = absurd (none-some e (sym h))
    made true (Some captured) id h = ap (λ (x : ElementValue). x.id)
        (same_Some e (undone (record { before = new; after = old }) captured) h)
        ∙ undone-id (record { before = new; after = old }) captured ∙ id

-- nothing is made of nothing alone
pub none-made : (captured old : Option ElementValue) (new : ElementValue) → None ≡ carried_to captured old new
    → captured ≡ None
none-made captured None new h = absurd (none-some new h)
none-made captured (Some old) new h = made (same_kind old.kind new.kind) captured h
  where
    made : (b : Bool) (captured : Option ElementValue) → None
        ≡ cond b (option_map (undone (record { before = new; after = old })) captured) (Some new) → captured ≡ None
    made false captured h = absurd (none-some new h)
    made true None h = refl
    made true (Some captured) h = absurd (none-some (undone (record { before = new; after = old }) captured) h)

-- elements with what a change made are carried
pub HasCarried-made : (before : List ElementValue) (old : Option ElementValue) (new : ElementValue)
    (made : Option ElementValue) → are_rising (ids_of before) ≡ true → IsCarried (element_of before new.id) old new made
    → made ≡ carried_to (element_of before new.id) old new → HasCarried before old new (with_made made before)
HasCarried-made before old new (Some e) rising carried to =
    HasCarried-put before old new e (with_put e before) (HasPut-put before e rising)
    (made-id (element_of before new.id) old new e (found-id before new.id (element_of before new.id) refl) to) carried
HasCarried-made before old new None rising carried to = record {
  ordered = rising;
  own = subst (IsCarried (element_of before new.id) old new) (sym (none-made (element_of before new.id) old new to))
      carried;
  others = λ id f. refl;
}
