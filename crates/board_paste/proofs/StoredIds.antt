-- Whether the ids of copies are stored.
use Rattle.std.proofs.Common.{◌≡◌, ◌↔◌, inl, inr, ℕ, suc, Bool, true, false, cond, List, [], ◌∷◌, ◌++◌, Some, None, is_some, Contains, min, zero, drop, length, refl, sym, ap, ◌∙◌, arith}
use Rattle.json_text.proofs.CallerLemmas.{none-is}
use Rattle.elem.specs.ElementValue.{ElementValue}
use Rattle.elem_store.specs.Updates.{element_of}
use Rattle.elem_store.proofs.CallerLemmas.{Contains-cases, Contains-cons, Contains-head}
use Rattle.copies.specs.Copies.{copies_of}
use Rattle.copies.specs.Naming.{copy_of}
use Rattle.copies.proofs.CallerLemmas.{copied, copies-length, copy-named, original}
use Rattle.board_paste.specs.Pasting.{first_stored, is_stored}

-- ---- ids that are stored
none-stored : (stored elements : List ElementValue) (places : List ℕ) → length places ≡ length elements
    → first_stored stored elements places ≡ None
    → (e : ElementValue) → Contains elements e → is_stored stored e ≡ false
none-stored stored [] places same none e c = absurd (omega (arith, c.1))
none-stored stored (x ∷ elements) [] same none e c = absurd (omega (arith, same))
none-stored stored (x ∷ elements) (place ∷ places) same none e c =
    go (is_stored stored x) refl none (none-stored stored elements places (omega (arith, same)))
  where
    go : (b : Bool) → is_stored stored x ≡ b → cond b (Some place) (first_stored stored elements places) ≡ None
        → (first_stored stored elements places ≡ None → (f : ElementValue) → Contains elements f
        → is_stored stored f ≡ false) → is_stored stored e ≡ false
    go true t f later = absurd cc
    go false t f later =
        elim (Contains-cases x elements e c) [
          | inl s ↦ ap (is_stored stored) (sym s) ∙ t
          | inr r ↦ later f e r
        ]

all-new : (stored elements : List ElementValue) (places : List ℕ)
    → ((e : ElementValue) → Contains elements e → is_stored stored e ≡ false)
    → first_stored stored elements places ≡ None
all-new stored [] places new = refl
all-new stored (x ∷ elements) [] new = refl
all-new stored (x ∷ elements) (place ∷ places) new =
    ap (λ b. cond b (Some place) (first_stored stored elements places)) (new x (Contains-head x elements))
    ∙ all-new stored elements places (λ e c. new e (Contains-cons x elements e c))

-- what is left of two lists behind the shorter one
none-left : (stored elements : List ElementValue) → first_stored stored elements [] ≡ None
none-left stored [] = refl
none-left stored (e ∷ elements) = refl

pub none-behind : (stored elements : List ElementValue) (places : List ℕ) (n : ℕ)
    → n ≡ min (length elements) (length places) → first_stored stored (drop n elements) (drop n places) ≡ None
none-behind stored [] places zero e = refl
none-behind stored [] places (suc n) e = refl
none-behind stored (x ∷ elements) [] zero e = refl
none-behind stored (x ∷ elements) [] (suc n) e = none-left stored (drop n elements)
none-behind stored (x ∷ elements) (place ∷ places) zero e = absurd (omega (arith, e))
none-behind stored (x ∷ elements) (place ∷ places) (suc n) e = none-behind stored elements places n (omega (arith, e))

pub ids-new : (stored list : List ElementValue) (prefix places : List ℕ) → length places ≡ length list
    → (first_stored stored (copies_of list prefix) places ≡ None)
    ↔ ((e : ElementValue) → Contains list e → element_of stored (prefix ++ e.id) ≡ None)
ids-new stored list prefix places same = (
  λ none e c.
      let new = none-stored stored (copies_of list prefix) places (same ∙ sym (copies-length list prefix)) none
      (copy_of list prefix e) (copied list prefix e c) in
      none-is (element_of stored (prefix ++ e.id))
      (ap (λ id. is_some (element_of stored id)) (sym (copy-named list prefix e)) ∙ new),
  λ new. all-new stored (copies_of list prefix) places
      (λ copy c.
      let o = original list prefix copy c in
      ap (λ (x : ElementValue). is_some (element_of stored x.id)) (sym o.2)
      ∙ ap (λ id. is_some (element_of stored id)) (copy-named list prefix o.0) ∙ ap is_some (new o.0 o.1)),
)
