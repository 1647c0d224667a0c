-- Whether an element is of an id, and whether an id is among others.
use Rattle.std.proofs.Common.{◌≡◌, ℕ, true, false, List, refl, bytes_eq, nat_cmp, sym, ap, ◌∙◌}
use Rattle.std.specs.BTreeMap.{is_at}
use Rattle.std.specs.Cmp.Lexicographic.{slice_cmp, texts_ties, nat_list_eq_equiv}
use Rattle.std.specs.List.{list_any}
use Rattle.std.proofs.lemmas.Bool.{false_from_ne_true}
use Rattle.std.proofs.lemmas.Slice.Eq.{bytes_eq-Decides}
use Rattle.elem.specs.ElementValue.{ElementValue}
use Rattle.elem.specs.Order.{has_id}
use Rattle.elem_store.specs.Updates.{is_among}

pub same_id : (id : List ℕ) (e : ElementValue) → has_id id e ≡ true → id ≡ e.id
same_id id e h = (bytes_eq-Decides id e.id).0 h

pub of_same : (id : List ℕ) (e : ElementValue) → id ≡ e.id → has_id id e ≡ true
of_same id e h = (bytes_eq-Decides id e.id).1 h

pub of_itself : (e : ElementValue) → has_id e.id e ≡ true
of_itself e = of_same e.id e refl

pub of_other : (id : List ℕ) (e : ElementValue) → (id ≡ e.id → ⊥) → has_id id e ≡ false
of_other id e ne = false_from_ne_true (has_id id e) (λ t. ne (same_id id e t))

-- a look-up by the order is one by the bytes
pub is_at-bytes : (id other : List ℕ) → is_at (slice_cmp nat_cmp id) other ≡ bytes_eq other id
is_at-bytes id other = sym (texts_ties id other) ∙ nat_list_eq_equiv.symm id other

pub is_at-among : (id : List ℕ) (ids : List (List ℕ)) → list_any (is_at (slice_cmp nat_cmp id)) ids ≡ is_among ids id
is_at-among id ids = ap (λ test. list_any test ids) (λ i other. sym (texts_ties id other) i)
