-- One group or none stands once.
use Rattle.std.proofs.Common.{◌≡◌, ℕ, ◌≤◌, List, [], ◌∷◌, length, refl, sym, ap, subst, arith}
use Rattle.elem.specs.ElementValue.{ElementValue}
use Rattle.json_text.specs.FirstOccurrences.{first_texts}
use Rattle.frames_groups.specs.Groups.{with_groups, grouped}
use Rattle.frames_groups.proofs.groups.settle.Goals as goal

first_texts-one : (texts : List (List ℕ)) → length texts ≤ 1 → first_texts texts ≡ texts
first_texts-one [] few = refl
first_texts-one (text ∷ []) few = refl
first_texts-one (text ∷ other ∷ texts) few = absurd (omega arith)

grouped-one : (e : ElementValue) → length e.groups ≤ 1 → e ≡ grouped e
grouped-one e few = ap (with_groups e) (sym (first_texts-one e.groups few))

pub returns-then-as_slice-le1 : goal.returns-then-as_slice-le1
returns-then-as_slice-le1 c =
    subst (λ (e : ElementValue). e ≡ grouped e) c.e.view_is
    (grouped-one _ (subst (λ groups. length groups ≤ 1) c.as_slice.ensures c.if-as_slice-le1.true))
