-- Copies of a list, one more each time.
use Rattle.std.proofs.Common.{◌≡◌, ℕ, ◌+◌, List, [], ◌∷◌, ◌++◌, take, get_or, Some, sym, ap, ap₂, ◌∙◌}
use Rattle.std.specs.Prelude.{slice_get}
use Rattle.std.proofs.lemmas.Option.{get_or_from_slice_get, slice_get_within}
use Rattle.std.proofs.lemmas.List.{take_more}
use Rattle.elem.specs.ElementValue.{ElementValue}

pub stored-push : (stored : List ElementValue) (i : ℕ) (e : ElementValue) → Some e ≡ slice_get stored i
    → (copies new : List ElementValue) (copy : ElementValue)
    → copies ≡ take i stored → copy ≡ e → new ≡ copies ++ copy ∷ [] → new ≡ take (i + 1) stored
stored-push stored i e at' copies new copy so_far same pushed =
    let there : get_or stored i e ≡ e = get_or_from_slice_get stored i e e (sym at') in
    pushed ∙ (ap₂ (λ es (f : ElementValue). es ++ f ∷ []) so_far same
    ∙ (ap (λ f. take i stored ++ f ∷ []) (sym there)
    ∙ sym (take_more stored i e (slice_get_within stored i e (sym at')))))
