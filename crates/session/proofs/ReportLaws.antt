-- What is reported of a replica.
use Rattle.std.proofs.Common.{◌≡◌, suc, List, [], ◌∷◌, length, reverse, IsPermutation, refl, sym, ap, ◌∙◌}
use Rattle.std.proofs.lemmas.List.{length-map, length-reverse}
use Rattle.std.proofs.lemmas.List.Sorted.{length_permutation}
use Rattle.delta.specs.Delta.{Delta}
use Rattle.delta.specs.Pairs.{Pair}
use Rattle.elem.specs.ElementValue.{ElementValue}
use Rattle.elem_store.specs.Updates.{ids_of}
use Rattle.history.specs.Pairs.{AreEntriesOf, StackStandsFor}

entries-long : (entries : List (List Delta)) (others : List (List Pair)) → AreEntriesOf entries others
    → length entries ≡ length others
entries-long [] [] are = refl
entries-long [] (pairs ∷ others) are = absurd are
entries-long (parts ∷ entries) [] are = absurd are
entries-long (parts ∷ entries) (pairs ∷ others) are = ap suc (entries-long entries others are.1)

-- a stack has as many entries as what it stands for
pub stack-long : (stack : List (List Delta)) (others : List (List Pair)) → StackStandsFor stack others
    → length stack ≡ length others
stack-long stack others stands = sym (length-reverse stack) ∙ entries-long (reverse stack) others stands

-- as many elements are shown as there are live ones
pub live-long : (live shown : List ElementValue) → IsPermutation (ids_of live) (ids_of shown)
    → length shown ≡ length live
live-long live shown moved =
    sym (length-map shown (λ (e : ElementValue). e.id)) ∙ length_permutation (ids_of live) (ids_of shown) moved
    ∙ length-map live (λ (e : ElementValue). e.id)
