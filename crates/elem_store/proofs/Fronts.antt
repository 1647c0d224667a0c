-- Ids whose fronts differ compare as these do.
use Rattle.std.proofs.Common.{◌≡◌, ◌≢◌, ℕ, zero, suc, List, [], ◌∷◌, Some, None, map, slice_get, Ordering, Equal, nat_cmp, refl, ap, ◌∙◌}
use Rattle.std.specs.Cmp.Lexicographic.{slice_cmp}
use Rattle.board_base.specs.Fronts.{front_of}
use Rattle.board_base.proofs.CallerLemmas.{fronts-decide}
use Rattle.elem.specs.ElementValue.{ElementValue}
use Rattle.elem_store.specs.inner.Fronts.{front_at}
use Rattle.elem_store.specs.inner.Places.{id_at, order_at}

-- an element is told apart from an id by its front
pub placed-decides : (c : Ordering) → Equal ≢ c → (elements : List ElementValue) (place : ℕ) (id known : List ℕ)
    → slice_get (map front_at elements) place ≡ Some known → slice_cmp nat_cmp known (front_of id) ≡ c
    → order_at elements id place ≡ c
placed-decides c apart [] place id known there is = absurd (cc)
placed-decides c apart (e ∷ elements) zero id known there is =
    let same : front_at e ≡ known = cc in
    fronts-decide c apart 8 e.id id (ap (λ f. slice_cmp nat_cmp f (front_of id)) same ∙ is)
placed-decides c apart (e ∷ elements) (suc place) id known there is =
    placed-decides c apart elements place id known there is

-- the front of the id at a place
pub front-there : (elements : List ElementValue) (place : ℕ) (known : List ℕ)
    → slice_get (map front_at elements) place ≡ Some known → known ≡ front_of (id_at elements place)
front-there [] place known there = absurd (cc)
front-there (e ∷ elements) zero known there = cc
front-there (e ∷ elements) (suc place) known there = front-there elements place known there

pub front-none : (elements : List ElementValue) (place : ℕ) → slice_get (map front_at elements) place ≡ None
    → front_of [] ≡ front_of (id_at elements place)
front-none [] place none = refl
front-none (e ∷ elements) zero none = absurd (cc)
front-none (e ∷ elements) (suc place) none = front-none elements place none
