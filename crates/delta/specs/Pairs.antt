-- Entries, and the elements before and after that they stand for. This project's own, after
-- Excalidraw's history.
use Rattle.std.specs.Prelude.{◌≡◌, ◌≢◌, ◌⊎◌, ℕ, List, Option, Contains, map}
use Rattle.elem.specs.ElementValue.{ElementValue}
use Rattle.elem.specs.Order.{unstamped}
use Rattle.delta.specs.Delta.{Delta}
use Rattle.delta.specs.Facts.{AreParts}
use Rattle.delta.specs.Parts.{PartStandsFor, counted}

-- an element as it was before and as it is after
pub record Pair : Type 0 where
  pub before : ElementValue
  pub after : ElementValue

-- an element with the one before, if there was one; where there was none, it counts as the element,
-- deleted
abbrev pub pair_with : Option ElementValue → ElementValue → Pair
pair_with before e = record { before = counted before e; after = e }

-- the elements, each with the one of its id before
abbrev pub pairs_from : (List ℕ → Option ElementValue) → List ElementValue → List Pair
pairs_from before elements = map (λ (e : ElementValue). pair_with (before e.id) e) elements

-- Both are of one id and one kind and differ outside the stamp.
pub record IsChanged (pair : Pair) : Type 0 where
  pub id : pair.before.id ≡ pair.after.id
  pub kind : pair.before.kind ≡ pair.after.kind
  pub differ : unstamped pair.before ≢ unstamped pair.after

-- Both are the same outside the stamp, unless their kinds differ.
abbrev pub IsUnchanged : Pair → Type 0
IsUnchanged pair = pair.before.kind ≡ pair.after.kind → unstamped pair.before ≡ unstamped pair.after

-- The pair is changed, and this is the part of its change.
pub record IsPartOf (part : Delta) (pair : Pair) : Type 0 where
  pub changed : IsChanged pair
  pub stands : PartStandsFor part pair.before pair.after

-- An entry stands for pairs: it has the part of each pair that is changed, and no other one, in the
-- order of their ids.
pub record EntryStandsFor (parts : List Delta) (pairs : List Pair) : Type 0 where
  pub ordered : AreParts parts
  pub each_part : (part : Delta) → Contains parts part → (pair : Pair) × Contains pairs pair
      × IsPartOf part pair
  pub each_pair : (pair : Pair) → Contains pairs pair
      → IsUnchanged pair ⊎ ((part : Delta) × Contains parts part × IsPartOf part pair)

-- Two pairs are the same but for stamps.
pub record IsSamePair (pair other : Pair) : Type 0 where
  pub before : unstamped pair.before ≡ unstamped other.before
  pub after : unstamped pair.after ≡ unstamped other.after

-- Each pair of the one list is unchanged or, but for stamps, in the other one.
abbrev pub HasSamePairs : List Pair → List Pair → Type 0
HasSamePairs pairs others =
    (pair : Pair) → Contains pairs pair → IsUnchanged pair
    ⊎ ((other : Pair) × Contains others other × IsSamePair pair other)

-- before and after exchanged
abbrev pub exchanged : Pair → Pair
exchanged pair = record { before = pair.after; after = pair.before }
