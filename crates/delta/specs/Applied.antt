-- What a part makes of an element. This project's own, after Excalidraw's deltas.
use Rattle.std.specs.Prelude.{◌≡◌, ◌≢◌, ℕ, List, Option, Some, None, codes, bytes_eq}
use Rattle.elem.specs.declared.parts.BoundRef.{BoundRef}
use Rattle.elem.specs.ElementValue.{ElementValue}
use Rattle.delta.specs.declared.change.Change.{Change}
use Rattle.delta.specs.declared.change.Change.TheVariants.{Scalar, Groups, Bound}
use Rattle.delta.specs.Delta.{Delta}
use Rattle.delta.specs.Headers.{scalar_of}
use Rattle.elem.specs.Listings.{same_listing_entry}
use Rattle.delta.specs.Joined.{joined}
use Rattle.delta.specs.Parts.{change_of}

-- a scalar after its change, if there is one, whatever it is now
abbrev pub scalar_after : Option Change → Option (List ℕ) → Option (List ℕ)
scalar_after None now = now
scalar_after (Some (Scalar name before after)) now = after
scalar_after (Some (Groups before after)) now = now
scalar_after (Some (Bound before after)) now = now

-- the groups and the listing after their change, if there is one
abbrev pub groups_after : Option Change → List (List ℕ) → List (List ℕ)
groups_after None now = now
groups_after (Some (Scalar name before after)) now = now
groups_after (Some (Groups before after)) now = joined bytes_eq before after now
groups_after (Some (Bound before after)) now = now

abbrev pub bound_after : Option Change → List BoundRef → List BoundRef
bound_after None now = now
bound_after (Some (Scalar name before after)) now = now
bound_after (Some (Groups before after)) now = now
bound_after (Some (Bound before after)) now = joined same_listing_entry before after now

-- what an element is and its stamp stay
pub record KeepsStamp (now result : ElementValue) : Type 0 where
  pub id : result.id ≡ now.id
  pub kind : result.kind ≡ now.kind
  pub version : result.version ≡ now.version
  pub nonce : result.nonce ≡ now.nonce
  pub updated : result.updated ≡ now.updated

-- Each member after the changes is as its change makes it, and those without a change stay.
pub record Changes (changes : List Change) (now result : ElementValue) : Type 0 where
  pub stamp : KeepsStamp now result
  pub scalars : (name : List ℕ) → scalar_of result name
      ≡ scalar_after (change_of changes name) (scalar_of now name)
  pub groups : result.groups ≡ groups_after (change_of changes (codes "groupIds")) now.groups
  pub bound : result.bound ≡ bound_after (change_of changes (codes "boundElements")) now.bound

-- A part changes an element of its kind, and leaves one of another kind as it is.
pub record IsApplied (part : Delta) (now result : ElementValue) : Type 0 where
  pub changed : part.kind ≡ now.kind → Changes part.changes now result
  pub other : part.kind ≢ now.kind → result ≡ now
