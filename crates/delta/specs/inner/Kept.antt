-- An element of which one scalar was set. This project's own.
use Rattle.std.specs.Prelude.{◌≡◌, ◌≢◌, ℕ, List, Option, Some, bytes_eq, if◌then◌else◌}
use Rattle.elem.specs.declared.kind.Kind.{Kind}
use Rattle.elem.specs.ElementValue.{ElementValue}
use Rattle.delta.specs.Applied.{KeepsStamp}
use Rattle.delta.specs.Headers.{header_named, scalar_text, scalar_of}
use Rattle.delta.specs.declared.header.Header.{Header}

-- the header member is one of elements of this kind
abbrev pub BelongsTo : Kind → Header → Type 0
BelongsTo kind header = (name : List ℕ) × (header_named kind name ≡ Some header)

-- a header member has this text, and all else is as before
pub record IsHeaderSet (old new : ElementValue) (header : Header) (value : List ℕ) : Type 0 where
  pub stamp : KeepsStamp old new
  pub groups : new.groups ≡ old.groups
  pub bound : new.bound ≡ old.bound
  pub rest : new.rest ≡ old.rest
  pub text : scalar_text new header ≡ value
  pub others : (other : Header) → other ≢ header → scalar_text new other ≡ scalar_text old other

-- the scalar of this name has this value, or is gone, and all else is as before
pub record IsScalarSet (old new : ElementValue) (name : List ℕ) (value : Option (List ℕ)) :
    Type 0 where
  pub stamp : KeepsStamp old new
  pub groups : new.groups ≡ old.groups
  pub bound : new.bound ≡ old.bound
  pub scalars : (other : List ℕ) → scalar_of new other
      ≡ (if bytes_eq other name then value else scalar_of old other)
