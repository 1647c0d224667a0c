-- How elements name each other. This project's own.
use Rattle.std.specs.Prelude.{◌≡◌, ℕ, List, Option, Some, Contains, IsSomeAnd}
use Rattle.elem.specs.declared.kind.Role.{Role}
use Rattle.elem.specs.declared.parts.Binding.{Binding}
use Rattle.elem.specs.ElementValue.{ElementValue}
use Rattle.copies.specs.Copies.{copy_among, is_among}

-- The ways in which an element names another one: by an end of an arrow, as its container, as its
-- frame, and in its listing.
pub data Way : Type 0 where
  ByStart : Way
  ByEnd : Way
  ByContainer : Way
  ByFrame : Way
  ByListing : Role → Way

-- A binding is to this id.
abbrev pub IsBoundTo : Option Binding → List ℕ → Type 0
IsBoundTo binding id = IsSomeAnd binding (λ (b : Binding). b.target ≡ id)

-- An element names an id in a way.
abbrev pub Names : Way → ElementValue → List ℕ → Type 0
Names ByStart e id = IsBoundTo e.start_binding id
Names ByEnd e id = IsBoundTo e.end_binding id
Names ByContainer e id = e.container ≡ Some id
Names ByFrame e id = e.frame ≡ Some id
Names (ByListing role) e id = Contains e.bound (record { id = id; role = role })

-- the copy of an element of a list
abbrev pub copy_of : List ElementValue → List ℕ → ElementValue → ElementValue
copy_of list prefix e = copy_among (is_among list) prefix e
