-- What a command gives, and what is stored once that is. This project's own.
use Rattle.std.specs.Prelude.{◌≡◌, ◌≢◌, ℕ, List, true, Option, None, IsSomeAnd}
use Rattle.std.specs.Option.{option_or}
use Rattle.elem.specs.ElementValue.{ElementValue}
use Rattle.elem.specs.Order.{unstamped}
use Rattle.elem_store.specs.Updates.{element_of}
use Rattle.view.specs.Shown.{is_live}

-- the element of an id once what was given is stored
abbrev pub stored_after : List ElementValue → List ElementValue → List ℕ → Option ElementValue
stored_after stored given id = option_or (element_of given id) (element_of stored id)

-- what is stored with an id stays, its stamp too
abbrev pub Stays : List ElementValue → List ElementValue → List ℕ → Type 0
Stays stored given id = stored_after stored given id ≡ element_of stored id

-- An element is stored with the id, and then another one, which it becomes: of the two this holds.
abbrev pub Becomes : List ElementValue → List ElementValue → List ℕ
    → (ElementValue → ElementValue → Type 0) → Type 0
Becomes stored given id P =
    IsSomeAnd (element_of stored id)
    (λ (old : ElementValue). IsSomeAnd (stored_after stored given id)
    (λ (e : ElementValue). P old e))

-- The stored element of its id was live, and differs from it outside the stamp.
abbrev pub ChangesStored : List ElementValue → ElementValue → Type 0
ChangesStored stored e =
    IsSomeAnd (element_of stored e.id) (λ (old : ElementValue). (is_live old ≡ true)
    × (unstamped old ≢ unstamped e))

-- Its id wasn't stored, and it is live and at its first version.
pub record IsNew (stored : List ElementValue) (e : ElementValue) : Type 0 where
  pub unknown : element_of stored e.id ≡ None
  pub live : is_live e ≡ true
  pub version : e.version ≡ 1
