-- Which of noted elements clash. An update that ties with an earlier one and isn't the same shows
-- that two programs made the same version and nonce. This project's own.
use Rattle.std.specs.Prelude.{◌≡◌, ◌≢◌, List, [], ◌∷◌, ◌++◌, Option, Some, not, is_some, find, filter, if◌then◌else◌}
use Rattle.elem.specs.ElementValue.{ElementValue}
use Rattle.elem_store.specs.Updates.{are_tied}

-- the first of these elements with the id, the version and the nonce of this one
abbrev pub first_tied : List ElementValue → ElementValue → Option ElementValue
first_tied elements e = find (are_tied e) elements

-- The first of these elements with the id, the version and the nonce of this one isn't the same as
-- this one.
abbrev pub HasClash : List ElementValue → ElementValue → Type 0
HasClash elements e = (first : ElementValue) × (first_tied elements e ≡ Some first) × (first ≢ e)

-- There is none of these elements with the id, the version and the nonce of this one, or the first
-- is the same.
abbrev pub IsLikeFirst : List ElementValue → ElementValue → Type 0
IsLikeFirst elements e = (first : ElementValue) → first_tied elements e ≡ Some first → first ≡ e

-- the first elements after one more was noted
abbrev pub firsts_with : List ElementValue → ElementValue → List ElementValue
firsts_with firsts e = if is_some (first_tied firsts e) then firsts else firsts ++ e ∷ []

-- the first element of each id, version and nonce, in the order in which they were noted
abbrev pub firsts_of : List ElementValue → List ElementValue
firsts_of [] = []
firsts_of (e ∷ elements) = e ∷ filter (λ other. not (are_tied other e)) (firsts_of elements)
