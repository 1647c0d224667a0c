-- Elements that are put at places. This project's own.
use Rattle.std.specs.Prelude.{◌≡◌, ◌<◌, List, [], ◌∷◌, length, map, slice_get, slice_set, IsSomeAnd}
use Rattle.elem.specs.ElementValue.{ElementValue}
use Rattle.kept_view.specs.declared.places.Put.{Put}

-- the elements that are put
abbrev pub put_of : Put → ElementValue
put_of put = put.e

abbrev pub puts_of : List Put → List ElementValue
puts_of puts = map put_of puts

-- its place is one of the elements'
abbrev pub IsWithin : List ElementValue → Put → Type 0
IsWithin elements put = put.at < length elements

-- the element at its place has its id and its index
abbrev pub IsInPlace : List ElementValue → Put → Type 0
IsInPlace elements put =
    IsSomeAnd (slice_get elements put.at) (λ e. (e.id ≡ put.e.id) × (e.index ≡ put.e.index))

-- elements after others were put at their places, one after the other
abbrev pub all_put : List Put → List ElementValue → List ElementValue
all_put [] elements = elements
all_put (put ∷ puts) elements = all_put puts (slice_set elements put.at put.e)
