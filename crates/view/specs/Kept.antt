-- What may be kept beside a view, so that nobody has to look at all of it. This project's own.
use Rattle.std.specs.Prelude.{◌≡◌, ℕ, List, false}
use Rattle.std.specs.BTreeSet.{BTreeSet, contains}
use Rattle.std.specs.Cmp.Lexicographic.{slice_cmp}
use Rattle.std.specs.Option.{option_map, option_map_or}
use Rattle.std.specs.Ordering.{nat_cmp}
use Rattle.elem.specs.ElementValue.{ElementValue}
use Rattle.elem_store.specs.Updates.{element_of}
use Rattle.index_repair.specs.Keyed.{index_of}
use Rattle.links.specs.declared.rows.LinkRow.{LinkRow}
use Rattle.links.specs.Rows.{has_row}
use Rattle.links.specs.Steps.{names_id}

-- the rows are those of what each element names
abbrev pub HaveRowsOf : List ElementValue → List LinkRow → Type 0
HaveRowsOf elements rows =
    (named namer : List ℕ)
    → has_row rows (record { named = named; namer = namer })
    ≡ option_map_or (names_id named) (element_of elements namer) false

-- each element of another id than these is shown as it is stored
abbrev pub AreOthersAsStored : BTreeSet (List ℕ) → List ElementValue → List ElementValue → Type 0
AreOthersAsStored ids live shown =
    (id : List ℕ) → contains (slice_cmp nat_cmp) ids id ≡ false
    → element_of shown id ≡ element_of live id

-- each element of another id than these is shown with the key that is stored
abbrev pub AreOthersKeyedAsStored : BTreeSet (List ℕ) → List ElementValue → List ElementValue
    → Type 0
AreOthersKeyedAsStored ids live shown =
    (id : List ℕ) → contains (slice_cmp nat_cmp) ids id ≡ false
    → option_map index_of (element_of shown id) ≡ option_map index_of (element_of live id)
