-- Which files are named, so far. Only contracts of private functions cite this.
use Rattle.std.specs.Prelude.{◌≡◌, ℕ, List, bytes_eq}
use Rattle.std.specs.BTreeSet.{BTreeSet, contains}
use Rattle.std.specs.Cmp.Lexicographic.{slice_cmp}
use Rattle.std.specs.List.{list_any}
use Rattle.std.specs.Ordering.{nat_cmp}
use Rattle.elem.specs.ElementValue.{ElementValue}
use Rattle.file_table.specs.References.{references}

-- The set has the ids of the files that the elements name.
abbrev pub AreNamed : BTreeSet (List ℕ) → List ElementValue → Type 0
AreNamed named elements =
    (id : List ℕ) → contains (slice_cmp nat_cmp) named id ≡ list_any (bytes_eq id) (references elements)
