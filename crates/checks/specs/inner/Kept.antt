-- Which elements are kept, so far. Only contracts of private functions cite this.
use Rattle.std.specs.Prelude.{◌≡◌, ℕ, List}
use Rattle.std.specs.BTreeMap.{BTreeMap, get}
use Rattle.std.specs.Cmp.Lexicographic.{slice_cmp}
use Rattle.std.specs.Ordering.{nat_cmp}
use Rattle.elem.specs.ElementValue.{ElementValue}
use Rattle.checks.specs.Lines.{kept_of}

-- The map has the kept one of each id among the elements.
abbrev pub AreKept : List ElementValue → BTreeMap (List ℕ) ℕ → List ElementValue → Type 0
AreKept stored kept updates =
    (id : List ℕ) → get (slice_cmp nat_cmp) kept id ≡ kept_of stored updates id
