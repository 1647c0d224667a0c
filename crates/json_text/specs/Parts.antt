-- What objects and arrays are made of.
use Rattle.std.specs.Prelude.{ℕ, List, map, bytes_eq}
use Rattle.std.specs.Str.{IsUtf8}
use Rattle.std.specs.List.{AllByRecursion, IsDistinct}
use Rattle.json_text.specs.Compact.{Member}
use Rattle.json_text.specs.Value.{IsCompact}

abbrev pub names_of : List Member → List (List ℕ)
names_of ms = map (λ (m : Member). m.0) ms

-- Each name is a text, each value is a compact text that nests at most so deep, and no name comes
-- twice.
pub record AreMembers (limit : ℕ) (ms : List Member) : Type 0 where
  pub named : AllByRecursion (λ (m : Member). IsUtf8 m.0) ms
  pub valued : AllByRecursion (λ (m : Member). IsCompact limit m.1) ms
  pub distinct : IsDistinct bytes_eq (names_of ms)
