-- How a shelf keeps its items: each under its id. Only the type's own facts cite this.
use Rattle.std.specs.Prelude.{◌≡◌, ℕ, List, true, Option, map}
use Rattle.std.specs.BTreeMap.{is_at}
use Rattle.std.specs.Cmp.Lexicographic.{slice_cmp}
use Rattle.std.specs.List.{AllByRecursion}
use Rattle.std.specs.Map.{lookup}
use Rattle.std.specs.Ordering.{nat_cmp}
use Rattle.frac_keys.specs.Rising.{are_rising}
use Rattle.library.specs.Best.{ids_of}
use Rattle.library.specs.declared.item.Item.{Item}

abbrev pub Entry : Type 0
Entry = List ℕ × Item

-- the items of entries, in their order
abbrev pub items_in : List Entry → List Item
items_in entries = map (λ (e : Entry). e.1) entries

-- the item that is filed under an id
abbrev pub filed : List Entry → List ℕ → Option Item
filed entries id = lookup (is_at (slice_cmp nat_cmp id)) entries

-- Each item stands under its id.
abbrev pub AreFiled : List Entry → Type 0
AreFiled entries = AllByRecursion (λ (e : Entry). e.0 ≡ e.1.id) entries

-- Each item stands under its id, and the ids rise.
pub record IsFiled (entries : List Entry) : Type 0 where
  pub under : AreFiled entries
  pub rise : are_rising (ids_of (items_in entries)) ≡ true
