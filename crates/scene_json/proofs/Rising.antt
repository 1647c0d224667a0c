-- What is found under names is in one list of members whose names rise.
use Rattle.std.proofs.Common.{◌≡◌, ℕ, false, List, [], ◌∷◌, Option, Some, None, bytes_eq, nat_cmp, if◌then◌else◌, refl, sym, ◌∙◌, arith}
use Rattle.std.specs.Cmp.Lexicographic.{slice_cmp, nat_list_cmp_total}
use Rattle.std.specs.FinMap.{FinMap, entries, entries_sorted, from_entries, get-entries, get-from_entries}
use Rattle.std.specs.List.{list_any}
use Rattle.json_text.specs.Compact.{Member as Pair}
use Rattle.scene_json.specs.Named.{value_at, HaveRisingNames}
use Rattle.json_text.proofs.CallerLemmas.{bytes_eq-true}
use Rattle.scene_json.proofs.Lookups.{sorted_same, find_same}

-- ---- what is found under the names of a list
abbrev added : List ℕ → Option (List ℕ) → List Pair → List Pair
added n None ms = ms
added n (Some v) ms = (n, v) ∷ ms

abbrev listed : List (List ℕ) → (List ℕ → Option (List ℕ)) → List Pair
listed [] found = []
listed (n ∷ names) found = added n (found n) (listed names found)

listed_at : (name : List ℕ) (names : List (List ℕ)) (found : List ℕ → Option (List ℕ))
    → value_at name (listed names found) ≡ (if list_any (bytes_eq name) names then found name else None)
listed_at name [] found = refl
listed_at name (n ∷ names) found = grind (arith, bytes_eq-true name n, listed_at name names found)

-- Whatever is found under some names, and under no others, is the members of a list whose names rise.
pub tabled : (names : List (List ℕ)) (find : List ℕ → Option (List ℕ))
    → ((name : List ℕ) → list_any (bytes_eq name) names ≡ false → find name ≡ None)
    → (members : List Pair) × HaveRisingNames members × ((name : List ℕ) → value_at name members ≡ find name)
tabled names find others =
    let map : FinMap (slice_cmp nat_cmp) (List ℕ) = from_entries (listed names find) in (
      entries map,
      (sorted_same (entries map)).0 (grind (arith, entries_sorted map)),
      λ name. sym (find_same name (entries map)) ∙ sym (get-entries map name)
          ∙ get-from_entries nat_list_cmp_total (listed names find) name
          ∙ find_same name (listed names find) ∙ grind (arith, listed_at name names find, others name),
    )
