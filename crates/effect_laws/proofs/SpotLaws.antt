-- Keys of elements: those that they have in the view, and those at a spot.
use Rattle.std.proofs.Common.{◌≡◌, ℕ, Bool, true, false, cond, List, [], ◌∷◌, Option, Some, None, IfSome, find, if◌then◌else◌}
use Rattle.std.specs.List.{list_all}
use Rattle.std.specs.Option.{option_map_or, option_and_then}
use Rattle.frac_keys.specs.Between.{key_between}
use Rattle.frac_keys.specs.Keys.{is_key}
use Rattle.frac_keys.proofs.CallerLemmas.{key_between-law, keys_between-law}
use Rattle.elem.specs.ElementValue.{ElementValue}
use Rattle.elem.specs.Order.{has_id}
use Rattle.elem_store.specs.Updates.{element_of}
use Rattle.index_repair.specs.Keyed.{HaveRisingKeys}
use Rattle.index_repair.proofs.CallerLemmas.{kept-keys}
use Rattle.elem.proofs.CallerLemmas.{IsKept, AreKept, IsIndex}
use Rattle.board_commands.specs.declared.command.Spot.{Spot}
use Rattle.effects.specs.Placing.{settled_key, Gap, gap_of, lies_within, key_within, key_at, key_in, keys_at}
use Rattle.effects.proofs.CallerLemmas.{IsOpen, spot-open}

find-some : (p : ElementValue → Bool) (es : List ElementValue) → AreKept es → IfSome (find p es) IsKept
find-some p [] all = tt
find-some p (e ∷ es) all = elim (p e) as (λ (b : Bool). IfSome (cond b (Some e) (find p es)) IsKept) [
  | true ↦ all.0
  | false ↦ find-some p es all.1
]

-- ---- keys in the view
pub settled_key-is : (shown : List ElementValue) (e : ElementValue) → AreKept shown → IsKept e
    → IsIndex (settled_key shown e)
settled_key-is shown e all kept = by (element_of shown e.id) (find-some (has_id e.id) shown all)
  where
    by : (o : Option ElementValue) → IfSome o IsKept → IsIndex (option_map_or (λ (s : ElementValue). s.index) o e.index)
    by None is = kept.written.index
    by (Some s) is = is.written.index

pub key_in-is : (shown : List ElementValue) (id : List ℕ) → AreKept shown → IsIndex (key_in shown id)
key_in-is shown id all = by (element_of shown id) (find-some (has_id id) shown all)
  where
    by : (o : Option ElementValue) → IfSome o IsKept → IsIndex (option_and_then (λ (e : ElementValue). e.index) o)
    by None is = tt
    by (Some e) is = is.written.index

-- ---- a key at a spot
key_within-is : (gap : Gap) (old : Option (List ℕ)) → IsOpen gap → IsIndex old → IsIndex (key_within gap old)
key_within-is gap old is own =
    elim (lies_within gap old) as (λ (b : Bool). IsIndex (if b then old else Some (key_between gap.low gap.high))) [
      | true ↦ own
      | false ↦ (key_between-law gap.low gap.high is.low is.high is.rises).key
    ]

-- the key at a spot is one
pub key_at-is : (shown : List ElementValue) (spot : Spot) (except old : Option (List ℕ)) → AreKept shown
    → HaveRisingKeys shown → IsIndex old → IsIndex (key_at shown spot except old)
key_at-is shown spot except old all rise own =
    key_within-is (gap_of shown spot except) old (spot-open shown spot except rise (kept-keys shown all)) own

-- and those of several are such
pub keys_at-are : (shown : List ElementValue) (spot : Spot) (count : ℕ) → AreKept shown → HaveRisingKeys shown
    → list_all is_key (keys_at shown spot count) ≡ true
keys_at-are shown spot count all rise =
    let gap = spot-open shown spot None rise (kept-keys shown all) in
    (keys_between-law (gap_of shown spot None).low (gap_of shown spot None).high count gap.low gap.high
    gap.rises).are_keys
