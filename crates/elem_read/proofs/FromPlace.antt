-- What a look-up finds at a place, and that where names rise it is what is found from the front.
use Rattle.std.proofs.Common.{◌≡◌, ℕ, zero, suc, ◌<◌, List, [], ◌∷◌, length, drop, Some, None, true, false, cond, bytes_eq, refl, arith}
use Rattle.json_text.specs.Members.{pairs}
use Rattle.json_text.specs.declared.text.Member.{Member}
use Rattle.json_text.proofs.CallerLemmas.{bytes_eq-true}
use Rattle.members.specs.Standing.{nth}
use Rattle.scene_json.specs.Named.{value_at, HaveRisingNames}
use Rattle.scene_json.proofs.CallerLemmas.{rising_parts, value_at-below}

pub found-later : (name value : List ℕ) (ms : List Member) (i : ℕ) → HaveRisingNames (pairs ms)
    → value_at name (pairs (drop i ms)) ≡ Some value → value_at name (pairs ms) ≡ Some value
found-later name value ms zero rise found = found
found-later name value [] (suc i) rise found = found
found-later name value (m ∷ ms) (suc i) rise found =
    let parts = rising_parts (m.name, m.value) (pairs ms) rise in
    let later : value_at name (pairs ms) ≡ Some value = found-later name value ms i parts.1 found in
    elim (bytes_eq name m.name) as (λ b. bytes_eq name m.name ≡ b → cond b (Some m.value) (value_at name (pairs ms))
    ≡ Some value) [
      | true ↦ λ e.
          let none : value_at name (pairs ms) ≡ None =
          rw (bytes_eq-true name m.name e) (value_at-below m.name (pairs ms) parts.0) in
          absurd cc
      | false ↦ λ e. later
    ] refl

-- the member at an index is found where it has the name, and else passed
pub found-here : (name : List ℕ) (ms : List Member) (at : ℕ) → at < length ms → bytes_eq name (nth ms at).name ≡ true
    → value_at name (pairs (drop at ms)) ≡ Some (nth ms at).value
found-here name [] at inside has = elim inside [ ]
found-here name (m ∷ ms) zero inside has = rw has refl
found-here name (m ∷ ms) (suc at) inside has = found-here name ms at (omega arith) has

pub passed-here : (name : List ℕ) (ms : List Member) (at next : ℕ) → next ≡ suc at → at < length ms
    → bytes_eq name (nth ms at).name ≡ false
    → value_at name (pairs (drop at ms)) ≡ value_at name (pairs (drop next ms))
passed-here name [] at next is inside lacks = elim inside [ ]
passed-here name (m ∷ ms) zero next is inside lacks = rw (is, lacks) refl
passed-here name (m ∷ ms) (suc at) next is inside lacks = rw is (passed-here name ms at (suc at) refl (omega arith) lacks)
