-- Ids, versions and nonces, and where the first element with each stands. Only the type's own facts
-- cite this.
use Rattle.std.specs.Prelude.{◌≡◌, ◌<◌, ℕ, List, Bool, ◌&&◌, ◌==◌, Option, IfSome, bytes_eq, find, length, slice_get, option_and_then}
use Rattle.std.specs.BTreeMap.{is_at}
use Rattle.std.specs.Cmp.Lexicographic.{slice_cmp}
use Rattle.std.specs.Map.{lookup}
use Rattle.std.specs.Ordering.{nat_cmp, ordering_then}
use Rattle.std.specs.declared.cmp.Ordering.{Ordering}
use Rattle.elem.specs.ElementValue.{ElementValue}

abbrev pub Mark : Type 0
Mark = List ℕ × ℕ × ℕ

abbrev pub mark_of : ElementValue → Mark
mark_of e = (e.id, e.version, e.nonce)

-- whether an element has this id, version and nonce
abbrev pub is_marked : Mark → ElementValue → Bool
is_marked mark e = bytes_eq mark.0 e.id && (mark.1 == e.version && mark.2 == e.nonce)

abbrev pub mark_cmp : Mark → Mark → Ordering
mark_cmp a b =
    ordering_then (ordering_then (slice_cmp nat_cmp a.0 b.0) (nat_cmp a.1 b.1)) (nat_cmp a.2 b.2)

-- the place that is listed for a mark
abbrev pub place_of : List (Mark × ℕ) → Mark → Option ℕ
place_of places mark = lookup (is_at (mark_cmp mark)) places

-- For each mark the place of the first element that has it is listed, if there is one.
pub record AreListed (firsts : List ElementValue) (places : List (Mark × ℕ)) : Type 0 where
  pub within : (mark : Mark) → IfSome (place_of places mark) (λ i. i < length firsts)
  pub each : (mark : Mark) → option_and_then (slice_get firsts) (place_of places mark)
      ≡ find (is_marked mark) firsts
