use Rattle.std.proofs.Common.{◌≡◌, ◌≤◌, true, All, drop, vec_len}
use Rattle.frac_keys.specs.Keys.{bytes_less}
use Rattle.elem.specs.ElementValue.{ElementValue}
use Rattle.board_tables.proofs.rows.find_place.Given as goal

-- the ids from the index on are greater
abbrev pub invariant-loop-i : goal.invariant-loop-i
invariant-loop-i l = record {
  within : l.i ≤ vec_len l.elements;
  greater : All (λ (e : ElementValue). bytes_less l.id e.id ≡ true) (drop l.i l.elements.items);
}

abbrev pub decreases-loop-i : goal.decreases-loop-i
decreases-loop-i l = l.i
