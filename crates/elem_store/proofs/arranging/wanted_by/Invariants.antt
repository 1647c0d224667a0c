use Rattle.std.proofs.Common.{◌≡◌, ℕ, ◌<◌, length, get_or, vec_len}
use Rattle.elem_store.proofs.arranging.wanted_by.Given as goal

-- who wants what is told of the places that were passed, and of no other one
abbrev pub invariant-loop-i : goal.invariant-loop-i
invariant-loop-i l = record {
  count : vec_len l.wanted_by ≡ l.count;
  by : (k : ℕ) → k < l.i → get_or l.wanted_by.items (get_or l.places.items k 0) 0 ≡ k;
  place : (p : ℕ) → p < l.count → get_or l.wanted_by.items p 0 < length l.places.items
      → get_or l.places.items (get_or l.wanted_by.items p 0) 0 ≡ p;
}
