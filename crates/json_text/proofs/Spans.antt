-- Parts of parts.
use Rattle.std.proofs.Common.{◌≡◌, ◌≤◌, ◌<◌, ℕ, ◌+◌, ◌-◌, List, drop, length, arith, drop-drop, length-drop}
use Rattle.std.proofs.lemmas.List.{drop-take, take-take, length-take}
use Rattle.json_text.specs.inner.Spans.{between, StandsQuoted}

-- the part of a part
pub between_between : (bytes : List ℕ) (start end low high : ℕ) → low ≤ high → high ≤ length (between bytes start end)
    → between (between bytes start end) low high ≡ between bytes (start + low) (start + high)
between_between bytes start end low high rises within =
    let fits : high ≤ end - start = omega (arith, length-take (end - start) (drop start bytes)) in
    let same : start + high - (start + low) ≡ high - low = omega arith in
    let split : end - start ≡ low + (end - start - low) = omega arith in
    rw (same, split, drop-take, drop-drop) (take-take (high - low) (end - start - low) (drop (start + low) bytes)
    (omega arith))

-- what is quoted in a part is quoted in the whole
pub quoted_between : (bytes : List ℕ) (start end low high : ℕ) → StandsQuoted (between bytes start end) low high
    → StandsQuoted bytes (start + low) (start + high)
quoted_between bytes start end low high q =
    let before : start + low - 1 ≡ start + (low - 1) = omega (arith, q.begun) in
    let behind : start + high + 1 ≡ start + (high + 1) = omega arith in
    let fits : high < length bytes - start =
    omega (arith, q.within, length-take (end - start) (drop start bytes), length-drop start bytes) in
    record {
      begun = omega (arith, q.begun);
      rises = omega (arith, q.rises);
      within = omega arith;
      same = rw (
        before,
        behind,
        ← between_between bytes start end (low - 1) (high + 1) (omega (arith, q.rises))
            (omega (arith, q.within)),
        ← between_between bytes start end low high q.rises (omega (arith, q.within)),
      )
          q.same;
    }
