use Rattle.std.proofs.Common.{◌≡◌, ℕ, zero, suc, ◌+◌, ◌<◌, List, [], ◌∷◌, ◌++◌, length, take, replicate, get_or, arith, subst}
use Rattle.std.proofs.lemmas.List.Sums.{sum_by-append, sum_by-cons}
use Rattle.std.proofs.lemmas.List.Folds.{sum_by-replicate}
use Rattle.board_ends.specs.Events.{OpensAt, OpensFrom, opened_count, opening_of}
use Rattle.board_ends.specs.declared.links.LinkEvent.{LinkEvent}
use Rattle.board_ends.specs.declared.links.LinkEvent.TheVariants.{Idle}

-- The event opens at an equal count.
OpensAt-equal : (event : LinkEvent) (m n : ℕ) → m ≡ n → OpensAt m event → OpensAt n event
OpensAt-equal event m n e opens = subst (λ count. OpensAt count event) e opens

-- Among events whose openings are numbered on from a count, the one at a place goes on from those before it.
OpensFrom-at : (count : ℕ) (events : List LinkEvent) (at : ℕ) (event : LinkEvent) → OpensFrom count events
    → at < length events → event ≡ get_or events at event → OpensAt (count + opened_count (take at events)) event
OpensFrom-at count [] at event opens within is = absurd (omega arith)
OpensFrom-at count (first ∷ events) zero event opens within is =
    let e : count + 0 ≡ count = omega arith in
    rw (e, is) opens.0
OpensFrom-at count (first ∷ events) (suc at) event opens within is =
    OpensAt-equal event _ _ (omega (arith, sum_by-cons opening_of first (take at events)))
    (OpensFrom-at (count + opening_of first) events at event opens.1 (omega arith) is)

-- So does the next event of a script, after the events given and any number of Idles.
pub OpensAt-next : (events : List LinkEvent) (at idles : ℕ) (event : LinkEvent) → OpensFrom 0 events
    → at < length events → event ≡ get_or events at event
    → OpensAt (opened_count (take at events ++ replicate idles Idle)) event
OpensAt-next events at idles event opens within is =
    OpensAt-equal event _ _ (omega (
      arith,
      sum_by-append opening_of (take at events) (replicate idles Idle),
      sum_by-replicate opening_of idles Idle,
    )) (OpensFrom-at 0 events at event opens within is)
