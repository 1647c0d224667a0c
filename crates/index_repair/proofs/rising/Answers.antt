use Rattle.std.proofs.Common.{rules}
use Rattle.std.proofs.lemmas.List.Sorted.{answers_always}
use Rattle.frac_keys.specs.Keys.{bytes_less}
use Rattle.index_repair.proofs.RepairLaws.{are_rising-neighbours}
use Rattle.index_repair.proofs.rising.Goals as goal

pub returns : goal.returns
returns c =
    rw (← c.as_slice.ensures)
    (are_rising-neighbours c.as_slice.result.now c.is_sorted_by.result
    (c.is_sorted_by.ensures.cases bytes_less (answers_always _ _ _ (λ f a r g k. search rules))))
