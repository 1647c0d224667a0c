-- The names rise, so that the lesser ones stand first.
use Rattle.std.proofs.Common.{◌≡◌, true, false, rules}
use Rattle.std.proofs.lemmas.Fn.{always_returns_same}
use Rattle.std.specs.List.Sorted.{IsPartitionPoint}
use Rattle.frac_keys.specs.Keys.{bytes_less}
use Rattle.frac_keys.specs.Rising.{are_rising}
use Rattle.delta.specs.declared.change.Change.{Change}
use Rattle.delta.specs.Facts.{name_of, change_names}
use Rattle.delta.proofs.Placing.{partitioned-rising}
use Rattle.delta.proofs.RestLaws.{All-before, All-behind}
use Rattle.delta.proofs.differing.place_of.Goals as goal

abbrev Less : goal.After-partition_point → Change → Type 0
Less c other = bytes_less (name_of other) (name_of c.args.change.now) ≡ true

abbrev NotLess : goal.After-partition_point → Change → Type 0
NotLess c other = bytes_less (name_of other) (name_of c.args.change.now) ≡ false

parted : (c : goal.After-partition_point) → are_rising (change_names c.args.changes.now) ≡ true
    → IsPartitionPoint (Less c) (NotLess c) c.args.changes.now c.partition_point.result
parted c rise =
    c.partition_point.ensures.partitioned (λ other. bytes_less (name_of other) (name_of c.args.change.now))
    (always_returns_same _ _ _ (λ a r f called. (search rules, search rules)))
    (partitioned-rising name_of (name_of c.args.change.now) c.args.changes.now rise)

pub returns-clause-before : goal.returns-clause-before
returns-clause-before c rise = All-before (Less c) (NotLess c) c.args.changes.now c.partition_point.result
    c.partition_point.ensures.bound (parted c rise)

pub returns-clause-behind : goal.returns-clause-behind
returns-clause-behind c rise = All-behind (Less c) (NotLess c) c.args.changes.now c.partition_point.result
    c.partition_point.ensures.bound (parted c rise)
