-- The names rise, so that the lesser ones stand first.
use Rattle.std.proofs.Common.{rules}
use Rattle.std.proofs.lemmas.Fn.{always_returns_same}
use Rattle.std.specs.List.Sorted.{IsPartitionPoint}
use Rattle.std.proofs.Common.{◌≡◌, true, false}
use Rattle.json_text.specs.declared.text.Member.{Member}
use Rattle.frac_keys.specs.Keys.{bytes_less}
use Rattle.delta.proofs.RestLaws.{risen, partitioned, All-before, All-behind}
use Rattle.delta.proofs.rest.place_of.Goals as goal

abbrev Less : goal.After-partition_point → Member → Type 0
Less c m = bytes_less m.name c.args.name.now ≡ true

abbrev NotLess : goal.After-partition_point → Member → Type 0
NotLess c m = bytes_less m.name c.args.name.now ≡ false

parted : (c : goal.After-partition_point)
    → IsPartitionPoint (λ (m : Member). bytes_less m.name c.args.name.now ≡ true)
    (λ (m : Member). bytes_less m.name c.args.name.now ≡ false) c.args.members.now c.partition_point.result
parted c =
    c.partition_point.ensures.partitioned (λ (m : Member). bytes_less m.name c.args.name.now)
    (always_returns_same _ _ _ (λ a r f called. (search rules, search rules)))
    (partitioned c.args.name.now c.args.members.now (risen c.args.members.now c.requires))

pub returns-clause-before : goal.returns-clause-before
returns-clause-before c = All-before (Less c) (NotLess c) c.args.members.now c.partition_point.result
    c.partition_point.ensures.bound (parted c)

pub returns-clause-behind : goal.returns-clause-behind
returns-clause-behind c = All-behind (Less c) (NotLess c) c.args.members.now c.partition_point.result
    c.partition_point.ensures.bound (parted c)
