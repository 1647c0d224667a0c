-- The members are whole in an order of theirs, or restored as a list.
use Rattle.std.proofs.Common.{rules}
use Rattle.std.proofs.lemmas.List.Sorted.{All-permutation}
use Rattle.json_text.specs.Members.{pairs}
use Rattle.json_text.specs.Value.{IsCompact}
use Rattle.json_text.specs.declared.text.Member.{Member}
use Rattle.restore_table.specs.inner.Merged.{IsWhole}
use Rattle.restore_table.proofs.RestoredLaws.{moved-distinct, restored-moved, restored-whole}
use Rattle.restore_table.proofs.restoring.into_restored.Goals as goal

pub returns-then-branch-clause-restored : goal.returns-then-branch-clause-restored
returns-then-branch-clause-restored c =
    let ns = c.are_whole_in_order.new.members in
    let whole : IsWhole (pairs ns) = search rules in
    restored-whole c.args.members ns c.requires c.in_ok-are_whole_in_order.ensures.moved whole

pub returns-then-branch-clause-nests : goal.returns-then-branch-clause-nests
returns-then-branch-clause-nests c = λ limit wide each.
    All-permutation (λ (m : Member). IsCompact limit m.value) c.args.members c.are_whole_in_order.new.members
    c.in_ok-are_whole_in_order.ensures.moved each

pub restored-requires : goal.restored-requires
restored-requires c =
    rw c.in_ok-into_list.ensures
    (moved-distinct c.args.members c.are_whole_in_order.new.members c.requires
    c.in_ok-are_whole_in_order.ensures.moved)

pub returns-clause-restored : goal.returns-clause-restored
returns-clause-restored c =
    let ns = c.are_whole_in_order.new.members in
    rw c.apart.ensures
    (restored-moved c.args.members ns (pairs c.in_ok-restored.field-0) c.requires
    c.in_ok-are_whole_in_order.ensures.moved (rw c.in_ok-into_list.ensures at c.in_ok-restored.ensures.restored))

pub returns-clause-nests : goal.returns-clause-nests
returns-clause-nests c = λ limit wide each.
    let ns = c.are_whole_in_order.new.members in
    rw c.apart.ensures
    (c.in_ok-restored.ensures.nests limit wide (rw c.in_ok-into_list.ensures
    (All-permutation (λ (m : Member). IsCompact limit m.value) c.args.members ns
    c.in_ok-are_whole_in_order.ensures.moved each)))
