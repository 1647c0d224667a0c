-- The members are completed in the order of their names.
use Rattle.std.proofs.Common.{ap, ◌∙◌}
use Rattle.std.proofs.lemmas.List.Sorted.{All-permutation, IsPermutation-map}
use Rattle.json_text.specs.Members.{pairs, pair_of}
use Rattle.json_text.specs.Value.{IsCompact}
use Rattle.json_text.specs.declared.text.Member.{Member}
use Rattle.scene_json.proofs.CallerLemmas.{distinct_moved}
use Rattle.restore_table.proofs.Nesting.{merged-nests}
use Rattle.restore_table.proofs.RestoredLaws.{restored-from}
use Rattle.restore_table.proofs.restoring.restored.Goals as goal

pub returns-clause-restored : goal.returns-clause-restored
returns-clause-restored c =
    let us = c.in_ok-members.members.items in
    let done = c.in_ok-complete.ensures in
    let moved = IsPermutation-map pair_of us done.ordered done.moved in
    let update = c.in_ok-members.ensures.updated in
    restored-from (pairs c.args.members) (pairs us) (pairs done.ordered) (pairs c.from_vec.result) update moved
    (done.rise (distinct_moved (pairs us) (pairs done.ordered) moved update.distinct)) (ap pairs c.from_vec.ensures
    ∙ done.made)

pub returns-clause-nests : goal.returns-clause-nests
returns-clause-nests c = λ limit wide each.
    let done = c.in_ok-complete.ensures in
    merged-nests limit done.ordered c.from_vec.result wide
    (All-permutation (λ (m : Member). IsCompact limit m.value) c.in_ok-members.members.items done.ordered done.moved
    (c.in_ok-members.ensures.nests limit wide each))
    (ap pairs c.from_vec.ensures ∙ done.made)
