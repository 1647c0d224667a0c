-- Each item that is gained and isn't there yet comes behind those before it.
use Rattle.std.proofs.Common.{◌≤◌, filter, length, take_all, ap, ◌∙◌, arith}
use Rattle.json_text.specs.FirstOccurrences.{first_occurrences}
use Rattle.delta.specs.Joined.{is_gained}
use Rattle.delta.proofs.JoinLaws.{gained-more}
use Rattle.delta.proofs.join.gained.Goals as goal

pub loop-item-preserved : goal.loop-item-preserved
loop-item-preserved g c =
    gained-more g.T.Item.same g.met.T.Item.exact (is_gained g.T.Item.same c.args.before.now c.args.now.now)
    c.as_slice-item-items.result.now c.loop-item.item-index c.item-item.result
    c.loop-item.items.items c.gain.new.items.items (omega arith) (cc) c.loop-item.invariant c.in_ok-gain.ensures

pub returns : goal.returns
returns g c =
    let all : length c.as_slice-item-items.result.now ≤ c.loop-item.item-index = omega arith in
    rw take_all at c.loop-item.invariant
    ∙ ap (λ xs. first_occurrences g.T.Item.same (filter (is_gained g.T.Item.same c.args.before.now c.args.now.now)
    xs)) c.as_slice-item-items.ensures
