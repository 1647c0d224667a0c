use Rattle.std.proofs.Common.{sym, ap, ◌++◌, ◌∙◌, append-nil, slice_get}
use Rattle.std.specs.List.{filter_map}
use Rattle.effects.proofs.CopiedLaws.{copied-more, picked-places}
use Rattle.effects.proofs.copying.copied_at.Goals as goal

pub loop-i-preserved : goal.loop-i-preserved
loop-i-preserved c =
    copied-more c.args.elements.now c.loop-i.i-iterator c.next.new.self c.in-Some.i.now c.loop-i.list.items
    c.push_copy.new.list.items (filter_map (slice_get c.args.elements.now) c.args.places.now.keys)
    c.in-Some.ensures.steps c.in_ok-push_copy.ensures c.loop-i.invariant

pub returns : goal.returns
returns c = λ ids are.
    c.from_vec.ensures ∙ sym (append-nil c.loop-i.list.items)
    ∙ ap (λ ps. c.loop-i.list.items ++ filter_map (slice_get c.args.elements.now) ps) (sym c.in-None.ensures.steps.0)
    ∙ c.loop-i.invariant
    ∙ picked-places c.args.places.now ids c.args.elements.now are c.into_iter-i-iterator.ensures.into_iter_gives.4
