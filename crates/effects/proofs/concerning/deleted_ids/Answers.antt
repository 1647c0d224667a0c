-- What isn't among the ids is none that is deleted or may be unsettled.
use Rattle.std.proofs.Common.{◌||◌, sym, ap, ◌∙◌}
use Rattle.effects.proofs.ConcerningLaws.{has, within-not}
use Rattle.effects.proofs.concerning.deleted_ids.Goals as goal

pub returns-clause-own : goal.returns-clause-own
returns-clause-own c = λ id out.
    ap (λ b. has c.args.lookup.now.unsettled.now id || b) (sym (c.in_ok-all.ensures id))
    ∙ sym (c.in_ok-add_set.ensures id)
    ∙ within-not c.add_set.new.ids c.add_linked.new.all id c.in_ok-add_linked.ensures.kept out
