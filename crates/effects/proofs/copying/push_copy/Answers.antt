use Rattle.std.proofs.Common.{[], ◌++◌, append-nil, sym, ap, ◌∙◌}
use Rattle.std.specs.List.{cons_option}
use Rattle.effects.proofs.copying.push_copy.Goals as goal

pub returns-in-None : goal.returns-in-None
returns-in-None c =
    sym (ap (λ o. c.args.list.now.items ++ cons_option o []) (sym c.in-None.ensures) ∙ append-nil c.args.list.now.items)
