use Rattle.std.proofs.Common.{◌∙◌}
use Rattle.view.proofs.ShownLaws.{keyed-distinct}
use Rattle.view.proofs.view.keyed_of.Goals as goal

pub returns-clause-distinct : goal.returns-clause-distinct
returns-clause-distinct c =
    rw (c.from_vec.ensures ∙ c.in_ok-with_repaired_keys.ensures.exact)
    (keyed-distinct c.args.elements.items c.requires c.in_ok-with_repaired_keys.ensures.old_keys)
