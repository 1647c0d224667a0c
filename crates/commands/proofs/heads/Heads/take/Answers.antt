use Rattle.std.proofs.Common.{◌∙◌, ap₂, sym, subst}
use Rattle.scene_file.specs.Heads.{lesser_source}
use Rattle.commands.specs.inner.Readers.{AreJoined, HeadsSoFar}
use Rattle.commands.proofs.Joining.{joined-more, TakesAll}
use Rattle.commands.proofs.heads.Heads.take.Goals as goal

pub returns : goal.returns
returns c =
    let old : HeadsSoFar =
    record { source = c.self.inside.source; settings = c.self.inside.settings; files = c.self.inside.files } in
    let source = c.lesser_source.ensures ∙ ap₂ lesser_source c.take-source.ensures.value c.in_ok-other.ensures in
    let files = subst (λ members. TakesAll members c.self.inside.files c.take_all-3.new.table)
    c.in_ok-by_id.ensures.exact c.in_ok-take_all-2.ensures in
    rw (← c.head.view_is) (λ heads are. joined-more heads old _ _ source c.in_ok-take_all.ensures files
    (subst (AreJoined heads) (sym c.self.view_is) are))
