use Rattle.std.proofs.Common.{refl, sym, subst}
use Rattle.commands.specs.inner.Readers.{AreJoined, HeadsSoFar}
use Rattle.commands.proofs.Joining.{joined-head}
use Rattle.commands.proofs.heads.Heads.finish.Goals as goal

pub returns : goal.returns
returns c =
    let so_far : HeadsSoFar =
    record { source = c.self.inside.source; settings = c.self.inside.settings; files = c.self.inside.files } in
    λ heads are. joined-head heads so_far _ c.text_of.ensures c.in_ok-app_state.ensures.exact refl
    (subst (AreJoined heads) (sym c.self.view_is) are)
