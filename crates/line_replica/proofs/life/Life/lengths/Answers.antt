use Rattle.std.proofs.Common.{sym, ◌∙◌, subst}
use Rattle.session.proofs.CallerLemmas.{stack-long}
use Rattle.line_replica.specs.Living.{lengths_text}
use Rattle.line_replica.specs.Standing.{Held, LifeStandsFor}
use Rattle.line_replica.proofs.life.Life.lengths.Goals as goal

pub returns : goal.returns
returns c = λ l stands.
    let own = subst (λ (h : Held). LifeStandsFor h l) (sym c.self.view_is) stands in
    let stacks = c.self.inside.replica.stacks in
    let undo = c.undo_len.ensures ∙ stack-long stacks.undo l.seat.state.undo own.replica.undo in
    let redo = c.redo_len.ensures ∙ stack-long stacks.redo l.seat.state.redo own.replica.redo in
    c.in_ok-text.ensures ∙ (λ i. lengths_text (undo i) (redo i))
