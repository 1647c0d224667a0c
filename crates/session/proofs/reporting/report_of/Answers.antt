use Rattle.std.proofs.Common.{[], ◌++◌, length, ap, ◌∙◌, subst}
use Rattle.session.specs.Clashes.{HaveClashes}
use Rattle.session.proofs.ClashLaws.{flat}
use Rattle.session.proofs.reporting.report_of.Goals as goal

pub returns : goal.returns
returns c = λ w stands. record {
  replicas = c.in_ok-replicas_of.ensures w.seats stands.seats;
  messages = c.len.ensures ∙ c.args.world.messages.ok.0 ∙ ap length stands.messages;
  refused = c.from_vec.ensures ∙ stands.refused;
  clashes = subst (λ es. HaveClashes [] es c.in_ok-clashes.clashes) (λ i. c.opening_elements.ensures i
      ++ flat (stands.messages i)) c.in_ok-clashes.ensures;
}
