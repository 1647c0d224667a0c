use Rattle.std.proofs.Common.{◌++◌, ap, ◌∙◌}
use Rattle.json_text.specs.Compact.{object_text}
use Rattle.session.specs.Texts.{refusal_members}
use Rattle.session.proofs.TextLaws.{refusal-written}
use Rattle.session.proofs.text.refusal_text.Goals as goal

pub returns : goal.returns
returns c =
    c.from_vec.ensures
    ∙ refusal-written c.args.why c.new-out.result.items c.push.new.self.items c.push_why.new.out.items
    c.push-2.new.self.items c.in_ok-push.ensures.items c.in_ok-push_why.ensures c.in_ok-push-2.ensures.items
    ∙ ap (λ x. x ++ object_text (refusal_members c.args.why)) c.new-out.ensures.items
