-- The frame that is first is the first of the list.
use Rattle.std.proofs.Common.{◌∙◌, sym, ap, cond, drop}
use Rattle.ws_links.specs.inner.Leaving.{first_of}
use Rattle.ws_links.proofs.Left.{first-made, none-made}
use Rattle.ws_links.proofs.outbox.Outbox.first.Goals as goal

pub returns-in-Some : goal.returns-in-Some
returns-in-Some c =
    c.rest_of.ensures
    ∙ ap (drop c.self.inside.left)
    (sym (first-made (λ f. f.value.items) c.self.inside.frames.items c.in-Some.frame.now
    c.in-Some.ensures.item.3.0 c.in-Some.ensures.lookup))
    ∙ ap (λ view. drop view.begun (first_of view.frames)) c.self.view_is
    ∙ ap (λ b. cond b c.args.self.now.replies.bytes (drop c.args.self.now.begun (first_of c.args.self.now.frames)))
    c.if-has_reply_first.ensures

pub returns-in-None : goal.returns-in-None
returns-in-None c =
    none-made (λ f. f.value.items) c.self.inside.frames.items c.self.inside.left c.in-None.ensures.item.3
    ∙ ap (λ view. drop view.begun (first_of view.frames)) c.self.view_is
    ∙ ap (λ b. cond b c.args.self.now.replies.bytes (drop c.args.self.now.begun (first_of c.args.self.now.frames)))
    c.if-has_reply_first.ensures
