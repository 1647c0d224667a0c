-- A text is UTF-8 exactly where it was decoded.
use Rattle.std.proofs.Common.{◌≡◌, ◌∙◌, ap, subst, sym, cond}
use Rattle.std.specs.Prelude.{IfOk}
use Rattle.websocket.specs.Content.{text, binary}
use Rattle.websocket.proofs.TextLemmas.{is_utf8-true, is_utf8-false}
use Rattle.tungstenite.specs.Socket.{content_of}
use Rattle.ws_links.proofs.frames.message_of.Goals as goal

pub returns-in-Ok : goal.returns-in-Ok
returns-in-Ok c =
    let carried = ap text c.in-Ok.ensures.cases.0
    ∙ sym (ap (λ b. cond b (text c.args.text.now) (binary c.args.text.now)) (is_utf8-true _ c.in-Ok.ensures.cases.1)) in
    subst (λ content. IfOk c.text.result (λ message. content_of message ≡ content)) carried c.text.ensures

pub returns-in-Err : goal.returns-in-Err
returns-in-Err c =
    let carried =
    sym (ap (λ b. cond b (text c.args.text.now) (binary c.args.text.now)) (is_utf8-false _ c.in-Err.ensures.cases.0)) in
    subst (λ content. IfOk c.binary.result (λ message. content_of message ≡ content)) carried c.binary.ensures
