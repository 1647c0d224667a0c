-- What was sent is the frame.
use Rattle.std.proofs.Common.{◌∙◌, ◌++◌, ap}
use Rattle.ws_links.proofs.Framing.{frame-sent}
use Rattle.ws_links.proofs.frames.framed.Goals as goal

pub returns-in-Ok : goal.returns-in-Ok
returns-in-Ok c =
    let wrote = c.in-Ok.ensures.wrote in
    let fresh = c.from_raw_socket-socket.ensures.fresh in
    ap (λ stream. stream.writer.items) c.into_inner.ensures
    ∙ wrote.2
    ∙ ap (λ stream. stream.writer.items ++ wrote.0) fresh.on_stream
    ∙ ap (λ items. items ++ wrote.0) c.in_ok-with_capacity.ensures.items
    ∙ frame-sent _ _ _ _ _ _ _ fresh c.in_ok-message.ensures c.in-Ok.ensures.empty wrote.1
