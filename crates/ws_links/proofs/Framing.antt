-- What is written of a text is its frame, and the text stands at its end.
use Rattle.std.proofs.Common.{◌≡◌, ◌-◌, ℕ, Bool, true, false, cond, List, [], ◌++◌, length, drop, None, Some, Option}
use Rattle.std.proofs.Common.{◌∙◌, refl, ap, subst, true≢false, append-nil, length-append, arith}
use Rattle.tungstenite.proofs.SocketLemmas.{conn-eta}
use Rattle.std.proofs.Math.Seq.{drop-append_seam}
use Rattle.websocket.specs.declared.protocol.config.Role.TheVariants.{Server}
use Rattle.websocket.specs.declared.protocol.config.WebSocketConfig.{WebSocketConfig}
use Rattle.websocket.specs.declared.protocol.state.WebSocketState.TheVariants.{Active}
use Rattle.websocket.specs.declared.protocol.frame.coding.OpCode.{OpCode}
use Rattle.websocket.specs.Connection.{Connection, Outgoing, IsMaskOf, Sends, whole_header, write_step}
use Rattle.websocket.specs.Content.{Content, text, binary, content_opcode}
use Rattle.websocket.specs.Frame.{encode_frame}
use Rattle.websocket.specs.FrameHeader.{encode_header}
use Rattle.websocket.specs.Text.{is_utf8}
use Rattle.websocket.specs.View.{Leaves}
use Rattle.tungstenite.specs.Socket.{Socket, IsFresh}
use Rattle.ws_links.specs.inner.Texts.{content_of_text, frame_of_text}

-- a server masks nothing
unmasked : (op : OpCode) (bytes out : List ℕ) (mask : Option (List ℕ)) → IsMaskOf Server mask
    → out ≡ [] ++ encode_frame (whole_header op mask) bytes → out ≡ encode_frame (whole_header op None) bytes
unmasked op bytes out None is e = e
unmasked op bytes out (Some key) is e = absurd (true≢false is.0)

-- what a server wrote of a whole message
sent : (op : OpCode) (bytes out : List ℕ) → Sends Server (Some (record { opcode = op; payload = bytes })) [] out
    → out ≡ encode_frame (whole_header op None) bytes
sent op bytes out s = unmasked op bytes out s.0 s.1 s.2

-- the frame of a message
abbrev whole : Content → List ℕ → Outgoing
whole content bytes = record { opcode = content_opcode content; payload = bytes }

by-kind : (is_text : Bool) (config : WebSocketConfig) (after : Connection) (bytes out : List ℕ)
    → Leaves (write_step (record { role = Server; state = Active; config = config; fragments = None })
    (cond is_text (text bytes) (binary bytes))) after [] out
    → out ≡ encode_frame (whole_header (content_opcode (cond is_text (text bytes) (binary bytes))) None) bytes
by-kind true config after bytes out left =
    sent _ bytes out
    (subst (λ conn. Sends conn.role (Some (whole (text bytes) bytes)) [] out) left.0 left.1)
by-kind false config after bytes out left =
    sent _ bytes out
    (subst (λ conn. Sends conn.role (Some (whole (binary bytes) bytes)) [] out) left.0 left.1)

-- what a server's connection, to which nothing happened, sends of a text
pub frame-sent : {S : Type 0} (socket : Socket S) (stream : S) (after : Connection) (content : Content)
    (bytes sent rest : List ℕ) → IsFresh socket stream Server → content ≡ content_of_text bytes → rest ≡ []
    → Leaves (write_step socket.conn content) after socket.output (sent ++ rest) → sent ≡ frame_of_text bytes
unfolding frame_of_text
frame-sent socket stream after content bytes sent rest fresh is-text no-rest left =
    let conn : Connection = record { role = Server; state = Active; config = socket.conn.config; fragments = None } in
    let is-fresh = conn-eta socket.conn conn fresh.has_role fresh.is_active refl refl refl fresh.no_fragments in
    let whole = ap (λ xs. sent ++ xs) no-rest ∙ append-nil sent in
    by-kind (is_utf8 bytes) socket.conn.config after bytes sent
    (subst (λ it. Leaves (write_step it (content_of_text bytes)) after [] sent) is-fresh
    (subst (λ it. Leaves (write_step socket.conn it) after [] sent) is-text
    (subst (λ it. Leaves (write_step socket.conn content) after it sent) fresh.nothing_waits
    (subst (λ it. Leaves (write_step socket.conn content) after socket.output it) whole left))))

tail-of : (xs ys : List ℕ) → drop (length (xs ++ ys) - length ys) (xs ++ ys) ≡ ys
tail-of xs ys =
    let e = length-append xs ys in
    let head : length xs ≡ length (xs ++ ys) - length ys = omega arith in
    subst (λ n. drop n (xs ++ ys) ≡ ys) head (drop-append_seam xs ys)

-- a text stands at the end of its frame
pub text-at-end : (bytes : List ℕ) → drop (length (frame_of_text bytes) - length bytes) (frame_of_text bytes) ≡ bytes
unfolding frame_of_text
text-at-end bytes =
    tail-of (encode_header (whole_header (content_opcode (content_of_text bytes)) None) (length bytes)) bytes
