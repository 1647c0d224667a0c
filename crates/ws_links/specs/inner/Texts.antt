-- What is sent of a text.
use Rattle.std.specs.Prelude.{ℕ, cond, List, None}
use Rattle.tungstenite.specs.Connection.{whole_header}
use Rattle.tungstenite.specs.Content.{Content, text, binary, content_opcode}
use Rattle.tungstenite.specs.Frame.{encode_frame}
use Rattle.tungstenite.specs.Text.{is_utf8}

-- a text is sent as text where it is UTF-8, else as a binary message
abbrev pub content_of_text : List ℕ → Content
content_of_text bytes = cond (is_utf8 bytes) (text bytes) (binary bytes)

-- the one frame of a server that carries a text: whole, not masked (RFC 6455, sections 5.2, 5.6)
unfoldable pub frame_of_text : List ℕ → List ℕ
frame_of_text bytes =
    encode_frame (whole_header (content_opcode (content_of_text bytes)) None) bytes
