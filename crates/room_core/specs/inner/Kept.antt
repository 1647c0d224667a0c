-- Texts that a room keeps. This project's own.
-- Only this crate's own bodies and proofs need it.
use Rattle.std.specs.Prelude.{◌≡◌, ℕ, List, Option, IfSome}
use Rattle.elem.specs.ElementValue.{ElementValue}
use Rattle.room_msg.specs.Texts.{message_text}
use Rattle.room_msg.specs.declared.message.Message.TheVariants.{Init}
use Rattle.room_core.specs.declared.told_text.Held.{Held}
use Rattle.room_core.specs.declared.told_text.Held.TheVariants.{Alone, Shared}

-- the bytes of a text that is told
abbrev pub bytes_of : Held → List ℕ
bytes_of (Alone bytes) = bytes
bytes_of (Shared bytes) = bytes

-- If a text is kept, it is the one with all stored elements.
abbrev pub IsInit : Option (List ℕ) → List ElementValue → Type 0
IsInit kept elements = IfSome kept (λ text. text ≡ message_text (Init elements))
