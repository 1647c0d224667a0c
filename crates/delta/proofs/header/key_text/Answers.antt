-- A key is a text.
use Rattle.std.proofs.Common.{rules}
use Rattle.elem.proofs.CallerLemmas.{IsUtf8-key}
use Rattle.delta.proofs.header.key_text.Goals as goal

pub unwrap-requires : goal.unwrap-requires
unwrap-requires c = let utf8 = IsUtf8-key _ c.as_bytes.ensures.key in search rules
