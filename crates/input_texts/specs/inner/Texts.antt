-- The texts of an input that comes in pieces. This project's own.
-- Only this crate's own bodies and proofs need it.
use Rattle.std.specs.Prelude.{◌≡◌, ℕ, ◌+◌, List, [], ◌++◌, true, Option, None, Some, drop}
use Rattle.json_reader.specs.Feeding.{Feeding, IsAt}
use Rattle.input_texts.specs.declared.reading.Stopped.{Stopped}
use Rattle.input_texts.specs.Texts.{Reading, TextsLead, IsStopped}

-- The feed stands in the stream, of which so much is left, behind texts that lead up to there
-- whatever follows; the reader has read these. Behind the last text that it takes nothing but white
-- space was used.
pub record IsLed {F : Type 0} (stream left : List ℕ) (feed : Feeding)
    (reader : Reading F) : Type 0 where
  pub texts : List (List ℕ)
  pub read : reader.has_read texts
  pub start : ℕ
  pub at : IsAt stream start left feed
  pub lead : (more : List ℕ) → TextsLead (stream ++ more) texts (drop start stream ++ more)
  pub skipped : reader.is_full ≡ true → feed.rest ≡ []

-- The texts of the stream so far, of which so much is left: the reader has read those that have
-- ended; or what stopped it, whatever follows.
abbrev pub StandsIn : {F : Type 0} → List ℕ → List ℕ → Feeding → Reading F → Option (Stopped F)
    → Type 0
StandsIn stream left feed reader None = IsLed stream left feed reader
StandsIn stream left feed reader (Some stopped) =
    (more : List ℕ) → IsStopped (stream ++ more) reader stopped
