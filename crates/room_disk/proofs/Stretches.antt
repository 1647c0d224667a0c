-- A stretch of a stream up to a line feed, or without one.
use Rattle.std.proofs.Common.{◌≡◌, ℕ, List, [], ◌∷◌, ◌++◌, flat_map, sym, ap, ap₂, ◌∙◌, subst}
use Rattle.input_texts.specs.Lines.{AreLines, begun_of, lines_of}
use Rattle.room_disk.specs.Recovering.{HasNoRecord}
use Rattle.room_disk.specs.inner.UnderWay.{IsReadTo, StandsIn}
use Rattle.room_disk.specs.declared.recovery.Recovery.{Recovery}
use Rattle.input_texts.proofs.CallerLemmas.{NoFeed, stretch-lines, stretch-begun, ended-lines, ended-begun}

-- where the stream stands behind them
pub stands-on : (stream begun front : List ℕ) (recovery : Recovery) → NoFeed front → StandsIn stream begun recovery
    → StandsIn (stream ++ front) (begun ++ front) recovery
stands-on stream begun front recovery none stands = record {
  read = subst (λ ls. IsReadTo ls recovery) (sym (stretch-lines stream front none)) stands.read;
  begun_is = ap (λ b. b ++ front) stands.begun_is ∙ sym (stretch-begun stream front none);
}

pub stands-behind : (stream begun front : List ℕ) (old new : Recovery) → NoFeed front
    → ((lines : List (List ℕ)) → IsReadTo lines old → IsReadTo (lines ++ ((begun ++ front) ++ 10 ∷ []) ∷ []) new)
    → StandsIn stream begun old → StandsIn (stream ++ (front ++ 10 ∷ [])) [] new
stands-behind stream begun front old new none taken stands = record {
  read = subst (λ ls. IsReadTo ls new) (ap (λ b. lines_of stream ++ ((b ++ front) ++ 10 ∷ []) ∷ []) stands.begun_is
      ∙ sym (ended-lines stream front none)) (taken (lines_of stream) stands.read);
  begun_is = sym (ended-begun stream front none);
}

-- ---- bytes without a line
pub begun-alone : (bytes begun : List ℕ) → begun ≡ begun_of bytes → (begun ≡ [] → ⊥) → lines_of bytes ≡ []
    → HasNoRecord bytes
begun-alone bytes begun is some none = record { some = λ e. some (is ∙ ap begun_of e); unended = none }

pub none-begun : (bytes begun : List ℕ) → AreLines bytes (lines_of bytes) (begun_of bytes) → begun ≡ begun_of bytes
    → begun ≡ [] → HasNoRecord bytes → ⊥
none-begun bytes begun lines is none has =
    has.some (lines.parts ∙ ap₂ (λ (ls : List (List ℕ)) (b : List ℕ). flat_map (λ (line : List ℕ). line) ls ++ b)
    has.unended (sym is ∙ none))
