-- A whole talk: each line of an input is answered, as long as there is memory for it. This
-- project's own.
use Rattle.std.specs.Prelude.{◌≡◌, ◌⊎◌, ℕ, ◌≤◌, List, ◌∷◌, [], ◌++◌, length, take, codes, Option, None}
use Rattle.board_ends.specs.Ends.{SinkEnd, Took}
use Rattle.input_texts.specs.Answering.{AreAnswered, output_line, output_of}
use Rattle.line_replica.specs.Living.{Living}
use Rattle.line_replica.specs.Talks.{Answers}

-- what a line is answered with where memory is wanting
abbrev pub memory_text : List ℕ
memory_text = codes "{\"memory\":true}"

-- Before the first of these lines nothing is opened, and they are answered with these texts.
abbrev pub AreTold : List (List ℕ) → List (List ℕ) → Type 0
AreTold lines texts =
    (after : Option Living) × AreAnswered Answers memory_text None lines texts after

-- These are the lines and their answers but for some, each of which was answered so that memory was
-- wanting.
abbrev pub AreThoseAnswered : List (List ℕ) → List (List ℕ) → List (List ℕ) → List (List ℕ)
    → Type 0
AreThoseAnswered [] [] left answers = (left ≡ []) × (answers ≡ [])
AreThoseAnswered [] (text ∷ texts) left answers = ⊥
AreThoseAnswered (line ∷ lines) [] left answers = ⊥
AreThoseAnswered (line ∷ lines) (text ∷ texts) left answers =
    ((text ≡ memory_text) × AreThoseAnswered lines texts left answers)
    ⊎ ((others behind : List (List ℕ)) × (left ≡ line ∷ others) × (answers ≡ text ∷ behind)
    × AreThoseAnswered lines texts others behind)

-- A sink took the answers to the lines, each with a line feed behind it.
pub record HasTalked (old new : SinkEnd) (lines : List (List ℕ)) : Type 0 where
  pub texts : List (List ℕ)
  pub taken : Took old new (output_of texts)
  pub told : AreTold lines texts

-- A sink took the answers to a first part of the lines, and of the last of these answers a first
-- part.
pub record HasTalkedInPart (old new : SinkEnd) (lines : List (List ℕ)) : Type 0 where
  pub front : List (List ℕ)
  pub line : List ℕ
  pub behind : List (List ℕ)
  pub parts : lines ≡ front ++ line ∷ behind
  pub texts : List (List ℕ)
  pub text : List ℕ
  pub cut : ℕ
  pub within : cut ≤ length (output_line text)
  pub taken : Took old new (output_of texts ++ take cut (output_line text))
  pub told : AreTold (front ++ line ∷ []) (texts ++ text ∷ [])
