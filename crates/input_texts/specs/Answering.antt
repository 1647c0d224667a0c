-- Lines that are answered, one after the other. This project's own.
use Rattle.std.specs.Prelude.{◌≡◌, ◌⊎◌, ℕ, ◌≤◌, List, [], ◌∷◌, ◌++◌, length, take, flat_map}
use Rattle.board_ends.specs.Ends.{SinkEnd, Took}

-- a line of output: the answer and a line feed
abbrev pub output_line : List ℕ → List ℕ
output_line text = text ++ 10 ∷ []

abbrev pub output_of : List (List ℕ) → List ℕ
output_of texts = flat_map output_line texts

-- The line's answer is this one, and changes the state so; or memory was wanting, the answer says
-- so, and the state is as before.
abbrev pub IsAnswered : {State : Type 0} → (State → List ℕ → List ℕ → State → Type 0) → List ℕ
    → State → List ℕ
    → List ℕ → State → Type 0
IsAnswered answers lost state line text next =
    answers state line text next ⊎ ((text ≡ lost) × (next ≡ state))

-- Each of the lines has one answer, in their order, and this is the state behind them all.
abbrev pub AreAnswered : {State : Type 0} → (State → List ℕ → List ℕ → State → Type 0) → List ℕ
    → State
    → List (List ℕ) → List (List ℕ) → State → Type 0
AreAnswered answers lost state [] [] last = last ≡ state
AreAnswered answers lost state [] (text ∷ texts) last = ⊥
AreAnswered answers lost state (line ∷ lines) [] last = ⊥
AreAnswered {State} answers lost state (line ∷ lines) (text ∷ texts) last =
    (next : State) × IsAnswered answers lost state line text next
    × AreAnswered answers lost next lines texts last

-- The lines were answered with these texts: whichever state is stood for before them, one is stood
-- for behind them that they lead to.
abbrev pub Lead : {State : Type 0} → (State → List ℕ → List ℕ → State → Type 0) → List ℕ
    → (State → Type 0)
    → (State → Type 0) → List (List ℕ) → List (List ℕ) → Type 0
Lead {State} answers lost before after lines texts = (state : State) → before state
    → (next : State) × after next × AreAnswered answers lost state lines texts next

-- The lines were answered, and a sink took all answers, each with a line feed behind it.
pub record WereAnswered {State : Type 0} (answers : State → List ℕ → List ℕ → State
    → Type 0) (lost : List ℕ)
    (before after : State → Type 0) (old new : SinkEnd) (lines : List (List ℕ)) : Type 0 where
  pub texts : List (List ℕ)
  pub taken : Took old new (output_of texts)
  pub lead : Lead answers lost before after lines texts

-- A first part of the lines was answered, and a sink took all answers to them but of the last one,
-- of which it took a first part.
pub record WereAnsweredInPart {State : Type 0} (answers : State → List ℕ → List ℕ → State
    → Type 0) (lost : List ℕ)
    (before after : State → Type 0) (old new : SinkEnd) (lines : List (List ℕ)) : Type 0 where
  pub front : List (List ℕ)
  pub line : List ℕ
  pub behind : List (List ℕ)
  pub parts : lines ≡ front ++ line ∷ behind
  pub texts : List (List ℕ)
  pub text : List ℕ
  pub cut : ℕ
  pub within : cut ≤ length (output_line text)
  pub taken : Took old new (output_of texts ++ take cut (output_line text))
  pub lead : Lead answers lost before after (front ++ line ∷ []) (texts ++ text ∷ [])
