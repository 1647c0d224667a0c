-- What the texts that commands answer with are answered with themselves. This project's own.
use Rattle.std.specs.Prelude.{◌↔◌, ℕ, List, [], ◌∷◌, Ok}
use Rattle.std.specs.List.{concat}
use Rattle.scene_file.specs.declared.layout.Layout.{Layout}
use Rattle.commands.specs.Answers.{IsAnswer}
use Rattle.commands.specs.declared.words.ProgramCommand.{ProgramCommand}
use Rattle.commands.specs.declared.words.ProgramCommand.TheVariants.{Restore, Merge, State, Pictures, Replay, Recover, Paste, Library, Insert, Check}

-- What was restored, in whatever layout, is restored to the texts that the input is restored to:
-- nothing is restored twice.
abbrev pub RestoresOnce : Type 0
RestoresOnce =
    (first layout : Layout) (bytes text other : List ℕ) → IsAnswer (Restore first) bytes (Ok text)
    → IsAnswer (Restore layout) text (Ok other) ↔ IsAnswer (Restore layout) bytes (Ok other)

-- What was merged, in whatever layout, is restored to the texts that the input is merged to.
abbrev pub RestoresMerges : Type 0
RestoresMerges =
    (first layout : Layout) (bytes text other : List ℕ) → IsAnswer (Merge first) bytes (Ok text)
    → IsAnswer (Restore layout) text (Ok other) ↔ IsAnswer (Merge layout) bytes (Ok other)

-- a command that takes any number of scenes
abbrev pub TakesScenes : ProgramCommand → Type 0
TakesScenes (Restore layout) = ⊥
TakesScenes (Merge layout) = Unit {0}
TakesScenes State = Unit {0}
TakesScenes Pictures = Unit {0}
TakesScenes Replay = ⊥
TakesScenes (Recover form) = ⊥
TakesScenes (Paste prefix) = ⊥
TakesScenes Library = ⊥
TakesScenes (Insert insertion) = ⊥
TakesScenes Check = ⊥

-- Each text is what the command answers the input at its place with.
abbrev pub AreAnswers : ProgramCommand → List (List ℕ) → List (List ℕ) → Type 0
AreAnswers command [] [] = Unit {0}
AreAnswers command [] (text ∷ texts) = ⊥
AreAnswers command (input ∷ inputs) [] = ⊥
AreAnswers command (input ∷ inputs) (text ∷ texts) =
    IsAnswer command input (Ok text) × AreAnswers command inputs texts

-- The states of inputs stand for these: a merge, and each other command over scenes, is resumed
-- from them.
abbrev pub StatesStandFor : Type 0
StatesStandFor =
    (command : ProgramCommand) (inputs states : List (List ℕ)) (text : List ℕ) → TakesScenes command
    → AreAnswers State inputs states
    → IsAnswer command (concat states) (Ok text) ↔ IsAnswer command (concat inputs) (Ok text)
