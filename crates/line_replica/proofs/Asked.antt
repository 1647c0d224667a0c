-- A whole talk.
use Rattle.std.proofs.Common.{◌≡◌, ◌≢◌, ℕ, List, [], ◌∷◌, Option, None, inl, inr, refl, sym, subst}
use Rattle.std.specs.List.{AllByRecursion}
use Rattle.board_ends.specs.Ends.{SinkEnd}
use Rattle.input_texts.specs.Answering.{AreAnswered, WereAnswered, WereAnsweredInPart}
use Rattle.line_replica.specs.Asking.{memory_text, AreThoseAnswered, AreTold, HasTalked, HasTalkedInPart}
use Rattle.line_replica.specs.Living.{Living}
use Rattle.line_replica.specs.Standing.{Held, TalkStandsFor}
use Rattle.line_replica.specs.Talks.{Answers, AnswersAll}

at-first : (talk : Option Held) → talk ≡ None → TalkStandsFor talk None
at-first talk none = subst (λ (t : Option Held). TalkStandsFor t None) (sym none) tt

-- what was answered from the first line on
pub talked : (talk after : Option Held) (old new : SinkEnd) (lines : List (List ℕ)) → talk ≡ None
    → WereAnswered Answers memory_text (TalkStandsFor talk) (TalkStandsFor after) old new lines
    → HasTalked old new lines
talked talk after old new lines none were =
    let there = were.lead None (at-first talk none) in
    record { texts = were.texts; taken = were.taken; told = (there.0, there.2) }

pub talked-in-part : (talk after : Option Held) (old new : SinkEnd) (lines : List (List ℕ)) → talk ≡ None
    → WereAnsweredInPart Answers memory_text (TalkStandsFor talk) (TalkStandsFor after) old new lines
    → HasTalkedInPart old new lines
talked-in-part talk after old new lines none part =
    let there = part.lead None (at-first talk none) in
    record {
      front = part.front;
      line = part.line;
      behind = part.behind;
      parts = part.parts;
      texts = part.texts;
      text = part.text;
      cut = part.cut;
      within = part.within;
      taken = part.taken;
      told = (there.0, there.2);
    }

-- ---- where no answer tells of wanting memory
all-answered : (first last : Option Living) (lines texts : List (List ℕ))
    → AllByRecursion (λ text. text ≢ memory_text) texts → AreAnswered Answers memory_text first lines texts last
    → AnswersAll first lines texts last
all-answered first last [] [] none are = (refl, are)
all-answered first last [] (text ∷ texts) none are = absurd are
all-answered first last (line ∷ lines) [] none are = absurd are
all-answered first last (line ∷ lines) (text ∷ texts) none (middle, is, rest) = elim is [
  | inl answers ↦ (middle, answers, all-answered middle last lines texts none.1 rest)
  | inr lost ↦ absurd (none.0 lost.0)
]

pub told-answered : (lines texts : List (List ℕ)) → AreTold lines texts
    → AllByRecursion (λ text. text ≢ memory_text) texts → (after : Option Living) × AnswersAll None lines texts after
told-answered lines texts told none = (told.0, all-answered None told.0 lines texts none told.1)

-- ---- without the lines for which memory was wanting
abbrev Answered : Option Living → List (List ℕ) → List (List ℕ) → Option Living → Type 0
Answered first lines texts last = (left answers : List (List ℕ)) × AreThoseAnswered lines texts left answers
    × AnswersAll first left answers last

those-answered : (first last : Option Living) (lines texts : List (List ℕ))
    → AreAnswered Answers memory_text first lines texts last → Answered first lines texts last
those-answered first last [] [] are = ([], [], (refl, refl), (refl, are))
those-answered first last [] (text ∷ texts) are = absurd are
those-answered first last (line ∷ lines) [] are = absurd are
those-answered first last (line ∷ lines) (text ∷ texts) (next, is, rest) = elim is [
  | inl answers ↦
      let more = those-answered next last lines texts rest in
      (line ∷ more.0, text ∷ more.1, inr (more.0, more.1, refl, refl, more.2), (next, answers, more.3))
  | inr lost ↦
      let more =
      those-answered first last lines texts (subst (λ (x : Option Living). AreAnswered Answers memory_text x lines texts
      last) lost.1 rest) in
      (more.0, more.1, inl (lost.0, more.2), more.3)
]

pub told-those-answered : (lines texts : List (List ℕ)) → AreTold lines texts
    → (left answers : List (List ℕ)) × (after : Option Living)
    × AreThoseAnswered lines texts left answers × AnswersAll None left answers after
told-those-answered lines texts told =
    let those = those-answered None told.0 lines texts told.1 in (those.0, those.1, told.0, those.2, those.3)
