-- Lines that are answered, stretch after stretch.
use Rattle.std.proofs.Common.{◌≡◌, ℕ, ◌+◌, ◌≤◌, List, [], ◌∷◌, ◌++◌, length, take, Option, None, Some, refl, sym, ap, ◌∙◌, subst, inl, inr, arith, append_assoc, append-nil, length-append}
use Rattle.std.specs.Option.{option_map}
use Rattle.std.proofs.Math.Seq.{take-append-add}
use Rattle.std.proofs.lemmas.List.{take-append-le}
use Rattle.std.proofs.lemmas.Grind.{flat_map-append}
use Rattle.board_ends.specs.Ends.{SinkEnd, Took}
use Rattle.input_texts.specs.Answering.{output_line, output_of, AreAnswered, Lead, WereAnswered, WereAnsweredInPart}

-- ---- what a sink took
took_none : (held : Option (List ℕ)) → held ≡ option_map (λ bytes. bytes ++ []) held
took_none None = refl
took_none (Some held) = ap Some (sym (append-nil held))

pub took-none : (sink : SinkEnd) → Took sink sink []
took-none sink = took_none sink.held

took_both : (first middle last : Option (List ℕ)) (x y : List ℕ) → middle ≡ option_map (λ bytes. bytes ++ x) first
    → last ≡ option_map (λ bytes. bytes ++ y) middle
    → last ≡ option_map (λ bytes. bytes ++ (x ++ y)) first
took_both None middle last x y taken more = more ∙ ap (option_map (λ bytes. bytes ++ y)) taken
took_both (Some before) middle last x y taken more =
    more ∙ ap (option_map (λ bytes. bytes ++ y)) taken ∙ ap Some (append_assoc before x y)

pub took-more : (old middle new : SinkEnd) (x y : List ℕ) → Took old middle x → Took middle new y
    → Took old new (x ++ y)
took-more old middle new x y taken more = took_both old.held middle.held new.held x y taken more

-- a first part of a line of output
abbrev pub TookPart : SinkEnd → SinkEnd → List ℕ → Type 0
TookPart old new bytes = (n : ℕ) × (n ≤ length bytes) × Took old new (take n bytes)

pub part-first : (old new : SinkEnd) (text : List ℕ) → TookPart old new text → TookPart old new (output_line text)
part-first old new text (n, within, taken) = (
  n,
  omega (arith, within, length-append text (10 ∷ [])),
  subst (Took old new) (sym (take-append-le n text (10 ∷ []) within)) taken,
)

pub part-last : (old middle new : SinkEnd) (text : List ℕ) → Took old middle text → TookPart middle new (10 ∷ [])
    → TookPart old new (output_line text)
part-last old middle new text taken (n, within, more) = (
  length text + n,
  omega (arith, within, length-append text (10 ∷ [])),
  subst (Took old new) (sym (take-append-add text (10 ∷ []) n))
      (took-more old middle new text (take n (10 ∷ [])) taken more),
)

module _ {State : Type 0} (answers : State → List ℕ → List ℕ → State → Type 0) (lost : List ℕ) where
  -- ---- lines and then further ones
  answered-both : (first middle last : State) (lines others texts more : List (List ℕ))
      → AreAnswered answers lost first lines texts middle → AreAnswered answers lost middle others more last
      → AreAnswered answers lost first (lines ++ others) (texts ++ more) last
  answered-both first middle last [] others [] more are rest =
      subst (λ s. AreAnswered answers lost s others more last) are rest
  answered-both first middle last [] others (text ∷ texts) more are rest = absurd are
  answered-both first middle last (line ∷ lines) others [] more are rest = absurd are
  answered-both first middle last (line ∷ lines) others (text ∷ texts) more are rest =
      (are.0, are.1, answered-both are.0 middle last lines others texts more are.2 rest)

  pub lead-none : (before after : State → Type 0) → ((state : State) → before state → after state)
      → Lead answers lost before after [] []
  lead-none before after kept state stands = (state, kept state stands, refl)

  pub lead-more : (before middle after : State → Type 0) (lines others texts more : List (List ℕ))
      → Lead answers lost before middle lines texts → Lead answers lost middle after others more
      → Lead answers lost before after (lines ++ others) (texts ++ more)
  lead-more before middle after lines others texts more lead further state stands =
      let there = lead state stands in
      let behind = further there.0 there.1 in
      (behind.0, behind.1, answered-both state there.0 behind.0 lines others texts more there.2 behind.2)

  -- one line
  pub lead-answer : (before after : State → Type 0) (line bytes text : List ℕ) → line ≡ bytes
      → ((state : State) → before state → (next : State) × after next × answers state line text next)
      → Lead answers lost before after (bytes ∷ []) (text ∷ [])
  lead-answer before after line bytes text same answered state stands =
      let there = answered state stands in
      (there.0, there.1, (there.0, inl (subst (λ l. answers state l text there.0) same there.2), refl))

  pub lead-lost : (before after : State → Type 0) (line : List ℕ) → ((state : State) → before state → after state)
      → Lead answers lost before after (line ∷ []) (lost ∷ [])
  lead-lost before after line kept state stands = (state, kept state stands, (state, inr (refl, refl), refl))

  -- ---- what is written of it
  pub none-answered : (before after : State → Type 0) (old new : SinkEnd)
      → ((state : State) → before state → after state) → new.held ≡ old.held
      → WereAnswered answers lost before after old new []
  none-answered before after old new kept same = record {
    texts = [];
    taken = same ∙ took-none old;
    lead = lead-none before after kept;
  }

  pub one-answered : (before after : State → Type 0) (old new : SinkEnd) (line text : List ℕ)
      → Lead answers lost before after (line ∷ []) (text ∷ []) → Took old new (output_line text)
      → WereAnswered answers lost before after old new (line ∷ [])
  one-answered before after old new line text lead taken = record {
    texts = text ∷ [];
    taken = subst (Took old new) (sym (append-nil (output_line text))) taken;
    lead = lead;
  }

  pub one-in-part : (before after : State → Type 0) (old new : SinkEnd) (line text : List ℕ)
      → Lead answers lost before after (line ∷ []) (text ∷ []) → TookPart old new (output_line text)
      → WereAnsweredInPart answers lost before after old new (line ∷ [])
  one-in-part before after old new line text lead part = record {
    front = [];
    line = line;
    behind = [];
    parts = refl;
    texts = [];
    text = text;
    cut = part.0;
    within = part.1;
    taken = part.2;
    lead = lead;
  }

  pub answered-more : (before middle after : State → Type 0) (old between new : SinkEnd) (lines others : List (List ℕ))
      → WereAnswered answers lost before middle old between lines
      → WereAnswered answers lost middle after between new others
      → WereAnswered answers lost before after old new (lines ++ others)
  answered-more before middle after old between new lines others were more = record {
    texts = were.texts ++ more.texts;
    taken = subst (Took old new) (sym (flat_map-append output_line were.texts more.texts))
        (took-more old between new (output_of were.texts) (output_of more.texts) were.taken more.taken);
    lead = lead-more before middle after lines others were.texts more.texts were.lead more.lead;
  }

  pub part-behind : (before middle after : State → Type 0) (old between new : SinkEnd) (lines others : List (List ℕ))
      → WereAnswered answers lost before middle old between lines
      → WereAnsweredInPart answers lost middle after between new others
      → WereAnsweredInPart answers lost before after old new (lines ++ others)
  part-behind before middle after old between new lines others were part =
      let some = take part.cut (output_line part.text) in
      let both : Took old new (output_of were.texts ++ (output_of part.texts ++ some)) =
      took-more old between new (output_of were.texts) (output_of part.texts ++ some) were.taken part.taken in
      let all : Lead answers lost before after (lines ++ (part.front ++ part.line ∷ [])) (were.texts
      ++ (part.texts ++ part.text ∷ [])) =
      lead-more before middle after lines (part.front ++ part.line ∷ []) were.texts (part.texts ++ part.text ∷ [])
      were.lead part.lead in
      record {
        front = lines ++ part.front;
        line = part.line;
        behind = part.behind;
        parts = ap (λ ls. lines ++ ls) part.parts ∙ sym (append_assoc lines part.front (part.line ∷ part.behind));
        texts = were.texts ++ part.texts;
        text = part.text;
        cut = part.cut;
        within = part.within;
        taken = subst (Took old new) (sym (append_assoc (output_of were.texts) (output_of part.texts) some)
            ∙ ap (λ b. b ++ some) (sym (flat_map-append output_line were.texts part.texts))) both;
        lead = subst (λ ls. Lead answers lost before after ls ((were.texts ++ part.texts) ++ part.text ∷ []))
            (sym (append_assoc lines part.front (part.line ∷ [])))
            (subst (λ ts. Lead answers lost before after (lines ++ (part.front ++ part.line ∷ [])) ts)
            (sym (append_assoc were.texts part.texts (part.text ∷ []))) all);
      }

  pub part-more : (before after : State → Type 0) (old new : SinkEnd) (lines others : List (List ℕ))
      → WereAnsweredInPart answers lost before after old new lines
      → WereAnsweredInPart answers lost before after old new (lines ++ others)
  part-more before after old new lines others part = record {
    front = part.front;
    line = part.line;
    behind = part.behind ++ others;
    parts = ap (λ ls. ls ++ others) part.parts ∙ append_assoc part.front (part.line ∷ part.behind) others;
    texts = part.texts;
    text = part.text;
    cut = part.cut;
    within = part.within;
    taken = part.taken;
    lead = part.lead;
  }
