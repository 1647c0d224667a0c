-- Every input is answered with one library, or refused.
use Rattle.std.proofs.Common.{◌≡◌, ◌≢◌, ◌⊎◌, inl, inr, ℕ, zero, suc, ◌+◌, ◌<◌, ◌≤◌, List, [], ◌∷◌, ◌++◌, true, false, length, drop, Result, Ok, Err, refl, sym, subst, arith}
use Rattle.json_text.specs.Characters.{is_blank, is_space}
use Rattle.json_text.specs.Value.{Stands}
use Rattle.json_text.proofs.CallerLemmas.{Value-compact, Runs-either}
use Rattle.json_reader.proofs.CallerLemmas.{value-or-fault}
use Rattle.input_texts.specs.Texts.{TextsLead}
use Rattle.library.specs.Libraries.{HaveItems}
use Rattle.library.specs.Reading.{IsLibraryOf}
use Rattle.library.specs.declared.item.Item.{Item}
use Rattle.library.proofs.CallerLemmas.{library-exists, library-or-fault}
use Rattle.scene_file.specs.declared.fault.SceneFault.TheVariants.{Json}
use Rattle.scene_file.proofs.CallerLemmas.{Stands-behind}
use Rattle.commands.specs.Answers.{IsAnswer}
use Rattle.commands.specs.Faults.{newline}
use Rattle.commands.specs.Shelves.{HasLibrariesTo, HasTexts, IsShelfRefusal}
use Rattle.commands.specs.declared.status.InputRefusal.{InputRefusal}
use Rattle.commands.specs.declared.status.InputRefusal.TheVariants as refusal
use Rattle.commands.specs.declared.words.ProgramCommand.TheVariants.{Library}
use Rattle.commands.proofs.ReadShelves.{have-more}

-- the libraries of an input, or its first faulty text
abbrev Held : List ℕ → Type 0
Held bytes =
    ((texts : List (List ℕ)) × (items : List Item) × HasTexts bytes texts × HaveItems texts items)
    ⊎ ((found : InputRefusal) × IsShelfRefusal bytes found)

leads-more : (bytes rest next text : List ℕ) (texts : List (List ℕ)) → TextsLead bytes texts rest
    → Stands rest text next → TextsLead bytes (texts ++ text ∷ []) next
leads-more bytes rest next text [] lead stands = (next, subst (λ b. Stands b text next) (sym lead) stands, refl)
leads-more bytes rest next text (first ∷ texts) (middle, here, lead) stands =
    (middle, here, leads-more middle rest next text texts lead stands)

-- whether no more is to be read: there is a library, and white space alone is left
ended-or-not : (bytes : List ℕ) (texts : List (List ℕ)) → ((texts ≢ []) × (is_blank bytes ≡ true))
    ⊎ ((texts ≡ []) ⊎ (is_blank bytes ≡ false))
ended-or-not bytes [] = inr (inl refl)
ended-or-not bytes (text ∷ texts) = elim (Runs-either is_space bytes) [
  | inl all ↦ inl (λ e. cc, all.0)
  | inr some ↦ inr (inr some.0)
]

-- one text more, and what comes behind it
module _ (bytes : List ℕ) (at : ℕ) (texts : List (List ℕ)) (items : List Item) (within : at ≤ length bytes)
    (lead : TextsLead bytes texts (drop at bytes)) (have : HaveItems texts items)
    (onward : (text : List ℕ) (own : List Item) (end : ℕ) → at < end → end ≤ length bytes
    → Stands (drop at bytes) text (drop end bytes) → IsLibraryOf text own → Held bytes) where
  to-here : (texts ≡ []) ⊎ (is_blank (drop at bytes) ≡ false) → HasLibrariesTo bytes at (length texts)
  to-here begun =
      record { texts = texts; items = items; read = have; within = within; lead = lead; counted = refl; begun = begun }

  further-text : (texts ≡ []) ⊎ (is_blank (drop at bytes) ≡ false) → Held bytes
  further-text begun = elim (value-or-fault bytes at within) [
    | inr (fault, is) ↦ inr (
      refusal.Text (length texts + 1) (Json fault),
      inl (length texts + 1, fault, refl, (at, length texts, refl, to-here begun, is)),
    )
    | inl (text, end, small, stands) ↦ elim (library-or-fault text (Value-compact stands.reads)) [
      | inl (own, is) ↦ onward text own end (Stands-behind bytes text at end small stands) small stands is
      | inr (fault, is) ↦ inr (
        refusal.Library (length texts + 1) fault,
        inr (
          length texts + 1,
          fault,
          refl,
          (at, length texts, refl, to-here begun, (text, drop end bytes, stands, is)),
        ),
      )
    ]
  ]

  next-text : Held bytes
  next-text = elim (ended-or-not (drop at bytes) texts) [
    | inl (some, blank) ↦ inl (
      texts,
      items,
      record { some = some; rest = drop at bytes; lead = lead; space = blank },
      have,
    )
    | inr begun ↦ further-text begun
  ]

held-from : (bytes : List ℕ) (left at : ℕ) (texts : List (List ℕ)) (items : List Item) → at ≤ length bytes
    → length bytes ≤ at + left → TextsLead bytes texts (drop at bytes) → HaveItems texts items → Held bytes
held-from bytes zero at texts items within near lead have =
    next-text bytes at texts items within lead have
    (λ text own end behind small stands is. absurd (omega (arith, behind, small)))
held-from bytes (suc left) at texts items within near lead have =
    next-text bytes at texts items within lead have (λ text own end behind small stands is.
    held-from bytes left end (texts ++ text ∷ []) (items ++ own) small (omega (arith, behind))
    (leads-more bytes (drop at bytes) (drop end bytes) text texts lead stands)
    (have-more texts items text own have is))

held : (bytes : List ℕ) → Held bytes
held bytes = held-from bytes (length bytes) 0 [] [] (omega arith) (omega arith) refl refl

-- libraries are answered with one
pub shelf-answered : (bytes : List ℕ) (texts : List (List ℕ)) (items : List Item) → HasTexts bytes texts
    → HaveItems texts items → (text : List ℕ) × IsAnswer Library bytes (Ok text)
shelf-answered bytes texts items holds have =
    let made = library-exists texts items have in
    (made.0 ++ newline, record { texts = texts; holds = holds; written = made.0; library = made.1; ended = refl })

pub shelf-exists : (bytes : List ℕ) → (answer : Result (List ℕ) InputRefusal) × IsAnswer Library bytes answer
shelf-exists bytes = elim (held bytes) [
  | inl (texts, items, holds, have) ↦ let made = shelf-answered bytes texts items holds have in (Ok made.0, made.1)
  | inr (found, is) ↦ (Err found, is)
]
