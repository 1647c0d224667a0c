-- Things that are told by words.
use Rattle.std.proofs.Common.{◌≡◌, ◌⊎◌, inl, inr, ℕ, List, [], ◌∷◌, Option, Some, None, bytes_eq, if◌then◌else◌, refl, sym, ap, subst, ◌∙◌}
use Rattle.std.proofs.lemmas.Bool.{cases_Bool}
use Rattle.json_text.proofs.CallerLemmas.{bytes_eq-true}
use Rattle.json_text.specs.Characters.{quote}
use Rattle.board_commands.specs.declared.command.Side.{Side}
use Rattle.board_commands.specs.declared.command.Side.TheVariants as sides
use Rattle.elem_read.proofs.CallerLemmas.{Decided}
use Rattle.session_text.specs.Commands.{asked_text}
use Rattle.session_text.specs.Events.{happening_text}
use Rattle.session_text.specs.Forms.{capture_text, side_text}
use Rattle.session_text.specs.Lines.{line_name_text}
use Rattle.session_text.specs.declared.command.Asked.{Asked}
use Rattle.session_text.specs.declared.command.Asked.TheVariants as asked
use Rattle.board_commands.specs.declared.command.Capture.{Capture}
use Rattle.board_commands.specs.declared.command.Capture.TheVariants as captures
use Rattle.session_text.specs.declared.happening.Happening.{Happening}
use Rattle.session_text.specs.declared.happening.Happening.TheVariants as happenings
use Rattle.session_text.specs.declared.lines.LineName.{LineName}
use Rattle.session_text.specs.declared.lines.LineName.TheVariants as named

-- the first of these with this word
abbrev pub seek : {A : Type 0} → (A → List ℕ) → List A → List ℕ → Option A
seek word [] value = None
seek word (x ∷ xs) value = if bytes_eq value (word x) then Some x else seek word xs value

seek-found : {A : Type 0} (word : A → List ℕ) (xs : List A) (value : List ℕ) → ((x : A) × (value ≡ word x))
    ⊎ (seek word xs value ≡ None)
seek-found word [] value = inr refl
seek-found word (x ∷ xs) value = elim (cases_Bool (bytes_eq value (word x))) [
  | inl e ↦ inl (x, bytes_eq-true value (word x) e)
  | inr e ↦ elim (seek-found word xs value) [ inl found ↦ inl found | inr none ↦ inr (rw e none) ]
]

-- Each thing is found by its word.
abbrev pub AreTold : {A : Type 0} → (A → List ℕ) → List A → Type 0
AreTold word xs = (x : _) → seek word xs (word x) ≡ Some x

pub word-once : {A : Type 0} (word : A → List ℕ) (xs : List A) → AreTold word xs → (value : List ℕ) (x y : A)
    → value ≡ word x → value ≡ word y → x ≡ y
word-once word xs told value x y e f =
    let same : Some x ≡ Some y = sym (told x) ∙ (ap (seek word xs) (sym e ∙ f) ∙ told y) in
    cc

pub word-or-not : {A : Type 0} (word : A → List ℕ) (xs : List A) → AreTold word xs → (value : List ℕ)
    → Decided (λ (x : A). value ≡ word x)
word-or-not word xs told value = elim (seek-found word xs value) [
  | inl found ↦ inl found
  | inr none ↦ inr (λ x e. let two : None ≡ Some x = sym none ∙ (ap (seek word xs) e ∙ told x) in cc)
]

-- None of these has this word.
abbrev pub HasNone : {A : Type 0} → (A → List ℕ) → List A → Option (List ℕ) → Type 0
HasNone word [] found = Unit {0}
HasNone word (x ∷ xs) found = (found ≡ Some (word x) → ⊥) × HasNone word xs found

pub none-told : {A : Type 0} (word : A → List ℕ) (xs : List A) → AreTold word xs → (found : Option (List ℕ))
    → HasNone word xs found → (x : A) → found ≡ Some (word x) → ⊥
none-told {A = A} word xs told found none x e = not_first xs (subst (HasNone word xs) e none) (told x)
  where
    not_first : (ys : List A) → HasNone word ys (Some (word x)) → seek word ys (word x) ≡ Some x → ⊥
    not_first [] none first = cc
    not_first (y ∷ ys) none first = elim (cases_Bool (bytes_eq (word x) (word y))) [
      | inl same ↦ none.0 (ap Some (bytes_eq-true (word x) (word y) same))
      | inr other ↦ not_first ys none.1 (rw other at first)
    ]

pub all_captures : List Capture
all_captures = captures.Now ∷ captures.Later ∷ captures.Never ∷ []

pub captures-told : AreTold capture_text all_captures
unfolding all_captures quote
captures-told captures.Now = refl
captures-told captures.Later = refl
captures-told captures.Never = refl

pub all_sides : List Side
all_sides = sides.Start ∷ sides.End ∷ []

pub sides-told : AreTold side_text all_sides
unfolding all_sides quote
sides-told sides.Start = refl
sides-told sides.End = refl

unfoldable pub all_asked : List Asked
all_asked =
    asked.Create ∷ asked.Set ∷ asked.Delete ∷ asked.Place ∷ asked.Bind ∷ asked.Unbind ∷ asked.Label ∷ asked.Unlabel
    ∷ asked.Frame
    ∷ asked.Unframe ∷ asked.Group ∷ asked.Ungroup ∷ asked.Duplicate ∷ asked.Paste ∷ []

pub asked-told : AreTold asked_text all_asked
unfolding all_asked quote
asked-told asked.Create = refl
asked-told asked.Set = refl
asked-told asked.Delete = refl
asked-told asked.Place = refl
asked-told asked.Bind = refl
asked-told asked.Unbind = refl
asked-told asked.Label = refl
asked-told asked.Unlabel = refl
asked-told asked.Frame = refl
asked-told asked.Unframe = refl
asked-told asked.Group = refl
asked-told asked.Ungroup = refl
asked-told asked.Duplicate = refl
asked-told asked.Paste = refl

unfoldable pub all_happenings : List Happening
all_happenings =
    happenings.Change ∷ happenings.Update ∷ happenings.Deliver ∷ happenings.Hold ∷ happenings.Release ∷ happenings.Undo
    ∷ happenings.Redo ∷ []

pub happenings-told : AreTold happening_text all_happenings
unfolding all_happenings quote
happenings-told happenings.Change = refl
happenings-told happenings.Update = refl
happenings-told happenings.Deliver = refl
happenings-told happenings.Hold = refl
happenings-told happenings.Release = refl
happenings-told happenings.Undo = refl
happenings-told happenings.Redo = refl

unfoldable pub all_line_names : List LineName
all_line_names =
    named.Change ∷ named.Undo ∷ named.Redo ∷ named.Take ∷ named.Receive ∷ named.Hold ∷ named.Release ∷ named.Scene
    ∷ named.State ∷ named.Stored ∷ named.Lengths ∷ named.Pending ∷ []

pub line_names-told : AreTold line_name_text all_line_names
unfolding all_line_names quote
line_names-told named.Change = refl
line_names-told named.Undo = refl
line_names-told named.Redo = refl
line_names-told named.Take = refl
line_names-told named.Receive = refl
line_names-told named.Hold = refl
line_names-told named.Release = refl
line_names-told named.Scene = refl
line_names-told named.State = refl
line_names-told named.Stored = refl
line_names-told named.Lengths = refl
line_names-told named.Pending = refl
