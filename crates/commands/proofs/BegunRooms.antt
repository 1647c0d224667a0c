-- What a durable room begins with: whole elements with keys, in the order of their ids; and no input is refused with
-- which one begins.
use Rattle.std.proofs.Common.{◌≡◌, inl, inr, ℕ, List, [], ◌∷◌, true, All, Ok, Some, None, Option, is_some, refl, sym, ap, ap₂, subst, ◌∙◌}
use Rattle.std.specs.List.{list_all}
use Rattle.std.proofs.lemmas.Bool.{and_parts}
use Rattle.elem.specs.ElementValue.{ElementValue}
use Rattle.elem_read.specs.Reading.{IsWholeElement}
use Rattle.elem_store.specs.Updates.{ids_of}
use Rattle.frac_keys.specs.Rising.{are_rising}
use Rattle.input_texts.specs.Lines.{lines_of}
use Rattle.room_disk.specs.Recovering.{IsRecoveredAs, Recovered}
use Rattle.room_disk.specs.Resuming.{AreFilled, IsFilled, resumed}
use Rattle.scene_file.specs.Whole.{HaveKeys}
use Rattle.commands.specs.Keeping.{BeginsWith, IsBeginsRefusal}
use Rattle.commands.specs.Serving.{Begun}
use Rattle.commands.specs.declared.status.InputRefusal.{InputRefusal}
use Rattle.commands.specs.declared.words.Begins.{Begins}
use Rattle.commands.specs.declared.words.Begins.TheVariants.{Scenes, Journal}
use Rattle.commands.proofs.JournalExists.{kept-rise}
use Rattle.commands.proofs.JournalOnce.{journal-refusal-none}
use Rattle.commands.proofs.Reread.{board-whole}
use Rattle.commands.proofs.Unique.{refusal-none}

-- ---- no room begins with an input that is refused
pub begins-sound : (begins : Begins) (bytes : List ℕ) (begun : Begun) (found : InputRefusal)
    → BeginsWith begins bytes begun → IsBeginsRefusal begins bytes found → ⊥
begins-sound Scenes bytes begun found (scenes, has, board) refused = refusal-none bytes found scenes refused has
begins-sound Journal bytes begun found (kept, recorded, read, is) (inl (none, has)) = recorded has
begins-sound Journal bytes begun found (kept, recorded, read, is) (inr refused) =
    journal-refusal-none bytes found kept refused read

-- ---- what it begins with
-- what is cited of laws below: what is recovered is whole, and so is what a room resumes with, where each element has
-- a key and its id
pub record ResumeLaws : Type 0 where
  pub recovered : (bytes : List ℕ) (found : Recovered) → IsRecoveredAs bytes (Ok found) → All IsWholeElement found.elements
  pub whole : (elements : List ElementValue) → All IsWholeElement elements → All IsWholeElement (resumed elements)
  pub keys : (elements : List ElementValue) → HaveKeys (resumed elements)
  pub ids : (elements : List ElementValue) → ids_of (resumed elements) ≡ ids_of elements
  pub filled : (elements : List ElementValue) → AreFilled elements (resumed elements)

pub record IsSoundStore (stored : List ElementValue) : Type 0 where
  pub whole : All IsWholeElement stored
  pub keys : HaveKeys stored
  pub ordered : are_rising (ids_of stored) ≡ true

pub begun-sound : ResumeLaws → (begins : Begins) (bytes : List ℕ) (begun : Begun) → BeginsWith begins bytes begun
    → IsSoundStore begun.stored
begun-sound laws Scenes bytes begun (scenes, has, board) =
    let whole = board-whole bytes scenes begun.head begun.stored has board in
    record { whole = whole.whole; keys = whole.keys; ordered = board.stores.ordered }
begun-sound laws Journal bytes begun (found, recorded, read, is) =
    subst IsSoundStore (sym (ap (λ (b : Begun). b.stored) is)) (record {
      whole = laws.whole found.elements (laws.recovered bytes found read);
      keys = laws.keys found.elements;
      ordered = ap are_rising (laws.ids found.elements)
          ∙ kept-rise (lines_of bytes) found.head found.elements read;
    })

-- ---- a store whose elements have keys is resumed as it is
keyed-same : (index : Option (List ℕ)) (e new : ElementValue) → is_some index ≡ true → IsFilled index e new → new ≡ e
keyed-same (Some key) e new keyed is = is
keyed-same None e new keyed is = absurd cc

filled-same : (elements news : List ElementValue) → HaveKeys elements → AreFilled elements news → news ≡ elements
filled-same [] [] keys are = refl
filled-same [] (new ∷ news) keys are = absurd are
filled-same (e ∷ elements) [] keys are = absurd are
filled-same (e ∷ elements) (new ∷ news) keys are =
    let both = and_parts (is_some e.index) (list_all (λ (e : ElementValue). is_some e.index) elements) keys in
    ap₂ (λ (x : ElementValue) (xs : List ElementValue). x ∷ xs) (keyed-same e.index e new both.0 are.0)
    (filled-same elements news both.1 are.1)

pub resumed-same : ResumeLaws → (stored : List ElementValue) → HaveKeys stored → resumed stored ≡ stored
resumed-same laws stored keys = filled-same stored (resumed stored) keys (laws.filled stored)
