-- What is recovered is whole.
use Rattle.std.proofs.Common.{ℕ, List, [], ◌∷◌, ◌++◌, flat_map, Ok, All, sym, subst}
use Rattle.std.proofs.lemmas.List.Elements.{All-append, All-nil}
use Rattle.std.specs.List.{IsDistinct}
use Rattle.std.specs.List.Sorted.{IsStrictlySortedBy}
use Rattle.elem.specs.ElementValue.{ElementValue}
use Rattle.elem_read.specs.Reading.{IsWholeElement}
use Rattle.room_msg.specs.Messages.{IsReadAs, IsWholeMessage}
use Rattle.room_msg.specs.declared.message.Message.{Message}
use Rattle.room_msg.specs.declared.message.Message.TheVariants.{Update}
use Rattle.scene_file.specs.Heads.{Heading}
use Rattle.scene_file.specs.Whole.{IsWholeHead}
use Rattle.scene_file.proofs.CallerLemmas.{scene-whole, stored-whole}
use Rattle.room_disk.specs.Recovering.{AreUpdates, AreKept, empty_head}
use Rattle.room_disk.proofs.Once.{scene-at}

abbrev pub AreWholeRead : Type 0
AreWholeRead = (bytes : List ℕ) (message : Message) → IsReadAs bytes (Ok message) → IsWholeMessage message

updates-whole : AreWholeRead → (lines : List (List ℕ)) (messages : List (List ElementValue)) → AreUpdates lines messages
    → All IsWholeElement (flat_map (λ (es : List ElementValue). es) messages)
updates-whole read [] [] are = All-nil IsWholeElement
updates-whole read [] (m ∷ messages) are = absurd are
updates-whole read (l ∷ lines) [] are = absurd are
updates-whole read (l ∷ lines) (m ∷ messages) are =
    All-append IsWholeElement m (flat_map (λ (es : List ElementValue). es) messages) (read l (Update m) are.0)
    (updates-whole read lines messages are.1)

empty-whole : IsWholeHead empty_head
unfolding IsDistinct IsStrictlySortedBy
empty-whole = record {
  source = tt;
  settings = record { named = tt; valued = tt; distinct = tt };
  settings_ordered = tt;
  files = record { named = tt; valued = tt; distinct = tt };
  files_ordered = tt;
}

pub kept-whole : AreWholeRead → (lines : List (List ℕ)) (head : Heading) (elements : List ElementValue)
    → AreKept lines head elements → IsWholeHead head × All IsWholeElement elements
kept-whole read [] head elements kept =
    (subst IsWholeHead (sym kept.0) empty-whole, subst (All IsWholeElement) (sym kept.1) (All-nil IsWholeElement))
kept-whole read (first ∷ others) head elements kept =
    let scene = scene-whole first kept.scene (scene-at first kept.scene kept.read).0
    (scene-at first kept.scene kept.read).1 in (
      subst IsWholeHead (sym kept.is_head) scene.head,
      stored-whole (kept.scene.elements ++ flat_map (λ (es : List ElementValue). es) kept.messages) elements
          (All-append IsWholeElement kept.scene.elements (flat_map (λ (es : List ElementValue). es) kept.messages)
          scene.elements (updates-whole read others kept.messages kept.updates)) kept.stored,
    )
