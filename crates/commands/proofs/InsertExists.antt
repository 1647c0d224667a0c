-- Every input is answered with a text into which an item is inserted, or refused.
use Rattle.std.proofs.Common.{◌≡◌, inl, inr, ℕ, List, [], ◌∷◌, All, Option, Some, None, Result, Ok, Err, true, refl, sym, subst}
use Rattle.std.proofs.lemmas.List.Elements.{All-contains}
use Rattle.json_text.proofs.CallerLemmas.{Value-compact}
use Rattle.elem.specs.ElementValue.{ElementValue}
use Rattle.elem_read.specs.Reading.{IsWholeElement}
use Rattle.copies.specs.Copies.{copies_of}
use Rattle.board_paste.specs.Pasting.{first_stored}
use Rattle.clips.proofs.CallerLemmas.{live-all, placed-whole}
use Rattle.library.specs.Best.{AreBest, item_of}
use Rattle.library.specs.Inserting.{clip_of, placed_from}
use Rattle.library.specs.Reading.{IsLibraryOf, IsWholeItem}
use Rattle.library.specs.declared.item.Item.{Item}
use Rattle.library.proofs.CallerLemmas.{best-exist, best-found, best-none, library-or-fault, library-whole, elements-placed}
use Rattle.scene_file.specs.Heads.{Heading}
use Rattle.scene_file.specs.declared.scene.Scene.{Scene}
use Rattle.commands.specs.Answers.{IsAnswer}
use Rattle.commands.specs.Boards.{IsBoardOf}
use Rattle.commands.specs.Fronts.{HasFront}
use Rattle.commands.specs.Shelves.{IsBestOfId}
use Rattle.commands.specs.Words.{is_name}
use Rattle.commands.specs.declared.status.InputRefusal.{InputRefusal}
use Rattle.commands.specs.declared.status.InputRefusal.TheVariants as refusal
use Rattle.commands.specs.declared.words.ProgramCommand.TheVariants.{Insert}
use Rattle.commands.specs.declared.words.Insertion.{Insertion}
use Rattle.commands.proofs.FrontExists.{front-exists}
use Rattle.commands.proofs.Names.{name-utf8}
use Rattle.commands.proofs.PasteExists.{pasted_as-exists, scene-board}

-- ---- the elements of an item are whole, and so are those that are inserted
item-elements : (item : Item) → IsWholeItem item → All IsWholeElement item.elements
item-elements item is =
    let elements = is.says.elements in
    subst (All IsWholeElement) (sym elements.elements_are) (placed-whole is.says.values elements.placed elements.read)

clip-whole : (item : Item) → IsWholeItem item → All IsWholeElement (clip_of item).elements
clip-whole item is = live-all IsWholeElement (placed_from 0 item.elements)
    (subst (All IsWholeElement) (elements-placed 0 item.elements) (item-elements item is))

-- ---- answers
module _ (insertion : Insertion) (bytes : List ℕ) (names : is_name insertion.prefix ≡ true) where
  abbrev IsAnswered : Type 0
  IsAnswered = (answer : Result (List ℕ) InputRefusal) × IsAnswer (Insert insertion) bytes answer

  with-item : (scene : Scene) (text : List ℕ) → HasFront bytes scene text None → (items : List Item)
      → IsLibraryOf text items → (item : Item) → IsBestOfId items insertion.item item → IsAnswered
  with-item scene text front items read item best =
      by (first_stored board.1 (copies_of (clip_of item).elements insertion.prefix) (clip_of item).places) refl
    where
      board : (head : Heading) × (stored : List ElementValue) × IsBoardOf (scene ∷ []) head stored
      board = scene-board scene

      whole : All IsWholeElement (clip_of item).elements
      whole = clip-whole item (All-contains IsWholeItem items item (library-whole text items read) best.0.among)

      by : (place : Option ℕ) → first_stored board.1 (copies_of (clip_of item).elements insertion.prefix)
          (clip_of item).places ≡ place → IsAnswered
      by None new =
          let made = pasted_as-exists insertion.prefix scene (clip_of item) board.0 board.1
          (name-utf8 insertion.prefix names) (front.first.text, front.first.says) whole tt board.2 new in (
            Ok made.0,
            record {
              scene = scene;
              items = items;
              holds = (text, front, read);
              item = item;
              best = best;
              is =
                  made.1;
            },
          )
      by (Some place) exists = (
        Err (refusal.Exists place),
        inr (inr (
          place,
          refl,
          record {
            scene = scene;
            items = items;
            holds = (text, front, read);
            item = item;
            best = best;
            is = record { head = board.0; stored = board.1; board = board.2; exists = exists };
          },
        )),
      )

  with-library : (scene : Scene) (text : List ℕ) (more : Option ℕ) → HasFront bytes scene text more
      → (items : List Item) → IsLibraryOf text items → IsAnswered
  with-library scene text (Some at) front items read =
      (Err (refusal.Extra at), inl (inr (inr (at, refl, (scene, text, front, (items, read))))))
  with-library scene text None front items read = by (item_of best.0 insertion.item) refl
    where
      best : (best : List Item) × AreBest items best
      best = best-exist items

      by : (found : Option Item) → item_of best.0 insertion.item ≡ found → IsAnswered
      by (Some item) is =
          with-item scene text front items read item (best-found items best.0 insertion.item item best.1 is)
      by None none = (
        Err refusal.NoItem,
        inr (inl (
          refl,
          record {
            scene = scene;
            items = items;
            holds = (text, front, read);
            none = λ item among same. best-none items best.0 insertion.item item best.1 none among same;
          },
        )),
      )

  pub inserted-exists : IsAnswered
  inserted-exists = elim (front-exists bytes) [
    | inr (found, is) ↦ (Err found, inl (inl is))
    | inl (scene, text, more, front) ↦ elim (library-or-fault text (Value-compact front.second.reads)) [
      | inl (items, read) ↦ with-library scene text more front items read
      | inr (fault, is) ↦ (Err (refusal.Library 2 fault), inl (inr (inl (scene, text, more, front, (fault, refl, is)))))
    ]
  ]
