-- A scene and an item of a library are made one text, or refused for one reason.
use Rattle.std.proofs.Common.{◌≡◌, inl, inr, ℕ, List, None, Contains, Result, Ok, Err, sym, ap, subst, ◌∙◌}
use Rattle.library.specs.Inserting.{clip_of}
use Rattle.library.specs.Reading.{IsLibraryOf}
use Rattle.library.specs.declared.item.Item.{Item}
use Rattle.library.proofs.CallerLemmas.{best-one, lib_fault-once, library-faultless, library-once, library-whole}
use Rattle.scene_file.specs.declared.scene.Scene.{Scene}
use Rattle.commands.specs.Answers.{IsAnswer}
use Rattle.commands.specs.Fronts.{IsSecondRefusal}
use Rattle.commands.specs.Shelves.{HasNoItem, HasSceneAndLibrary, IsBestOfId, IsLibrary, IsNoLibrary}
use Rattle.commands.specs.declared.status.InputRefusal.{InputRefusal}
use Rattle.commands.specs.declared.status.InputRefusal.TheVariants as refusal
use Rattle.commands.specs.declared.words.ProgramCommand.TheVariants.{Insert}
use Rattle.commands.specs.declared.words.Insertion.{Insertion}
use Rattle.commands.proofs.FrontOnce.{front-once, second-none, second-once}
use Rattle.commands.proofs.PasteOnce.{of_clip-once, IsOfClip}

no-library-once : (text : List ℕ) (f g : InputRefusal) → IsNoLibrary text f → IsNoLibrary text g → f ≡ g
no-library-once text f g (fault, is, faulty) (other, also, wrong) =
    is ∙ (ap (refusal.Library 2) (lib_fault-once text fault other faulty wrong) ∙ sym also)

library-none : (text : List ℕ) (f : InputRefusal) → IsLibrary text → IsNoLibrary text f → ⊥
library-none text f (items, read) (fault, is, faulty) = library-faultless text items read fault faulty

-- ---- one scene and one library
record AreSame (scene other : Scene) (items news : List Item) : Type 0 where
  pub scenes : scene ≡ other
  pub libraries : items ≡ news

same-input : (bytes : List ℕ) (scene other : Scene) (items news : List Item) → HasSceneAndLibrary bytes scene items
    → HasSceneAndLibrary bytes other news → AreSame scene other items news
same-input bytes scene other items news (text, front, read) (word, begins, also) =
    let same = front-once bytes scene other text word None None front begins in
    record {
      scenes = same.scenes;
      libraries =
          library-once word items news (subst (λ t. IsLibraryOf t items) same.texts read) also;
    }

-- the best item of an id is one
best-same : (bytes : List ℕ) (scene : Scene) (items : List Item) (id : List ℕ) (item other : Item)
    → HasSceneAndLibrary bytes scene items → IsBestOfId items id item → IsBestOfId items id other → item ≡ other
best-same bytes scene items id item other (text, front, read) (best, is) (also, too) =
    best-one items item other (library-whole text items read) best also (is ∙ sym too)

-- ---- answers
module _ (insertion : Insertion) (bytes : List ℕ) (scene : Scene) (items : List Item) (item : Item)
    (holds : HasSceneAndLibrary bytes scene items) (best : IsBestOfId items insertion.item item) where
  -- of another scene and item of the same input, too
  moved : (other : Scene) (news : List Item) (own : Item) → HasSceneAndLibrary bytes other news
      → IsBestOfId news insertion.item own → (answer : Result (List ℕ) InputRefusal)
      → IsOfClip insertion.prefix other (clip_of own) answer → IsOfClip insertion.prefix scene (clip_of item) answer
  moved other news own also is answer made =
      let same = same-input bytes other scene news items also holds in
      let one = best-same bytes scene items insertion.item own item holds
      (subst (λ xs. IsBestOfId xs insertion.item own) same.libraries is) best in
      subst (λ s. IsOfClip insertion.prefix s (clip_of item) answer) same.scenes
      (subst (λ i. IsOfClip insertion.prefix other (clip_of i) answer) one made)

  item-there : HasNoItem insertion.item bytes → ⊥
  item-there none =
      let same = same-input bytes scene none.scene items none.items holds none.holds in
      none.none item (subst (λ xs. Contains xs item) same.libraries best.0.among) best.1

  -- a scene and a library with the item are answered so
  pub of-item : (answer : Result (List ℕ) InputRefusal) → IsAnswer (Insert insertion) bytes answer
      → IsOfClip insertion.prefix scene (clip_of item) answer
  of-item (Ok text) is = moved is.scene is.items is.item is.holds is.best (Ok text) is.is
  of-item (Err found) (inl bad) =
      absurd (second-none IsLibrary IsNoLibrary no-library-once library-none bytes found scene holds.0 bad holds.1 (
        items,
        holds.2,
      ))
  of-item (Err found) (inr (inl (same, none))) = absurd (item-there none)
  of-item (Err found) (inr (inr (place, same, is))) =
      moved is.scene is.items is.item is.holds is.best (Err found) (place, same, is.is)

  pub item-inserted : (answer : Result (List ℕ) InputRefusal) → IsOfClip insertion.prefix scene (clip_of item) answer
      → IsAnswer (Insert insertion) bytes answer
  item-inserted (Ok text) is =
      record { scene = scene; items = items; holds = holds; item = item; best = best; is = is }
  item-inserted (Err found) (place, same, is) =
      inr (inr (
        place,
        same,
        record { scene = scene; items = items; holds = holds; item = item; best = best; is = is },
      ))

-- an input without the item doesn't begin otherwise
none-second : (id bytes : List ℕ) (f : InputRefusal) → HasNoItem id bytes → IsSecondRefusal IsLibrary IsNoLibrary bytes f
    → ⊥
none-second id bytes f none bad =
    second-none IsLibrary IsNoLibrary no-library-once library-none bytes f none.scene none.holds.0 bad none.holds.1 (
      none.items,
      none.holds.2,
    )

pub inserted-once : (insertion : Insertion) (bytes : List ℕ) (answer other : Result (List ℕ) InputRefusal)
    → IsAnswer (Insert insertion) bytes answer → IsAnswer (Insert insertion) bytes other → answer ≡ other
inserted-once insertion bytes (Ok a) other one two =
    of_clip-once insertion.prefix one.scene (clip_of one.item) (Ok a) other one.is
    (of-item insertion bytes one.scene one.items one.item one.holds one.best other two)
inserted-once insertion bytes (Err f) other (inr (inr (place, is, one))) two =
    of_clip-once insertion.prefix one.scene (clip_of one.item) (Err f) other (place, is, one.is)
    (of-item insertion bytes one.scene one.items one.item one.holds one.best other two)
inserted-once insertion bytes (Err f) (Ok b) one two =
    of_clip-once insertion.prefix two.scene (clip_of two.item) (Err f) (Ok b)
    (of-item insertion bytes two.scene two.items two.item two.holds two.best (Err f) one) two.is
inserted-once insertion bytes (Err f) (Err g) one (inr (inr (place, is, two))) =
    of_clip-once insertion.prefix two.scene (clip_of two.item) (Err f) (Err g)
    (of-item insertion bytes two.scene two.items two.item two.holds two.best (Err f) one) (place, is, two.is)
inserted-once insertion bytes (Err f) (Err g) (inl bad) (inl also) =
    ap Err (second-once IsLibrary IsNoLibrary no-library-once library-none bytes f g bad also)
inserted-once insertion bytes (Err f) (Err g) (inl bad) (inr (inl (is, none))) =
    absurd (none-second insertion.item bytes f none bad)
inserted-once insertion bytes (Err f) (Err g) (inr (inl (is, none))) (inl bad) =
    absurd (none-second insertion.item bytes g none bad)
inserted-once insertion bytes (Err f) (Err g) (inr (inl (is, none))) (inr (inl (also, nothing))) = ap Err (is ∙ sym also)
