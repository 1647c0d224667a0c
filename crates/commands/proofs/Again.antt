-- What was restored or merged is restored as the input itself.
use Rattle.std.proofs.Common.{◌↔◌, ℕ, List, [], ◌∷◌, Ok, subst}
use Rattle.scene_file.specs.declared.layout.Layout.{Layout}
use Rattle.scene_file.specs.declared.scene.Scene.{Scene}
use Rattle.commands.specs.Answers.{IsAnswer, IsShownAs}
use Rattle.commands.specs.Input.{HasScenes}
use Rattle.commands.specs.declared.words.ProgramCommand.TheVariants.{Restore, Merge}
use Rattle.commands.proofs.Inputs.{input-once}
use Rattle.commands.proofs.Reread.{shown_scene, shown-read, shown-once_more, shown-as_before}

-- what shows these scenes is restored to what shows them
shown-restored : (bytes text other : List ℕ) (scenes : List Scene) (first layout : Layout) → HasScenes bytes scenes
    → IsShownAs scenes first text
    → IsAnswer (Restore layout) text (Ok other) ↔ IsShownAs scenes layout other
shown-restored bytes text other scenes first layout has is = (to, back)
  where
    read : HasScenes text (shown_scene is.head is.stored ∷ [])
    read = shown-read bytes scenes first text has is

    to : IsAnswer (Restore layout) text (Ok other) → IsShownAs scenes layout other
    to (again, also, shows) =
        let same = input-once text (again ∷ []) (shown_scene is.head is.stored ∷ []) also read in
        shown-as_before bytes scenes is.head is.stored has is.board layout other
        (subst (λ s. IsShownAs s layout other) same shows) is.rise is.settled

    back : IsShownAs scenes layout other → IsAnswer (Restore layout) text (Ok other)
    back shows = (
      shown_scene is.head is.stored,
      read,
      shown-once_more bytes scenes is.head is.stored has is.board layout other shows,
    )

pub restores-once : (first layout : Layout) (bytes text other : List ℕ) → IsAnswer (Restore first) bytes (Ok text)
    → IsAnswer (Restore layout) text (Ok other) ↔ IsAnswer (Restore layout) bytes (Ok other)
restores-once first layout bytes text other (scene, has, is) =
    let both = shown-restored bytes text other (scene ∷ []) first layout has is in (
      λ again. (scene, has, both.0 again),
      λ (answer : IsAnswer (Restore layout) bytes (Ok other)). both.1
          (subst (λ s. IsShownAs s layout other) (input-once bytes (answer.0 ∷ []) (scene ∷ []) answer.1 has) answer.2),
    )

pub restores-merges : (first layout : Layout) (bytes text other : List ℕ) → IsAnswer (Merge first) bytes (Ok text)
    → IsAnswer (Restore layout) text (Ok other) ↔ IsAnswer (Merge layout) bytes (Ok other)
restores-merges first layout bytes text other (scenes, has, is) =
    let both = shown-restored bytes text other scenes first layout has is in (
      λ again. (scenes, has, both.0 again),
      λ (answer : IsAnswer (Merge layout) bytes (Ok other)). both.1
          (subst (λ s. IsShownAs s layout other) (input-once bytes answer.0 scenes answer.1 has) answer.2),
    )
