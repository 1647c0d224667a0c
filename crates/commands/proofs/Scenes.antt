-- Scenes, one after the other.
use Rattle.std.proofs.Common.{ℕ, List, [], ◌∷◌, ◌++◌, refl, sym, subst}
use Rattle.scene_file.specs.Reading.{IsSceneAt}
use Rattle.scene_file.specs.declared.scene.Scene.{Scene}
use Rattle.commands.specs.Input.{ScenesLead}

-- A scene stands behind scenes that lead up to it.
pub ScenesLead-more : (bytes rest next : List ℕ) (scenes : List Scene) (scene : Scene) → ScenesLead bytes scenes rest
    → IsSceneAt rest scene next → ScenesLead bytes (scenes ++ scene ∷ []) next
ScenesLead-more bytes rest next [] scene lead at = (next, subst (λ b. IsSceneAt b scene next) (sym lead) at, refl)
ScenesLead-more bytes rest next (first ∷ scenes) scene (middle, stands, lead) at =
    (middle, stands, ScenesLead-more middle rest next scenes scene lead at)
