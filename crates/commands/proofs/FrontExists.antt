-- Every input begins with a scene and a value, or has a first fault.
use Rattle.std.proofs.Common.{◌⊎◌, inl, inr, ℕ, ◌+◌, ◌≤◌, List, Option, Some, None, length, drop, refl, arith, length-drop}
use Rattle.std.specs.List.{prefix_len}
use Rattle.json_text.specs.Characters.{is_space}
use Rattle.json_text.proofs.CallerLemmas.{Runs-either}
use Rattle.json_reader.proofs.CallerLemmas.{value-or-fault}
use Rattle.scene_file.specs.declared.scene.Scene.{Scene}
use Rattle.scene_file.specs.declared.fault.SceneFault.TheVariants.{Json}
use Rattle.scene_file.proofs.CallerLemmas.{StandsAt, scene-or-fault}
use Rattle.commands.specs.Fronts.{HasFront, IsBehind, IsFrontRefusal}
use Rattle.commands.specs.declared.status.InputRefusal.{InputRefusal}
use Rattle.commands.specs.declared.status.InputRefusal.TheVariants as refusal

behind-exists : (bytes : List ℕ) (after : ℕ) → after ≤ length bytes → (more : Option ℕ) × IsBehind bytes after more
behind-exists bytes after within = elim (Runs-either is_space (drop after bytes)) [
  | inl all ↦ (None, all.0)
  | inr some ↦ (
    Some (after + prefix_len is_space (drop after bytes)),
    (refl, omega (arith, some.1, length-drop after bytes, within)),
  )
]

-- A front, or why there is none.
abbrev pub Begun : List ℕ → Type 0
Begun bytes =
    ((scene : Scene) × (text : List ℕ) × (more : Option ℕ) × HasFront bytes scene text more)
    ⊎ ((found : InputRefusal) × IsFrontRefusal bytes found)

second-exists : (bytes : List ℕ) (scene : Scene) (end : ℕ) → StandsAt bytes 0 scene end → Begun bytes
second-exists bytes scene end s = elim (value-or-fault bytes end s.within) [
  | inl (text, after, within, stands) ↦
      let behind = behind-exists bytes after within in
      inl (
        scene,
        text,
        behind.0,
        record {
          next = drop end bytes;
          first = s.stands;
          after = after;
          within = within;
          second = stands;
          behind = behind.1;
        },
      )
  | inr (fault, is) ↦ inr (
    refusal.Text 2 (Json fault),
    inr (
      fault,
      refl,
      record {
        scene = scene;
        start = end;
        within = s.within;
        first = s.stands;
        faulty = is;
      },
    ),
  )
]

pub front-exists : (bytes : List ℕ) → Begun bytes
front-exists bytes = elim (scene-or-fault bytes 0 (omega arith)) [
  | inl (scene, end, s) ↦ second-exists bytes scene end s
  | inr (fault, is) ↦ inr (refusal.Text 1 fault, inl (fault, refl, is))
]
