-- What is shown of read scenes has a text, which nests at most 128.
use Rattle.std.proofs.Common.{List, [], ◌∷◌, map, flat_map}
use Rattle.std.specs.List.{AllByRecursion}
use Rattle.json_text.specs.Compact.{Member as Pair}
use Rattle.json_text.specs.Value.{IsCompact}
use Rattle.json_text.specs.FirstOccurrences.{first_texts}
use Rattle.elem.specs.ElementValue.{ElementValue}
use Rattle.file_table.specs.References.{references, referred_files}
use Rattle.view.specs.Settled.{AreSettled}
use Rattle.index_repair.specs.Keyed.{HaveRisingKeys}
use Rattle.view.specs.Shown.{live_elements, shown}
use Rattle.elem.proofs.CallerLemmas.{AreKept}
use Rattle.index_repair.proofs.CallerLemmas.{kept-keys}
use Rattle.view.proofs.CallerLemmas.{live-kept, shown-kept, live_elements-rise, HaveDistinctIds-rising, shown-keys, shown-settled}
use Rattle.elem_store.specs.Updates.{AreStored}
use Rattle.scene_file.specs.Heads.{Heading, IsJoinedHead}
use Rattle.scene_file.specs.Scenes.{scene_text}
use Rattle.scene_file.specs.declared.scene.Scene.{Scene}
use Rattle.scene_file.proofs.CallerLemmas.{AllFit, IsFit, HasText, all-sound, heads-fit, joined-fits, referred-fit, scene-text-compact, stored-kept, updates-kept}

module _ (scenes : List Scene) (head : Heading) (stored : List ElementValue) (read : AllByRecursion HasText scenes)
    (joined : IsJoinedHead (map (λ (scene : Scene). scene.head) scenes) head)
    (are : AreStored (flat_map (λ (scene : Scene). scene.elements) scenes) stored) where
  live-are-kept : AreKept (live_elements stored)
  live-are-kept = live-kept stored (stored-kept (flat_map (λ (scene : Scene). scene.elements) scenes) stored
      (updates-kept scenes (all-sound scenes read)) are)

  pub shown-rise : HaveRisingKeys (shown (live_elements stored))
  shown-rise = shown-keys (live_elements stored) (kept-keys (live_elements stored) live-are-kept)

  pub shown-agree : AreSettled (shown (live_elements stored))
  shown-agree =
      shown-settled (live_elements stored)
      (HaveDistinctIds-rising (live_elements stored) (live_elements-rise stored are.ordered))
      (kept-keys (live_elements stored) live-are-kept)

  fits : IsFit head
  fits = joined-fits (map (λ (scene : Scene). scene.head) scenes) head (heads-fit scenes (all-sound scenes read)) joined

  pub shown-compact : IsCompact 128 (scene_text head (shown (live_elements stored)))
  shown-compact = scene-text-compact head (shown (live_elements stored)) fits joined.app_state.ordered
      (shown-kept (live_elements stored) live-are-kept)

  pub shown-files : AllByRecursion (λ (file : Pair). IsCompact 126 file.1)
      (referred_files head.files (shown (live_elements stored)))
  shown-files = nest (referred_files head.files (shown (live_elements stored)))
      (referred-fit head.files (first_texts (references (shown (live_elements stored)))) fits.files)
    where
      nest : (files : List Pair) → AllFit files → AllByRecursion (λ (file : Pair). IsCompact 126 file.1) files
      nest [] all = tt
      nest (file ∷ files) all = (all.0.nests, nest files all.1)
