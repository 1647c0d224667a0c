-- The form of a scene.
use Rattle.std.proofs.Common.{◌≡◌, List, Some, codes, refl}
use Rattle.json_text.specs.Characters.{quote}
use Rattle.json_text.specs.Compact.{Member as Pair}
use Rattle.json_text.proofs.CallerLemmas.{ascii-utf8}
use Rattle.scene_json.specs.Named.{value_at}
use Rattle.scene_file.specs.Reading.{IsScene}

pub is-scene : (members : List Pair) → value_at (codes "type") members ≡ Some (quote (codes "excalidraw"))
    → IsScene members
is-scene members kind = (ascii-utf8 (codes "excalidraw") refl, kind)
