-- What is told of a scene's fault. This project's own.
use Rattle.std.specs.Prelude.{ℕ, List, ◌++◌, codes, decimal}
use Rattle.json_reader.specs.Faults.{json_words}
use Rattle.elem_read.specs.Faults.{fault_word}
use Rattle.scene_file.specs.declared.fault.SceneFault.{SceneFault}
use Rattle.scene_file.specs.declared.fault.SceneFault.TheVariants.{Json, NotObject, NotScene, Elements, AppState, Files, Element}

abbrev pub scene_fault_words : SceneFault → List ℕ
scene_fault_words (Json fault) = json_words fault
scene_fault_words NotObject = codes "not an object"
scene_fault_words NotScene = codes "type"
scene_fault_words Elements = codes "elements"
scene_fault_words AppState = codes "appState"
scene_fault_words Files = codes "files"
scene_fault_words (Element place fault) =
    codes "element " ++ (decimal place ++ (codes ": " ++ fault_word fault))
