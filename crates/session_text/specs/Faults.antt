-- What is told of the fault of a session's text. This project's own.
use Rattle.std.specs.Prelude.{ℕ, List, ◌++◌, codes, decimal}
use Rattle.json_reader.specs.Faults.{json_words}
use Rattle.elem_read.specs.Faults as elements
use Rattle.scene_file.specs.Faults as scenes
use Rattle.clips.specs.Faults as clips
use Rattle.session_text.specs.Names.{word_of}
use Rattle.session_text.specs.declared.fault.TextFault.{TextFault}
use Rattle.session_text.specs.declared.fault.TextFault.TheVariants.{Json, NotObject, Member, Scene, Element, Clip}

abbrev pub session_fault_words : TextFault → List ℕ
session_fault_words (Json fault) = json_words fault
session_fault_words NotObject = codes "not an object"
session_fault_words (Member name) = codes "member " ++ word_of name
session_fault_words (Scene fault) = codes "scene: " ++ scenes.scene_fault_words fault
session_fault_words (Element place fault) =
    codes "element " ++ (decimal place ++ (codes ": " ++ elements.fault_word fault))
session_fault_words (Clip fault) = codes "clip: " ++ clips.clip_fault_words fault
