-- What is told of a clip's fault. This project's own.
use Rattle.std.specs.Prelude.{ℕ, List, ◌++◌, codes, decimal}
use Rattle.elem_read.specs.Faults.{fault_word}
use Rattle.clips.specs.declared.fault.ClipFault.{ClipFault}
use Rattle.clips.specs.declared.fault.ClipFault.TheVariants.{NotObject, NotClip, Elements, Files, Element, Repeated}

-- these words of the element at a place
abbrev pub words_of_element : ℕ → List ℕ → List ℕ
words_of_element place words = codes "element " ++ (decimal place ++ (codes ": " ++ words))

abbrev pub clip_fault_words : ClipFault → List ℕ
clip_fault_words NotObject = codes "not an object"
clip_fault_words NotClip = codes "type"
clip_fault_words Elements = codes "elements"
clip_fault_words Files = codes "files"
clip_fault_words (Element place fault) = words_of_element place (fault_word fault)
clip_fault_words (Repeated place) = words_of_element place (codes "repeated")
