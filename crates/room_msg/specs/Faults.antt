-- What is told of a message's fault. This project's own.
use Rattle.std.specs.Prelude.{ℕ, List, ◌++◌, codes, decimal}
use Rattle.json_reader.specs.Faults.{json_words}
use Rattle.elem_read.specs.Faults.{fault_word}
use Rattle.room_msg.specs.declared.fault.MsgFault.{MsgFault}
use Rattle.room_msg.specs.declared.fault.MsgFault.TheVariants.{Json, NotObject, Tag, Payload, Element}

abbrev pub message_fault_words : MsgFault → List ℕ
message_fault_words (Json fault) = json_words fault
message_fault_words NotObject = codes "not an object"
message_fault_words Tag = codes "type"
message_fault_words Payload = codes "payload"
message_fault_words (Element place fault) =
    codes "element " ++ (decimal place ++ (codes ": " ++ fault_word fault))
