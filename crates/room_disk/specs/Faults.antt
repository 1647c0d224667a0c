-- What is told of a line's fault. This project's own.
use Rattle.std.specs.Prelude.{ℕ, List, codes}
use Rattle.room_msg.specs.Faults.{message_fault_words}
use Rattle.scene_file.specs.Faults.{scene_fault_words}
use Rattle.room_disk.specs.declared.fault.LineFault.{LineFault}
use Rattle.room_disk.specs.declared.fault.LineFault.TheVariants.{Scene, Message, Other}

abbrev pub line_fault_words : LineFault → List ℕ
line_fault_words (Scene fault) = scene_fault_words fault
line_fault_words (Message fault) = message_fault_words fault
line_fault_words Other = codes "type"
