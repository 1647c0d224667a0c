-- The text of a report. This project's own.
use Rattle.std.specs.Prelude.{ℕ, List, [], ◌∷◌, Option, Some, None, map, codes, decimal}
use Rattle.json_text.specs.Characters.{quote}
use Rattle.json_text.specs.Compact.{Member as Pair, array_text, object_text}
use Rattle.json_text.specs.Tree.{null_word}
use Rattle.effects.specs.declared.refusal.Refusal.{Refusal}
use Rattle.effects.specs.declared.refusal.Refusal.TheVariants.{Exists, NoElement, WrongKind, Protected, VersionFull}
use Rattle.session.specs.declared.report.Report.{Report}
use Rattle.session.specs.declared.report.ReplicaReport.{ReplicaReport}
use Rattle.session.specs.declared.report.RefusedEvent.{RefusedEvent}

-- what a refusal is called, and the id or the member's name that it holds
abbrev pub refusal_words : Option Refusal → List ℕ
refusal_words None = codes "nothing"
refusal_words (Some (Exists name)) = codes "exists"
refusal_words (Some (NoElement name)) = codes "no element"
refusal_words (Some (WrongKind name)) = codes "wrong kind"
refusal_words (Some (Protected name)) = codes "protected"
refusal_words (Some (VersionFull name)) = codes "version full"

abbrev pub refusal_name : Option Refusal → List ℕ
refusal_name None = null_word
refusal_name (Some (Exists name)) = quote name
refusal_name (Some (NoElement name)) = quote name
refusal_name (Some (WrongKind name)) = quote name
refusal_name (Some (Protected name)) = quote name
refusal_name (Some (VersionFull name)) = quote name

-- the members that tell a refusal, and those that tell of the event which it is of
abbrev pub refusal_members : Option Refusal → List Pair
refusal_members why =
    (codes "refusal", quote (refusal_words why)) ∷ (codes "name", refusal_name why) ∷ []

abbrev pub refused_members : RefusedEvent → List Pair
refused_members refused = (codes "event", decimal refused.event) ∷ refusal_members refused.why

abbrev pub replica_members : ReplicaReport → List Pair
replica_members report =
    (codes "scene", report.scene) ∷ (codes "taken", decimal report.taken)
    ∷ (codes "stored", decimal report.stored)
    ∷ (codes "live", decimal report.live) ∷ (codes "undo", decimal report.undo)
    ∷ (codes "redo", decimal report.redo) ∷ []

-- the texts of the report on a refused event, and of that on a replica
unfoldable pub refused_text : RefusedEvent → List ℕ
refused_text refused = object_text (refused_members refused)

unfoldable pub replica_text : ReplicaReport → List ℕ
replica_text report = object_text (replica_members report)

abbrev pub report_members : Report → List Pair
report_members report =
    (codes "replicas", array_text (map replica_text report.replicas))
    ∷ (codes "messages", decimal report.messages)
    ∷ (codes "refused", array_text (map refused_text report.refused))
    ∷ (codes "clashes", decimal report.clashes) ∷ []

-- the compact text of a report
unfoldable pub report_text : Report → List ℕ
report_text report = object_text (report_members report)
