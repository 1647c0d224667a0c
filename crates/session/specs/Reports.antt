-- What the report of a session says. This project's own.
use Rattle.std.specs.Prelude.{◌≡◌, List, [], length}
use Rattle.std.specs.List.{AllZip}
use Rattle.scene_file.specs.Heads.{Heading}
use Rattle.scene_file.specs.Scenes.{scene_text}
use Rattle.view.specs.Settled.{AreSettled}
use Rattle.index_repair.specs.Keyed.{HaveRisingKeys}
use Rattle.view.specs.Shown.{live_elements, shown}
use Rattle.elem.specs.ElementValue.{ElementValue}
use Rattle.replica.specs.Standing.{ReplicaStandsFor}
use Rattle.session_text.specs.declared.session.Session.{Session}
use Rattle.session.specs.declared.report.Report.{Report}
use Rattle.session.specs.declared.report.ReplicaReport.{ReplicaReport}
use Rattle.session.specs.Clashes.{HaveClashes}
use Rattle.session.specs.Worlds.{Seat, World, all_elements, head_of}

-- what a replica shows
abbrev pub shown_at : Seat → List ElementValue
shown_at s = shown (live_elements s.state.stored)

-- The report hands over the replica; the text is that of the scene that it shows, whose keys rise
-- and whose elements agree on their links, frames and groups; and the numbers are those of its
-- updates, its stored and its live elements, and its entries to undo and to redo.
pub record IsReplicaReport (head : Heading) (s : Seat) (report : ReplicaReport) : Type 0 where
  pub replica : ReplicaStandsFor report.replica s.state
  pub scene : report.scene ≡ scene_text head (shown_at s)
  pub rise : HaveRisingKeys (shown_at s)
  pub settled : AreSettled (shown_at s)
  pub taken : report.taken ≡ length s.taken
  pub stored : report.stored ≡ length s.state.stored
  pub live : report.live ≡ length (live_elements s.state.stored)
  pub undo : report.undo ≡ length s.state.undo
  pub redo : report.redo ≡ length s.state.redo

-- a report for each replica, in their order
abbrev pub AreReplicaReports : Heading → List Seat → List ReplicaReport → Type 0
AreReplicaReports head seats reports = AllZip (IsReplicaReport head) seats reports

-- The report of a session whose world is this one.
pub record IsReportOf (session : Session) (w : World) (report : Report) : Type 0 where
  pub replicas : AreReplicaReports (head_of session) w.seats report.replicas
  pub messages : report.messages ≡ length w.messages
  pub refused : report.refused ≡ w.refused
  pub clashes : HaveClashes [] (all_elements session w) report.clashes
