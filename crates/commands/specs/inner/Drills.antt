-- What a drill tells, and how a run of one ends. This project's own.
-- Only this crate's own bodies and proofs need it.
use Rattle.std.specs.Prelude.{length}
use Rattle.session.specs.declared.report.Report.{Report}
use Rattle.session.specs.declared.report.ReplicaReport.{ReplicaReport}
use Rattle.commands.specs.declared.status.Fault.TheVariants as fault
use Rattle.commands.specs.declared.status.Status.TheVariants as status
use Rattle.commands.specs.Drills.{of_first, show_one_scene, Summary}

-- what is told of a report
abbrev pub of_report : Report → Summary
of_report report = record {
  replicas = length report.replicas;
  messages = report.messages;
  refused = length report.refused;
  stored = of_first (λ (replica : ReplicaReport). replica.stored) report.replicas;
  live = of_first (λ (replica : ReplicaReport). replica.live) report.replicas;
  clashes = report.clashes;
  same = show_one_scene (λ (replica : ReplicaReport). replica.scene) report.replicas;
}
