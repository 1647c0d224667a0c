-- The lemmas that crates above cite; nothing else of this folder is cited there.
pub use Rattle.json_reader.proofs.FirstFaults.{fault-once}
pub use Rattle.json_reader.proofs.Outcomes.{value-or-fault}
pub use Rattle.json_reader.proofs.Feeds.{behind-blank, blank-behind}
