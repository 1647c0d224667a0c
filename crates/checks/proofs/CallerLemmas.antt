-- The lemmas that crates above cite; nothing else of this folder is cited there.
pub use Rattle.checks.proofs.Existing.{checked-exists}
pub use Rattle.checks.proofs.Once.{checked-once, checked-some, values-once}
