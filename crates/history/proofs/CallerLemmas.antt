-- The lemmas that crates above cite; nothing else of this folder is cited there.
pub use Rattle.history.proofs.PlanLaws.{noted-none}
pub use Rattle.history.proofs.StackPairs.{left-stands, noted-stands, step-done, step-full, step-nothing, step-taken}
pub use Rattle.history.proofs.StepLaws.{ids-stored, ids-taken, left-ids, noted-ids}
