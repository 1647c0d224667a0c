-- The lemmas that crates above cite; nothing else of this folder is cited there.
pub use Rattle.replica.proofs.TakenAt.{taken-at, taken-else}
pub use Rattle.replica.proofs.Leading.{SameAs, bare_of}
pub use Rattle.replica.proofs.Agreeing.{find-unstamped, ids-unstamped, same-bare}
pub use Rattle.replica.proofs.Ways.{step-found}
pub use Rattle.replica.proofs.Moving.{captured-none, noted-stored, redo-is_found, redone-is, undo-is_found, undone-all}
pub use Rattle.replica.proofs.Delivering.{empty-stays}
pub use Rattle.replica.proofs.ReplicaLaws.{captured-held, given-held, turn-held-of}
