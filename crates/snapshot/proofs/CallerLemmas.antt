-- The lemmas that crates above cite; nothing else of this folder is cited there.
pub use Rattle.snapshot.proofs.PlanLaws.{takings-more}
pub use Rattle.snapshot.proofs.StoredLaws.{kinds-carried_all, kinds-stored, since-stored}
pub use Rattle.snapshot.proofs.TouchedLaws.{captured-untouched, untouched-carried, untouched-grown, untouched-taken}
