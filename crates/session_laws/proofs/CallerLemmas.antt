-- The lemmas that crates above cite; nothing else of this folder is cited there.
pub use Rattle.session_laws.proofs.Seats.{events-seats, opened-seats}
