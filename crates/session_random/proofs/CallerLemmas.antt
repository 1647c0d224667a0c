-- The lemmas that crates above cite; nothing else of this folder is cited there.
pub use Rattle.session_random.proofs.WordLaws.{word-below}
