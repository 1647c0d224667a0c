-- The lemmas that crates above cite; nothing else of this folder is cited there.
pub use Rattle.effect_laws.proofs.GivenLaws.{board-given}
