-- The lemmas that crates above cite; nothing else of this folder is cited there.
pub use Rattle.room_msg.proofs.Once.{answer-once, more-alone, more-once}
