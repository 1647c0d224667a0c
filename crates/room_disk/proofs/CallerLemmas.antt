-- The lemmas that crates above cite; nothing else of this folder is cited there.
pub use Rattle.room_disk.proofs.Once.{kept-once, kept-sound}
