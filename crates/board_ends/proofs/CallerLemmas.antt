-- The lemmas that crates above cite; nothing else of this folder is cited there.
pub use Rattle.board_ends.proofs.Moved.{Gave-more, Gave-part}
