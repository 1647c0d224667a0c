-- The lemmas that crates above cite; nothing else of this folder is cited there.
pub use Rattle.board_paste.proofs.PastedLaws.{pasted-added, pasted-kept}
pub use Rattle.board_paste.proofs.StoredIds.{ids-new}
