-- The lemmas that crates above cite; nothing else of this folder is cited there.
pub use Rattle.restore_table.proofs.Merging.{merged-rise}
pub use Rattle.restore_table.proofs.RestoredLaws.{restored-from, restored-lack, restored-order, restored-unique}
pub use Rattle.restore_table.proofs.RestoredLaws.{unknown-stays}
pub use Rattle.restore_table.proofs.Rows.{defaults-compact, defaults-rise}
