-- The lemmas that crates above cite; nothing else of this folder is cited there.
pub use Rattle.index_repair.proofs.KeyedLaws.{kept-keys, keyed-distinct, keyed-elements, keyed-kept, keyed-rising}
pub use Rattle.index_repair.proofs.KeyedLaws.{keyed-zip, repaired-kept}
pub use Rattle.index_repair.proofs.Parts.{repaired-cut, under-last}
pub use Rattle.index_repair.proofs.RepairLaws.{AreRepaired-from, all-below, none_between, repaired-law, repaired-rising}
pub use Rattle.index_repair.proofs.RepairLaws.{repaired_below-law}
