-- The lemmas that crates above cite; nothing else of this folder is cited there.
pub use Rattle.file_table.proofs.Lesser.{lesser_either}
pub use Rattle.file_table.proofs.Least.{AreLeastEntries-join, AreLeastEntries-moved, AreLeastEntries-none}
pub use Rattle.file_table.proofs.Least.{AreLeastEntries-own, AreLeastEntries-unique, least-append, least-distinct}
pub use Rattle.file_table.proofs.Least.{least-is, least-own}
pub use Rattle.file_table.proofs.Urls.{content-unique}
pub use Rattle.file_table.proofs.Referred.{IsDistinct-found, found, none-either, referred-at}
pub use Rattle.file_table.proofs.Tabled.{files-exist, picture-exists}
