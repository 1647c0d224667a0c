-- The lemmas that crates above cite; nothing else of this folder is cited there.
pub use Rattle.library.proofs.BestLaws.{AreBest-append, AreBest-best, AreBest-itself, AreBest-put, StandFor, best-exist}
pub use Rattle.library.proofs.BestLaws.{best-found, best-none, best-stand, library-same, none_best, stand-append}
pub use Rattle.library.proofs.Existing.{library-or-fault}
pub use Rattle.library.proofs.ItemClips.{item-clip}
pub use Rattle.library.proofs.ItemOnce.{item-faultless, item-once, item_fault-once}
pub use Rattle.library.proofs.LibraryLaws.{best-one, best-same, have-append, libraries-join, library-exists}
pub use Rattle.library.proofs.LibraryLaws.{library-of_set, library-only, library-own, library-same_items, library-stand}
pub use Rattle.library.proofs.LibraryLaws.{library-whole, library_of-once, written-read}
pub use Rattle.library.proofs.LibraryOnce.{lib_fault-once, library-faultless, library-once}
pub use Rattle.library.proofs.Standing.{Stands-behind_blank, object-before, object-first}
pub use Rattle.library.proofs.Whole.{elements-placed, items-whole, library-back, library-compact}
