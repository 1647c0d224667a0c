-- The lemmas that crates above cite; nothing else of this folder is cited there.
pub use Rattle.copies.proofs.CopyKept.{all-copied, copies-elements, copies-length, element-copied, texts-copied}
pub use Rattle.copies.proofs.CopyNames.{copied, copies-distinct, copy-id, copy-named, original}
