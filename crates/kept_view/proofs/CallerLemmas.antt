-- The lemmas that crates above cite; nothing else of this folder is cited there.
pub use Rattle.kept_view.proofs.Followed.{element-live, if_live}
