-- The lemmas that crates above cite; nothing else of this folder is cited there.
pub use Rattle.clash.proofs.FirstLaws.{AreAlike, firsts-more, firsts-tell, free-found, tied-alike}
