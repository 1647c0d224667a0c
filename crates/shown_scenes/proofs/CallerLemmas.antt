-- The lemmas that crates above cite; nothing else of this folder is cited there.
pub use Rattle.shown_scenes.proofs.ShownTexts.{shown-agree, shown-compact, shown-files, shown-rise}
pub use Rattle.shown_scenes.proofs.ShownWhole.{shown-whole}
