-- The lemmas that crates above cite; nothing else of this folder is cited there.
pub use Rattle.input_texts.proofs.LineLaws.{NoFeed, ended-begun, ended-lines, front-ended, front-none, joined, lines-append}
pub use Rattle.input_texts.proofs.LineLaws.{stretch-begun, stretch-lines}
pub use Rattle.input_texts.proofs.Answered.{took-more, took-none}
pub use Rattle.input_texts.proofs.Feeds.{array-none, compact-none, object-none, quote-none}
