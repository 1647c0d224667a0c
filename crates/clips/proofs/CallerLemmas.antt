-- The lemmas that crates above cite; nothing else of this folder is cited there.
pub use Rattle.clips.proofs.ClipOnce.{clip-faultless, clip-once, fault-once}
pub use Rattle.clips.proofs.ClipTold.{live-all}
pub use Rattle.clips.proofs.Existing.{clip-or-fault}
pub use Rattle.clips.proofs.PlacedReading.{placed-faultless, placed-of, placed-once, placed-whole}
pub use Rattle.clips.proofs.Questions.{Asked, asked-none, asked-once, no, yes}
pub use Rattle.clips.proofs.RepeatLaws.{repeat-first, repeat-none}
pub use Rattle.clips.proofs.WholeClips.{clip-distinct, clip-files, clip-whole}
pub use Rattle.clips.proofs.WholeCopies.{copies-whole}
