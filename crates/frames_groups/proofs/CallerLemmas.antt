-- The lemmas that crates above cite; nothing else of this folder is cited there.
pub use Rattle.frames_groups.proofs.FrameLaws.{NameFrames-settled, framed-among, frames_settled-others}
pub use Rattle.frames_groups.proofs.FrameLaws.{frames_settled-settled}
pub use Rattle.frames_groups.proofs.GroupLaws.{HaveDistinctGroups-settled, NameFrames-grouped, groups_settled-others}
pub use Rattle.frames_groups.proofs.GroupLaws.{groups_settled-settled, settled-either}
