-- The lemmas that crates above cite; nothing else of this folder is cited there.
pub use Rattle.room_core.proofs.Steps.{none_taken}
pub use Rattle.room_core.proofs.Tries.{links_gone-append, tells-event, tells-nothing, tells-twice}
pub use Rattle.room_core.proofs.Served.{below_limits, err_part, fewer, left_of, ok_part, one_opening}
pub use Rattle.room_core.proofs.MemberLaws.{heard-read, hearing-once}
pub use Rattle.room_core.proofs.Closing.{Alike, LostAlike, events_of, head-same, link_of, links_of, lost-alike, lost-once, nil-cons, same-end, same-links, tail-same, told-once, tried-links, tries_of}
pub use Rattle.room_core.proofs.Traces.{RoundAlike, TriedAlike, after-once, after-rises, round-same, tried-alike}
pub use Rattle.room_core.proofs.Scripts.{full-event, heard-exists, lost-append, lost-by, taken-exists, tried-by, tries-by}
