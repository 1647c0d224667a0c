-- The lemmas that crates above cite; nothing else of this folder is cited there.
pub use Rattle.session_text.proofs.Kept.{session-kept}
pub use Rattle.session_text.proofs.LinesOne.{line-brings, line-once, line-told, line-within, opening-kept, opening-once}
pub use Rattle.session_text.proofs.LinesOne.{opening-told}
pub use Rattle.session_text.proofs.Readings.{apart}
pub use Rattle.session_text.proofs.Said.{bind-said, change-said, create-said, delete-said, deliver-said, frame-said}
pub use Rattle.session_text.proofs.Said.{group-said, label-said, place-said, redo-said, set-said, undo-said}
pub use Rattle.session_text.proofs.SessionsOne.{fault-apart-session, fault-once, made-more, session-once}
pub use Rattle.session_text.proofs.SessionsOne.{session-or-fault}
pub use Rattle.session_text.proofs.Behind.{begun-at}
pub use Rattle.session_text.proofs.Brought.{whole-elements}
