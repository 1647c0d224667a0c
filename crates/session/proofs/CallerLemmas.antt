-- The lemmas that crates above cite; nothing else of this folder is cited there.
pub use Rattle.session.proofs.SeatLaws.{change-given, change-held, change-left, change-refused, change-state}
pub use Rattle.session.proofs.SeatLaws.{outcome-stored, turn-left, turn-state, turn-stored, turn-told, turn_by-held}
pub use Rattle.session.proofs.HeldLaws.{added-is, dropped-is}
pub use Rattle.session.proofs.ReportLaws.{stack-long}
pub use Rattle.session.proofs.WorldLaws.{events-append, world-last}
pub use Rattle.session.proofs.TakenLaws.{StoresTaken, acted-stores, change-stored, delivered-stores, fresh-stores}
pub use Rattle.session.proofs.TakenLaws.{same-stored, taken-made, turn_by-stored}
pub use Rattle.session.proofs.ClashLaws.{clashes-same, flat, flat-more}
pub use Rattle.session.proofs.PrintedLaws.{report-exists, report-is_text, report-once}
