-- The lemmas that crates above cite; nothing else of this folder is cited there.
pub use Rattle.undo_model.proofs.DifferingLaws.{changed-false, changed-is, differ-false, differ-same, differ-true}
pub use Rattle.undo_model.proofs.DifferingLaws.{found-is, ids-from, pairs-elements, pending-entry, pending-rise}
pub use Rattle.undo_model.proofs.DifferingLaws.{pending-stands, same_kind-same, same_kind-true}
pub use Rattle.undo_model.proofs.LeavingLaws.{undone-leaves}
pub use Rattle.undo_model.proofs.StepLaws.{exchanged-entry, full-is, given-all, given-each, given-elements, given-rise}
pub use Rattle.undo_model.proofs.StepLaws.{given-taken, ids-exchanged, made-entry, sought-entries, step-sound, step-stops}
pub use Rattle.undo_model.proofs.StepLaws.{step-turn}
pub use Rattle.undo_model.proofs.TakenLaws.{Is, carried-elements, carried-rising, carried_all-elements, carried_all-rising}
pub use Rattle.undo_model.proofs.TakenLaws.{put-each, put-elements, put-rising, taken-has, taken_all-elements}
pub use Rattle.undo_model.proofs.TakenLaws.{taken_all-is, taken_all-rising, taken_all-stored, takings-elements}
pub use Rattle.undo_model.proofs.UndoneLaws.{follows-undone, restamped, reverts-undone, undone-back, undone-element}
pub use Rattle.undo_model.proofs.UndoneLaws.{undone-stamp, undone-undoes}
