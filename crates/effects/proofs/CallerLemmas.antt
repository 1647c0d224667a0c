-- The lemmas that crates above cite; nothing else of this folder is cited there.
pub use Rattle.effects.proofs.ChangedLaws.{guarded-none}
pub use Rattle.effects.proofs.CreatedLaws.{IsCopyAt, absent, copy-from, created-nonce, refusal_if-none}
pub use Rattle.effects.proofs.KeepingLaws.{Self, effect-keeps}
pub use Rattle.effects.proofs.PlacingLaws.{Rises, Rises-lower, Rises-shown}
pub use Rattle.effects.proofs.SettingLaws.{free-header, nests-more}
pub use Rattle.effects.proofs.OutcomeLaws.{given-cases, given-kind, given-rise, given-seen, given-taken}
pub use Rattle.effects.proofs.CommandLaws.{IsOpen, spot-open}
