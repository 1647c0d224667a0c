-- The lemmas that crates above cite; nothing else of this folder is cited there.
pub use Rattle.scene_file.proofs.Blanks.{Stands-behind, Stands-no_blank}
pub use Rattle.scene_file.proofs.Existing.{StandsAt, fault-at, fits-value_unless_null, is-text, items-compact}
pub use Rattle.scene_file.proofs.Existing.{items-or-not, joined-exists, members-or-not, scene-or-fault}
pub use Rattle.scene_file.proofs.Fitting.{AllFit, HasText, IsFit, all-sound, fit-members, heads-fit, joined-fits}
pub use Rattle.scene_file.proofs.Fitting.{referred-fit, scene-text-compact, stored-kept, updates-kept, written-exists}
pub use Rattle.scene_file.proofs.Joining.{all-more, least_source-more, lesser_source-assoc, lesser_source-none}
pub use Rattle.scene_file.proofs.Joining.{table-more}
pub use Rattle.scene_file.proofs.NamedFiles.{named-rise}
pub use Rattle.scene_file.proofs.Once.{fault-none, fault-once, head-once, items-once, scene-once, scene-some}
pub use Rattle.scene_file.proofs.Once.{value_unless_null-once}
pub use Rattle.scene_file.proofs.ReadBack.{array-no-null, named-text, scene-back, scene-before, scene-behind}
pub use Rattle.scene_file.proofs.ReadBack.{state-back}
pub use Rattle.scene_file.proofs.SameHeads.{joined-moved}
pub use Rattle.scene_file.proofs.SceneTexts.{text-once}
pub use Rattle.scene_file.proofs.Sound.{AreSound, IsListed, keys-or-none, loaded-keys, repaired-sound, rising-keys}
pub use Rattle.scene_file.proofs.Sound.{sound-with, stays-if, stored-all}
pub use Rattle.scene_file.proofs.Values.{behind}
pub use Rattle.scene_file.proofs.WholeScenes.{joined-whole, scene-whole, sounds-whole, stored-whole, wholes-sound}
pub use Rattle.scene_file.proofs.Nesting.{nests-at, nests-value_unless_null}
