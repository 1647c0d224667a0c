-- The lemmas that crates above cite; nothing else of this folder is cited there.
pub use Rattle.elem_read.proofs.Decided.{Decided, Fits, fits-in, id-or-not, not-named, null-or-not, others-exist}
pub use Rattle.elem_read.proofs.Decided.{pairs-unpaired, text-or-not, text_or_null-or-not, texts-or-not, unpaired}
pub use Rattle.elem_read.proofs.Decided.{whole-or-not}
pub use Rattle.elem_read.proofs.Keeping.{AllFound, found-has, found-self, object-nests, others-hold}
pub use Rattle.elem_read.proofs.Keeping.{says-element, says-written}
pub use Rattle.elem_read.proofs.NoSelections.{is-object}
pub use Rattle.elem_read.proofs.Others.{kept, kept-others, sorted-others}
pub use Rattle.elem_read.proofs.Parts.{stop-same, stopped}
pub use Rattle.elem_read.proofs.Read.{read-exists}
pub use Rattle.elem_read.proofs.ReadElements.{All-whole, AreRead-texts, faultless, faulty-at, faulty-once, read-once}
pub use Rattle.elem_read.proofs.ReadElements.{read-or-faulty}
pub use Rattle.elem_read.proofs.Unique.{element-faultless, element-kept, element-once, fault-dropped, fault-once}
pub use Rattle.elem_read.proofs.Whole.{IsSound, IsSound-read, IsSound-whole, restored-named, restored-nest}
