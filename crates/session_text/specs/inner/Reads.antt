-- How a text is read: as something, or with a first fault. This project's own.
-- Only this crate's own bodies and proofs need it.
use Rattle.std.specs.Prelude.{Result}
use Rattle.board_base.specs.declared.stop.Stop.{Stop}
use Rattle.session_text.specs.declared.fault.TextFault.{TextFault}
use Rattle.session_text.specs.Reads.{Answers}

-- A call gives what is read. Only contracts of private functions cite this.
pub record IsReadResult {A : Type 0} (Reads : Result A TextFault
    → Type 0) (result : Result A (Stop TextFault)) : Type 0 where
  pub read : Answers Reads result
