-- What a clip's text says, and its first fault. After Excalidraw's clipboard; which forms are
-- accepted, and the order of the faults, is this project's own.
-- Only this crate's own bodies and proofs need it.
use Rattle.std.specs.Prelude.{◌≡◌, ℕ, List, None}
use Rattle.clips.specs.Placed.{first_repeat, AreReadFrom}
use Rattle.clips.specs.declared.placed.Placed.{Placed}
use Rattle.clips.specs.Clips.{live_in}

-- The elements that the values are read as, without deleted ones; their ids are distinct.
pub record AreLiveOf (values : List (List ℕ)) (live : List Placed) : Type 0 where
  pub placed : List Placed
  pub read : AreReadFrom 0 values placed
  pub live_is : live ≡ live_in placed
  pub distinct : first_repeat (live_in placed) ≡ None
