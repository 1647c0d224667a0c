-- Of each id that isn't touched the snapshot still has what is stored, after each call on a board.
use Rattle.std.proofs.Common.{◌≡◌, ℕ, List, Result, Ok, Err, OnOk, OnErr, sym, ap, ◌∙◌}
use Rattle.elem.specs.ElementValue.{ElementValue}
use Rattle.elem_store.specs.Updates.{element_of}
use Rattle.snapshot.specs.Touched.{AreUntouched}

-- what follows from what holds where a call succeeds, and from what holds where it fails
pub either-way : {X Y : Type 0} {P Q R : Type 0} (result : Result X Y) → OnOk result P → OnErr result Q → (P → R)
    → (Q → R) → R
either-way (Ok x) p q f g = f p
either-way (Err y) p q f g = g q

-- a snapshot and stored elements that stay
pub kept-untouched : (ids : List (List ℕ)) (snapshot stored snapshots stores : List ElementValue) → snapshots ≡ snapshot
    → stores ≡ stored → AreUntouched ids snapshot stored → AreUntouched ids snapshots stores
kept-untouched ids snapshot stored snapshots stores snapshot_is stored_is same id f =
    ap (λ es. element_of es id) snapshot_is ∙ same id f ∙ ap (λ es. element_of es id) (sym stored_is)
