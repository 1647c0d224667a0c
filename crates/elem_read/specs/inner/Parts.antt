-- What a part of an element is read as. Only contracts of private functions cite this.
use Rattle.std.specs.Prelude.{◌≡◌, ◌⊎◌, ℕ, List, [], ◌∷◌, ◌++◌, Result, Ok, Err}
use Rattle.board_base.specs.declared.stop.Stop.{Stop}
use Rattle.board_base.specs.declared.stop.Stop.TheVariants.{Fault, Memory}
use Rattle.elem.specs.declared.parts.BoundRef.{BoundRef}
use Rattle.elem.specs.Forms.{IsListingEntry}
use Rattle.elem_read.specs.Faults.{Lacks}
use Rattle.elem_read.specs.declared.fault.ElemFault.{ElemFault}

-- What has the property was read; or nothing has the other one, and this is the fault; or memory
-- was wanting.
abbrev pub ReadsOr : {A B : Type 0} → (A → Type 0) → (B → Type 0) → ElemFault
    → Result A (Stop ElemFault) → Type 0
ReadsOr P Q fault (Ok x) = P x
ReadsOr P Q fault (Err (Fault other)) = (other ≡ fault) × Lacks Q
ReadsOr P Q fault (Err Memory) = Unit {0}

abbrev pub Reads : {A : Type 0} → (A → Type 0) → ElemFault → Result A (Stop ElemFault) → Type 0
Reads P fault result = ReadsOr P P fault result

-- The entry that the item is was appended, if it is one.
abbrev pub TakesEntry : List ℕ → List BoundRef → List BoundRef → Type 0
TakesEntry item old new =
    ((entry : BoundRef) × IsListingEntry item entry × (new ≡ old ++ entry ∷ []))
    ⊎ (Lacks (IsListingEntry item) × (new ≡ old))
