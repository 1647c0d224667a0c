-- The faults of an element. The forms that are accepted, the order of the faults and their words
-- are this project's own.
use Rattle.std.specs.Prelude.{◌⊎◌, ℕ, ◌<◌, List, Option, codes}
use Rattle.elem.specs.Forms.{Find, IsText, IsId, IsWholeNumber, IsTruth, IsTextOrNull, IsKeyOrNull, AreTexts, IsListing, IsBindingOrNull}
use Rattle.elem_read.specs.declared.fault.ElemFault.{ElemFault}
use Rattle.elem_read.specs.declared.fault.ElemFault.TheVariants.{NotObject, Depth, Id, Kind, Version, Nonce, Updated, Index, Deleted, Groups, Frame, Bound, Container, Binding, File}

-- No thing has this property.
abbrev pub Lacks : {A : Type 0} → (A → Type 0) → Type 0
Lacks P = (x : _) → P x → ⊥

-- An element of the kind of this name has a member that is not of the form.
abbrev pub LacksOwn : {A : Type 0} → Find → List ℕ → (Option (List ℕ) → A → Type 0) → List ℕ
    → Type 0
LacksOwn find kind IsForm name = IsText (find (codes "type")) kind × Lacks (IsForm (find name))

-- Where each fault comes among the members of an element, the defaults filled in: a row a fault,
-- with the member's name and its form. The first two are no faults of a member.
abbrev pub Fails : ElemFault → Find → Type 0
Fails NotObject find = ⊥
Fails Depth find = ⊥
Fails Id find = Lacks (IsId (find (codes "id")))
Fails Kind find = Lacks (IsText (find (codes "type")))
Fails Version find = Lacks (IsWholeNumber (find (codes "version")))
Fails Nonce find = Lacks (IsWholeNumber (find (codes "versionNonce")))
Fails Updated find = Lacks (IsWholeNumber (find (codes "updated")))
Fails Index find = Lacks (IsKeyOrNull (find (codes "index")))
Fails Deleted find = Lacks (IsTruth (find (codes "isDeleted")))
Fails Groups find = Lacks (AreTexts (find (codes "groupIds")))
Fails Frame find = Lacks (IsTextOrNull (find (codes "frameId")))
Fails Bound find = Lacks (IsListing (find (codes "boundElements")))
Fails Container find = LacksOwn find (codes "text") IsTextOrNull (codes "containerId")
Fails Binding find =
    LacksOwn find (codes "arrow") IsBindingOrNull (codes "startBinding")
    ⊎ LacksOwn find (codes "arrow") IsBindingOrNull (codes "endBinding")
Fails File find = LacksOwn find (codes "image") IsTextOrNull (codes "fileId")

-- the order of the faults
abbrev pub place_of : ElemFault → ℕ
place_of NotObject = 0
place_of Depth = 1
place_of Id = 2
place_of Kind = 3
place_of Version = 4
place_of Nonce = 5
place_of Updated = 6
place_of Index = 7
place_of Deleted = 8
place_of Groups = 9
place_of Frame = 10
place_of Bound = 11
place_of Container = 12
place_of Binding = 13
place_of File = 14

-- None of the faults before this place comes.
abbrev pub Passes : ℕ → Find → Type 0
Passes place find = (fault : ElemFault) → place_of fault < place → Fails fault find → ⊥

-- This fault comes, and none before it.
pub record IsFirst (find : Find) (fault : ElemFault) : Type 0 where
  pub comes : Fails fault find
  pub first : Passes (place_of fault) find

-- what a fault line calls the fault
abbrev pub fault_word : ElemFault → List ℕ
fault_word NotObject = codes "not an object"
fault_word Depth = codes "depth"
fault_word Id = codes "id"
fault_word Kind = codes "type"
fault_word Version = codes "version"
fault_word Nonce = codes "versionNonce"
fault_word Updated = codes "updated"
fault_word Index = codes "index"
fault_word Deleted = codes "isDeleted"
fault_word Groups = codes "groupIds"
fault_word Frame = codes "frameId"
fault_word Bound = codes "boundElements"
fault_word Container = codes "containerId"
fault_word Binding = codes "binding"
fault_word File = codes "fileId"
