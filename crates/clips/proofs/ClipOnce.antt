-- A text is that of one clip at most, or has one first fault.
use Rattle.std.proofs.Common.{◌≡◌, ℕ, List, [], Some, codes, refl, sym, ap, ap₂, ◌∙◌, subst}
use Rattle.std.proofs.lemmas.Option.{same_Some}
use Rattle.json_text.specs.Compact.{Member as Pair}
use Rattle.json_text.specs.Members.{pairs}
use Rattle.elem.specs.Forms.{IsObject}
use Rattle.elem.proofs.CallerLemmas.{members-once, pairs-once}
use Rattle.elem_read.specs.Elements.{IsFirstFaulty}
use Rattle.elem_read.specs.declared.fault.ElemFault.{ElemFault}
use Rattle.elem_read.proofs.CallerLemmas.{faulty-once}
use Rattle.scene_file.specs.Reading.{value_unless_null, HasItems, HasMembers}
use Rattle.scene_file.proofs.CallerLemmas.{items-once, value_unless_null-once}
use Rattle.clips.specs.Clips.{live_in, IsClipboard, IsClipOf, IsClipFault}
use Rattle.clips.specs.Placed.{elements_in, places_in, first_repeat, AreReadFrom}
use Rattle.clips.specs.declared.clip.Clip.{Clip}
use Rattle.clips.specs.declared.fault.ClipFault.{ClipFault}
use Rattle.clips.specs.declared.fault.ClipFault.TheVariants.{NotObject, NotClip, Elements, Files, Element, Repeated}
use Rattle.clips.specs.declared.placed.Placed.{Placed}
use Rattle.clips.proofs.PlacedReading.{placed-once, placed-faultless}
use Rattle.clips.proofs.Questions.{Asked, no, yes, asked-once, asked-none}

-- ---- clips
pub clip-once : (text : List ℕ) (clip other : Clip) → IsClipOf text clip → IsClipOf text other → clip ≡ other
clip-once text clip other one two =
    let members = members-once text two.members one.members two.object one.object in
    let values = items-once (value_unless_null (codes "elements") one.members) two.values one.values
    (subst (λ ms. HasItems (value_unless_null (codes "elements") ms) two.values) members two.items) one.items in
    let files = pairs-once clip.files other.files
    (value_unless_null-once (value_unless_null (codes "files") one.members) (pairs clip.files) (pairs other.files)
    one.files
    (subst (λ ms. HasMembers (value_unless_null (codes "files") ms) (pairs other.files)) members two.files)) in
    let placed = placed-once 0 one.values one.placed two.placed one.read
    (subst (λ vs. AreReadFrom 0 vs two.placed) values two.read) in
    let elements = one.elements ∙ (ap (λ ps. elements_in (live_in ps)) placed ∙ sym two.elements) in
    let places = one.places ∙ (ap (λ ps. places_in (live_in ps)) placed ∙ sym two.places) in
    λ i. record { elements = elements i; places = places i; files = files i }

-- ---- faults
-- the questions in their order
data Ending (values : List (List ℕ)) (fault : ClipFault) : Type 0 where
  faulty : (place : ℕ) (why : ElemFault) → fault ≡ Element place why → IsFirstFaulty values place why
      → Ending values fault
  repeated : (place : ℕ) (placed : List Placed) → fault ≡ Repeated place → AreReadFrom 0 values placed
      → first_repeat (live_in placed) ≡ Some place → Ending values fault

abbrev HasSomeItems : List Pair → Type 0
HasSomeItems members = (values : List (List ℕ)) × HasItems (value_unless_null (codes "elements") members) values

abbrev HasSomeFiles : List Pair → Type 0
HasSomeFiles members = (files : List Pair) × HasMembers (value_unless_null (codes "files") members) files

abbrev EndsIn : List Pair → ClipFault → Type 0
EndsIn members fault =
    (values : List (List ℕ)) × HasItems (value_unless_null (codes "elements") members) values × Ending values fault

abbrev Third : List Pair → ClipFault → Type 0
Third members fault = Asked (HasSomeFiles members) Files (EndsIn members) fault

abbrev Second : List Pair → ClipFault → Type 0
Second members fault = Asked (HasSomeItems members) Elements (Third members) fault

abbrev First : List Pair → ClipFault → Type 0
First members fault = Asked (IsClipboard members) NotClip (Second members) fault

abbrev OfObject : List ℕ → ClipFault → Type 0
OfObject text fault = (members : List Pair) × IsObject text members × First members fault

abbrev HasObject : List ℕ → Type 0
HasObject text = (members : List Pair) × IsObject text members

abbrev OfText : List ℕ → ClipFault → Type 0
OfText text fault = Asked (HasObject text) NotObject (OfObject text) fault

of-text : (text : List ℕ) (fault : ClipFault) → IsClipFault text fault → OfText text fault
of-text text NotObject lacks = no refl (λ has. lacks has.0 has.1)
of-text text NotClip (ms, is, lacks) = yes (ms, is) (ms, is, no refl lacks)
of-text text Elements (ms, is, kind, lacks) = yes (ms, is) (ms, is, yes kind (no refl (λ has. lacks has.0 has.1)))
of-text text Files (ms, vs, w, lacks) =
    yes (ms, w.object) (ms, w.object, yes w.kind (yes (vs, w.items) (no refl (λ has. lacks has.0 has.1))))
of-text text (Element place why) (ms, vs, w, has, is) =
    yes (ms, w.object) (ms, w.object, yes w.kind (yes (vs, w.items) (yes has (vs, w.items, faulty place why refl is))))
of-text text (Repeated place) (ms, vs, w, has, (placed, read, again)) =
    yes (ms, w.object) (
      ms,
      w.object,
      yes w.kind (yes (vs, w.items) (yes has (vs, w.items, repeated place placed refl read again))),
    )

ending-once : (values : List (List ℕ)) (fault other : ClipFault) → Ending values fault → Ending values other
    → fault ≡ other
ending-once values fault other (faulty place why e is) (faulty place' why' f are) =
    let both = faulty-once values place place' why why' is are in
    e ∙ (ap₂ element both.0 both.1 ∙ sym f)
  where
    element : ℕ → ElemFault → ClipFault
    element p w = Element p w
ending-once values fault other (faulty place why e is) (repeated place' placed f read again) =
    absurd (placed-faultless values placed place why read is)
ending-once values fault other (repeated place placed e read again) (faulty place' why f is) =
    absurd (placed-faultless values placed place' why read is)
ending-once values fault other (repeated place placed e read again) (repeated place' placed' f read' again') =
    let same = placed-once 0 values placed placed' read read' in
    e ∙ (ap repeat (same_Some place place' (sym again ∙ (ap (λ ps. first_repeat (live_in ps)) same ∙ again'))) ∙ sym f)
  where
    repeat : ℕ → ClipFault
    repeat p = Repeated p

ends-once : (members : List Pair) (fault other : ClipFault) → EndsIn members fault → EndsIn members other
    → fault ≡ other
ends-once members fault other one two =
    let values = items-once (value_unless_null (codes "elements") members) two.0 one.0 two.1 one.1 in
    ending-once one.0 fault other one.2 (subst (λ vs. Ending vs other) values two.2)

first-once : (members : List Pair) (fault other : ClipFault) → First members fault → First members other → fault ≡ other
first-once members fault other =
    asked-once (IsClipboard members) NotClip (Second members) fault other
    (asked-once (HasSomeItems members) Elements (Third members) fault other
    (asked-once (HasSomeFiles members) Files (EndsIn members) fault other (ends-once members fault other)))

pub fault-once : (text : List ℕ) (fault other : ClipFault) → IsClipFault text fault → IsClipFault text other
    → fault ≡ other
fault-once text fault other one two =
    asked-once (HasObject text) NotObject (OfObject text) fault other
    (λ a b. first-once a.0 fault other a.2 (subst (λ ms. First ms other) (members-once text b.0 a.0 b.1 a.1) b.2))
    (of-text text fault one) (of-text text other two)

module _ (text : List ℕ) (clip : Clip) (is : IsClipOf text clip) where
  no-ending : (fault : ClipFault) → Ending is.values fault → ⊥
  no-ending fault (faulty place why e faulted) = placed-faultless is.values is.placed place why is.read faulted
  no-ending fault (repeated place placed e read again) =
      let same = placed-once 0 is.values is.placed placed is.read read in
      let none = sym again ∙ (ap (λ ps. first_repeat (live_in ps)) (sym same) ∙ is.distinct) in
      absurd cc

  no-end : (fault : ClipFault) → EndsIn is.members fault → ⊥
  no-end fault ends =
      no-ending fault (subst (λ vs. Ending vs fault) (items-once (value_unless_null (codes "elements") is.members)
      ends.0 is.values ends.1 is.items) ends.2)

  no-first : (fault : ClipFault) → First is.members fault → ⊥
  no-first fault =
      asked-none (IsClipboard is.members) NotClip (Second is.members) fault is.kind
      (asked-none (HasSomeItems is.members) Elements (Third is.members) fault (is.values, is.items)
      (asked-none (HasSomeFiles is.members) Files (EndsIn is.members) fault (
        pairs clip.files,
        is.files,
      ) (no-end fault)))

  pub clip-faultless : (fault : ClipFault) → IsClipFault text fault → ⊥
  clip-faultless fault f =
      asked-none (HasObject text) NotObject (OfObject text) fault (is.members, is.object)
      (λ o. no-first fault (subst (λ ms. First ms fault) (members-once text o.0 is.members o.1 is.object) o.2))
      (of-text text fault f)
