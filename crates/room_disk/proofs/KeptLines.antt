-- What lines are kept as, line after line.
use Rattle.std.proofs.Common.{◌≡◌, ℕ, ◌+◌, List, [], ◌∷◌, ◌++◌, length, flat_map, Ok, Err, refl, sym, ap, ◌∙◌, subst, append_assoc, append-nil}
use Rattle.std.proofs.lemmas.List.Concat.{flat_map-append}
use Rattle.elem.specs.ElementValue.{ElementValue}
use Rattle.elem_store.specs.Updates.{AreStored}
use Rattle.room_msg.specs.Messages.{IsReadAs}
use Rattle.room_msg.specs.declared.message.Message.TheVariants.{Update}
use Rattle.scene_file.specs.Heads.{Heading}
use Rattle.scene_file.specs.declared.scene.Scene.{Scene}
use Rattle.room_disk.specs.Recovering.{IsSceneReadAs, AreUpdates, AreKept, IsLineFault, IsSceneLineFault, IsUpdateLineFault, HasFaultyLine, AreReadAs}
use Rattle.room_disk.specs.inner.UnderWay.{HasTakenLine}
use Rattle.room_disk.specs.declared.fault.KeepFault.{KeepFault}
use Rattle.room_disk.specs.declared.fault.KeepFault.TheVariants.{Line}
use Rattle.room_disk.specs.declared.fault.LineFault.{LineFault}

abbrev pub all : List (List ElementValue) → List ElementValue
all messages = flat_map (λ (es : List ElementValue). es) messages

updates-more : (lines : List (List ℕ)) (messages : List (List ElementValue)) (line : List ℕ)
    (elements : List ElementValue) → AreUpdates lines messages → IsReadAs line (Ok (Update elements))
    → AreUpdates (lines ++ line ∷ []) (messages ++ elements ∷ [])
updates-more [] [] line elements are read = (read, tt)
updates-more [] (es ∷ messages) line elements are read = absurd are
updates-more (l ∷ lines) [] line elements are read = absurd are
updates-more (l ∷ lines) (es ∷ messages) line elements are read =
    (are.0, updates-more lines messages line elements are.1 read)

all-more : (messages : List (List ElementValue)) (elements : List ElementValue)
    → all (messages ++ elements ∷ []) ≡ all messages ++ elements
all-more messages elements = flat_map-append (λ (es : List ElementValue). es) messages (elements ∷ [])
    ∙ ap (λ es. all messages ++ es) (append-nil elements)

-- the first line
pub opened-first : (line : List ℕ) (scene : Scene) (elements : List ElementValue) → IsSceneReadAs line (Ok scene)
    → AreStored scene.elements elements → AreKept (line ∷ []) scene.head elements
opened-first line scene elements read stored = record {
  scene = scene;
  read = read;
  is_head = refl;
  messages = [];
  updates = tt;
  stored = subst (λ es. AreStored es elements) (sym (append-nil scene.elements)) stored;
}

-- a further line
pub kept-more : (lines : List (List ℕ)) (line : List ℕ) (head : Heading) (old new : List ElementValue)
    → (lines ≡ [] → ⊥) → AreKept lines head old → HasTakenLine old line new → AreKept (lines ++ line ∷ []) head new
kept-more [] line head old new some kept taken = absurd (some refl)
kept-more (first ∷ others) line head old new some kept taken = record {
  scene = kept.scene;
  read = kept.read;
  is_head = kept.is_head;
  messages = kept.messages ++ taken.elements ∷ [];
  updates = updates-more others kept.messages line taken.elements kept.updates taken.read;
  stored = subst (λ es. AreStored es new)
      (append_assoc kept.scene.elements (all kept.messages) taken.elements
      ∙ ap (λ es. kept.scene.elements ++ es) (sym (all-more kept.messages taken.elements)))
      (taken.taken (kept.scene.elements ++ all kept.messages) kept.stored);
}

-- a faulty line, and lines behind it
pub faulty-line : (lines : List (List ℕ)) (line : List ℕ) (head : Heading) (elements : List ElementValue) (number : ℕ)
    (fault : LineFault) → AreKept lines head elements → number ≡ length lines + 1
    → IsLineFault lines line fault → HasFaultyLine (lines ++ line ∷ []) number fault
faulty-line lines line head elements number fault kept counted is = record {
  before = lines;
  line = line;
  after = [];
  parts = refl;
  counted = counted;
  sound = (head, elements, kept);
  faulty = is;
}

pub faulty-more : (lines : List (List ℕ)) (line : List ℕ) (fault : KeepFault) → AreReadAs lines (Err fault)
    → AreReadAs (lines ++ line ∷ []) (Err fault)
faulty-more lines line (Line number fault) has = record {
  before = has.before;
  line = has.line;
  after = has.after ++ line ∷ [];
  parts = ap (λ ls. ls ++ line ∷ []) has.parts ∙ append_assoc has.before (has.line ∷ has.after) (line ∷ []);
  counted = has.counted;
  sound = has.sound;
  faulty = has.faulty;
}

-- whose fault a line's fault is
pub scene-fault : (lines : List (List ℕ)) (line : List ℕ) (fault : LineFault) → lines ≡ [] → IsSceneLineFault line fault
    → IsLineFault lines line fault
scene-fault lines line fault none is = subst (λ ls. IsLineFault ls line fault) (sym none) is

pub update-fault : (lines : List (List ℕ)) (line : List ℕ) (fault : LineFault) → (lines ≡ [] → ⊥)
    → IsUpdateLineFault line fault → IsLineFault lines line fault
update-fault [] line fault some is = absurd (some refl)
update-fault (first ∷ others) line fault some is = is
