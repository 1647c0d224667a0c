-- A clip's form and its faults, as they are read.
use Rattle.std.proofs.Common.{◌≡◌, ℕ, Bool, true, false, cond, not, List, [], ◌∷◌, Some, All, codes, refl}
use Rattle.std.proofs.lemmas.List.Elements.{All-cons, All-head, All-tail}
use Rattle.board_base.specs.declared.stop.Stop.TheVariants.{Fault}
use Rattle.json_text.specs.Characters.{quote}
use Rattle.json_text.specs.Compact.{Member as Pair}
use Rattle.json_text.proofs.CallerLemmas.{ascii-utf8}
use Rattle.scene_json.specs.Named.{value_at}
use Rattle.elem_read.proofs.CallerLemmas.{stopped}
use Rattle.scene_file.specs.Reading.{value_unless_null, HasMembers}
use Rattle.elem.specs.ElementValue.{ElementValue}
use Rattle.clips.specs.Clips.{live_in, IsClipboard, IsClipWith, IsClipFault, IsElementsFault}
use Rattle.clips.specs.Placed.{elements_in}
use Rattle.clips.specs.declared.placed.Placed.{Placed}
use Rattle.clips.specs.declared.fault.ClipFault.{ClipFault}
use Rattle.clips.specs.declared.fault.ClipFault.TheVariants.{NotObject, NotClip, Elements, Files, Element, Repeated}

pub is-clipboard : (members : List Pair) → value_at (codes "type") members ≡ Some (quote (codes "excalidraw/clipboard"))
    → IsClipboard members
is-clipboard members kind = (ascii-utf8 (codes "excalidraw/clipboard") refl, kind)

pub fault-same : (A : Type 0) (a b : ClipFault) → stopped A (Fault a) ≡ stopped A (Fault b) → a ≡ b
fault-same A a b e = cc

-- a fault of the elements of what is a clip else
pub elements-fault : (text : List ℕ) (members : List Pair) (values : List (List ℕ)) (files : List Pair)
    (fault : ClipFault) → IsClipWith text members values
    → HasMembers (value_unless_null (codes "files") members) files → IsElementsFault values fault
    → IsClipFault text fault
elements-fault text members values files NotObject w has is = absurd is
elements-fault text members values files NotClip w has is = absurd is
elements-fault text members values files Elements w has is = absurd is
elements-fault text members values files Files w has is = absurd is
elements-fault text members values files (Element place why) w has is = (members, values, w, (files, has), is)
elements-fault text members values files (Repeated place) w has is = (members, values, w, (files, has), is)

-- what holds of all elements holds of the live ones
pub live-all : (P : ElementValue → Type 0) (placed : List Placed) → All P (elements_in placed)
    → All P (elements_in (live_in placed))
live-all P [] all = all
live-all P (p ∷ placed) all =
    go (not p.element.deleted) (live-all P placed (All-tail P p.element (elements_in placed) all))
  where
    go : (b : Bool) → All P (elements_in (live_in placed))
        → All P (elements_in (cond b (p ∷ live_in placed) (live_in placed)))
    go true others =
        All-cons P p.element (elements_in (live_in placed)) (All-head P p.element (elements_in placed) all) others
    go false others = others
