-- Lines that are faultless are read as one head and one store, and have no first fault.
use Rattle.std.proofs.Common.{◌≡◌, ℕ, List, [], ◌∷◌, ◌++◌, flat_map, Result, Ok, Err, inl, inr, refl, sym, ap, ap₂, ◌∙◌, subst}
use Rattle.elem.specs.ElementValue.{ElementValue}
use Rattle.elem_store.specs.Updates.{AreStored}
use Rattle.elem_store.proofs.CallerLemmas.{store-unique}
use Rattle.room_msg.specs.Messages.{IsReadAs}
use Rattle.room_msg.specs.declared.fault.MsgFault.{MsgFault}
use Rattle.room_msg.specs.declared.message.Message.{Message}
use Rattle.room_msg.specs.declared.message.Message.TheVariants.{Update}
use Rattle.room_msg.proofs.CallerLemmas.{answer-once, more-alone}
use Rattle.scene_file.specs.Heads.{Heading}
use Rattle.scene_file.specs.Reading.{IsSceneAt}
use Rattle.scene_file.specs.declared.fault.SceneFault.{SceneFault}
use Rattle.scene_file.specs.declared.fault.SceneFault.TheVariants.{Json, NotObject, NotScene, Elements, AppState, Files, Element}
use Rattle.scene_file.specs.declared.scene.Scene.{Scene}
use Rattle.scene_file.proofs.CallerLemmas.{scene-once, fault-none}
use Rattle.room_disk.specs.Recovering.{IsSceneReadAs, AreUpdates, AreKept, IsOther, IsSceneLineFault, IsUpdateLineFault, IsLineFault, HasFaultyLine, Recovered, AreReadAs}
use Rattle.room_disk.specs.declared.fault.KeepFault.{KeepFault}
use Rattle.room_disk.specs.declared.fault.KeepFault.TheVariants.{Line}
use Rattle.room_disk.specs.declared.fault.LineFault.{LineFault}
use Rattle.room_disk.specs.declared.fault.LineFault.TheVariants.{Scene as SceneLine, Message as MessageLine, Other}

-- what lines and bytes are read as
abbrev given : Message → Result Message MsgFault
given message = Ok message

abbrev refused : MsgFault → Result Message MsgFault
refused fault = Err fault

abbrev recovered : Heading → List ElementValue → Result Recovered KeepFault
recovered head elements = Ok (record { head = head; elements = elements })

-- ---- the first line
pub scene-at : (line : List ℕ) (scene : Scene) → IsSceneReadAs line (Ok scene) → (rest : List ℕ)
    × IsSceneAt line scene rest
scene-at line scene is = (is.1.rest, record { text = is.0; stands = is.1.stands; says = is.2 })

pub scene-read-once : (line : List ℕ) (scene other : Scene) → IsSceneReadAs line (Ok scene)
    → IsSceneReadAs line (Ok other) → scene ≡ other
scene-read-once line scene other one two = (scene-once (scene-at line scene one).1 (scene-at line other two).1).0

scene-sound : (line : List ℕ) (scene : Scene) (fault : SceneFault) → IsSceneReadAs line (Ok scene)
    → IsSceneReadAs line (Err fault) → ⊥
scene-sound line scene (Json fault) is (inl first) = first.faulty is.0 is.1.rest is.1.stands
scene-sound line scene (Json fault) is (inr (at, same, more)) = more-alone line is.0 at more is.1
scene-sound line scene NotObject is fault =
    fault-none line 0 NotObject (fault.0, fault.1.rest, fault.1.stands, fault.2) (scene-at line scene is).1
scene-sound line scene NotScene is fault =
    fault-none line 0 NotScene (fault.0, fault.1.rest, fault.1.stands, fault.2) (scene-at line scene is).1
scene-sound line scene Elements is fault =
    fault-none line 0 Elements (fault.0, fault.1.rest, fault.1.stands, fault.2) (scene-at line scene is).1
scene-sound line scene AppState is fault =
    fault-none line 0 AppState (fault.0, fault.1.rest, fault.1.stands, fault.2) (scene-at line scene is).1
scene-sound line scene Files is fault =
    fault-none line 0 Files (fault.0, fault.1.rest, fault.1.stands, fault.2) (scene-at line scene is).1
scene-sound line scene (Element place why) is fault =
    fault-none line 0 (Element place why) (fault.0, fault.1.rest, fault.1.stands, fault.2) (scene-at line scene is).1

scene-line-sound : (line : List ℕ) (scene : Scene) (fault : LineFault) → IsSceneReadAs line (Ok scene)
    → IsSceneLineFault line fault → ⊥
scene-line-sound line scene (SceneLine fault) is faulty = scene-sound line scene fault is faulty
scene-line-sound line scene (MessageLine fault) is faulty = faulty
scene-line-sound line scene Other is faulty = faulty

-- ---- the other lines
update-once : (line : List ℕ) (es fs : List ElementValue) → IsReadAs line (Ok (Update es))
    → IsReadAs line (Ok (Update fs)) → es ≡ fs
update-once line es fs one two =
    let same : given (Update es) ≡ given (Update fs) =
    answer-once line (given (Update es)) (given (Update fs)) one two in
    cc

updates-once : (lines : List (List ℕ)) (ms ns : List (List ElementValue)) → AreUpdates lines ms → AreUpdates lines ns
    → ms ≡ ns
updates-once [] [] [] one two = refl
updates-once [] [] (n ∷ ns) one two = absurd two
updates-once [] (m ∷ ms) ns one two = absurd one
updates-once (l ∷ lines) [] ns one two = absurd one
updates-once (l ∷ lines) (m ∷ ms) [] one two = absurd two
updates-once (l ∷ lines) (m ∷ ms) (n ∷ ns) one two =
    ap₂ (λ x xs. x ∷ xs) (update-once l m n one.0 two.0) (updates-once lines ms ns one.1 two.1)

update-line-sound : (line : List ℕ) (es : List ElementValue) (fault : LineFault) → IsReadAs line (Ok (Update es))
    → IsUpdateLineFault line fault → ⊥
update-line-sound line es (SceneLine fault) is faulty = faulty
update-line-sound line es (MessageLine fault) is faulty =
    let same : given (Update es) ≡ refused fault = answer-once line (given (Update es)) (refused fault) is faulty in cc
update-line-sound line es Other is (message, read, other) =
    let same : given message ≡ given (Update es) = answer-once line (given message) (given (Update es)) read is in
    let update : message ≡ Update es = cc in
    subst IsOther update other

among-updates : (before : List (List ℕ)) (line : List ℕ) (after : List (List ℕ)) (ms : List (List ElementValue))
    → AreUpdates (before ++ line ∷ after) ms → (es : List ElementValue) × IsReadAs line (Ok (Update es))
among-updates [] line after [] are = absurd are
among-updates [] line after (m ∷ ms) are = (m, are.0)
among-updates (b ∷ before) line after [] are = absurd are
among-updates (b ∷ before) line after (m ∷ ms) are = among-updates before line after ms are.1

-- ---- all lines
pub kept-once : (lines : List (List ℕ)) (head other : Heading) (es fs : List ElementValue) → AreKept lines head es
    → AreKept lines other fs → (head ≡ other) × (es ≡ fs)
kept-once [] head other es fs one two = (one.0 ∙ sym two.0, one.1 ∙ sym two.1)
kept-once (first ∷ others) head other es fs one two =
    let scene = scene-read-once first one.scene two.scene one.read two.read in
    let messages = updates-once others one.messages two.messages one.updates two.updates in
    let updates = ap₂ (λ (s : Scene) (ms : List (List ElementValue)). s.elements
    ++ flat_map (λ (m : List ElementValue). m) ms) scene messages in (
      one.is_head ∙ (ap (λ (s : Scene). s.head) scene ∙ sym two.is_head),
      store-unique _ es fs (subst (λ us. AreStored us es) updates one.stored) two.stored,
    )

faulty-among : (before : List (List ℕ)) (line : List ℕ) (after : List (List ℕ)) (head : Heading)
    (es : List ElementValue) (fault : LineFault) → AreKept (before ++ line ∷ after) head es
    → IsLineFault before line fault → ⊥
faulty-among [] line after head es fault kept is = scene-line-sound line kept.scene fault kept.read is
faulty-among (first ∷ before) line after head es fault kept is =
    let read =
    among-updates before line after kept.messages kept.updates in update-line-sound line read.0 fault read.1 is

pub kept-sound : (lines : List (List ℕ)) (head : Heading) (es : List ElementValue) (number : ℕ) (fault : LineFault)
    → AreKept lines head es → HasFaultyLine lines number fault → ⊥
kept-sound lines head es number fault kept has =
    faulty-among has.before has.line has.after head es fault (subst (λ ls. AreKept ls head es) has.parts kept)
    has.faulty

-- whatever faultless lines are read as is what they are kept as
pub kept-answer : (lines : List (List ℕ)) (head : Heading) (es : List ElementValue)
    (answer : Result Recovered KeepFault) → AreKept lines head es → AreReadAs lines answer
    → answer ≡ Ok (record { head = head; elements = es })
kept-answer lines head es (Ok found) kept is =
    let same = kept-once lines found.head head found.elements es is kept in
    ap₂ recovered same.0 same.1
kept-answer lines head es (Err (Line number fault)) kept is = absurd (kept-sound lines head es number fault kept is)
