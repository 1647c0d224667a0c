-- Scenes, elements and clips that stand in a session's text: each is read or has a first fault, and one of both alone.
use Rattle.std.proofs.Common.{◌≡◌, ◌⊎◌, inl, inr, ℕ, List, [], Option, Some, None, Result, Ok, Err, append-nil, refl, sym, ap, ap₂, subst, ◌∙◌, arith}
use Rattle.std.specs.List.{AllByRecursion}
use Rattle.json_text.specs.Value.{IsCompact, Stands}
use Rattle.json_text.proofs.CallerLemmas.{Stands-once}
use Rattle.elem.specs.ElementValue.{ElementValue}
use Rattle.elem.specs.Facts.{IsElement}
use Rattle.elem.specs.Order.{HaveDistinctIds}
use Rattle.elem.specs.Said.{HasValidTexts, AreElements}
use Rattle.elem_read.specs.Reading.{IsSelection, IsElementIn, IsFaultIn}
use Rattle.elem_read.specs.declared.fault.ElemFault.{ElemFault}
use Rattle.elem_read.specs.declared.fault.ElemFault.TheVariants.{Kind}
use Rattle.elem_read.proofs.CallerLemmas.{Fits, read-exists, read-once, faulty-once, faultless, read-or-faulty, element-once, element-faultless, element-kept, fault-dropped, IsSound-read}
use Rattle.elem_read.proofs.CallerLemmas as elements
use Rattle.scene_file.specs.Reading.{IsSceneOf, IsSceneFault, IsSceneAt, IsSceneFaultAt}
use Rattle.scene_file.specs.declared.fault.SceneFault.{SceneFault}
use Rattle.scene_file.specs.declared.fault.SceneFault.TheVariants as scenes
use Rattle.scene_file.specs.declared.scene.Scene.{Scene as Board}
use Rattle.scene_file.proofs.CallerLemmas.{scene-or-fault, scene-once, fault-once, fault-none, behind}
use Rattle.clips.specs.declared.clip.Clip.{Clip}
use Rattle.clips.proofs.CallerLemmas.{clip-distinct, clip-faultless, clip-once, clip-or-fault, clip-whole}
use Rattle.clips.proofs.CallerLemmas as clips
use Rattle.session_text.specs.Commands.{IsClipIn, IsDrawnAs}
use Rattle.session_text.specs.Events.{SceneOf, AreDrawnAs}
use Rattle.session_text.specs.declared.fault.TextFault.{TextFault}
use Rattle.session_text.specs.declared.fault.TextFault.TheVariants.{Json, Scene, Element}
use Rattle.session_text.specs.declared.fault.TextFault.TheVariants as faults
use Rattle.session_text.proofs.Brought.{IsSceneKept, scene-kept, whole-elements, read-elements}
use Rattle.session_text.proofs.Readings.{IsRead, gives-read}

-- ---- a scene
alone : (text : List ℕ) → IsCompact 128 text → Stands text text []
alone text compact =
    record { blank = []; value = text; parts = sym (append-nil text); space = refl; reads = compact; ends = tt }

scene-at : (value : List ℕ) (scene : Board) → IsCompact 128 value → IsSceneOf value scene → IsSceneAt value scene []
scene-at value scene compact is = record { text = value; stands = alone value compact; says = is }

fault-of : (value : List ℕ) (fault : SceneFault) → IsCompact 128 value → IsSceneFaultAt value 0 fault
    → IsSceneFault value fault
fault-of value fault compact is = by fault is
  where
    same : (text rest : List ℕ) → Stands value text rest → text ≡ value
    same text rest stands = (Stands-once stands (alone value compact)).0

    by : (f : SceneFault) → IsSceneFaultAt value 0 f → IsSceneFault value f
    by (scenes.Json found) first = absurd (first.faulty value [] (alone value compact))
    by scenes.NotObject (text, rest, stands, is) =
        subst (λ t. IsSceneFault t scenes.NotObject) (same text rest stands) is
    by scenes.NotScene (text, rest, stands, is) = subst (λ t. IsSceneFault t scenes.NotScene) (same text rest stands) is
    by scenes.Elements (text, rest, stands, is) = subst (λ t. IsSceneFault t scenes.Elements) (same text rest stands) is
    by scenes.AppState (text, rest, stands, is) = subst (λ t. IsSceneFault t scenes.AppState) (same text rest stands) is
    by scenes.Files (text, rest, stands, is) = subst (λ t. IsSceneFault t scenes.Files) (same text rest stands) is
    by (scenes.Element place why) (text, rest, stands, is) =
        subst (λ t. IsSceneFault t (scenes.Element place why)) (same text rest stands) is

scene-told : (value : List ℕ) → IsCompact 128 value → (answer : Result (Option Board) TextFault)
    × SceneOf (Some value) answer
scene-told value compact = elim (scene-or-fault value 0 (omega arith)) [
  | inl (scene, end, s) ↦
      let at = s.stands in
      (Ok (Some scene), subst (λ t. IsSceneOf t scene) (Stands-once at.stands (alone value compact)).0 at.says)
  | inr (found, is) ↦ (Err (Scene found), (found, refl, fault-of value found compact is))
]

scene-alike : (value : List ℕ) → IsCompact 128 value → (a b : Result (Option Board) TextFault) → SceneOf (Some value) a
    → SceneOf (Some value) b → a ≡ b
scene-alike value compact (Ok None) b is also = absurd is
scene-alike value compact (Ok (Some s)) (Ok None) is also = absurd also
scene-alike value compact (Err f) (Ok None) is also = absurd also
scene-alike value compact (Ok (Some s)) (Ok (Some t)) is also =
    ap (λ x. Ok (Some x)) (scene-once (scene-at value s compact is) (scene-at value t compact also)).0
scene-alike value compact (Ok (Some s)) (Err f) is (why, e, faulty) =
    absurd (fault-none value 0 why (behind value 0 why value [] (alone value compact) faulty)
    (scene-at value s compact is))
scene-alike value compact (Err f) (Ok (Some t)) (why, e, faulty) also =
    absurd (fault-none value 0 why (behind value 0 why value [] (alone value compact) faulty)
    (scene-at value t compact also))
scene-alike value compact (Err f) (Err g) (why, e, faulty) (other, e', also) =
    ap (λ h. Err h) (e
    ∙ (ap Scene (fault-once value 0 why other (behind value 0 why value [] (alone value compact) faulty)
    (behind value 0 other value [] (alone value compact) also)) ∙ sym e'))

pub scene-read : (found : Option (List ℕ)) → Fits found → IsRead IsSceneKept (SceneOf found)
scene-read None fits = gives-read None (record { keys = tt; elements = tt })
scene-read (Some value) fits = record {
  one = record { some = scene-told value fits; once = scene-alike value fits };
  holds = scene-kept value;
  formed = λ found is. let e : Json found ≡ Scene is.0 = is.1 in cc;
}

-- ---- an element
drawn-told : (value : List ℕ) → IsCompact 128 value → (answer : Result ElementValue TextFault) × IsDrawnAs value answer
drawn-told value compact = elim (read-exists value compact) [
  | inl dropped ↦ (Err (Element 0 Kind), (Kind, refl, inr (dropped, refl)))
  | inr (inl (e, is)) ↦ (Ok e, is)
  | inr (inr (why, is)) ↦ (Err (Element 0 why), (why, refl, inl is))
]

whys : (value : List ℕ) (why other : ElemFault) → IsFaultIn value why ⊎ (IsSelection value × (why ≡ Kind))
    → IsFaultIn value other ⊎ (IsSelection value × (other ≡ Kind)) → why ≡ other
whys value why other (inl is) (inl also) = elements.fault-once value why other is also
whys value why other (inl is) (inr also) = absurd (fault-dropped value why is also.0)
whys value why other (inr is) (inl also) = absurd (fault-dropped value other also is.0)
whys value why other (inr is) (inr also) = is.1 ∙ sym also.1

no-why : (value : List ℕ) (e : ElementValue) (why : ElemFault) → IsElementIn value e → IsFaultIn value why
    ⊎ (IsSelection value × (why ≡ Kind)) → ⊥
no-why value e why is (inl fault) = element-faultless value e why is fault
no-why value e why is (inr dropped) = element-kept value e is dropped.0

drawn-alike : (value : List ℕ) (a b : Result ElementValue TextFault) → IsDrawnAs value a → IsDrawnAs value b → a ≡ b
drawn-alike value (Ok e) (Ok d) is also = ap (λ x. Ok x) (element-once value e d is also)
drawn-alike value (Ok e) (Err f) is (why, same, also) = absurd (no-why value e why is also)
drawn-alike value (Err f) (Ok d) (why, same, is) also = absurd (no-why value d why also is)
drawn-alike value (Err f) (Err g) (why, same, is) (other, same', also) =
    ap (λ h. Err h) (same ∙ (ap (λ w. Element 0 w) (whys value why other is also) ∙ sym same'))

pub drawn-read : (value : List ℕ) → IsCompact 128 value
    → IsRead (λ (e : ElementValue). IsElement e × HasValidTexts e) (IsDrawnAs value)
drawn-read value compact = record {
  one = record { some = drawn-told value compact; once = drawn-alike value };
  holds = λ e is. let sound = IsSound-read value e is in (sound.is_element, sound.written);
  formed = λ found is. let e : Json found ≡ Element 0 is.0 = is.1 in cc;
}

-- ---- a clip
clip-told : (value : List ℕ) → IsCompact 128 value → (answer : Result Clip TextFault) × IsClipIn value answer
clip-told value compact = elim (clip-or-fault value compact) [
  | inl (clip, is) ↦ (Ok clip, is)
  | inr (why, is) ↦ (Err (faults.Clip why), (why, refl, is))
]

clip-alike : (value : List ℕ) (a b : Result Clip TextFault) → IsClipIn value a → IsClipIn value b → a ≡ b
clip-alike value (Ok c) (Ok d) is also = ap (λ x. Ok x) (clip-once value c d is also)
clip-alike value (Ok c) (Err f) is (why, same, also) = absurd (clip-faultless value c is why also)
clip-alike value (Err f) (Ok d) (why, same, is) also = absurd (clip-faultless value d also why is)
clip-alike value (Err f) (Err g) (why, same, is) (other, same', also) =
    ap (λ h. Err h) (same ∙ (ap (λ w. faults.Clip w) (clips.fault-once value why other is also) ∙ sym same'))

pub clip-read : (value : List ℕ) → IsCompact 128 value
    → IsRead (λ (clip : Clip). HaveDistinctIds clip.elements × AreElements clip.elements) (IsClipIn value)
clip-read value compact = record {
  one = record { some = clip-told value compact; once = clip-alike value };
  holds = λ clip is. (clip-distinct value clip is, whole-elements clip.elements (clip-whole value clip is));
  formed = λ found is. let e : Json found ≡ faults.Clip is.0 = is.1 in cc;
}

-- ---- elements
drawings-told : (values : List (List ℕ)) → AllByRecursion (IsCompact 127) values
    → (answer : Result (List ElementValue) TextFault) × AreDrawnAs values answer
drawings-told values all = elim (read-or-faulty values all) [
  | inl (es, read) ↦ (Ok es, read)
  | inr (place, why, is) ↦ (Err (Element place why), (place, why, refl, is))
]

drawings-alike : (values : List (List ℕ)) (a b : Result (List ElementValue) TextFault) → AreDrawnAs values a
    → AreDrawnAs values b → a ≡ b
drawings-alike values (Ok es) (Ok ds) is also = ap (λ x. Ok x) (read-once values es ds is also)
drawings-alike values (Ok es) (Err f) is (place, why, same, also) = absurd (faultless values es place why is also)
drawings-alike values (Err f) (Ok ds) (place, why, same, is) also = absurd (faultless values ds place why also is)
drawings-alike values (Err f) (Err g) (place, why, same, is) (place', why', same', also) =
    let both = faulty-once values place place' why why' is also in
    ap (λ h. Err h) (same ∙ (ap₂ Element both.0 both.1 ∙ sym same'))

pub drawings-read : (values : List (List ℕ)) → AllByRecursion (IsCompact 127) values
    → IsRead AreElements (AreDrawnAs values)
drawings-read values all = record {
  one = record { some = drawings-told values all; once = drawings-alike values };
  holds = read-elements values;
  formed = λ found is. let e : Json found ≡ Element is.0 is.1 = is.2 in cc;
}
