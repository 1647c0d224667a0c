-- What an input begins with is one scene and one value, or it has one first fault.
use Rattle.std.proofs.Common.{◌≡◌, inl, inr, ℕ, ◌≤◌, List, Option, Some, None, length, drop, refl, sym, ap, subst, ◌∙◌, arith}
use Rattle.json_text.specs.Value.{Stands}
use Rattle.json_text.proofs.CallerLemmas.{Stands-once, drop-once}
use Rattle.json_reader.specs.declared.fault.JsonFault.{JsonFault}
use Rattle.scene_file.specs.Reading.{IsSceneFaultAt}
use Rattle.scene_file.specs.declared.scene.Scene.{Scene}
use Rattle.scene_file.specs.declared.fault.SceneFault.TheVariants.{Json}
use Rattle.scene_file.proofs.CallerLemmas.{scene-once, fault-once, fault-none}
use Rattle.commands.specs.Fronts.{HasFront, HasNoTextBehind, IsBehind, IsFrontRefusal, IsSecondRefusal}
use Rattle.commands.specs.declared.status.InputRefusal.{InputRefusal}
use Rattle.commands.specs.declared.status.InputRefusal.TheVariants as refusal
use Rattle.commands.proofs.Inputs.{blank-whole}

-- what stands behind an offset
behind-once : (bytes : List ℕ) (after : ℕ) (a b : Option ℕ) → after ≤ length bytes → IsBehind bytes after a
    → IsBehind bytes after b → a ≡ b
behind-once bytes after None None within is also = refl
behind-once bytes after None (Some at) within blank (place, more) =
    absurd (omega (arith, place, more, blank-whole bytes after blank within))
behind-once bytes after (Some at) None within (place, more) blank =
    absurd (omega (arith, place, more, blank-whole bytes after blank within))
behind-once bytes after (Some at) (Some other) within (place, more) (here, also) = ap Some (place ∙ sym here)

-- The parts of a front are those of another one.
pub record AreSame (scene other : Scene) (text word : List ℕ) (more rest : Option ℕ) : Type 0 where
  pub scenes : scene ≡ other
  pub texts : text ≡ word
  pub behind : more ≡ rest

pub front-once : (bytes : List ℕ) (scene other : Scene) (text word : List ℕ) (more rest : Option ℕ)
    → HasFront bytes scene text more → HasFront bytes other word rest
    → AreSame scene other text word more rest
front-once bytes scene other text word more rest one two =
    let firsts = scene-once one.first two.first in
    let seconds = Stands-once (subst (λ b. Stands b text (drop one.after bytes)) firsts.1 one.second) two.second in
    let at = drop-once bytes one.after two.after one.within two.within seconds.1 in
    record {
      scenes = firsts.0;
      texts = seconds.0;
      behind = behind-once bytes two.after more rest two.within (subst (λ n. IsBehind bytes n more) at one.behind)
          two.behind;
    }

-- the fault where a value is to stand behind the scene
behind-scene : (bytes : List ℕ) (f g : JsonFault) → HasNoTextBehind bytes f → HasNoTextBehind bytes g → f ≡ g
behind-scene bytes f g one two =
    let at = drop-once bytes one.start two.start one.within two.within (scene-once one.first two.first).1 in
    let same : Json f ≡ Json g = fault-once bytes two.start (Json f) (Json g)
    (subst (λ n. IsSceneFaultAt bytes n (Json f)) at one.faulty) two.faulty in
    cc

front-refusal-once : (bytes : List ℕ) (f g : InputRefusal) → IsFrontRefusal bytes f → IsFrontRefusal bytes g → f ≡ g
front-refusal-once bytes f g (inl (fault, is, at)) (inl (other, also, too)) =
    is ∙ (ap (refusal.Text 1) (fault-once bytes 0 fault other at too) ∙ sym also)
front-refusal-once bytes f g (inl (fault, is, at)) (inr (other, also, none)) =
    absurd (fault-none bytes 0 fault at none.first)
front-refusal-once bytes f g (inr (fault, is, none)) (inl (other, also, at)) =
    absurd (fault-none bytes 0 other at none.first)
front-refusal-once bytes f g (inr (fault, is, none)) (inr (other, also, bad)) =
    is ∙ (ap (λ (j : JsonFault). refusal.Text 2 (Json j)) (behind-scene bytes fault other none bad) ∙ sym also)

front-none : (bytes : List ℕ) (f : InputRefusal) (scene : Scene) (text : List ℕ) (more : Option ℕ)
    → IsFrontRefusal bytes f
    → HasFront bytes scene text more → ⊥
front-none bytes f scene text more (inl (fault, is, at)) front = fault-none bytes 0 fault at front.first
front-none bytes f scene text more (inr (fault, is, none)) front =
    let next = (scene-once none.first front.first).1 in
    none.faulty.faulty text (drop front.after bytes) (subst (λ b. Stands b text (drop front.after bytes)) (sym next)
    front.second)

-- ---- the second text
module _ (IsRead : List ℕ → Type 0) (IsFaulty : List ℕ → InputRefusal → Type 0)
    (once : (text : List ℕ) (f g : InputRefusal) → IsFaulty text f → IsFaulty text g → f ≡ g)
    (none : (text : List ℕ) (f : InputRefusal) → IsRead text → IsFaulty text f → ⊥) where
  pub second-once : (bytes : List ℕ) (f g : InputRefusal) → IsSecondRefusal IsRead IsFaulty bytes f
      → IsSecondRefusal IsRead IsFaulty bytes g → f ≡ g
  second-once bytes f g (inl is) (inl also) = front-refusal-once bytes f g is also
  second-once bytes f g (inl is) (inr (inl (scene, text, more, front, faulty))) =
      absurd (front-none bytes f scene text more is front)
  second-once bytes f g (inl is) (inr (inr (at, also, (scene, text, front, read)))) =
      absurd (front-none bytes f scene text (Some at) is front)
  second-once bytes f g (inr (inl (scene, text, more, front, faulty))) (inl also) =
      absurd (front-none bytes g scene text more also front)
  second-once bytes f g (inr (inr (at, is, (scene, text, front, read)))) (inl also) =
      absurd (front-none bytes g scene text (Some at) also front)
  second-once bytes f g (inr (inl (scene, text, more, front, faulty))) (inr (inl (other, word, rest, begins, wrong))) =
      let same = front-once bytes scene other text word more rest front begins in
      once word f g (subst (λ t. IsFaulty t f) same.texts faulty) wrong
  second-once bytes f g (inr (inl (scene, text, more, front, faulty)))
      (inr (inr (at, also, (other, word, begins, read)))) =
      let same = front-once bytes scene other text word more (Some at) front begins in
      absurd (none word f read (subst (λ t. IsFaulty t f) same.texts faulty))
  second-once bytes f g (inr (inr (at, is, (scene, text, front, read))))
      (inr (inl (other, word, rest, begins, wrong))) =
      let same = front-once bytes scene other text word (Some at) rest front begins in
      absurd (none word g (subst IsRead same.texts read) wrong)
  second-once bytes f g (inr (inr (at, is, (scene, text, front, read))))
      (inr (inr (place, also, (other, word, begins, too)))) =
      let same = front-once bytes scene other text word (Some at) (Some place) front begins in
      let places : at ≡ place = let e = same.behind in cc in
      is ∙ (ap refusal.Extra places ∙ sym also)

  pub second-none : (bytes : List ℕ) (f : InputRefusal) (scene : Scene) (text : List ℕ)
      → IsSecondRefusal IsRead IsFaulty bytes f → HasFront bytes scene text None → IsRead text → ⊥
  second-none bytes f scene text (inl is) front read = front-none bytes f scene text None is front
  second-none bytes f scene text (inr (inl (other, word, more, begins, faulty))) front read =
      let same = front-once bytes scene other text word None more front begins in
      none word f (subst IsRead same.texts read) faulty
  second-none bytes f scene text (inr (inr (at, is, (other, word, begins, also)))) front read =
      let same = front-once bytes scene other text word None (Some at) front begins in
      let e = same.behind in cc
