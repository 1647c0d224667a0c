-- An input holds one list of scenes, or has one first fault.
use Rattle.std.proofs.Common.{◌≡◌, ◌≢◌, ◌⊎◌, inl, inr, ℕ, ◌+◌, ◌≤◌, List, [], ◌∷◌, true, false, refl, sym, ap, ap₂, subst, ◌∙◌, length, drop, arith, length-drop}
use Rattle.std.specs.List.{prefix_len}
use Rattle.std.proofs.lemmas.Bool.{both_ways}
use Rattle.json_text.specs.Characters.{is_blank, is_space}
use Rattle.json_text.proofs.CallerLemmas.{drop-once, Runs-either}
use Rattle.scene_file.specs.Reading.{IsSceneAt, IsSceneFaultAt}
use Rattle.scene_file.specs.declared.scene.Scene.{Scene}
use Rattle.scene_file.specs.declared.fault.SceneFault.{SceneFault}
use Rattle.scene_file.proofs.CallerLemmas.{scene-once, scene-some, fault-once, fault-none}
use Rattle.commands.specs.Input.{ScenesLead, HasScenes, HasFaultyText, HasExtraText}

-- no scene stands at the front
abbrev HasNoScene : List ℕ → Type 0
HasNoScene bytes = (scene : Scene) (rest : List ℕ) → IsSceneAt bytes scene rest → ⊥

blank-none : (bytes : List ℕ) → is_blank bytes ≡ true → HasNoScene bytes
blank-none bytes blank scene rest at = scene-some at blank

faulty-none : (bytes : List ℕ) (at : ℕ) (fault : SceneFault) → IsSceneFaultAt bytes at fault
    → HasNoScene (drop at bytes)
faulty-none bytes at fault is scene rest stands = fault-none bytes at fault is stands

-- Scenes behind which none stands are determined, and so is what follows them.
scenes-once : (bytes rest end : List ℕ) (scenes others : List Scene) → ScenesLead bytes scenes rest
    → ScenesLead bytes others end
    → HasNoScene rest → HasNoScene end → (scenes ≡ others) × (rest ≡ end)
scenes-once bytes rest end [] [] lead other none last = (refl, sym lead ∙ other)
scenes-once bytes rest end [] (t ∷ ts) lead (next, at, more) none last =
    absurd (subst HasNoScene (sym lead) none t next at)
scenes-once bytes rest end (s ∷ ss) [] (next, at, more) other none last =
    absurd (subst HasNoScene (sym other) last s next at)
scenes-once bytes rest end (s ∷ ss) (t ∷ ts) (next, at, more) (other, stands, others) none last =
    let same = scene-once at stands in
    let both = scenes-once next rest end ss ts more (subst (λ b. ScenesLead b ts end) (sym same.1) others) none last in
    (ap₂ (λ x xs. x ∷ xs) same.0 both.0, both.1)

pub input-once : (bytes : List ℕ) (scenes others : List Scene) → HasScenes bytes scenes → HasScenes bytes others
    → scenes ≡ others
input-once bytes scenes others has also =
    (scenes-once bytes has.rest also.rest scenes others has.lead also.lead (blank-none has.rest has.space)
    (blank-none also.rest also.space)).0

-- The first text with a fault is determined, and so is the fault.
pub faulty-once : (bytes : List ℕ) (number other : ℕ) (fault why : SceneFault) → HasFaultyText bytes number fault
    → HasFaultyText bytes other why
    → (number ≡ other) × (fault ≡ why)
faulty-once bytes number other fault why r q =
    let both = scenes-once bytes (drop r.start bytes) (drop q.start bytes) r.scenes q.scenes r.lead q.lead
    (faulty-none bytes r.start fault r.faulty) (faulty-none bytes q.start why q.faulty) in
    let at = drop-once bytes r.start q.start r.within q.within both.1 in (
      omega (arith, ap length both.0, r.counted, q.counted),
      fault-once bytes q.start fault why (subst (λ n. IsSceneFaultAt bytes n fault) at r.faulty) q.faulty,
    )

all-read : (scenes others : List Scene) (rest : List ℕ) → others ≢ [] → scenes ≡ others → (scenes ≡ [])
    ⊎ (is_blank rest ≡ false) → is_blank rest ≡ true → ⊥
all-read scenes others rest some same (inl none) blank = some (sym same ∙ none)
all-read scenes others rest some same (inr more) blank = both_ways (is_blank rest) more blank

-- An input with a faulty text doesn't hold scenes alone.
pub faulty-scenes : (bytes : List ℕ) (number : ℕ) (fault : SceneFault) (scenes : List Scene)
    → HasFaultyText bytes number fault → HasScenes bytes scenes → ⊥
faulty-scenes bytes number fault scenes r has =
    let both = scenes-once bytes (drop r.start bytes) has.rest r.scenes scenes r.lead has.lead
    (faulty-none bytes r.start fault r.faulty) (blank-none has.rest has.space) in
    all-read r.scenes scenes (drop r.start bytes) has.some both.0 r.begun (ap is_blank both.1 ∙ has.space)

-- ---- one scene and a further text
pub blank-whole : (bytes : List ℕ) (at : ℕ) → is_blank (drop at bytes) ≡ true → at ≤ length bytes
    → at + prefix_len is_space (drop at bytes) ≡ length bytes
blank-whole bytes at blank within =
    elim (Runs-either is_space (drop at bytes)) [
      | inl h ↦ omega (arith, h.1, length-drop at bytes)
      | inr h ↦ absurd (both_ways (is_blank (drop at bytes)) h.0 blank)
    ]

extra-within : (bytes : List ℕ) (at : ℕ) (e : HasExtraText bytes at) → e.after ≤ length bytes
extra-within bytes at e = omega (arith, e.behind, e.more)

pub extra-scene : (bytes : List ℕ) (at : ℕ) (scene : Scene) → HasExtraText bytes at → HasScenes bytes (scene ∷ []) → ⊥
extra-scene bytes at scene e has =
    let same = scene-once e.lead has.lead.1 in
    let blank : is_blank (drop e.after bytes) ≡ true = ap is_blank (same.1 ∙ has.lead.2) ∙ has.space in
    absurd (omega (arith, e.behind, e.more, blank-whole bytes e.after blank (extra-within bytes at e)))

pub extra-once : (bytes : List ℕ) (at other : ℕ) → HasExtraText bytes at → HasExtraText bytes other → at ≡ other
extra-once bytes at other e f =
    let after = drop-once bytes e.after f.after (extra-within bytes at e) (extra-within bytes other f)
    (scene-once e.lead f.lead).1 in
    e.behind ∙ ap (λ n. n + prefix_len is_space (drop n bytes)) after ∙ sym f.behind
