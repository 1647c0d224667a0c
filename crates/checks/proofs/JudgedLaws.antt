-- Texts and values that are read.
use Rattle.std.proofs.Common.{◌≡◌, ℕ, suc, ◌+◌, ◌<◌, true, List, [], ◌∷◌, ◌++◌, Option, Some, None, MatchOption, length, take, get_or, length-take, codes, sym, subst, ◌∙◌, arith}
use Rattle.std.proofs.lemmas.Bool.{false≢true}
use Rattle.json_text.specs.Compact.{Member as Pair}
use Rattle.json_text.proofs.CallerLemmas.{taken-next}
use Rattle.elem.specs.Forms.{IsObject}
use Rattle.elem.proofs.CallerLemmas.{object-once}
use Rattle.scene_file.specs.Reading.{value_unless_null, HasItems, IsSceneOf, IsSceneFault}
use Rattle.scene_file.specs.declared.scene.Scene.{Scene}
use Rattle.scene_file.specs.declared.fault.SceneFault.{SceneFault}
use Rattle.scene_file.specs.declared.fault.SceneFault.TheVariants as fault
use Rattle.checks.specs.Reading.{is_of_element, AreVerdicts, HasValues, IsFlawed, IsVerdict}
use Rattle.checks.specs.declared.judged.Verdict.{Verdict}

-- ---- a text's elements
pub values-scene : (text : List ℕ) (scene : Scene) → IsSceneOf text scene
    → (values : List (List ℕ)) × HasValues text values
values-scene text scene is = (is.values, record { members = is.members; object = is.object; items = is.items })

pub flawed : (text : List ℕ) (why : SceneFault) → is_of_element why ≡ true → IsSceneFault text why → IsFlawed text
flawed text (fault.Json found) h is = absurd (false≢true h)
flawed text fault.NotObject h is = absurd (false≢true h)
flawed text fault.NotScene h is = absurd (false≢true h)
flawed text fault.Elements h is = absurd (false≢true h)
flawed text fault.AppState h is = absurd (false≢true h)
flawed text fault.Files h is = absurd (false≢true h)
flawed text (fault.Element place found) h is = (place, found, is)

pub values-flawed : (text : List ℕ) → IsFlawed text → (values : List (List ℕ)) × HasValues text values
values-flawed text (place, why, (members, object, kind, (values, items, first), settings, entries)) =
    (values, record { members = members; object = object; items = items })

pub objects-once : (value : List ℕ) (ms ns : List Pair) → IsObject value ms → IsObject value ns → ms ≡ ns
objects-once value ms ns one two = object-once ms ns one.are_members two.are_members (sym one.spelled ∙ two.spelled)

-- the items of its object's array are its elements
pub values-found : (text : List ℕ) (members : List Pair) (found : Option (List (List ℕ))) → IsObject text members
    → MatchOption found
    ((values : List (List ℕ)) → HasItems (value_unless_null (codes "elements") members) values → ⊥)
    (HasItems (value_unless_null (codes "elements") members))
    → MatchOption found ((values : List (List ℕ)) → HasValues text values → ⊥) (HasValues text)
values-found text members None object none = λ values has.
    none values
    (subst (λ ms. HasItems (value_unless_null (codes "elements") ms) values)
    (objects-once text has.members members has.object object) has.items)
values-found text members (Some values) object items =
    record { members = members; object = object; items = items }

-- ---- values
verdicts-append : (n : ℕ) (values : List (List ℕ)) (value : List ℕ) (verdicts : List Verdict) (verdict : Verdict)
    → IsVerdict (n + length values) value verdict → AreVerdicts n values verdicts
    → AreVerdicts n (values ++ value ∷ []) (verdicts ++ verdict ∷ [])
verdicts-append n [] value [] verdict is are =
    (subst (λ k. IsVerdict k value verdict) (let e : n + 0 ≡ n = omega arith in e) is, tt)
verdicts-append n [] value (w ∷ ws) verdict is are = absurd are
verdicts-append n (v ∷ vs) value [] verdict is are = absurd are
verdicts-append n (v ∷ vs) value (w ∷ ws) verdict is are = (
  are.0,
  verdicts-append (n + 1) vs value ws verdict
      (subst (λ k. IsVerdict k value verdict)
      (let e : n + suc (length vs) ≡ (n + 1) + length vs = omega arith in e) is) are.1,
)

pub verdicts-more : (values : List (List ℕ)) (i : ℕ) (value : List ℕ) (verdicts new : List Verdict) (verdict : Verdict)
    → i < length values → value ≡ get_or values i value → AreVerdicts 0 (take i values) verdicts
    → IsVerdict i value verdict → new ≡ verdicts ++ verdict ∷ [] → AreVerdicts 0 (take (i + 1) values) new
verdicts-more values i value verdicts new verdict within at are is pushed =
    subst (λ vs. AreVerdicts 0 vs new) (sym (taken-next values i value within at))
    (subst (AreVerdicts 0 (take i values ++ value ∷ [])) (sym pushed)
    (verdicts-append 0 (take i values) value verdicts verdict
    (subst (λ k. IsVerdict k value verdict)
    (let e : i ≡ 0 + length (take i values) = omega (arith, length-take i values) in e) is) are))
