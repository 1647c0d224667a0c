-- The fault that a merge is refused for is told first.
use Rattle.std.proofs.Common.{◌≡◌, ◌⊎◌, inl, inr, ℕ, zero, suc, ◌+◌, ◌≤◌, List, [], ◌∷◌, ◌++◌, Option, Some, Bool, true, false, ◌&&◌, MatchBool, length, drop, codes, refl, sym, ap, ap₂, subst, ◌∙◌, append_assoc, append-nil, arith}
use Rattle.std.specs.List.{flat_map}
use Rattle.std.proofs.lemmas.Bool.{both_ways, false≢true}
use Rattle.json_text.specs.Characters.{is_blank}
use Rattle.json_text.specs.Value.{Stands}
use Rattle.json_text.proofs.CallerLemmas.{Stands-once, drop-once}
use Rattle.json_reader.specs.declared.fault.JsonFault.{JsonFault}
use Rattle.elem.specs.ElementValue.{ElementValue}
use Rattle.elem_read.specs.Elements.{IsFirstFaulty}
use Rattle.elem_read.specs.Faults.{fault_word}
use Rattle.elem_read.specs.Reading.{IsElementIn, IsFaultIn, IsSelection}
use Rattle.elem_read.specs.declared.fault.ElemFault.{ElemFault}
use Rattle.elem_read.proofs.CallerLemmas.{element-faultless, fault-dropped, fault-once as element_fault-once}
use Rattle.scene_file.specs.Faults.{scene_fault_words}
use Rattle.scene_file.specs.Reading.{value_unless_null, HasItems, IsSceneAt, IsSceneFault, IsSceneFaultAt}
use Rattle.scene_file.specs.declared.scene.Scene.{Scene}
use Rattle.scene_file.specs.declared.fault.SceneFault.{SceneFault}
use Rattle.scene_file.specs.declared.fault.SceneFault.TheVariants as scene_fault
use Rattle.scene_file.proofs.CallerLemmas.{fault-at, fault-none, fault-once, scene-some}
use Rattle.checks.specs.Checks.{IsBoardTold, IsChecked, IsTold}
use Rattle.checks.specs.Lines.{are_scenes, element_line, fault_lines, is_whole, judged_lines, text_line, verdict_line}
use Rattle.checks.specs.Reading.{is_broken, is_of_element, AreTexts, AreVerdicts, HasValues, HasVerdicts, IsJudged, IsVerdict}
use Rattle.checks.specs.declared.judged.Judged.{Judged}
use Rattle.checks.specs.declared.judged.Judged.TheVariants.{Whole, Flawed, Broken}
use Rattle.checks.specs.declared.judged.Verdict.{Verdict}
use Rattle.checks.specs.declared.judged.Verdict.TheVariants.{Dropped, Read, Faulty}
use Rattle.checks.proofs.CallerLemmas.{checked-some, values-once}
use Rattle.commands.specs.Checked.{BeginsWithFault, IsBoardChecked}
use Rattle.commands.specs.Input.{HasFaultyText, HasScenes, ScenesLead}

-- ---- a text with a faulty element
-- The lines begin with the line on this element.
abbrev BeginsSo : ℕ → ℕ → ElemFault → List ℕ → Type 0
BeginsSo number place why text =
    (id : Option (List ℕ)) × (rest : List ℕ) × (text ≡ element_line number place id (fault_word why) ++ rest)

first-faulty : (number place k : ℕ) (why : ElemFault) (values : List (List ℕ)) (verdicts : List Verdict)
    → AreVerdicts place values verdicts → IsFirstFaulty values k why
    → BeginsSo number (place + k) why (flat_map (verdict_line number) verdicts)
first-faulty number place k why [] [] are first = absurd first
first-faulty number place k why [] (w ∷ ws) are first = absurd are
first-faulty number place k why (value ∷ values) [] are first = absurd are
first-faulty number place zero why (value ∷ values) (Dropped ∷ ws) are first = absurd (fault-dropped value why first are.0)
first-faulty number place zero why (value ∷ values) (Read at ms ∷ ws) ((e, object, (el, is)), are) first =
    absurd (element-faultless value el why is first)
first-faulty number place zero why (value ∷ values) (Faulty at other id ∷ ws) ((e, is, named), are) first = (
  id,
  flat_map (verdict_line number) ws,
  ap₂ (λ (p : ℕ) (w : ElemFault). element_line number p id (fault_word w) ++ flat_map (verdict_line number) ws)
      (e ∙ (let same : place ≡ place + 0 = omega arith in same)) (element_fault-once value other why is first),
)
first-faulty number place (suc k) why (value ∷ values) (w ∷ ws) (is, are) (before, first) =
    by w is (let e : (place + 1) + k ≡ place + suc k = omega arith in
    subst (λ p. BeginsSo number p why (flat_map (verdict_line number) ws)) e
    (first-faulty number (place + 1) k why values ws are first))
  where
    by : (w : Verdict) → IsVerdict place value w
        → BeginsSo number (place + suc k) why (flat_map (verdict_line number) ws)
        → BeginsSo number (place + suc k) why (verdict_line number w ++ flat_map (verdict_line number) ws)
    by Dropped is begins = begins
    by (Read at ms) is begins = begins
    by (Faulty at other id) (e, faulty, named) begins = absurd (sound before)
      where
        sound : IsSelection value ⊎ ((el : ElementValue) × IsElementIn value el) → ⊥
        sound (inl dropped) = fault-dropped value other faulty dropped
        sound (inr (el, is)) = element-faultless value el other is faulty

-- ---- one text
broken-begins : (number n : ℕ) (why : SceneFault) (more : List ℕ) → n ≡ number → is_of_element why ≡ false
    → BeginsWithFault number why (text_line n (scene_fault_words why) ++ more)
broken-begins number n (scene_fault.Json why) more e none =
    (more, ap (λ k. text_line k (scene_fault_words (scene_fault.Json why)) ++ more) e)
broken-begins number n scene_fault.NotObject more e none =
    (more, ap (λ k. text_line k (scene_fault_words scene_fault.NotObject) ++ more) e)
broken-begins number n scene_fault.NotScene more e none =
    (more, ap (λ k. text_line k (scene_fault_words scene_fault.NotScene) ++ more) e)
broken-begins number n scene_fault.Elements more e none =
    (more, ap (λ k. text_line k (scene_fault_words scene_fault.Elements) ++ more) e)
broken-begins number n scene_fault.AppState more e none =
    (more, ap (λ k. text_line k (scene_fault_words scene_fault.AppState) ++ more) e)
broken-begins number n scene_fault.Files more e none =
    (more, ap (λ k. text_line k (scene_fault_words scene_fault.Files) ++ more) e)
broken-begins number n (scene_fault.Element place why) more e none = absurd (false≢true (sym none))

flawed-begins : (number n : ℕ) (text : List ℕ) (place : ℕ) (why : ElemFault) (verdicts : List Verdict) (more : List ℕ)
    → n ≡ number → IsSceneFault text (scene_fault.Element place why) → HasVerdicts text verdicts
    → BeginsWithFault number (scene_fault.Element place why) (flat_map (verdict_line n) verdicts ++ more)
flawed-begins number n text place why verdicts more e (
  members,
  object,
  kind,
  (values, items, first),
  settings,
  entries,
) (others, has, are) =
    let same = values-once text others values has (record { members = members; object = object; items = items }) in
    let at : 0 + place ≡ place = omega arith in
    let begins = subst (λ p. BeginsSo n p why (flat_map (verdict_line n) verdicts)) at
    (first-faulty n 0 place why values verdicts (subst (λ vs. AreVerdicts 0 vs verdicts) same are) first) in (
      begins.0,
      begins.1 ++ more,
      ap (λ t. t ++ more) begins.2
          ∙ (append_assoc (element_line n place begins.0 (fault_word why)) begins.1 more
          ∙ ap (λ k. element_line k place begins.0 (fault_word why) ++ (begins.1 ++ more)) e),
    )

text-begins : (bytes : List ℕ) (at number : ℕ) (text rest : List ℕ) (why : SceneFault) (j : Judged) (more : List ℕ)
    → Stands (drop at bytes) text rest → IsSceneFaultAt bytes at why → IsJudged number text j
    → BeginsWithFault number why (judged_lines j ++ more)
text-begins bytes at number text rest why (Whole n scene vs) more stands faulty (e, is, has) =
    absurd (fault-none bytes at why faulty (record { text = text; stands = stands; says = is }))
text-begins bytes at number text rest why (Flawed n vs) more stands faulty (e, (place, found, is), has) =
    let same = fault-once bytes at (scene_fault.Element place found) why
    (fault-at bytes at text rest (scene_fault.Element place found) stands is) faulty in
    subst (λ w. BeginsWithFault number w (flat_map (verdict_line n) vs ++ more)) same
    (flawed-begins number n text place found vs more e is has)
text-begins bytes at number text rest why (Broken n found) more stands faulty (e, none, is) =
    let same = fault-once bytes at found why (fault-at bytes at text rest found stands is) faulty in
    subst (λ w. BeginsWithFault number w (text_line n (scene_fault_words found) ++ more)) same
    (broken-begins number n found more e none)

-- ---- the texts
begins-here : (bytes : List ℕ) (at number : ℕ) (why : SceneFault) (judged : List Judged) → IsSceneFaultAt bytes at why
    → is_blank (drop at bytes) ≡ false → AreTexts bytes number at judged
    → BeginsWithFault number why (fault_lines judged)
begins-here bytes at number why [] faulty more blank = absurd (both_ways (is_blank (drop at bytes)) more blank)
begins-here bytes at number why (j ∷ js) faulty more (some, inl ((found, is, e), end)) =
    let same : scene_fault.Json found ≡ why = fault-once bytes at (scene_fault.Json found) why is faulty in
    subst (λ j. BeginsWithFault number why (judged_lines j ++ fault_lines js)) (sym e)
    (subst (λ w. BeginsWithFault number w (text_line number (scene_fault_words (scene_fault.Json found))
    ++ fault_lines js)) same (broken-begins number number (scene_fault.Json found) (fault_lines js) refl refl))
begins-here bytes at number why (j ∷ js) faulty more (some, inr (text, end, here, behind)) =
    text-begins bytes at number text (drop end bytes) why j (fault_lines js) here.stands faulty here.reads

-- a scene stands where a text is read: it is read as one
is-scene : (bytes : List ℕ) (at number : ℕ) (text rest next : List ℕ) (scene : Scene) (j : Judged)
    → Stands (drop at bytes) text rest → IsSceneAt (drop at bytes) scene next → IsJudged number text j
    → (is_whole j ≡ true) × (is_broken j ≡ false) × (judged_lines j ≡ [])
is-scene bytes at number text rest next scene (Whole n own vs) stands is judged = (refl, refl, refl)
is-scene bytes at number text rest next scene (Flawed n vs) stands is (e, (place, found, faulty), has) =
    absurd (fault-none bytes at (scene_fault.Element place found)
    (fault-at bytes at text rest (scene_fault.Element place found) stands faulty) is)
is-scene bytes at number text rest next scene (Broken n found) stands is (e, none, faulty) =
    absurd (fault-none bytes at found (fault-at bytes at text rest found stands faulty) is)

texts-begin : (bytes : List ℕ) (start : ℕ) (why : SceneFault) → start ≤ length bytes → IsSceneFaultAt bytes start why
    → is_blank (drop start bytes) ≡ false → (scenes : List Scene) (number at : ℕ) (judged : List Judged)
    → at ≤ length bytes → ScenesLead (drop at bytes) scenes (drop start bytes) → AreTexts bytes number at judged
    → BeginsWithFault (number + length scenes) why (fault_lines judged)
texts-begin bytes start why within faulty more [] number at judged small lead read =
    let same : start ≡ at = drop-once bytes start at within small (sym lead) in
    subst (λ n. BeginsWithFault n why (fault_lines judged)) (let e : number ≡ number + 0 = omega arith in e)
    (begins-here bytes at number why judged (subst (λ n. IsSceneFaultAt bytes n why) same faulty)
    (subst (λ n. is_blank (drop n bytes) ≡ false) same more) read)
texts-begin bytes start why within faulty more (scene ∷ scenes) number at [] small (next, is, lead) blank =
    absurd (scene-some is blank)
texts-begin bytes start why within faulty more (scene ∷ scenes) number at (j ∷ js) small (next, is, lead) (
  some,
  inl ((found, none, e), end),
) =
    absurd (none.faulty is.text next is.stands)
texts-begin bytes start why within faulty more (scene ∷ scenes) number at (j ∷ js) small (next, is, lead) (
  some,
  inr (text, end, here, behind),
) =
    let both = Stands-once here.stands is.stands in
    let whole = is-scene bytes at number text (drop end bytes) next scene j here.stands is here.reads in
    let others : AreTexts bytes (number + 1) end js =
    subst (λ b. MatchBool b (js ≡ []) (AreTexts bytes (number + 1) end js)) whole.1 behind in
    let begins = texts-begin bytes start why within faulty more scenes (number + 1) end js here.within
    (subst (λ b. ScenesLead b scenes (drop start bytes)) (sym both.1) lead) others in
    let e : (number + 1) + length scenes ≡ number + suc (length scenes) = omega arith in
    subst (λ lines. BeginsWithFault (number + suc (length scenes)) why (lines ++ fault_lines js)) (sym whole.2)
    (subst (λ n. BeginsWithFault n why (fault_lines js)) e begins)

-- scenes tell no fault
none-told : (judged : List Judged) → are_scenes judged ≡ true → fault_lines judged ≡ []
none-told [] all = refl
none-told (Whole n scene vs ∷ js) all = none-told js all
none-told (Flawed n vs ∷ js) all = absurd (false≢true all)
none-told (Broken n why ∷ js) all = absurd (false≢true all)

never-begins : (number : ℕ) (why : SceneFault) → BeginsWithFault number why [] → ⊥
never-begins number (scene_fault.Json why) (rest, e) = cc
never-begins number scene_fault.NotObject (rest, e) = cc
never-begins number scene_fault.NotScene (rest, e) = cc
never-begins number scene_fault.Elements (rest, e) = cc
never-begins number scene_fault.AppState (rest, e) = cc
never-begins number scene_fault.Files (rest, e) = cc
never-begins number (scene_fault.Element place why) (id, rest, e) = cc

pub first-told : (bytes text : List ℕ) (number : ℕ) (why : SceneFault) → HasFaultyText bytes number why
    → IsChecked bytes text → BeginsWithFault number why text
first-told bytes text number why has is = by (are_scenes is.judged) refl is.told
  where
    some : is_blank (drop has.start bytes) ≡ false
    some = elim has.begun [
      | inl none ↦ subst (λ b. is_blank b ≡ false)
          (subst (λ ss. ScenesLead bytes ss (drop has.start bytes)) none has.lead) (checked-some bytes text is)
      | inr more ↦ more
    ]

    begins : BeginsWithFault number why (fault_lines is.judged)
    begins =
        subst (λ n. BeginsWithFault n why (fault_lines is.judged))
        (let e : 1 + length has.scenes ≡ number = omega (arith, has.counted) in e)
        (texts-begin bytes has.start why has.within has.faulty some has.scenes 1 0 is.judged (omega arith) has.lead
        is.read)

    by : (b : Bool) → are_scenes is.judged ≡ b → MatchBool b (IsBoardTold is.judged text) (text ≡ fault_lines is.judged)
        → BeginsWithFault number why text
    by true all told =
        absurd (never-begins number why (subst (BeginsWithFault number why) (none-told is.judged all) begins))
    by false not_all told = subst (BeginsWithFault number why) (sym told) begins

-- ---- scenes
all-scenes : (bytes rest : List ℕ) → is_blank rest ≡ true → (scenes : List Scene) (number at : ℕ)
    (judged : List Judged) → ScenesLead (drop at bytes) scenes rest → AreTexts bytes number at judged
    → are_scenes judged ≡ true
all-scenes bytes rest blank scenes number at [] lead read = refl
all-scenes bytes rest blank [] number at (j ∷ js) lead read =
    absurd (both_ways (is_blank (drop at bytes)) read.0 (ap is_blank lead ∙ blank))
all-scenes bytes rest blank (scene ∷ scenes) number at (j ∷ js) (next, is, lead) (some, inl ((found, none, e), end)) =
    absurd (none.faulty is.text next is.stands)
all-scenes bytes rest blank (scene ∷ scenes) number at (j ∷ js) (next, is, lead) (
  some,
  inr (text, end, here, behind),
) =
    let both = Stands-once here.stands is.stands in
    let whole = is-scene bytes at number text (drop end bytes) next scene j here.stands is here.reads in
    let others : AreTexts bytes (number + 1) end js =
    subst (λ b. MatchBool b (js ≡ []) (AreTexts bytes (number + 1) end js)) whole.1 behind in
    ap₂ (λ a b. a && b) whole.0 (all-scenes bytes rest blank scenes (number + 1) end js
    (subst (λ b. ScenesLead b scenes rest) (sym both.1) lead) others)

pub board-checked : (bytes text : List ℕ) (scenes : List Scene) → HasScenes bytes scenes → IsChecked bytes text
    → IsBoardChecked bytes text
board-checked bytes text scenes has is =
    let all = all-scenes bytes has.rest has.space scenes 1 0 is.judged has.lead is.read in
    record {
      judged = is.judged;
      read = is.read;
      told = subst (λ b. MatchBool b (IsBoardTold is.judged text) (text ≡ fault_lines is.judged)) all is.told;
    }
