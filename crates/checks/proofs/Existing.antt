-- Something is told of each input that has a text.
use Rattle.std.proofs.Common.{◌≡◌, ◌≢◌, inl, inr, ℕ, zero, suc, ◌+◌, ◌≤◌, Bool, true, false, List, [], ◌∷◌, Option, Some, None, MatchBool, length, drop, length-drop, codes, lit≤, refl, sym, subst, arith}
use Rattle.std.specs.List.{AllByRecursion}
use Rattle.std.proofs.lemmas.Bool.{cases_Bool, both_ways}
use Rattle.std.proofs.lemmas.List.{nil_from_length}
use Rattle.json_text.specs.Characters.{is_blank}
use Rattle.json_text.specs.Compact.{Member as Pair}
use Rattle.json_text.specs.Value.{Stands, IsCompact}
use Rattle.json_text.proofs.CallerLemmas.{Stands-once, Value-deeper, object-or-not}
use Rattle.json_reader.proofs.CallerLemmas.{value-or-fault}
use Rattle.scene_json.specs.Named.{value_at}
use Rattle.elem.specs.Forms.{IsObject, IsText}
use Rattle.elem_read.proofs.CallerLemmas.{fits-in, pairs-unpaired, read-exists, text-or-not, unpaired}
use Rattle.elem_store.proofs.CallerLemmas.{stored-exist}
use Rattle.view.specs.Shown.{live_elements, shown}
use Rattle.scene_file.specs.Reading.{value_unless_null, IsSceneFault, IsSceneFaultAt, IsSceneOf}
use Rattle.scene_file.specs.declared.fault.SceneFault.{SceneFault}
use Rattle.scene_file.specs.declared.fault.SceneFault.TheVariants as fault
use Rattle.scene_file.proofs.CallerLemmas.{Stands-behind, items-compact, joined-exists, scene-or-fault}
use Rattle.checks.specs.Checks.{IsBoardTold, IsChecked, IsTold}
use Rattle.checks.specs.Lines.{are_scenes, board_lines, fault_lines, heads_of, kept_of, spots_of, updates_of}
use Rattle.checks.specs.Reading.{is_broken, is_of_element, AreTexts, AreVerdicts, HasValues, HasVerdicts, IsIdIn, IsJudged, IsVerdict}
use Rattle.checks.specs.declared.judged.Judged.{Judged}
use Rattle.checks.specs.declared.judged.Judged.TheVariants.{Whole, Flawed, Broken}
use Rattle.checks.specs.declared.judged.Verdict.{Verdict}
use Rattle.checks.specs.declared.judged.Verdict.TheVariants.{Dropped, Read, Faulty}
use Rattle.checks.proofs.JudgedLaws.{flawed, objects-once, values-flawed, values-scene}

-- ---- values
id-exists : (value : List ℕ) → IsCompact 128 value → (id : Option (List ℕ)) × IsIdIn value id
id-exists value compact = elim (object-or-not value compact) [
  | inr none ↦ (None, λ members id object is. none members object.spelled)
  | inl (members, are, spelled) ↦ by members (record { are_members = are; spelled = spelled })
]
  where
    by : (members : List Pair) → IsObject value members → (id : Option (List ℕ)) × IsIdIn value id
    by members object = elim (text-or-not (value_at (codes "id") members) (fits-in 127 members (lit≤ tt) object.are_members (codes "id"))) [
      | inl (id, is) ↦ (Some id, (members, object, is))
      | inr none ↦ (
        None,
        λ others id also is. none id
            (subst (λ ms. IsText (value_at (codes "id") ms) id) (objects-once value others members also object) is),
      )
    ]

verdict-exists : (place : ℕ) (value : List ℕ) → IsCompact 128 value → (v : Verdict) × IsVerdict place value v
verdict-exists place value compact = elim (read-exists value compact) [
  | inl dropped ↦ (Dropped, dropped)
  | inr (inl (e, is)) ↦ (
    Read place (unpaired is.members),
    (refl, subst (IsObject value) (sym (pairs-unpaired is.members)) is.no_selection.object, (e, is)),
  )
  | inr (inr (why, is)) ↦ let id = id-exists value compact in (Faulty place why id.0, (refl, is, id.1))
]

verdicts-exist : (place : ℕ) (values : List (List ℕ)) → AllByRecursion (IsCompact 127) values
    → (vs : List Verdict) × AreVerdicts place values vs
verdicts-exist place [] all = ([], tt)
verdicts-exist place (value ∷ values) all =
    let first = verdict-exists place value (Value-deeper (lit≤ tt) all.0) in
    let others = verdicts-exist (place + 1) values all.1 in
    (first.0 ∷ others.0, (first.1, others.1))

all-exist : (text : List ℕ) → (values : List (List ℕ)) × HasValues text values
    → (vs : List Verdict) × HasVerdicts text vs
all-exist text (values, has) =
    let made = verdicts-exist 0 values (items-compact (value_unless_null (codes "elements") has.members) values has.items)
    in
    (made.0, (values, has, made.1))

-- ---- texts
faulty-judged : (number : ℕ) (text : List ℕ) (why : SceneFault) → IsSceneFault text why
    → (j : Judged) × IsJudged number text j
faulty-judged number text why is = elim (cases_Bool (is_of_element why)) [
  | inl e ↦ let flaw = flawed text why e is in
      let all = all-exist text (values-flawed text flaw) in (Flawed number all.0, (refl, flaw, all.1))
  | inr e ↦ (Broken number why, (refl, e, is))
]

-- the value at the offset has the fault there
fault-of : (bytes : List ℕ) (at : ℕ) (text rest : List ℕ) → Stands (drop at bytes) text rest → (why : SceneFault)
    → IsSceneFaultAt bytes at why → IsSceneFault text why
fault-of bytes at text rest stands (fault.Json why) is = absurd (is.faulty text rest stands)
fault-of bytes at text rest stands fault.NotObject (t, r, there, is) =
    subst (λ t. IsSceneFault t fault.NotObject) (Stands-once there stands).0 is
fault-of bytes at text rest stands fault.NotScene (t, r, there, is) =
    subst (λ t. IsSceneFault t fault.NotScene) (Stands-once there stands).0 is
fault-of bytes at text rest stands fault.Elements (t, r, there, is) =
    subst (λ t. IsSceneFault t fault.Elements) (Stands-once there stands).0 is
fault-of bytes at text rest stands fault.AppState (t, r, there, is) =
    subst (λ t. IsSceneFault t fault.AppState) (Stands-once there stands).0 is
fault-of bytes at text rest stands fault.Files (t, r, there, is) =
    subst (λ t. IsSceneFault t fault.Files) (Stands-once there stands).0 is
fault-of bytes at text rest stands (fault.Element place why) (t, r, there, is) =
    subst (λ t. IsSceneFault t (fault.Element place why)) (Stands-once there stands).0 is

judged-exists : (bytes : List ℕ) (number at : ℕ) (text rest : List ℕ) → at ≤ length bytes
    → Stands (drop at bytes) text rest → (j : Judged) × IsJudged number text j
judged-exists bytes number at text rest within stands = elim (scene-or-fault bytes at within) [
  | inl (scene, end, is) ↦ let says : IsSceneOf text scene =
      subst (λ t. IsSceneOf t scene) (Stands-once is.stands.stands stands).0 is.stands.says in
      let all = all-exist text (values-scene text scene says) in
      (Whole number scene all.0, (refl, says, all.1))
  | inr (why, is) ↦ faulty-judged number text why (fault-of bytes at text rest stands why is)
]

-- the texts behind one that is read
behind-exist : (bytes : List ℕ) (number end : ℕ) (b : Bool)
    → ((js : List Judged) × AreTexts bytes number end js)
    → (js : List Judged) × MatchBool b (js ≡ []) (AreTexts bytes number end js)
behind-exist bytes number end true others = ([], refl)
behind-exist bytes number end false others = others

texts-from : (bytes : List ℕ) (left number at : ℕ) → at ≤ length bytes → length bytes ≤ at + left
    → (js : List Judged) × AreTexts bytes number at js
texts-from bytes zero number at within near = (
  [],
  let all : drop at bytes ≡ [] = nil_from_length (drop at bytes) (omega (arith, length-drop at bytes)) in
      rw all refl,
)
texts-from bytes (suc left) number at within near = elim (cases_Bool (is_blank (drop at bytes))) [
  | inl blank ↦ ([], blank)
  | inr more ↦ elim (value-or-fault bytes at within) [
    | inr (why, is) ↦ (Broken number (fault.Json why) ∷ [], (more, inl ((why, is, refl), refl)))
    | inl (text, end, small, stands) ↦ let j = judged-exists bytes number at text (drop end bytes) within stands in
        let on = Stands-behind bytes text at end small stands in
        let others = behind-exist bytes (number + 1) end (is_broken j.0)
        (texts-from bytes left (number + 1) end small (omega (arith, on))) in (
          j.0 ∷ others.0,
          (more, inr (text, end, record { within = small; stands = stands; reads = j.1 }, others.1)),
        )
  ]
]

-- ---- what is told
board-exists : (judged : List Judged) → (text : List ℕ) × IsBoardTold judged text
board-exists judged =
    let head = joined-exists (heads_of judged) in
    let stored = stored-exist (updates_of judged) in
    let text = board_lines (kept_of stored.0 (updates_of judged)) (length judged) (updates_of judged) (spots_of judged)
    (shown (live_elements stored.0)) head.0.files in
    (text, record { head = head.0; stored = stored.0; joined = head.1; stores = stored.1; told = refl })

told-exists : (judged : List Judged) → (text : List ℕ) × IsTold judged text
told-exists judged = by (are_scenes judged)
  where
    by : (b : Bool) → (text : List ℕ) × MatchBool b (IsBoardTold judged text) (text ≡ fault_lines judged)
    by true = board-exists judged
    by false = (fault_lines judged, refl)

some-texts : (bytes : List ℕ) (js : List Judged) → is_blank bytes ≡ false → AreTexts bytes 1 0 js → js ≢ []
some-texts bytes js more read none = both_ways (is_blank bytes) more (subst (AreTexts bytes 1 0) none read)

pub checked-exists : (bytes : List ℕ) → is_blank bytes ≡ false → (text : List ℕ) × IsChecked bytes text
checked-exists bytes more =
    let texts = texts-from bytes (length bytes) 1 0 (omega arith) (omega arith) in
    let told = told-exists texts.0 in (
      told.0,
      record { judged = texts.0; some = some-texts bytes texts.0 more texts.1; read = texts.1; told = told.1 },
    )
