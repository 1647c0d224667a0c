-- What is read of an input, and what is told of it, are one thing alone.
use Rattle.std.proofs.Common.{◌≡◌, inl, inr, ℕ, ◌+◌, Bool, true, false, List, [], ◌∷◌, Option, Some, None, MatchBool, length, drop, codes, refl, sym, ap, ap₂, subst, ◌∙◌}
use Rattle.std.proofs.lemmas.Bool.{both_ways}
use Rattle.json_text.specs.Characters.{is_blank}
use Rattle.json_text.specs.Members.{pairs}
use Rattle.json_text.specs.Value.{Stands}
use Rattle.json_text.proofs.CallerLemmas.{Stands-once, drop-once}
use Rattle.scene_json.specs.Named.{value_at}
use Rattle.elem.specs.ElementValue.{ElementValue}
use Rattle.elem.specs.Forms.{IsText}
use Rattle.elem.proofs.CallerLemmas.{pairs-once, text-once}
use Rattle.elem_read.specs.declared.fault.ElemFault.{ElemFault}
use Rattle.elem_read.proofs.CallerLemmas.{element-faultless, element-kept, fault-dropped, fault-once as element_fault-once}
use Rattle.elem_store.proofs.CallerLemmas.{store-unique}
use Rattle.view.specs.Shown.{live_elements, shown}
use Rattle.scene_file.specs.Heads.{Heading}
use Rattle.scene_file.specs.Reading.{value_unless_null, HasItems, IsSceneAt}
use Rattle.scene_file.specs.declared.fault.SceneFault.{SceneFault}
use Rattle.scene_file.specs.declared.fault.SceneFault.TheVariants as fault
use Rattle.scene_file.proofs.CallerLemmas.{fault-at, fault-none, fault-once, head-once, items-once, scene-once}
use Rattle.checks.specs.Checks.{IsBoardTold, IsChecked, IsTold}
use Rattle.checks.specs.Lines.{are_scenes, board_lines, fault_lines, kept_of, spots_of, updates_of}
use Rattle.checks.specs.Reading.{is_broken, is_of_element, AreTexts, AreVerdicts, HasValues, HasVerdicts, IsIdIn, IsJudged, IsNoValue, IsVerdict}
use Rattle.checks.specs.declared.judged.Judged.{Judged}
use Rattle.checks.specs.declared.judged.Judged.TheVariants.{Whole, Flawed, Broken}
use Rattle.checks.specs.declared.judged.Verdict.{Verdict}
use Rattle.checks.specs.declared.judged.Verdict.TheVariants.{Dropped, Read, Faulty}
use Rattle.checks.proofs.JudgedLaws.{objects-once}

-- ---- values
id-once : (value : List ℕ) (a b : Option (List ℕ)) → IsIdIn value a → IsIdIn value b → a ≡ b
id-once value None None one two = refl
id-once value None (Some id) one (members, object, is) = absurd (one members id object is)
id-once value (Some id) None (members, object, is) two = absurd (two members id object is)
id-once value (Some a) (Some b) (ms, object, is) (ns, also, too) =
    ap Some (text-once (value_at (codes "id") ms) a b is (subst (λ ns. IsText (value_at (codes "id") ns) b)
    (objects-once value ns ms also object) too))

verdict-once : (place : ℕ) (value : List ℕ) (v w : Verdict) → IsVerdict place value v → IsVerdict place value w → v ≡ w
verdict-once place value Dropped Dropped one two = refl
verdict-once place value Dropped (Read at ms) one (e, object, (el, is)) = absurd (element-kept value el is one)
verdict-once place value Dropped (Faulty at why id) one (e, is, named) = absurd (fault-dropped value why is one)
verdict-once place value (Read at ms) Dropped (e, object, (el, is)) two = absurd (element-kept value el is two)
verdict-once place value (Read at ms) (Read to ns) (e, object, is) (f, also, too) =
    ap₂ Read (e ∙ sym f) (pairs-once ms ns (objects-once value (pairs ms) (pairs ns) object also))
verdict-once place value (Read at ms) (Faulty to why id) (e, object, (el, is)) (f, faulty, named) =
    absurd (element-faultless value el why is faulty)
verdict-once place value (Faulty at why id) Dropped (e, is, named) two = absurd (fault-dropped value why is two)
verdict-once place value (Faulty at why id) (Read to ns) (e, faulty, named) (f, also, (el, is)) =
    absurd (element-faultless value el why is faulty)
verdict-once place value (Faulty at why id) (Faulty to other name) (e, is, named) (f, also, too) =
    ap (λ k. Faulty k why id) (e ∙ sym f)
    ∙ (ap (λ (w : ElemFault). Faulty to w id) (element_fault-once value why other is also)
    ∙ ap (Faulty to other) (id-once value id name named too))

verdicts-once : (place : ℕ) (values : List (List ℕ)) (vs ws : List Verdict) → AreVerdicts place values vs
    → AreVerdicts place values ws → vs ≡ ws
verdicts-once place [] [] [] one two = refl
verdicts-once place [] [] (w ∷ ws) one two = absurd two
verdicts-once place [] (v ∷ vs) ws one two = absurd one
verdicts-once place (value ∷ values) [] ws one two = absurd one
verdicts-once place (value ∷ values) (v ∷ vs) [] one two = absurd two
verdicts-once place (value ∷ values) (v ∷ vs) (w ∷ ws) one two =
    ap₂ (λ x xs. x ∷ xs) (verdict-once place value v w one.0 two.0)
    (verdicts-once (place + 1) values vs ws one.1 two.1)

pub values-once : (text : List ℕ) (vs ws : List (List ℕ)) → HasValues text vs → HasValues text ws → vs ≡ ws
values-once text vs ws one two =
    items-once (value_unless_null (codes "elements") one.members) vs ws one.items
    (subst (λ ms. HasItems (value_unless_null (codes "elements") ms) ws)
    (objects-once text two.members one.members two.object one.object) two.items)

all-once : (text : List ℕ) (vs ws : List Verdict) → HasVerdicts text vs → HasVerdicts text ws → vs ≡ ws
all-once text vs ws (values, has, are) (others, also, too) =
    verdicts-once 0 values vs ws are (subst (λ us. AreVerdicts 0 us ws) (values-once text others values also has) too)

-- ---- texts
element-or-not : (why other : SceneFault) → why ≡ other → is_of_element why ≡ true → is_of_element other ≡ false → ⊥
element-or-not why other same is not_so = both_ways (is_of_element other) not_so (sym (ap is_of_element same) ∙ is)

module _ (bytes : List ℕ) (at : ℕ) (text rest : List ℕ) (stands : Stands (drop at bytes) text rest) where
  judged-once : (number : ℕ) (j k : Judged) → IsJudged number text j → IsJudged number text k → j ≡ k
  judged-once number (Whole n scene vs) (Whole m other ws) (e, is, has) (f, also, too) =
      let one : IsSceneAt (drop at bytes) scene rest = record { text = text; stands = stands; says = is } in
      let two : IsSceneAt (drop at bytes) other rest = record { text = text; stands = stands; says = also } in
      ap (λ k. Whole k scene vs) (e ∙ sym f)
      ∙ (ap (λ s. Whole m s vs) (scene-once one two).0 ∙ ap (Whole m other) (all-once text vs ws has too))
  judged-once number (Whole n scene vs) (Flawed m ws) (e, is, has) (f, (place, why, faulty), too) =
      absurd (fault-none bytes at (fault.Element place why) (fault-at bytes at text rest (fault.Element place why)
      stands faulty) (record { text = text; stands = stands; says = is }))
  judged-once number (Whole n scene vs) (Broken m why) (e, is, has) (f, no_element, faulty) =
      absurd (fault-none bytes at why (fault-at bytes at text rest why stands faulty)
      (record { text = text; stands = stands; says = is }))
  judged-once number (Flawed n vs) (Whole m scene ws) (e, (place, why, faulty), has) (f, is, too) =
      absurd (fault-none bytes at (fault.Element place why) (fault-at bytes at text rest (fault.Element place why)
      stands faulty) (record { text = text; stands = stands; says = is }))
  judged-once number (Flawed n vs) (Flawed m ws) (e, flaw, has) (f, also, too) =
      ap (λ k. Flawed k vs) (e ∙ sym f) ∙ ap (Flawed m) (all-once text vs ws has too)
  judged-once number (Flawed n vs) (Broken m why) (e, (place, found, is), has) (f, no_element, faulty) =
      absurd (element-or-not (fault.Element place found) why
      (fault-once bytes at (fault.Element place found) why
      (fault-at bytes at text rest (fault.Element place found) stands is)
      (fault-at bytes at text rest why stands faulty)) refl no_element)
  judged-once number (Broken n why) (Whole m scene ws) (e, no_element, faulty) (f, is, too) =
      absurd (fault-none bytes at why (fault-at bytes at text rest why stands faulty)
      (record { text = text; stands = stands; says = is }))
  judged-once number (Broken n why) (Flawed m ws) (e, no_element, faulty) (f, (place, found, is), too) =
      absurd (element-or-not (fault.Element place found) why
      (fault-once bytes at (fault.Element place found) why
      (fault-at bytes at text rest (fault.Element place found) stands is)
      (fault-at bytes at text rest why stands faulty)) refl no_element)
  judged-once number (Broken n why) (Broken m other) (e, no_element, faulty) (f, none, wrong) =
      ap (λ k. Broken k why) (e ∙ sym f)
      ∙ ap (Broken m) (fault-once bytes at why other (fault-at bytes at text rest why stands faulty)
      (fault-at bytes at text rest other stands wrong))

no-value-once : (bytes : List ℕ) (number at : ℕ) (j k : Judged) → IsNoValue bytes number at j
    → IsNoValue bytes number at k → j ≡ k
no-value-once bytes number at j k (why, is, e) (other, also, f) =
    let same : fault.Json why ≡ fault.Json other = fault-once bytes at (fault.Json why) (fault.Json other) is also in
    e ∙ (ap (Broken number) same ∙ sym f)

behind-once : (b : Bool) (js ks : List Judged) (P : List Judged → Type 0) → (P js → P ks → js ≡ ks)
    → MatchBool b (js ≡ []) (P js) → MatchBool b (ks ≡ []) (P ks) → js ≡ ks
behind-once true js ks P once one two = one ∙ sym two
behind-once false js ks P once one two = once one two

texts-once : (bytes : List ℕ) (number at : ℕ) (js ks : List Judged) → AreTexts bytes number at js
    → AreTexts bytes number at ks → js ≡ ks
texts-once bytes number at [] [] one two = refl
texts-once bytes number at [] (k ∷ ks) one two = absurd (both_ways (is_blank (drop at bytes)) two.0 one)
texts-once bytes number at (j ∷ js) [] one two = absurd (both_ways (is_blank (drop at bytes)) one.0 two)
texts-once bytes number at (j ∷ js) (k ∷ ks) (more, inl (none, end)) (also, inl (neither, over)) =
    ap₂ (λ x xs. x ∷ xs) (no-value-once bytes number at j k none neither) (end ∙ sym over)
texts-once bytes number at (j ∷ js) (k ∷ ks) (more, inl ((why, is, e), end)) (also, inr (text, to, here, behind)) =
    absurd (is.faulty text (drop to bytes) here.stands)
texts-once bytes number at (j ∷ js) (k ∷ ks) (more, inr (text, to, here, behind)) (also, inl ((why, is, e), end)) =
    absurd (is.faulty text (drop to bytes) here.stands)
texts-once bytes number at (j ∷ js) (k ∷ ks) (more, inr (text, end, here, behind)) (
  also,
  inr (other, to, there, further),
) =
    let same = Stands-once here.stands there.stands in
    let ends : to ≡ end = drop-once bytes to end there.within here.within (sym same.1) in
    let first : j ≡ k = judged-once bytes at text (drop end bytes) here.stands number j k here.reads
    (subst (λ t. IsJudged number t k) (sym same.0) there.reads) in
    let P : List Judged → Type 0 = AreTexts bytes (number + 1) end in
    ap₂ (λ x xs. x ∷ xs) first
    (behind-once (is_broken j) js ks P (λ one two. texts-once bytes (number + 1) end js ks one two) behind
    (subst (λ x. MatchBool (is_broken x) (ks ≡ []) (P ks)) (sym first)
    (subst (λ n. MatchBool (is_broken k) (ks ≡ []) (AreTexts bytes (number + 1) n ks)) ends further)))

-- ---- what is told
board-once : (judged : List Judged) (text other : List ℕ) → IsBoardTold judged text → IsBoardTold judged other
    → text ≡ other
board-once judged text other one two =
    one.told
    ∙ (ap₂ (λ (head : Heading) (stored : List ElementValue). board_lines (kept_of stored (updates_of judged))
    (length judged) (updates_of judged) (spots_of judged) (shown (live_elements stored)) head.files)
    (head-once one.joined two.joined) (store-unique (updates_of judged) one.stored two.stored one.stores two.stores)
    ∙ sym two.told)

told-once : (judged : List Judged) (text other : List ℕ) → IsTold judged text → IsTold judged other → text ≡ other
told-once judged text other = by (are_scenes judged)
  where
    by : (b : Bool) → MatchBool b (IsBoardTold judged text) (text ≡ fault_lines judged)
        → MatchBool b (IsBoardTold judged other) (other ≡ fault_lines judged) → text ≡ other
    by true one two = board-once judged text other one two
    by false one two = one ∙ sym two

some-read : (bytes : List ℕ) (js : List Judged) → (js ≡ [] → ⊥) → AreTexts bytes 1 0 js → is_blank bytes ≡ false
some-read bytes [] some read = absurd (some refl)
some-read bytes (j ∷ js) some read = read.0

-- An input of white space alone is told nothing.
pub checked-some : (bytes text : List ℕ) → IsChecked bytes text → is_blank bytes ≡ false
checked-some bytes text is = some-read bytes is.judged is.some is.read

pub checked-once : (bytes text other : List ℕ) → IsChecked bytes text → IsChecked bytes other → text ≡ other
checked-once bytes text other one two =
    told-once one.judged text other one.told
    (subst (λ js. IsTold js other) (texts-once bytes 1 0 two.judged one.judged two.read one.read) two.told)
