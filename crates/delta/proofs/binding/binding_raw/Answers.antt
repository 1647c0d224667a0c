-- The target goes among the further members, whose names rise and are others.
use Rattle.std.proofs.Common.{◌≡◌, ℕ, ◌≤◌, All, Some, codes, sym, ap, ◌∙◌, arith}
use Rattle.std.proofs.lemmas.List.Elements.{All-from_recursion}
use Rattle.json_text.specs.Characters.{quote}
use Rattle.json_text.specs.Compact.{object_text}
use Rattle.json_text.specs.Members.{pairs}
use Rattle.json_text.specs.Value.{IsCompact}
use Rattle.json_text.specs.declared.text.Member.{Member}
use Rattle.json_text.proofs.CallerLemmas.{Value-deeper}
use Rattle.elem.specs.Facts.{IsBinding}
use Rattle.elem.proofs.CallerLemmas.{AllByRecursion-weaker}
use Rattle.delta.specs.Rest.{with_value}
use Rattle.delta.proofs.RestLaws.{risen, IsDistinct-rising, rising-with_value, each-with_value, sorted-with_value}
use Rattle.delta.proofs.binding.binding_raw.Goals as goal
use Rattle.delta.proofs.binding.binding_raw.Goals.{In_ok-put_value}

sound : (c : In_ok-put_value) → IsBinding c.in-Some.binding
sound c = rw c.in-Some.is at c.requires

made : (c : In_ok-put_value) → c.put_value.new.members.items
    ≡ with_value (codes "elementId") (Some (quote c.in-Some.binding.target)) c.in-Some.binding.rest
made c =
    c.in_ok-put_value.ensures
    ∙ ap (λ ms. with_value c.in_ok-name.name (Some c.in_ok-target.target) ms) (c.into_vec-members.ensures
    ∙ c.in_ok-to_list.ensures)
    ∙ ap (λ name. with_value name (Some c.in_ok-target.target) c.in-Some.binding.rest) c.in_ok-name.ensures
    ∙ ap (λ v. with_value (codes "elementId") (Some v) c.in-Some.binding.rest) c.in_ok-target.ensures.quote

nest : (c : In_ok-put_value) (limit : ℕ) → 118 ≤ limit
    → All (λ (m : Member). IsCompact limit m.value) c.put_value.new.members.items
nest c limit wide =
    let P : ℕ → Member → Type 0 = λ l m. IsCompact l m.value in
    let target : IsCompact limit (quote c.in-Some.binding.target) =
    rw (← c.in_ok-target.ensures.quote) (Value-deeper (omega arith) c.in_ok-target.ensures.nests) in
    rw (made c)
    (All-from_recursion (P limit) _ (each-with_value (P limit) (codes "elementId")
    (Some (quote c.in-Some.binding.target)) c.in-Some.binding.rest (target, tt)
    (AllByRecursion-weaker (P 118) (P limit) _ (λ m v. Value-deeper wide v) (sound c).nest)))

pub raw_object-requires-clause-distinct : goal.raw_object-requires-clause-distinct
raw_object-requires-clause-distinct c =
    let d = (goal.at.raw_object-requires-clause-distinct c).In_ok-put_value in
    rw (c.from_vec.ensures, made d)
    (IsDistinct-rising _ (rising-with_value (codes "elementId") (Some (quote c.in-Some.binding.target))
    c.in-Some.binding.rest (risen _ (sound d).rise)))

pub raw_object-requires-clause-values : goal.raw_object-requires-clause-values
raw_object-requires-clause-values c =
    rw c.from_vec.ensures (nest (goal.at.raw_object-requires-clause-values c).In_ok-put_value 127 (omega arith))

pub returns-clause-text : goal.returns-clause-text
returns-clause-text c =
    let d = (goal.at.returns-clause-text c).In_ok-put_value in
    let text = c.raw_object-2.ensures.text in
    let same = ap (λ ms. object_text (pairs ms)) (c.from_vec.ensures ∙ made d)
    ∙ ap object_text (sym (sorted-with_value (codes "elementId") (quote c.in-Some.binding.target) c.in-Some.binding.rest
    (risen _ (sound d).rise) (sound d).free)) in
    rw c.in-Some.is (rw same at text)

pub returns-clause-nests : goal.returns-clause-nests
returns-clause-nests c =
    c.raw_object-2.ensures.nests 118 (rw c.from_vec.ensures
    (nest (goal.at.returns-clause-nests c).In_ok-put_value 118 (omega arith)))
