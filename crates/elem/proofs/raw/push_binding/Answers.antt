-- The target stands between the further members whose names are less and the others.
use Rattle.std.proofs.Common.{◌≡◌, List, [], ◌∷◌, ◌++◌, codes, length, drop, ap, ◌∙◌, rules, subst, arith}
use Rattle.std.proofs.lemmas.List.Elements.{recursion_from_All}
use Rattle.std.specs.Str.{IsUtf8}
use Rattle.json_text.specs.Characters.{quote}
use Rattle.json_text.specs.Compact.{Member as Pair}
use Rattle.json_text.specs.Members.{pairs}
use Rattle.json_text.proofs.CallerLemmas.{Value-deeper}
use Rattle.json_text.specs.declared.text.Member.{Member}
use Rattle.json_text.specs.Value.{IsCompact}
use Rattle.scene_json.proofs.CallerLemmas.{pairs-each}
use Rattle.elem.specs.Facts.{IsBinding}
use Rattle.elem.specs.inner.Printing.{IsBegun, members_not_below}
use Rattle.elem.specs.Texts.{sorted_members}
use Rattle.elem.proofs.Headers.{target_pair, merged-binding, binding-rises}
use Rattle.elem.proofs.Merging.{Merged, begun-step, merging-from, merging-step, merging-closed, length-merged, sound-compact}
use Rattle.elem.proofs.raw.push_binding.Goals as goal
use Rattle.elem.proofs.raw.push_binding.Goals.{In_ok-push}

sound : (c : In_ok-push) → IsBinding c.in-Some.binding
sound c = rw c.in-Some.is at c.requires

all : (c : In_ok-push) → Merged 118 c.args.out.now.items c.push.new.self.items
    (sorted_members (target_pair c.in-Some.binding ∷ pairs c.in-Some.binding.rest))
unfolding quote
all c =
    let out = c.args.out.now.items in
    let binding = c.in-Some.binding in
    let target = target_pair binding in
    let low = c.push_below.new.out.items in
    let done = c.push_quote.new.out.items in
    let at : c.len-start.result ≡ length out = search rules in
    let below = c.in_ok-at.ensures in
    let before = merging-from 118 out (target ∷ []) binding.rest
    (pairs-each (λ (m : Pair). IsCompact 118 m.1) binding.rest (sound c).nest) in
    let header : (first : List Pair) → IsBegun out first low → IsBegun out (first ++ target ∷ []) done =
    λ first is. begun-step out first (codes "elementId") (quote binding.target) c.len-start.result low
    c.begin_quoted.new.out.items done at is c.in_ok-begin_quoted.ensures.text c.in_ok-push_quote.ensures.ok in
    let rest = c.as_members-rest.result.now in
    let left = drop c.in_ok-at.at rest in
    let same : rest ≡ binding.rest = c.as_members-rest.ensures in
    let named = rw same at (recursion_from_All (λ (m : Member). IsUtf8 m.name) _ below.named) in
    let begun = rw same at below.begun in
    let others : left ≡ members_not_below (codes "elementId") binding.rest =
    below.left ∙ ap (members_not_below (codes "elementId")) same in
    let target_too =
    merging-step 118 out out low done target [] binding.rest left (target ∷ []) binding.rest before
    (λ first is. begun out first at is) others named header c.in_ok-at.ensures.utf8
    (Value-deeper (omega arith) c.in_ok-push_quote.ensures.nests) in
    subst (Merged 118 out c.push.new.self.items) (merged-binding binding (sound c))
    (merging-closed 118 out done c.push_members.new.out.items c.push.new.self.items left (target ∷ [])
    binding.rest target_too
    (λ first is. c.in_ok-push_members.ensures.begun out first at is)
    (recursion_from_All (λ (m : Member). IsUtf8 m.name) _ c.in_ok-push_members.ensures.named)
    c.in_ok-push.ensures.items (length-merged target [] binding.rest))

pub returns-clause-text : goal.returns-clause-text
returns-clause-text c = rw c.in-Some.is (all (goal.at.returns-clause-text c).In_ok-push).text

pub returns-clause-nests : goal.returns-clause-nests
returns-clause-nests c =
    let done = (goal.at.returns-clause-nests c).In_ok-push in
    rw c.in-Some.is (sound-compact 118 _ (all done).sound (binding-rises c.in-Some.binding (sound done)))
