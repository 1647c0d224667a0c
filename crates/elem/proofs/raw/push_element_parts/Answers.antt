-- The members that are written are those of the element in the order of their names.
use Rattle.std.proofs.Common.{◌≡◌, ℕ, ◌+◌, get_or, ◌<◌, List, [], ◌∷◌, length, map, drop, drop_of_length-le, drop-cons, add-one, refl, rules, ap, ◌∙◌, subst, arith}
use Rattle.std.specs.Str.{IsUtf8}
use Rattle.std.proofs.lemmas.List.Elements.{recursion_from_All}
use Rattle.json_text.specs.declared.text.Member.{Member}
use Rattle.json_text.proofs.CallerLemmas.{extends_same, extends_by, extends_then, on_err}
use Rattle.json_text.specs.Compact.{Member as Pair}
use Rattle.json_text.specs.Value.{IsCompact}
use Rattle.scene_json.proofs.CallerLemmas.{pairs-each}
use Rattle.elem.specs.declared.header.Header.{Header}
use Rattle.elem.specs.declared.header.Header.TheVariants.{BoundElements}
use Rattle.elem.specs.ElementValue.{ElementValue}
use Rattle.elem.specs.Facts.{IsElement}
use Rattle.elem.specs.inner.Printing.{header_name, header_pair, headers_of}
use Rattle.elem.specs.Texts.{element_members}
use Rattle.elem.proofs.Headers.{header_pairs, merged-element, length-members, element-compact, element-rises}
use Rattle.elem.proofs.Merging.{Merging, Merged, merging-from, merging-step, merging-closed}
use Rattle.elem.proofs.Sorting.{are_rising-from}
use Rattle.elem.proofs.raw.push_element_parts.Goals as goal
use Rattle.elem.proofs.raw.push_element_parts.Goals.{In_ok-push}

pub loop-header-init : goal.loop-header-init
loop-header-init c =
    let e = c.args.e.now in
    let out = c.args.out.now.items in
    let is = subst IsElement c.e.view_is c.e.invariant in
    let headers = c.headers_of-header-items.ensures ∙ ap (λ e. headers_of e.kind) c.e.view_is in
    let rest = c.as_members-rest.ensures ∙ ap (λ e. e.rest) c.e.view_is in
    rw (headers, rest) (merging-from 119 out (header_pairs e e.kind) e.rest
    (pairs-each (λ (m : Pair). IsCompact 119 m.1) e.rest is.nest))

-- one more header member
more : (e : ElementValue) (hs : List Header) (h : Header) (i : ℕ) → i < length hs
    → map (header_pair e) (drop i hs) ≡ header_pair e (get_or hs i h) ∷ map (header_pair e) (drop (i + 1) hs)
more e hs h i inside =
    let first : drop i hs ≡ get_or hs i h ∷ drop (i + 1) hs = rw (drop-cons hs i h inside, add-one) refl in
    ap (map (header_pair e)) first

pub loop-header-preserved : goal.loop-header-preserved
loop-header-preserved c =
    let e = c.args.e.now in
    let out = c.args.out.now.items in
    let hs = c.headers_of-header-items.result.now in
    let i = c.loop-header.header-index in
    let h = get_or hs i BoundElements in
    let low = c.push_below.new.out.items in
    let at : c.len-start.result ≡ length out = search rules in
    let left = drop c.loop-header.at c.as_members-rest.result.now in
    let name : c.name.result.now ≡ header_name h = c.name.ensures in
    let here = more e hs BoundElements i (omega arith) in
    let so_far = subst (λ ps. Merging 119 out c.loop-header.out.items ps left (header_pairs e e.kind)
    e.rest) here c.loop-header.invariant in
    let below = rw name at c.in_ok-at.ensures in
    merging-step 119 out c.loop-header.out.items low c.push_header.new.out.items (header_pair e h)
    (map (header_pair e) (drop (i + 1) hs)) left (drop c.in_ok-at.at c.as_members-rest.result.now) (header_pairs e e.kind)
    e.rest
    so_far (λ first is. below.begun out first at is) below.left
    (recursion_from_All (λ (m : Member). IsUtf8 m.name) _ below.named)
    (λ first is. c.in_ok-push_header.ensures.begun out first at is) below.utf8 c.in_ok-push_header.ensures.nests

valid : (c : In_ok-push) → IsElement c.args.e.now
valid c = subst IsElement c.e.view_is c.e.invariant

all : (c : In_ok-push) → Merged 119 c.args.out.now.items c.push.new.self.items (element_members c.args.e.now)
all c =
    let e = c.args.e.now in
    let out = c.args.out.now.items in
    let hs = c.headers_of-header-items.result.now in
    let at : c.len-start.result ≡ length out = search rules in
    let left = drop c.loop-header.at c.as_members-rest.result.now in
    let none : map (header_pair e) (drop c.loop-header.header-index hs) ≡ [] =
    ap (map (header_pair e)) (drop_of_length-le hs c.loop-header-test.false) in
    let so_far = subst (λ ps. Merging 119 out c.loop-header.out.items ps left (header_pairs e e.kind)
    e.rest) none c.loop-header.invariant in
    subst (Merged 119 out c.push.new.self.items) (merged-element e (valid c))
    (merging-closed 119 out c.loop-header.out.items c.push_members.new.out.items c.push.new.self.items
    left (header_pairs e e.kind) e.rest so_far
    (λ first is. c.in_ok-push_members.ensures.begun out first at is)
    (recursion_from_All (λ (m : Member). IsUtf8 m.name) _ c.in_ok-push_members.ensures.named)
    c.in_ok-push.ensures.items ((length-members e)))

pub returns-clause-text : goal.returns-clause-text
returns-clause-text c = (all (goal.at.returns-clause-text c).In_ok-push).text

pub returns-clause-nests : goal.returns-clause-nests
returns-clause-nests c =
    let done = (goal.at.returns-clause-nests c).In_ok-push in element-compact c.args.e.now (valid done) (all done).sound

pub returns-clause-rise : goal.returns-clause-rise
returns-clause-rise c =
    are_rising-from (element_members c.args.e.now)
    (element-rises c.args.e.now (valid (goal.at.returns-clause-rise c).In_ok-push))

pub returns-in_err-at-clause-kept : goal.returns-in_err-at-clause-kept
returns-in_err-at-clause-kept c =
    on_err c.from_residual.result (extends_then _ _ _ (extends_by _ _ _ c.loop-header.invariant.begun)
    c.in_err-at.ensures.kept)

pub returns-in_err-push_header-clause-kept : goal.returns-in_err-push_header-clause-kept
returns-in_err-push_header-clause-kept c =
    on_err c.from_residual-in_err-push_header.result
    (extends_then _ _ _ (extends_by _ _ _ c.loop-header.invariant.begun)
    (extends_then _ _ _ c.in_ok-at.ensures.kept c.in_err-push_header.ensures.kept))

pub returns-in_err-push_members-clause-kept : goal.returns-in_err-push_members-clause-kept
returns-in_err-push_members-clause-kept c =
    on_err c.from_residual-in_err-push_members.result
    (extends_then _ _ _ (extends_by _ _ _ c.loop-header.invariant.begun) c.in_err-push_members.ensures.kept)

pub returns-in_err-push-clause-kept : goal.returns-in_err-push-clause-kept
returns-in_err-push-clause-kept c =
    on_err c.from_residual-in_err-push.result
    (extends_then _ _ _ (extends_by _ _ _ c.loop-header.invariant.begun)
    (extends_then _ _ _ c.in_ok-push_members.ensures.kept (extends_same _ _ c.in_err-push.ensures.items)))
