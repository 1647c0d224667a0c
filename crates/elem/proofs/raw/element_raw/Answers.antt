-- The text stands in bytes of its own.
use Rattle.std.proofs.Common.{◌≡◌, ap, ◌∙◌, ◌++◌, sym, subst, arith}
use Rattle.std.proofs.lemmas.Result.{IfOk-weaker}
use Rattle.json_text.proofs.CallerLemmas.{Value-deeper}
use Rattle.json_text.specs.Members.{pairs}
use Rattle.json_text.specs.Value.{IsCompact}
use Rattle.elem.specs.Texts.{header_members, element_members, element_text}
use Rattle.elem.proofs.Sorting.{IsPermutation-sorted}
use Rattle.elem.proofs.raw.element_raw.Goals as goal
use Rattle.elem.proofs.raw.element_raw.Goals.{In_ok-push_element}

written : (c : In_ok-push_element) → c.push_element.new.out.items ≡ element_text c.args.e.now
written c = c.in_ok-push_element.ensures.text ∙ ap (λ out. out ++ element_text c.args.e.now) c.new-out.ensures.items

pub raw_of-requires : goal.raw_of-requires
raw_of-requires c = rw (written c) (Value-deeper (omega arith) c.in_ok-push_element.ensures.nests)

pub returns-clause-text : goal.returns-clause-text
returns-clause-text c =
    let text = written (goal.at.returns-clause-text c).In_ok-push_element in
    IfOk-weaker c.raw_of.result _ (λ raw. raw ≡ element_text c.args.e.now) (λ raw same. same ∙ text) c.raw_of.ensures

pub returns-clause-sorted : goal.returns-clause-sorted
unfolding element_members
returns-clause-sorted c =
    let e = c.args.e.now in
    let text = written (goal.at.returns-clause-sorted c).In_ok-push_element in
    IfOk-weaker c.raw_of.result _ _
    (λ raw same. (
      element_members e,
      same ∙ text,
      IsPermutation-sorted (header_members e ++ pairs e.rest),
      c.in_ok-push_element.ensures.rise,
    ))
    c.raw_of.ensures

pub returns-clause-nests : goal.returns-clause-nests
returns-clause-nests c =
    let text = written (goal.at.returns-clause-nests c).In_ok-push_element in
    IfOk-weaker c.raw_of.result _ (IsCompact 120)
    (λ raw same. subst (IsCompact 120) (sym (same ∙ text)) c.in_ok-push_element.ensures.nests) c.raw_of.ensures
