use Rattle.std.proofs.Common.{sym, ◌∙◌, lit≤}
use Rattle.std.proofs.lemmas.Option.{MatchOption-at_some, MatchOption-at_none}
use Rattle.json_text.specs.Members.{pairs}
use Rattle.elem.specs.Texts.{element_members}
use Rattle.elem.proofs.CallerLemmas.{AreMembers-deeper, element-are, object-once}
use Rattle.elem_read.proofs.CallerLemmas.{is-object}
use Rattle.checks.proofs.changes.members_of.Goals as goal

pub unreachable-requires : goal.unreachable-requires
unreachable-requires c =
    let e = c.args.e.now in
    let are = AreMembers-deeper 119 127 (element_members e) (lit≤ tt) (element-are e c.requires.0 c.requires.1) in
    MatchOption-at_none _ _ c.in-None.is c.in_ok-members.ensures (element_members e)
    (is-object c.in_ok-element_raw.field-0 (element_members e) c.in_ok-element_raw.ensures.text are)

pub returns : goal.returns
returns c =
    let e = c.args.e.now in
    let are = AreMembers-deeper 119 127 (element_members e) (lit≤ tt) (element-are e c.requires.0 c.requires.1) in
    let object = MatchOption-at_some _ _ c.in-Some.members c.in-Some.is c.in_ok-members.ensures in
    object-once (pairs c.in-Some.members) (element_members e) object.are_members are
    (sym object.spelled ∙ c.in_ok-element_raw.ensures.text)
