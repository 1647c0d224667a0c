use Rattle.std.proofs.Common.{length, drop, ap, ◌∙◌, sym, subst, arith}
use Rattle.members.specs.Standing.{nth}
use Rattle.elem.proofs.Appending.{extends_then}
use Rattle.elem.proofs.Merging.{Passed, Appended, passed-none, passed-more, passed-all, none_below}
use Rattle.elem.specs.inner.Printing.{members_below}
use Rattle.elem.proofs.object.push_below.Goals as goal
use Rattle.elem.proofs.object.push_below.Goals.{In_default}

pub loop-next-init : goal.loop-next-init
loop-next-init c =
    passed-none c.args.name.now c.args.start c.args.out.now.items (drop c.args.at c.args.members.now)

pub loop-next-preserved : goal.loop-next-preserved
loop-next-preserved c =
    let ms = c.args.members.now in
    let left = c.loop-next.left in
    passed-more c.args.name.now c.args.start c.args.out.now.items c.loop-next.out.items c.push_kept.new.out.items
    (drop c.args.at ms) (drop c.in-Some.next ms) (nth ms left)
    (subst (Passed c.args.name.now c.args.start c.args.out.now.items c.loop-next.out.items (drop c.args.at ms))
    c.in-Some.ensures.first.0 c.loop-next.invariant)
    c.in-Some.ensures.first.1 c.in_ok-push_kept.ensures.utf8 c.in_ok-push_kept.ensures.begun
    c.in_ok-push_kept.ensures.kept

pub loop-next-smaller : goal.loop-next-smaller
loop-next-smaller c = omega (arith, ap length c.in-Some.ensures.first.0)

pub returns-in_err-push_kept-clause-kept : goal.returns-in_err-push_kept-clause-kept
returns-in_err-push_kept-clause-kept c =
    extends_then _ _ _ c.loop-next.invariant.are.kept c.in_err-push_kept.ensures.kept

passed : (c : In_default)
    → Appended c.args.start c.args.out.now.items c.loop-next.out.items
    (members_below c.args.name.now (drop c.args.at c.args.members.now))
passed c =
    passed-all c.args.name.now c.args.start c.args.out.now.items c.loop-next.out.items
    (drop c.args.at c.args.members.now) (drop c.loop-next.left c.args.members.now) c.loop-next.invariant
    c.in_default.ensures.first

pub returns-clause-begun : goal.returns-clause-begun
returns-clause-begun c = (passed (goal.at.returns-clause-begun c).In_default).begun

pub returns-clause-left : goal.returns-clause-left
returns-clause-left c =
    sym (none_below c.args.name.now (drop c.loop-next.left c.args.members.now) c.in_default.ensures.first)
    ∙ c.loop-next.invariant.behind

pub returns-clause-named : goal.returns-clause-named
returns-clause-named c = (passed (goal.at.returns-clause-named c).In_default).named

pub returns-clause-kept : goal.returns-clause-kept
returns-clause-kept c = (passed (goal.at.returns-clause-kept c).In_default).kept
