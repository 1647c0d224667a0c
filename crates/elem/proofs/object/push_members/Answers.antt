use Rattle.std.proofs.Common.{◌≡◌, ◌<◌, ◌+◌, [], length, drop, drop_of_length-le, subst, arith}
use Rattle.std.proofs.lemmas.List.{drop_more}
use Rattle.json_text.specs.declared.text.Member.{Member}
use Rattle.members.specs.Standing.{nth}
use Rattle.elem.proofs.Appending.{extends_then}
use Rattle.elem.proofs.Merging.{Appended, Parted, parted-none, parted-more, parted-all}
use Rattle.elem.proofs.object.push_members.Goals as goal
use Rattle.elem.proofs.object.push_members.Goals.{After-loop-i}

pub loop-i-init : goal.loop-i-init
loop-i-init c = parted-none c.args.start c.args.out.now.items (drop c.args.at c.args.members.now)

pub loop-i-preserved : goal.loop-i-preserved
loop-i-preserved c =
    let ms = c.args.members.now in
    let i = c.loop-i.i in
    let inside : i < length ms = omega arith in
    let none : Member = record { name = []; value = [] } in
    parted-more c.args.start c.args.out.now.items c.loop-i.out.items c.push_kept.new.out.items
    (drop c.args.at ms) (drop (i + 1) ms) (nth ms i)
    (subst (Parted c.args.start c.args.out.now.items c.loop-i.out.items (drop c.args.at ms))
    (drop_more ms i none inside) c.loop-i.invariant)
    c.in_ok-push_kept.ensures.utf8 c.in_ok-push_kept.ensures.begun c.in_ok-push_kept.ensures.kept

pub returns-in_err-push_kept-clause-kept : goal.returns-in_err-push_kept-clause-kept
returns-in_err-push_kept-clause-kept c =
    extends_then _ _ _ c.loop-i.invariant.are.kept c.in_err-push_kept.ensures.kept

all : (c : After-loop-i)
    → Appended c.args.start c.args.out.now.items c.loop-i.out.items (drop c.args.at c.args.members.now)
all c =
    let ms = c.args.members.now in
    let done : drop c.loop-i.i ms ≡ [] = drop_of_length-le ms (omega arith) in
    parted-all c.args.start c.args.out.now.items c.loop-i.out.items (drop c.args.at ms) (drop c.loop-i.i ms)
    c.loop-i.invariant done

pub returns-clause-begun : goal.returns-clause-begun
returns-clause-begun c = (all (goal.at.returns-clause-begun c).After-loop-i).begun

pub returns-clause-named : goal.returns-clause-named
returns-clause-named c = (all (goal.at.returns-clause-named c).After-loop-i).named

pub returns-clause-kept : goal.returns-clause-kept
returns-clause-kept c = (all (goal.at.returns-clause-kept c).After-loop-i).kept
