-- Each entry is looked at in its turn, from the last one down.
use Rattle.std.proofs.Common.{◌≡◌, suc, ◌+◌, ◌-◌, ◌<◌, Some, length, drop, sym, ap, ◌∙◌, subst, arith}
use Rattle.std.proofs.lemmas.Option.{slice_get-get_or}
use Rattle.history.specs.Stacks.{AreUnseen}
use Rattle.history.proofs.PlanLaws.{unseen-below}
use Rattle.history.proofs.step.topmost_seen.Goals as goal

pub is_seen-requires : goal.is_seen-requires
is_seen-requires c =
    let xs = c.args.stack.now.items in
    let within : c.loop-count.count - 1 < length xs =
    omega (arith, c.loop-count.invariant.within, c.loop-count-test.true) in
    c.requires c.index-entry.result.now (c.loop-count.count - 1, within, sym c.index-entry.ensures)

pub returns-then-seen-clause-some : goal.returns-then-seen-clause-some
returns-then-seen-clause-some c =
    let xs = c.args.stack.now.items in
    let last = c.loop-count.count - 1 in
    let within : last < length xs = omega (arith, c.loop-count.invariant.within, c.loop-count-test.true) in
    let more : c.loop-count.count ≡ last + 1 = omega (arith, c.loop-count-test.true) in
    record {
      parts = c.index-entry.result.now;
      at = slice_get-get_or xs last c.index-entry.result.now within ∙ ap Some (sym c.index-entry.ensures);
      seen = c.in_ok-seen.ensures.seen c.if-seen.true;
      unseen = subst (λ n. AreUnseen c.args.store.now.elements (drop n xs)) more c.loop-count.invariant.unseen;
    }

pub loop-count-preserved : goal.loop-count-preserved
loop-count-preserved c =
    let xs = c.args.stack.now.items in
    let last = c.loop-count.count - 1 in
    let within : last < length xs = omega (arith, c.loop-count.invariant.within, c.loop-count-test.true) in
    let more : c.loop-count.count ≡ suc last = omega (arith, c.loop-count-test.true) in
    record {
      within = omega (arith, within);
      unseen =
          unseen-below c.args.store.now.elements xs last c.loop-count.count c.index-entry.result.now more within
          c.index-entry.ensures
          (c.in_ok-seen.ensures.unseen c.if-seen.false) c.loop-count.invariant.unseen;
    }

pub returns-clause-none : goal.returns-clause-none
returns-clause-none c same =
    let none : c.loop-count.count ≡ 0 = omega (arith, c.loop-count-test.false) in
    subst (λ n. AreUnseen c.args.store.now.elements (drop n c.args.stack.now.items)) none c.loop-count.invariant.unseen
