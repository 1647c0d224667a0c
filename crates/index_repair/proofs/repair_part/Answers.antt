use Rattle.std.proofs.Common.{arith, ◌≡◌, ◌≤◌, true, None, length, ◌++◌, option_copied, refl, ap, sym, ◌∙◌}
use Rattle.std.specs.List.{list_all}
use Rattle.frac_keys.specs.Rising.{is_key_or_none}
use Rattle.index_repair.specs.Repair.{kept_after, filled_after, are_below, repaired_below}
use Rattle.index_repair.proofs.RepairLaws.{AreRepairedBelow, AreRepairedBelow-from}
use Rattle.index_repair.proofs.SoFar.{IsSoFar-kept, IsSoFar-not_kept, IsSoFar-made, IsSoFar-keys}
use Rattle.index_repair.proofs.repair_part.Goals as goal
use Rattle.index_repair.proofs.repair_part.Goals.{in-Some+in_ok-push_between-in-Some+in_ok-try_clone-in-Some+in_ok-push-in-Some, in-None}

pub loop-key-init : goal.loop-key-init
unfolding repaired_below
loop-key-init c = record {
  made =
      ap (λ new. new ++ filled_after (option_copied c.args.above) None 0
      (kept_after None c.as_slice-key-items.result.now)) c.new-new.ensures.items;
  are_keys = refl;
  short = omega arith;
  rise = refl;
}

pub loop-key-preserved : goal.loop-key-preserved
loop-key-preserved c =
    let keys = c.as_slice-key-items.result.now in
    let below : are_below (option_copied c.args.above) keys ≡ true =
    ap (are_below (option_copied c.args.above)) c.as_slice-key-items.ensures ∙ c.requires in
    elim c.match-kept_key.branch [
      | in-Some+in_ok-push_between-in-Some+in_ok-try_clone-in-Some+in_ok-push-in-Some w ↦
          rw (w.new-is, w.low-is, w.run-is)
          (rw (
            w.in_ok-push-in-Some.ensures.items,
            w.in_ok-push_between-in-Some.ensures.pushed,
            w.in_ok-try_clone-in-Some.ensures,
          )
          (IsSoFar-kept (option_copied c.args.above) (option_copied c.loop-key.low) c.loop-key.run keys
          c.loop-key.key-index c.loop-key.new.items c.key-item.result
          c.loop-key-test.true c.key-item.is c.kept_key.ensures.key c.loop-key.invariant w.in-Some.key.now
          (sym c.kept_key.ensures.kept ∙ ap option_copied w.in-Some.is) below))
      | in-None w ↦
          rw (w.new-is, w.low-is, w.run-is)
          (IsSoFar-not_kept (option_copied c.args.above) (option_copied c.loop-key.low) c.loop-key.run keys
          c.loop-key.key-index c.loop-key.new.items c.key-item.result
          c.loop-key-test.true c.key-item.is c.kept_key.ensures.key c.loop-key.invariant
          (sym c.kept_key.ensures.kept ∙ ap option_copied w.in-None.is))
    ]

module _ (c : goal.After-from_vec) where
  over : length c.as_slice-key-items.result.now ≤ c.loop-key.key-index
  over = omega (arith, c.loop-key-test.false)

  made : c.from_vec.result ≡ repaired_below (option_copied c.args.above) c.args.keys.now
  made =
      c.from_vec.ensures ∙ c.in_ok-push_between.ensures.pushed
      ∙ IsSoFar-made (option_copied c.args.above) (option_copied c.loop-key.low) c.loop-key.run
      c.as_slice-key-items.result.now c.loop-key.key-index c.loop-key.new.items over c.loop-key.invariant
      ∙ ap (repaired_below (option_copied c.args.above)) c.as_slice-key-items.ensures

  are_keys : list_all is_key_or_none c.args.keys.now ≡ true
  are_keys =
      ap (list_all is_key_or_none) (sym c.as_slice-key-items.ensures)
      ∙ IsSoFar-keys (option_copied c.args.above) (option_copied c.loop-key.low) c.loop-key.run
      c.as_slice-key-items.result.now c.loop-key.key-index c.loop-key.new.items over c.loop-key.invariant

  done : AreRepairedBelow (option_copied c.args.above) c.args.keys.now c.from_vec.result
  done = AreRepairedBelow-from (option_copied c.args.above) c.args.keys.now c.from_vec.result made
      c.push_between-2.ensures.high_end c.requires are_keys

pub returns-clause-exact : goal.returns-clause-exact
returns-clause-exact c = made c

pub returns-clause-old_keys : goal.returns-clause-old_keys
returns-clause-old_keys c = are_keys c

pub returns-clause-count : goal.returns-clause-count
returns-clause-count c = (done c).count

pub returns-clause-rise : goal.returns-clause-rise
returns-clause-rise c = (done c).rise

pub returns-clause-keeps : goal.returns-clause-keeps
returns-clause-keeps c = (done c).keeps

pub returns-clause-new_keys : goal.returns-clause-new_keys
returns-clause-new_keys c = (done c).new_keys
