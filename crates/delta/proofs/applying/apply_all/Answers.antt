-- No change is of a member that an earlier one changed.
use Rattle.std.proofs.Common.{◌≡◌, true, ◌+◌, ◌<◌, ◌≤◌, ◌++◌, ◌∷◌, [], length, take, get_or, take_all, sym, ap, ◌∙◌, subst, arith}
use Rattle.std.specs.List.{AllByRecursion}
use Rattle.std.proofs.lemmas.List.{take_more}
use Rattle.delta.specs.Applied.{Changes}
use Rattle.delta.specs.Facts.{IsChange, change_names, name_of}
use Rattle.delta.proofs.ChangeLaws.{Changes-none, Changes-more, each-change}
use Rattle.delta.proofs.Placing.{none-earlier}
use Rattle.frac_keys.specs.Rising.{are_rising}
use Rattle.delta.proofs.applying.apply_all.Goals as goal

pub loop-change-init : goal.loop-change-init
loop-change-init c = record { changes = Changes-none c.args.e.now; element = c.requires.element }

pub apply_change-requires : goal.apply_change-requires
apply_change-requires c =
    let e = c.as_slice-change-items.ensures in
    subst (λ kind. IsChange kind c.change-item.result) (sym c.loop-change.invariant.changes.stamp.kind)
    (each-change (IsChange c.args.e.now.kind) c.as_slice-change-items.result.now c.loop-change.change-index
    c.change-item.result (subst (AllByRecursion (IsChange c.args.e.now.kind)) (sym e) c.requires.each) (omega arith)
    (cc))

pub loop-change-preserved : goal.loop-change-preserved
loop-change-preserved c =
    let cs = c.as_slice-change-items.result.now in
    let i = c.loop-change.change-index in
    let change = c.change-item.result in
    let here : change ≡ get_or cs i change = cc in
    let within : i < length cs = omega arith in
    let more : take (i + 1) cs ≡ take i cs ++ change ∷ [] =
    take_more cs i change within ∙ ap (λ x. take i cs ++ x ∷ []) (sym here) in
    record {
      changes =
          subst (λ xs. Changes xs c.args.e.now c.apply_change.new.e) (sym more)
          (Changes-more (take i cs) change c.args.e.now c.loop-change.e c.apply_change.new.e
          c.loop-change.invariant.changes c.in_ok-apply_change.ensures.changes
          (none-earlier name_of cs i change
          (subst (λ xs. are_rising (change_names xs) ≡ true) (sym c.as_slice-change-items.ensures) c.requires.rise)
          within here));
      element = c.in_ok-apply_change.ensures.element;
    }

pub returns-clause-changes : goal.returns-clause-changes
returns-clause-changes c =
    let all : length c.as_slice-change-items.result.now ≤ c.loop-change.change-index = omega arith in
    subst (λ xs. Changes xs c.args.e.now c.loop-change.e) (take_all _ _ all
    ∙ c.as_slice-change-items.ensures) c.loop-change.invariant.changes
