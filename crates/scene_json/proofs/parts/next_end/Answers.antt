use Rattle.std.proofs.Common.{ℕ, List, ◌-◌, length, length-drop, drop, arith, sym, ap, subst}
use Rattle.std.proofs.Math.Seq.{take_all}
use Rattle.scene_json.specs.inner.Passes.{Compacted}
use Rattle.scene_json.proofs.ItemsLeft.{between-is}
use Rattle.scene_json.proofs.parts.next_end.Goals as goal

pub returns-clause-end : goal.returns-clause-end
returns-clause-end c text rest here =
    let bytes = c.args.bytes.now in
    let whole =
    take_all (length bytes - c.args.at) (drop c.args.at bytes) (omega (arith, length-drop c.args.at bytes)) in
    let found =
    c.after_value.ensures.found text rest (subst (λ (x : List ℕ). Compacted x text rest) (sym whole) here) in
    between-is bytes text rest c.args.at _ c.requires (ap (λ (x : List ℕ). length bytes - length x) found) here.parts
