use Rattle.std.proofs.Common.{◌<◌, ◌++◌, ℕ, List, decimal, get_or, sym, ap, ◌∙◌, length, map, take_all, arith}
use Rattle.std.proofs.lemmas.Grind.{get_or_default_zero}
use Rattle.std.specs.List.{join_with_byte}
use Rattle.scene_json.proofs.CallerLemmas.{mapped-step}
use Rattle.workload.proofs.texts.push_numbers.Goals as goal

pub loop-i-preserved : goal.loop-i-preserved
loop-i-preserved c =
    let numbers = c.args.numbers.now in
    let i = c.loop-i.i in
    let inside : i < length numbers = omega arith in
    mapped-step decimal c.args.out.now.items numbers (get_or numbers i 0) i c.loop-i.out.items
    c.push_comma.new.out.items c.push_whole.new.out.items inside
    (sym (get_or_default_zero numbers i (get_or numbers i 0) inside)) c.loop-i.invariant c.in_ok-push_comma.ensures.ok
    c.in_ok-push_whole.ensures.ok

pub returns : goal.returns
returns c =
    c.loop-i.invariant
    ∙ ap (λ (xs : List ℕ). c.args.out.now.items ++ join_with_byte 44 (map decimal xs))
    (take_all c.loop-i.i c.args.numbers.now (omega arith))
