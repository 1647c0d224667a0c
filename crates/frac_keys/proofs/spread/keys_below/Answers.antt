use Rattle.std.proofs.Common.{◌∙◌, sym, option_copied, reverse}
use Rattle.frac_keys.specs.Rising.{last_or}
use Rattle.frac_keys.proofs.KeysLemmas.{keys_below-more, keys_below-done}
use Rattle.frac_keys.proofs.spread.keys_below.Goals as goal

pub loop-preserved : goal.loop-preserved
loop-preserved c =
    let key = rw (c.last_or.ensures.value, c.deref.ensures.value) at c.in_ok-key.ensures.exact in
    rw c.in_ok-push.ensures.items (sym (keys_below-more (option_copied c.args.b) c.loop.keys.items c.in_ok-key.key
    c.loop.counter c.args.n c.loop-test.true key) ∙ c.loop.invariant)

pub returns : goal.returns
returns c =
    c.reverse.ensures.items
    ∙ (sym (keys_below-done (last_or (option_copied c.args.b) c.loop.keys.items) (reverse c.loop.keys.items)
    c.loop.counter c.args.n c.loop-test.false) ∙ c.loop.invariant)
