use Rattle.std.proofs.Common.{◌∙◌, sym, option_copied}
use Rattle.frac_keys.specs.Rising.{last_or}
use Rattle.frac_keys.proofs.KeysLemmas.{keys_above-more, keys_above-done}
use Rattle.frac_keys.proofs.spread.keys_above.Goals as goal

pub loop-preserved : goal.loop-preserved
loop-preserved c =
    let key = rw (c.last_or.ensures.value, c.deref.ensures.value) at c.in_ok-key.ensures.exact in
    rw c.in_ok-push.ensures.items (sym (keys_above-more (option_copied c.args.a) c.loop.keys.items c.in_ok-key.key
    c.loop.counter c.args.n c.loop-test.true key) ∙ c.loop.invariant)

pub returns : goal.returns
returns c = sym (keys_above-done (last_or (option_copied c.args.a) c.loop.keys.items) c.loop.keys.items c.loop.counter
    c.args.n c.loop-test.false) ∙ c.loop.invariant
