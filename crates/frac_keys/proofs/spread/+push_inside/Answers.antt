use Rattle.std.proofs.Common.{◌<◌, Some, append-nil, option_copied, refl, arith}
use Rattle.std.proofs.lemmas.Bool.{and_parts}
use Rattle.std.proofs.lemmas.Result.{IfOk-equal}
use Rattle.frac_keys.specs.Rising.{ends_rise, last_or}
use Rattle.frac_keys.proofs.KeysLemmas.{none_inside, last_or-push, keys_inside-joined}
use Rattle.frac_keys.proofs.spread.+push_inside.Goals as goal

pub returns-then-n-eq0 : goal.returns-then-n-eq0
returns-then-n-eq0 t c = rw (c.if-n-eq0.true, none_inside, append-nil) refl

pub push_inside-requires-2 : goal.push_inside-requires-2
push_inside-requires-2 t c =
    let inside = rw c.last_or.ensures.value at c.in_ok-key.ensures.inside in (
      omega arith,
      (
        c.requires.a,
        (
          c.requires.b,
          rw (c.in_ok-push.ensures.items, last_or-push)
              (and_parts _ (ends_rise (Some c.in_ok-key.key) (option_copied c.args.b)) inside).1,
        ),
      ),
    )

pub returns : goal.returns
returns t c =
    let some : 0 < c.args.n = omega arith in
    let key = rw (c.last_or.ensures.value, c.deref.ensures.value) at c.in_ok-key.ensures.exact in
    let joined = keys_inside-joined c.args.keys.now.items (last_or (option_copied c.args.a) c.args.keys.now.items)
    (option_copied c.args.b) c.in_ok-key.key c.args.n some key in
    IfOk-equal c.push_inside-2.result _ _ _ c.push_inside-2.ensures
    (rw (c.in_ok-push.ensures.items, last_or-push, c.in_ok-push_inside.ensures, c.as_bytes.ensures.value) joined)
