use Rattle.std.proofs.Common.{◌≡◌, [], Err, ap, arith}
use Rattle.std.proofs.lemmas.Grind.{common_steps}
use Rattle.json_reader.proofs.Feeds.{blank_there, some_there, number_there, cut_off_there}
use Rattle.json_reader.proofs.feed.Feed.end.Goals as goal

pub returns-then-is_empty-clause-blank : goal.returns-then-is_empty-clause-blank
returns-then-is_empty-clause-blank c none stream begin at =
    let nothing : c.self.inside.rest.items ≡ [] = grind (arith, common_steps, c.is_empty.ensures, c.if-is_empty.true) in
    rw (← c.self.view_is) (blank_there stream begin _ (rw (← c.self.view_is) at at) nothing)

pub returns-in-Ok-clause-value : goal.returns-in-Ok-clause-value
returns-in-Ok-clause-value c text is stream begin at =
    let same : c.in-Ok.value ≡ text = cc in
    number_there stream begin _ (rw (← c.self.view_is) at at) text
    (rw (c.deref.ensures.value, same) at c.in-Ok.ensures.value)

pub returns-in-Err-Fault-clause-first : goal.returns-in-Err-Fault-clause-first
returns-in-Err-Fault-clause-first c fault is stream begin at =
    let here = rw (← c.self.view_is) at at in
    let same : c.in-Err-Fault.cut_off ≡ fault = cc in (
      some_there stream begin _ here (λ (none : c.self.inside.rest.items ≡ []). grind (
        arith,
        common_steps,
        none,
        c.is_empty.ensures,
        c.if-is_empty.false,
      )),
      cut_off_there stream begin _ here fault
          (rw (c.deref.ensures.value, same) at (c.in-Err-Fault.ensures.fault c.in-Err-Fault.cut_off
          (ap Err c.in-Err-Fault.field-0-is))),
    )
