use Rattle.snapshot.proofs.TouchedLaws.{touched-id}
use Rattle.snapshot.proofs.touched.touch_id.Goals as goal

pub returns-clause-touched : goal.returns-clause-touched
returns-clause-touched c =
    rw (← c.in_ok-try_clone.ensures) (touched-id c.args.ids.now.keys c.in_ok-try_clone.field-0 c.insert.new.self.keys
    c.in_ok-insert.ensures.updates.0)

pub returns-clause-kept : goal.returns-clause-kept
returns-clause-kept c =
    (touched-id c.args.ids.now.keys c.in_ok-try_clone.field-0 c.insert.new.self.keys
    c.in_ok-insert.ensures.updates.0).still

pub returns-clause-only : goal.returns-clause-only
returns-clause-only c =
    rw (← c.in_ok-try_clone.ensures) (touched-id c.args.ids.now.keys c.in_ok-try_clone.field-0 c.insert.new.self.keys
    c.in_ok-insert.ensures.updates.0).only
