use Rattle.std.proofs.Common.{drop, sym, subst, ◌∙◌}
use Rattle.json_text.specs.Value.{IsCompact, Stands}
use Rattle.json_text.proofs.CallerLemmas.{Value-compact}
use Rattle.json_reader.proofs.Written.{value-written}
use Rattle.json_reader.proofs.reader.Reading.into_value.Goals as goal

pub into_text-requires-clause-whole : goal.into_text-requires-clause-whole
into_text-requires-clause-whole c =
    let r = c.args.self in
    let v =
    value-written c.args.bytes.now c.requires.0 c.args.end r.machine r.writer c.requires.1 c.requires.2 in
    (v.0, v.2)

pub from_compact-requires : goal.from_compact-requires
from_compact-requires c =
    let r = c.args.self in
    let v =
    value-written c.args.bytes.now c.requires.0 c.args.end r.machine r.writer c.requires.1 c.requires.2 in
    subst (IsCompact 128) (sym (c.in_ok-into_text.ensures v.0 v.2)) (Value-compact v.1.reads)

pub returns : goal.returns
returns c at read ends =
    let v = value-written c.args.bytes.now at c.args.end c.args.self.machine c.args.self.writer read ends in
    subst (λ text. Stands (drop at c.args.bytes.now) text (drop c.args.end c.args.bytes.now))
    (sym (c.in_ok-into_text.ensures v.0 v.2) ∙ sym c.in_ok-from_compact.ensures) v.1
