use Rattle.std.proofs.Common.{◌∙◌, arith, get_or-drop, add-zero, length-drop}
use Rattle.std.proofs.lemmas.Bool.Decides.{nat_tests}
use Rattle.std.proofs.lemmas.List.{take_rest}
use Rattle.json_text.proofs.Contents.{Ran, reading-starts, reading-runs, reading-closes, reading-takes, quoted-utf8}
use Rattle.json_text.proofs.content.content_of.Goals as goal
use Rattle.json_text.proofs.content.content_of.Goals.{In_ok-extend_from_slice}

pub loop-text-init : goal.loop-text-init
loop-text-init c = rw c.new-text.ensures.items (reading-starts c.args.bytes.now c.args.at c.requires.2)

ran : (c : In_ok-extend_from_slice) → Ran c.args.bytes.now c.args.at c.run_end-end.result
    c.extend_from_slice.new.self.items
ran c = reading-runs _ _ c.requires.2 c.loop-text.invariant c.run_end-end.ensures.value
    c.in_ok-extend_from_slice.ensures.items

pub bounds-bytes-end : goal.bounds-bytes-end
bounds-bytes-end c = (ran (goal.at.bounds-bytes-end c).In_ok-extend_from_slice).within

pub from_utf8-requires : goal.from_utf8-requires
from_utf8-requires c =
    let both = reading-closes (ran (goal.at.from_utf8-requires c).In_ok-extend_from_slice).reading
    c.if-bytes-end-eq34.true _ _ c.requires.2 in
    rw both.0 (quoted-utf8 c.requires.2)

pub returns-then-bytes-end-eq34-clause-found : goal.returns-then-bytes-end-eq34-clause-found
returns-then-bytes-end-eq34-clause-found c text rest quoted =
    let both = reading-closes (ran (goal.at.returns-then-bytes-end-eq34-clause-found c).In_ok-extend_from_slice).reading
    c.if-bytes-end-eq34.true text rest quoted in
    (c.in_ok-from_utf8.ensures ∙ both.0, both.1)

pub push_escape-requires : goal.push_escape-requires
push_escape-requires c =
    let here = ran (goal.at.push_escape-requires c).In_ok-extend_from_slice in
    let stop = here.stops in
    record {
      unread = rw take_rest (_, _, (here.reading.split _ _ c.requires.2).1);
      escape = rw (take_rest c.args.bytes.now c.run_end-end.result, get_or-drop, add-zero) (grind (arith, nat_tests));
    }

pub loop-text-preserved : goal.loop-text-preserved
loop-text-preserved c =
    let fits = rw (take_rest, length-drop) at c.in_ok-next.ensures.within.1 in
    reading-takes c.in_ok-next.field-0 _ (ran (goal.at.loop-text-preserved c).In_ok-extend_from_slice).reading
    (rw take_rest at c.in_ok-next.ensures.ok) (omega arith)
