use Rattle.std.proofs.Common.{List, [], ℕ, ◌++◌, drop, drop-cons, append-nil, arith, sym, ◌∙◌}
use Rattle.json_reader.specs.inner.Writing.{Ends}
use Rattle.json_reader.proofs.Written.{has-ended}
use Rattle.json_reader.proofs.Outcomes.{over_ends}
use Rattle.json_reader.proofs.reader.ValueReader.read.Goals as goal
use Rattle.json_reader.proofs.reader.ValueReader.read.Goals.{In-Ended}

pub loop-next-preserved : goal.loop-next-preserved
loop-next-preserved c =
    let l = c.loop-next in
    let put = c.in_ok-after-in-On.ensures in
    let end = c.in_ok-next-in-On.ensures in (
      omega (arith, l.invariant.0, put.end, end.0),
      end.1,
      λ at read. end.2 at ((put.read l.reading.machine c.in-On.ensures).2 at (l.invariant.2 at read)),
    )

-- the value ends before a byte
before : (c : In-Ended) (more : List ℕ) → Ends c.loop-next.reading.machine.mode c.loop-next.reading.machine.brackets
    (drop c.loop-next.next c.args.bytes.now ++ more)
before c more = rw (drop-cons c.args.bytes.now c.loop-next.next 0 c.loop-next-test.true) c.in-Ended.ensures.0

pub into_value-requires : goal.into_value-requires
into_value-requires c = rw c.in-Ended.ensures.1 (
  c.requires.0,
  c.loop-next.invariant.2 c.requires.0 c.requires.1,
  rw append-nil at (before (goal.at.into_value-requires c).In-Ended []),
)

pub returns-in-Ended : goal.returns-in-Ended
returns-in-Ended c at read =
    let l = c.loop-next in
    let there = l.invariant.2 at read in
    let left = c.in-Ended.ensures.1 in
    let ends = before (goal.at.returns-in-Ended c).In-Ended in
    has-ended c.args.bytes.now at l.next l.reading.machine l.reading.writer there ends
    c.in_ok-into_value-in-Ended.field-0
    (c.in_ok-into_value-in-Ended.ensures at (rw left there) (rw left (rw append-nil at (ends []))))

pub returns-then-is_over : goal.returns-then-is_over
returns-then-is_over c at read =
    let l = c.loop-next in
    let machine = l.reading.machine in
    let there = l.invariant.2 at read in
    let ends = λ (more : List ℕ). over_ends machine.mode machine.brackets (sym c.is_over.ensures
    ∙ c.if-is_over.true) (drop l.next c.args.bytes.now ++ more) in
    has-ended c.args.bytes.now at l.next machine l.reading.writer there ends c.in_ok-into_value.field-0
    (c.in_ok-into_value.ensures at there (rw append-nil at (ends [])))
