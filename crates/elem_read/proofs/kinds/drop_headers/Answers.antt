use Rattle.std.proofs.Common.{◌+◌, ◌<◌, length, take, drop, sym, ap, ◌∙◌, arith, length-append, length-take, length-drop}
use Rattle.elem.specs.Facts.{is_header}
use Rattle.elem_read.proofs.Others.{passed, passed-all, passed-kept, passed-removed}
use Rattle.elem_read.proofs.kinds.drop_headers.Goals as goal

pub loop-at-preserved-then-is_header : goal.loop-at-preserved-then-is_header
loop-at-preserved-then-is_header c =
    let inside : c.loop-at.at < length c.loop-at.members = omega (arith, c.loop-at-test.true, c.len.ensures) in
    let has = rw c.name.ensures.value at (sym c.is_header.ensures ∙ c.if-is_header.true) in
    ap (passed (is_header c.args.kind.now) c.loop-at.at) c.remove.ensures
    ∙ passed-removed (is_header c.args.kind.now) c.loop-at.at (c.loop-at.at + 1) c.loop-at.members (omega arith) inside has
    ∙ c.loop-at.invariant

pub loop-at-smaller-then-is_header : goal.loop-at-smaller-then-is_header
loop-at-smaller-then-is_header c =
    omega (
      arith,
      c.loop-at-test.true,
      c.len.ensures,
      ap length c.remove.ensures,
      length-append (take c.loop-at.at c.loop-at.members) (drop (c.loop-at.at + 1) c.loop-at.members),
      length-take c.loop-at.at c.loop-at.members,
      length-drop (c.loop-at.at + 1) c.loop-at.members,
    )

pub loop-at-preserved : goal.loop-at-preserved
loop-at-preserved c =
    let inside : c.loop-at.at < length c.loop-at.members = omega (arith, c.loop-at-test.true, c.len.ensures) in
    let lacks = rw c.name.ensures.value at (sym c.is_header.ensures ∙ c.if-is_header.false) in
    passed-kept (is_header c.args.kind.now) c.loop-at.at (c.loop-at.at + 1) c.loop-at.members (omega arith) inside lacks
    ∙ c.loop-at.invariant

pub returns : goal.returns
returns c =
    sym (passed-all (is_header c.args.kind.now) c.loop-at.at c.loop-at.members
    (omega (arith, c.loop-at-test.false, c.len.ensures)))
    ∙ c.loop-at.invariant
