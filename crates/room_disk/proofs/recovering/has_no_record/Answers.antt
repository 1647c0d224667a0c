use Rattle.std.proofs.Common.{◌≡◌, [], arith}
use Rattle.std.proofs.lemmas.Grind.{common_steps}
use Rattle.input_texts.specs.Lines.{lines_of}
use Rattle.room_disk.proofs.Stretches.{begun-alone, none-begun}
use Rattle.room_disk.proofs.recovering.has_no_record.Goals as goal

pub returns-then-is_empty-clause-some : goal.returns-then-is_empty-clause-some
returns-then-is_empty-clause-some c = λ never bytes stands.
    let none : c.args.begun.now.items ≡ [] = grind (arith, common_steps, c.is_empty.ensures, c.if-is_empty.true) in
    none-begun bytes c.args.begun.now.items (c.bytes_are_lines.ensures bytes) stands.begun_is none

pub returns-clause-none : goal.returns-clause-none
returns-clause-none c = λ new bytes stands.
    begun-alone bytes c.args.begun.now.items stands.begun_is
    (λ (none : c.args.begun.now.items ≡ []).
    grind (arith, common_steps, none, c.is_empty.ensures, c.if-is_empty.false))
    (c.is_new.ensures.new new (lines_of bytes) stands.read)

pub returns-clause-some : goal.returns-clause-some
returns-clause-some c = λ old bytes stands has.
    c.is_new.ensures.old old (lines_of bytes) stands.read has.unended
