use Rattle.std.proofs.Common.{not, sym, ap, ◌==◌, length, ◌∙◌}
use Rattle.commands.proofs.Names.{name-tells}
use Rattle.commands.proofs.words.is_name.Goals as goal

pub returns-then-not-is_empty : goal.returns-then-not-is_empty
returns-then-not-is_empty c =
    let word = c.args.word.now in
    let some = ap not (ap (λ bytes. length bytes == 0) (sym c.as_slice.ensures)
    ∙ (sym c.is_empty.ensures ∙ c.if-not-is_empty.true)) in
    c.is_ok.ensures.value ∙ name-tells _ _ word _ c.from_utf8.result c.as_slice-then-not-is_empty.ensures some
    c.from_utf8.ensures.cases
