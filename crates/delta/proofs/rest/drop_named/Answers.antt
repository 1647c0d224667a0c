-- Without the member at the place only if it has the name.
use Rattle.std.proofs.Common.{◌++◌, take, sym, ap, ◌∙◌, take-append-drop}
use Rattle.delta.proofs.RestLaws.{without-named, without-other}
use Rattle.delta.proofs.rest.drop_named.Goals as goal

pub returns-then-is_named_at : goal.returns-then-is_named_at
returns-then-is_named_at c =
    let ms = c.args.members.now.items in
    c.remove.ensures.items
    ∙ ap (λ rest. take c.args.place ms ++ rest)
    (sym (without-named c.args.name.now ms c.args.place (sym c.is_named_at.ensures ∙ c.if-is_named_at.true)))

pub returns-else-is_named_at : goal.returns-else-is_named_at
returns-else-is_named_at c =
    let ms = c.args.members.now.items in
    sym (take-append-drop c.args.place ms)
    ∙ ap (λ rest. take c.args.place ms ++ rest)
    (sym (without-other c.args.name.now ms c.args.place (sym c.is_named_at.ensures ∙ c.if-is_named_at.false)))
