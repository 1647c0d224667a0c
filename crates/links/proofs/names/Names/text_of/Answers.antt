use Rattle.std.proofs.Common.{sym, ap, ◌∙◌}
use Rattle.std.specs.Option.{option_copied}
use Rattle.links.proofs.Tabled.{not_held, text_of-listed, text_of-first}
use Rattle.links.proofs.names.Names.text_of.Goals as goal

pub returns-then-not-can_hold_text : goal.returns-then-not-can_hold_text
returns-then-not-can_hold_text c =
    sym (not_held c.args.self.now c.args.container.now (sym c.can_hold_text.ensures ∙ c.if-not-can_hold_text.true))

pub returns-in-Some : goal.returns-in-Some
returns-in-Some c =
    text_of-listed c.args.self.now c.args.container.now _ (sym c.can_hold_text.ensures ∙ c.if-not-can_hold_text.false)
    (sym c.listed_text.ensures ∙ ap option_copied c.in-Some.is)

pub returns-in-None : goal.returns-in-None
returns-in-None c =
    c.first_text.ensures
    ∙ text_of-first c.args.self.now c.args.container.now (sym c.can_hold_text.ensures ∙ c.if-not-can_hold_text.false)
    (sym c.listed_text.ensures ∙ ap option_copied c.in-None.is)
