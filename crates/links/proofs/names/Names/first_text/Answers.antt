use Rattle.std.proofs.Common.{sym, ap, ◌∙◌, Some}
use Rattle.std.specs.Option.{option_copied}
use Rattle.links.proofs.Tabled.{first_text-None, first_text-Some}
use Rattle.links.proofs.names.Names.first_text.Goals as goal

pub returns-in_err-first : goal.returns-in_err-first
returns-in_err-first c =
    ap option_copied c.from_residual.ensures
    ∙ sym (first_text-None c.args.self.now c.args.container.now c.id_of.result.now c.in_container.result.now
    c.first.result c.id_of.ensures c.in_container.ensures c.first.ensures.value c.in_err-first.was)

pub returns : goal.returns
returns c =
    ap Some c.id_of-2.ensures
    ∙ sym (first_text-Some c.args.self.now c.args.container.now c.id_of.result.now c.in_container.result.now
    c.first.result _ c.id_of.ensures c.in_container.ensures c.first.ensures.value c.in_ok-first.was)
