use Rattle.std.proofs.Common.{nat_cmp, sym, ap, ◌∙◌}
use Rattle.std.specs.BTreeSet.{contains}
use Rattle.std.specs.Cmp.Lexicographic.{slice_cmp}
use Rattle.elem.specs.ElementValue.{ElementValue}
use Rattle.effects.proofs.DeletingLaws.{deleted_from-none}
use Rattle.effects.proofs.deleting.deleted_from.Goals as goal

pub returns : goal.returns
returns c =
    deleted_from-none (contains (slice_cmp nat_cmp) c.args.ids.now) c.args.e.now
    (sym (ap (λ (d : ElementValue). contains (slice_cmp nat_cmp) c.args.ids.now d.id) c.e.view_is)
    ∙ sym c.is_among.ensures ∙ c.if-is_among.false)
    (sym c.has_gone_names.ensures ∙ c.if-has_gone_names.false)
