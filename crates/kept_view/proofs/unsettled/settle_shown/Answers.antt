use Rattle.std.proofs.Common.{Some, refl, sym, ap, ◌∙◌}
use Rattle.elem.specs.ElementValue.{ElementValue}
use Rattle.kept_view.specs.declared.unsettled.Unsettled.{Unsettled}
use Rattle.kept_view.proofs.UnsettledLaws.{ids-less, less-of, rekeyed-less}
use Rattle.kept_view.proofs.unsettled.settle_shown.Goals as goal

pub returns-then-same : goal.returns-then-same
returns-then-same c = λ live drawn stored seen noted.
    let old = c.args.unsettled.now in
    let e = c.args.e.now in
    let own = ap (λ (d : ElementValue). d.id) c.e.view_is in
    let mid : Unsettled = record { ids = old.ids; rekeyed = c.remove.new.self } in
    ids-less mid _ e.id live drawn refl
    (less-of old.ids c.remove-then-same.new.self _ e.id own c.remove-then-same.ensures.updates.0)
    (seen ∙ (ap Some (c.same.ensures.0 c.if-same.true) ∙ sym stored))
    (rekeyed-less old mid e c.args.s.now live drawn refl
    (less-of old.rekeyed c.remove.new.self _ e.id own c.remove.ensures.updates.0) stored seen
    (c.have_one_index.ensures c.if-not-have_one_index.false) noted)

pub returns-else-same : goal.returns-else-same
returns-else-same c = λ live drawn stored seen noted.
    let old = c.args.unsettled.now in
    let e = c.args.e.now in
    let own = ap (λ (d : ElementValue). d.id) c.e.view_is in
    rekeyed-less old _ e c.args.s.now live drawn refl
    (less-of old.rekeyed c.remove.new.self _ e.id own c.remove.ensures.updates.0) stored seen
    (c.have_one_index.ensures c.if-not-have_one_index.false) noted
