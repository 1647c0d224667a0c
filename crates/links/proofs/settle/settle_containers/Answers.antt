use Rattle.std.proofs.Common.{map, sym, ap, ◌∙◌}
use Rattle.std.specs.List.{zip}
use Rattle.links.specs.Tables.{with_container}
use Rattle.links.specs.Texts.{keeps_container}
use Rattle.links.proofs.Tabled.{zip-map}
use Rattle.links.proofs.Unlinked.{settled_texts-none}
use Rattle.links.proofs.settle.settle_containers.Goals as goal

pub returns : goal.returns
returns c =
    c.change_each.ensures with_container (λ e v new changed. changed)
    ∙ ap (λ kept. map (λ p. with_container p.0 p.1) (zip c.args.list.now.items kept)) c.in_ok-kept.ensures
    ∙ zip-map (keeps_container c.args.list.now.items) with_container c.args.list.now.items

pub returns-then-not-name_containers : goal.returns-then-not-name_containers
returns-then-not-name_containers c =
    let any = rw c.deref.ensures.value at c.name_containers.ensures in
    sym (settled_texts-none c.args.list.now.items (sym any ∙ c.if-not-name_containers.true))
