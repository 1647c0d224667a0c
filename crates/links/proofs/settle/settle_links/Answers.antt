use Rattle.std.proofs.Common.{map, sym, ap, ◌∙◌}
use Rattle.std.specs.List.{zip}
use Rattle.links.specs.Tables.{links_of, with_links}
use Rattle.links.proofs.Tabled.{zip-map}
use Rattle.links.proofs.Unlinked.{settled_arrows-none}
use Rattle.links.proofs.settle.settle_links.Goals as goal

pub returns : goal.returns
returns c =
    c.change_each.ensures with_links (λ e v new changed. changed)
    ∙ ap (λ links. map (λ p. with_links p.0 p.1) (zip c.args.list.now.items links)) c.in_ok-links.ensures
    ∙ zip-map (links_of c.args.list.now.items) with_links c.args.list.now.items

pub returns-then-not-have_links : goal.returns-then-not-have_links
returns-then-not-have_links c =
    let any = rw c.deref.ensures.value at c.have_links.ensures in
    sym (settled_arrows-none c.args.list.now.items (sym any ∙ c.if-not-have_links.true))
