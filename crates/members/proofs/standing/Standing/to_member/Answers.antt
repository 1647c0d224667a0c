use Rattle.std.proofs.Common.{◌≡◌, ◌<◌, length, ap, sym, subst, ◌∙◌, refl}
use Rattle.std.proofs.lemmas.List.{length-map, get_or-map}
use Rattle.std.proofs.lemmas.List.Elements.{All-get_or}
use Rattle.members.specs.Standing.{member_at, nth, Stands}
use Rattle.members.proofs.Places.{named}
use Rattle.members.proofs.standing.Standing.to_member.Goals as goal

stands : (c : goal.After-row_known-1) → Stands c.self.inside.text c.index.result.now
stands c =
    let ps = c.self.inside.places.items in
    let lt : c.args.at < length ps = rw (← c.self.view_is, length-map) at c.requires in
    subst (Stands c.self.inside.text) (sym c.index.ensures)
    (All-get_or (Stands c.self.inside.text) ps c.args.at c.index.result.now lt c.self.invariant)

pub text_at-requires : goal.text_at-requires
text_at-requires c = (_, _, named c.self.inside.text c.index.result.now (stands c))

pub returns : goal.returns
returns c =
    let text = c.self.inside.text in
    let ps = c.self.inside.places.items in
    let lt : c.args.at < length ps = rw (← c.self.view_is, length-map) at c.requires in
    let same : nth c.args.self.now c.args.at ≡ member_at text c.index.result.now =
    rw (← c.self.view_is) (get_or-map (member_at text) ps c.args.at c.index.result.now _ lt ∙ ap (member_at text) (sym c.index.ensures)) in
    let stands : Stands text c.index.result.now =
    subst (Stands text) (sym c.index.ensures)
    (All-get_or (Stands text) ps c.args.at c.index.result.now lt c.self.invariant) in
    let name = (c.in_ok-name.ensures.found _ _ (named text c.index.result.now stands)).0 in
    rw (name, c.in_ok-value.ensures, same) refl
