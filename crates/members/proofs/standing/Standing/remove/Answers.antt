use Rattle.std.proofs.Common.{◌+◌, take, drop, map, ap, ◌∙◌, refl}
use Rattle.std.proofs.lemmas.List.{map-append, take-map, drop-map}
use Rattle.std.proofs.lemmas.List.Elements.{All-append, All-take, All-drop, All-same}
use Rattle.members.specs.Standing.{member_at, Stands}
use Rattle.members.proofs.standing.Standing.remove.Goals as goal

pub invariant_of-self : goal.invariant_of-self
invariant_of-self c =
    let P = Stands c.self.inside.text in
    let ps = c.self.inside.places.items in
    All-same P _ _ c.remove.ensures.by_index.2
    (All-append P (take c.args.at ps) (drop (c.args.at + 1) ps) (All-take P c.args.at ps c.self.invariant)
    (All-drop P (c.args.at + 1) ps c.self.invariant))

pub returns : goal.returns
returns c =
    let f = member_at c.self.inside.text in
    let ps = c.self.inside.places.items in
    ap (map f) c.remove.ensures.by_index.2
    ∙ (map-append f (take c.args.at ps) (drop (c.args.at + 1) ps)
    ∙ rw (← c.self.view_is, take-map, drop-map) refl)
