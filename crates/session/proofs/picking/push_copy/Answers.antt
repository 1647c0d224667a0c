use Rattle.std.proofs.Common.{◌≤◌, ◌++◌, length, option_to_list, sym, ap, ◌∙◌, append-nil}
use Rattle.std.proofs.lemmas.Bool.{ltb-false}
use Rattle.std.proofs.lemmas.Option.{slice_get_past}
use Rattle.session.proofs.picking.push_copy.Goals as goal

pub returns-in-None : goal.returns-in-None
returns-in-None c =
    let past : length c.args.elements.now ≤ c.args.place =
    ltb-false c.args.place (length c.args.elements.now) (sym c.in-None.ensures.lookup.0) in
    sym (ap (λ o. c.args.copies.now.items ++ option_to_list o) (slice_get_past c.args.elements.now c.args.place past)
    ∙ append-nil c.args.copies.now.items)
