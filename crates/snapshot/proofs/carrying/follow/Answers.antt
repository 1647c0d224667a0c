-- The captured element that takes the difference over is the undone one.
use Rattle.std.proofs.Common.{Some, option_copied, sym, ap, ◌∙◌}
use Rattle.std.specs.Option.{option_map}
use Rattle.undo_model.specs.Undoing.{undone}
use Rattle.undo_model.proofs.CallerLemmas.{follows-undone}
use Rattle.snapshot.proofs.carrying.follow.Goals as goal

pub returns-clause-to : goal.returns-clause-to
returns-clause-to c =
    ap Some (follows-undone c.args.old.now c.args.new.now c.in-Some.captured.now c.in_ok-made.made c.in_ok-part.part
    c.requires.elements.0 c.requires.elements.1 c.in_ok-made.ensures.given
    c.in_ok-made.ensures.element c.requires.kind c.in_ok-part.ensures c.in_ok-made.ensures.applied)
    ∙ sym (ap (λ o. option_map (undone (record { before = c.args.new.now; after = c.args.old.now })) (option_copied o))
    c.in-Some.is)
