-- A change has a part, and what hasn't changed has none.
use Rattle.std.proofs.Common.{◌++◌, [], ◌∷◌, option_copied, subst, sym}
use Rattle.delta.specs.Pairs.{EntryStandsFor, pair_with}
use Rattle.delta.proofs.CallerLemmas.{entry-more, entry-same}
use Rattle.snapshot.proofs.pending.note.Goals as goal

pub returns-in_ok-push : goal.returns-in_ok-push
returns-in_ok-push c pairs stands less =
    let pair = pair_with (option_copied c.args.old) c.args.new.now in
    subst (λ parts. EntryStandsFor parts (pairs ++ pair ∷ [])) (sym c.in_ok-push.ensures.items)
    (entry-more c.args.parts.now.items pairs pair stands c.in_ok-difference.field-0 less
    (c.has_changed.ensures.changed.0 c.if-has_changed.true) c.in_ok-difference.ensures)

pub returns-else-has_changed : goal.returns-else-has_changed
returns-else-has_changed c pairs stands less =
    entry-same c.args.parts.now.items pairs (pair_with (option_copied c.args.old) c.args.new.now) stands
    (c.has_changed.ensures.unchanged c.if-has_changed.false)
