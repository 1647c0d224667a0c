-- All names of both elements are told of.
use Rattle.std.proofs.Common.{◌++◌, ap, subst}
use Rattle.elem.specs.Facts.{names}
use Rattle.delta.specs.inner.Told.{AreChangesOf}
use Rattle.delta.proofs.ToldLaws.{AreChangesOf-none, AreAllChanges-from, first_names, rest-free}
use Rattle.delta.proofs.differing.changes_between.Goals as goal

pub note_groups-requires : goal.note_groups-requires
note_groups-requires c = rw c.new-changes.ensures.items (AreChangesOf-none c.args.old.now c.args.new.now)

pub note_rest-requires-clause-free : goal.note_rest-requires-clause-free
note_rest-requires-clause-free c = rest-free c.old.inside.kind c.old.inside.rest c.old.invariant.free

pub note_rest-requires-2-clause-free : goal.note_rest-requires-2-clause-free
note_rest-requires-2-clause-free c = rest-free c.new.inside.kind c.new.inside.rest c.new.invariant.free

pub returns : goal.returns
returns c =
    let old = c.args.old.now in
    let new = c.args.new.now in
    let first = c.in_ok-note_rest.ensures first_names c.in_ok-note_headers.ensures in
    let both = c.in_ok-note_rest-2.ensures (first_names ++ names c.old.inside.rest) first in
    AreAllChanges-from old new c.note_rest-2.new.changes.items c.requires
    (subst (λ ns. AreChangesOf old new ((first_names ++ ns) ++ names new.rest) c.note_rest-2.new.changes.items)
    (ap (λ e. names e.rest) c.old.view_is)
    (subst (λ ns. AreChangesOf old new ((first_names ++ names c.old.inside.rest) ++ ns) c.note_rest-2.new.changes.items)
    (ap (λ e. names e.rest) c.new.view_is) both))
