use Rattle.commands.proofs.headline.replicas_hold.Goals as goal

pub returns-clause-replicas_store_the_best : goal.returns-clause-replicas_store_the_best
returns-clause-replicas_store_the_best c bytes session read =
    (c.sessions_have_laws.ensures bytes session read).replicas_store_the_best

pub returns-clause-replicas_converge : goal.returns-clause-replicas_converge
returns-clause-replicas_converge c bytes session read =
    (c.sessions_have_laws.ensures bytes session read).replicas_converge

pub returns-clause-told_all_store_the_same : goal.returns-clause-told_all_store_the_same
returns-clause-told_all_store_the_same c bytes session read =
    (c.sessions_have_laws.ensures bytes session read).told_all_store_the_same

pub returns-clause-printed_scenes_agree : goal.returns-clause-printed_scenes_agree
returns-clause-printed_scenes_agree c bytes session read =
    (c.sessions_have_laws.ensures bytes session read).printed_scenes_agree

pub returns-clause-undo_brings_back : goal.returns-clause-undo_brings_back
returns-clause-undo_brings_back c bytes session read =
    (c.sessions_have_laws.ensures bytes session read).undo_brings_back

pub returns-clause-undo_is_found : goal.returns-clause-undo_is_found
returns-clause-undo_is_found c bytes session read = (c.sessions_have_laws.ensures bytes session read).undo_is_found

pub returns-clause-nothing_is_pending : goal.returns-clause-nothing_is_pending
returns-clause-nothing_is_pending c bytes session read =
    (c.sessions_have_laws.ensures bytes session read).nothing_is_pending

pub returns-clause-changes_are_captured : goal.returns-clause-changes_are_captured
returns-clause-changes_are_captured c bytes session read =
    (c.sessions_have_laws.ensures bytes session read).changes_are_captured

pub returns-clause-redo_repeats : goal.returns-clause-redo_repeats
returns-clause-redo_repeats c bytes session read = (c.sessions_have_laws.ensures bytes session read).redo_repeats

pub returns-clause-redo_is_found : goal.returns-clause-redo_is_found
returns-clause-redo_is_found c bytes session read = (c.sessions_have_laws.ensures bytes session read).redo_is_found

pub returns-clause-others_changes_stay : goal.returns-clause-others_changes_stay
returns-clause-others_changes_stay c bytes session read =
    (c.sessions_have_laws.ensures bytes session read).others_changes_stay

pub returns-clause-laws : goal.returns-clause-laws
returns-clause-laws c = c.sessions_have_laws.ensures
