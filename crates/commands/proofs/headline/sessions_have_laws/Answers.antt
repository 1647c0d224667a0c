use Rattle.std.proofs.Common.{Contains, length, sym, subst}
use Rattle.elem_store.proofs.CallerLemmas.{AreBest-stored}
use Rattle.session.specs.Worlds.{World}
use Rattle.commands.proofs.headline.sessions_have_laws.Goals as goal

pub returns : goal.returns
returns c bytes session read =
    let kept = c.sessions_keep_limits.ensures bytes session read in
    let whole = sym (c.all_events_lead_to_the_last_world.ensures session) in
    record {
      last = c.all_events_lead_to_the_last_world.ensures session;
      replicas_store_the_best = λ count s among. AreBest-stored s.taken s.state.stored
          (c.replicas_store_what_they_took.ensures session count s among);
      replicas_converge =
          λ count s other among also same. c.replicas_converge.ensures.shown session count s other kept among also same;
      told_all_store_the_same = λ unheld all s other among also. (
        c.told_all_store_the_same.ensures.same session unheld all s other among also,
        c.replicas_converge.ensures.shown session (length session.events) s other kept
            (subst (λ (w : World). Contains w.seats s) whole among)
            (subst (λ (w : World). Contains w.seats other) whole also)
            (c.told_all_store_the_same.ensures.same session unheld all s other among also),
      );
      printed_scenes_agree = λ count s among. (
        c.replicas_converge.ensures.rise session count s kept among,
        c.replicas_converge.ensures.settled session count s kept among,
      );
      undo_brings_back =
          λ count at n changes undos rest. c.undo_brings_back.ensures.back session count at n changes undos rest kept;
      undo_is_found = λ count at n j changes undos rest. c.undo_brings_back.ensures.found session count at n j changes
          undos rest kept;
      nothing_is_pending = λ count at among soon. (
        c.nothing_is_pending.ensures.none session count at kept among soon,
        c.nothing_is_pending.ensures.captured session count at kept among soon,
      );
      changes_are_captured = λ count at n changes rest here among are some. (
        c.undo_brings_back.ensures.none session count at n changes rest kept here among are some,
        c.undo_brings_back.ensures.captured session count at n changes rest kept here among are some,
      );
      redo_repeats = λ count at r l again others undos redos rest. c.redo_repeats.ensures.again session count at r l
          again others undos redos rest kept;
      redo_is_found = λ count at n j k changes undos redos rest. c.redo_repeats.ensures.found session count at n j k
          changes undos redos rest kept;
      others_changes_stay = λ count at time nonce turn among. (
        c.others_changes_stay.ensures.undo session count at time nonce turn kept among,
        c.others_changes_stay.ensures.redo session count at time nonce turn kept among,
      );
    }
