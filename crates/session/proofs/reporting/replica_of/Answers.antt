use Rattle.std.proofs.Common.{◌≡◌, length, ap, ◌∙◌, subst}
use Rattle.view.specs.Settled.{AreSettled}
use Rattle.index_repair.specs.Keyed.{HaveRisingKeys}
use Rattle.view.specs.Shown.{live_elements, shown}
use Rattle.scene_file.specs.Scenes.{scene_text}
use Rattle.session.proofs.ReportLaws.{live-long, stack-long}
use Rattle.session.proofs.reporting.replica_of.Goals as goal

pub returns : goal.returns
returns c = λ s stands.
    let live : c.in_ok-view.view ≡ live_elements s.state.stored =
    c.in_ok-view.ensures ∙ ap live_elements (c.store-store.ensures ∙ stands.replica.stored) in
    record {
      replica = stands.replica;
      scene = c.in_ok-scene.ensures.text ∙ ap (λ elements. scene_text c.args.head.now (shown elements)) live;
      rise = subst (λ elements. HaveRisingKeys (shown elements)) live c.in_ok-scene.ensures.rise;
      settled = subst AreSettled (c.elements.ensures.exact ∙ ap shown live) c.elements.ensures.settled;
      taken = stands.taken;
      stored = c.len-stored.ensures.exact ∙ ap length (c.store-store.ensures ∙ stands.replica.stored);
      live = live-long c.in_ok-view.view c.elements.result.now c.elements.ensures.ids ∙ ap length live;
      undo = c.undo_len-undo.ensures ∙ stack-long c.args.seat.replica.stacks.undo s.state.undo stands.replica.undo;
      redo = c.redo_len-redo.ensures ∙ stack-long c.args.seat.replica.stacks.redo s.state.redo stands.replica.redo;
    }
