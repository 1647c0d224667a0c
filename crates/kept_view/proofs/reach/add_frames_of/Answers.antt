use Rattle.std.proofs.Common.{◌≤◌, All, arith, get_or, length, ap, subst, ◌∙◌, take_all}
use Rattle.std.proofs.lemmas.Bool.{or_right}
use Rattle.std.proofs.lemmas.List.Elements.{All-contains}
use Rattle.links.specs.Names.{is_id}
use Rattle.elem_store.specs.Updates.{is_among}
use Rattle.kept_view.proofs.Stepping.{HasFrame, frames_of-more}
use Rattle.kept_view.proofs.reach.add_frames_of.Goals as goal

pub loop-e-preserved : goal.loop-e-preserved
loop-e-preserved c =
    let frame = c.e-item.result.frame in
    let added = rw c.get.ensures at c.in_ok-add_frame.ensures in
    record {
      kept =
          λ x h. added x ∙ or_right (is_id x frame) (is_among c.loop-e.ids.list.items x) (c.loop-e.invariant.kept x h);
      frames = frames_of-more c.args.elements.now.items c.loop-e.e-index c.e-item.result c.loop-e.ids.list.items
          c.add_frame.new.ids.list.items
          (omega arith) (c.e-item.is ∙ ap (λ es. get_or es c.loop-e.e-index c.e-item.result)
          c.deref-e-items.ensures.value) c.loop-e.invariant.frames added;
    }

pub returns-clause-frames : goal.returns-clause-frames
returns-clause-frames c e frame there =
    let all : length c.args.elements.now.items ≤ c.loop-e.e-index = omega arith in
    All-contains (HasFrame c.loop-e.ids.list.items) c.args.elements.now.items e
    (subst (All (HasFrame c.loop-e.ids.list.items)) (take_all c.loop-e.e-index c.args.elements.now.items all)
    c.loop-e.invariant.frames) there frame
