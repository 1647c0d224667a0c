use Rattle.std.proofs.Common.{◌≤◌, arith, get_or, length, ap, subst, ◌∙◌, take_all}
use Rattle.kept_view.specs.inner.Reached.{HaveFrames}
use Rattle.kept_view.proofs.Stepping.{frames-more}
use Rattle.kept_view.proofs.reach.add_frames_at.Goals as goal

pub loop-id-preserved : goal.loop-id-preserved
loop-id-preserved c = record {
  kept = λ x h. c.in_ok-add_frame_at.ensures.kept x (c.loop-id.invariant.kept x h);
  frames = frames-more c.args.board.live.now.items c.args.at.now.list.items c.loop-id.id-index c.id-item.result
      c.loop-id.ids.list.items c.add_frame_at.new.ids.list.items
      c.args.board.ordered (omega arith) (c.id-item.is
      ∙ ap (λ ids. get_or ids c.loop-id.id-index c.id-item.result) c.deref-id-items.ensures.value)
      c.loop-id.invariant.frames c.in_ok-add_frame_at.ensures.kept c.in_ok-add_frame_at.ensures.frame;
}

pub returns-clause-frames : goal.returns-clause-frames
returns-clause-frames c =
    let all : length c.args.at.now.list.items ≤ c.loop-id.id-index = omega arith in
    subst (λ ids. HaveFrames c.args.board.live.now.items ids c.loop-id.ids.list.items)
    (take_all c.loop-id.id-index c.args.at.now.list.items all) c.loop-id.invariant.frames
