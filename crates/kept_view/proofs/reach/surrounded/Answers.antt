use Rattle.kept_view.proofs.Stepping.{namers-kept}
use Rattle.kept_view.proofs.reach.surrounded.Goals as goal

pub returns : goal.returns
returns c =
    let live = c.args.board.live.now.items in
    let two = c.in_ok-two.two.list.items in
    record {
      one = c.in_ok-one.one.list.items;
      two = two;
      linked = c.in_ok-one.ensures;
      again = c.in_ok-two.ensures;
      namers = namers-kept _ live two two c.in_ok-wide.wide.list.items c.add_frames_of.new.ids.list.items
          (λ x h. c.in_ok-add_frames_of.ensures.kept x (c.in_ok-add_frames_at.ensures.kept x h))
          c.in_ok-wide.ensures;
      frames = λ e frame there own names. c.in_ok-add_frames_of.ensures.kept frame
          (c.in_ok-add_frames_at.ensures.frames e frame there own names);
      new_frames = λ e frame there own names. c.in_ok-add_frames_of.ensures.frames e frame there names;
      distinct = c.add_frames_of.new.ids.distinct;
    }
