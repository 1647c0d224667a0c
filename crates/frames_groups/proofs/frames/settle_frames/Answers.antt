use Rattle.std.proofs.Common.{map, ap, sym, ◌∙◌, subst}
use Rattle.frames_groups.specs.Frames.{framed, without_frame, frames_settled, NameFrames}
use Rattle.frames_groups.proofs.FrameLaws.{NameFrames-settled, frames_settled-settled, frames_settled-others}
use Rattle.frames_groups.proofs.frames.settle_frames.Goals as goal

pub returns-clause-exact : goal.returns-clause-exact
returns-clause-exact c =
    c.from_vec.ensures ∙ c.settle_each.ensures
    ∙ ap (λ h. map (framed h) c.into_vec-elements.result.items) (λ i id. c.in_ok-frames.ensures id i)
    ∙ ap frames_settled c.into_vec-elements.ensures

pub returns-clause-named : goal.returns-clause-named
returns-clause-named c = subst NameFrames (sym (returns-clause-exact c)) (NameFrames-settled c.args.list)

pub returns-clause-others : goal.returns-clause-others
returns-clause-others c = ap (map without_frame) (returns-clause-exact c) ∙ frames_settled-others c.args.list

pub returns-clause-again : goal.returns-clause-again
returns-clause-again c =
    ap frames_settled (returns-clause-exact c) ∙ frames_settled-settled c.args.list ∙ sym (returns-clause-exact c)
