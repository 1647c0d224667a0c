use Rattle.std.proofs.Common.{◌++◌, ap, ◌∙◌}
use Rattle.json_text.specs.Compact.{member_text}
use Rattle.json_text.specs.Members.{pair_of}
use Rattle.members.specs.Standing.{nth}
use Rattle.elem.proofs.Merging.{opened-step}
use Rattle.elem.proofs.object.push_kept.Goals as goal

pub returns-clause-begun : goal.returns-clause-begun
returns-clause-begun c = λ before first at is.
    let m = pair_of (nth c.args.members.now c.args.at) in
    opened-step before first m c.args.start c.args.out.now.items c.push.new.out.items at is
    (c.in_ok-push.ensures.ok ∙ ap (λ o. o ++ member_text m) c.in_ok-push_mark.ensures.ok)
