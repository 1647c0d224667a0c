use Rattle.std.proofs.Common.{◌++◌, ap, ◌∙◌}
use Rattle.json_text.specs.Members.{pairs}
use Rattle.scene_json.proofs.MembersLeft.{all-ended}
use Rattle.scene_json.proofs.parts.members_from.Goals as goal

pub returns-clause-found : goal.returns-clause-found
returns-clause-found c =
    λ all rest s.
    let f = c.in_ok-end.ensures.found all rest s in
    let ended = all-ended f.2 in (
      ap pairs (c.apart.ensures ∙ c.from_vec.ensures) ∙ f.1 ∙ ap (λ ms. pairs ms ++ f.0) c.in_ok-members.ensures.items
          ∙ ended.0,
      ended.1,
    )
