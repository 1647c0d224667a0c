use Rattle.std.proofs.Common.{Bool, true, false, refl}
use Rattle.json_text.specs.Members.{pairs}
use Rattle.scene_json.specs.Named.{value_at}
use Rattle.elem.specs.Forms.{IsTruth}
use Rattle.elem_read.proofs.forms.truth.Goals as goal

pub returns-in-None : goal.returns-in-None
returns-in-None c =
    let none = rw c.in-None.is at c.in_ok-truth.ensures in (
      refl,
      λ truth. elim truth as (λ (b : Bool). IsTruth (value_at c.args.name.now (pairs c.args.members.now)) b → ⊥) [
        | true ↦ λ is. none true is
        | false ↦ λ is. none false is
      ],
    )
