-- What was gathered of scenes. Only contracts of private functions cite this.
use Rattle.std.specs.Prelude.{◌≡◌, List}
use Rattle.elem.specs.ElementValue.{ElementValue}
use Rattle.scene_file.specs.Heads.{Heading, IsJoinedHead}
use Rattle.checks.specs.Lines.{heads_of, spots_of, updates_of}
use Rattle.checks.specs.declared.judged.Judged.{Judged}
use Rattle.checks.specs.declared.judged.Spot.{Spot}

-- The heads of these scenes are joined, and these are all their elements, and where each stands.
pub record AreGathered (judged : List Judged) (head : Heading) (updates : List ElementValue)
    (spots : List Spot) : Type 0 where
  pub joined : IsJoinedHead (heads_of judged) head
  pub elements : updates ≡ updates_of judged
  pub each_spot : spots ≡ spots_of judged
