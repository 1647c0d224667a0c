-- The first repeated id of a list whose places have gaps.
use Rattle.std.proofs.Common.{◌≡◌, ℕ, List, [], ◌∷◌, Some, None, refl, codes, false}
use Rattle.elem.specs.declared.kind.Kind.TheVariants.{Rectangle}
use Rattle.elem.specs.ElementValue.{ElementValue}
use Rattle.clips.specs.Placed.{first_repeat}

abbrev box : List ℕ → ElementValue
box id = record {
  id = id;
  kind = Rectangle;
  version = 7;
  nonce = 0;
  updated = 0;
  deleted = false;
  index = None;
  groups = [];
  frame = None;
  bound = [];
  container = None;
  start_binding = None;
  end_binding = None;
  file = None;
  rest = [];
}

repeated : first_repeat (record { place = 2; element = box (codes "b") }
    ∷ record { place = 5; element = box (codes "w") }
    ∷ record { place = 6; element = box (codes "b") } ∷ []) ≡ Some 6
repeated = refl
