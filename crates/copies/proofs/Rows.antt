-- The definitions tried on a box and an arrow that starts at it and ends elsewhere.
use Rattle.std.proofs.Common.{◌≡◌, ℕ, List, [], ◌∷◌, Option, Some, None, refl, codes, false}
use Rattle.elem.specs.declared.kind.Kind.{Kind}
use Rattle.elem.specs.declared.kind.Kind.TheVariants.{Rectangle, Arrow}
use Rattle.elem.specs.declared.kind.Role.TheVariants as roles
use Rattle.elem.specs.declared.parts.BoundRef.{BoundRef}
use Rattle.elem.specs.declared.parts.Binding.{Binding}
use Rattle.elem.specs.ElementValue.{ElementValue}
use Rattle.copies.specs.Copies.{copies_of, copy_among}

abbrev element : List ℕ → Kind → ℕ → List (List ℕ) → List BoundRef → Option Binding → Option Binding → ElementValue
element id kind version groups bound start final = record {
  id = id;
  kind = kind;
  version = version;
  nonce = 0;
  updated = 0;
  deleted = false;
  index = None;
  groups = groups;
  frame = None;
  bound = bound;
  container = None;
  start_binding = start;
  end_binding = final;
  file = None;
  rest = [];
}

abbrev lists : List ℕ → BoundRef
lists id = record { id = id; role = roles.Arrow }

abbrev bound_to : List ℕ → Option Binding
bound_to id = Some (record { target = id; rest = [] })

abbrev box : ElementValue
box = element (codes "b") Rectangle 7 (codes "g" ∷ []) (lists (codes "w") ∷ lists (codes "z") ∷ []) None None

abbrev arrow : ElementValue
arrow = element (codes "w") Arrow 3 [] [] (bound_to (codes "b")) (bound_to (codes "q"))

copied : copies_of (box ∷ arrow ∷ []) (codes "c-")
    ≡ element (codes "c-b") Rectangle 1 (codes "c-g" ∷ []) (lists (codes "c-w") ∷ []) None None
    ∷ element (codes "c-w") Arrow 1 [] [] (bound_to (codes "c-b")) None ∷ []
unfolding copies_of copy_among
copied = refl
