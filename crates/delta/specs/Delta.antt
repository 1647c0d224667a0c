-- A part as contracts see it.
use Rattle.std.specs.Prelude.{ℕ, List}
use Rattle.elem.specs.declared.kind.Kind.{Kind}
use Rattle.delta.specs.declared.change.Change.{Change}

-- the members in which two elements of one id and kind differ
pub record Delta : Type 0 where
  pub id : List ℕ
  pub kind : Kind
  pub changes : List Change
