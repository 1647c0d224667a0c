-- An element as contracts see it.
use Rattle.std.specs.Prelude.{ℕ, Bool, List, Option}
use Rattle.json_text.specs.declared.text.Member.{Member}
use Rattle.elem.specs.declared.kind.Kind.{Kind}
use Rattle.elem.specs.declared.parts.BoundRef.{BoundRef}
use Rattle.elem.specs.declared.parts.Binding.{Binding}

pub record ElementValue : Type 0 where
  pub id : List ℕ
  pub kind : Kind
  pub version : ℕ
  pub nonce : ℕ
  pub updated : ℕ
  pub deleted : Bool
  pub index : Option (List ℕ)
  pub groups : List (List ℕ)
  pub frame : Option (List ℕ)
  pub bound : List BoundRef
  pub container : Option (List ℕ)
  pub start_binding : Option Binding
  pub end_binding : Option Binding
  pub file : Option (List ℕ)
  pub rest : List Member
