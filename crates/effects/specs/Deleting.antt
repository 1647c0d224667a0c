-- Elements that are deleted, and those that named them. This project's own.
use Rattle.std.specs.Prelude.{ℕ, List, Bool, true, not, ◌||◌, Option, None, filter, if◌then◌else◌}
use Rattle.std.specs.List.{list_any}
use Rattle.elem.specs.declared.parts.BoundRef.{BoundRef}
use Rattle.elem.specs.declared.parts.Binding.{Binding}
use Rattle.elem.specs.ElementValue.{ElementValue}
use Rattle.links.specs.Names.{target_of}
use Rattle.effects.specs.Naming.{is_some_that}

-- a name, unless it is gone, and a binding, unless its target is
abbrev pub kept_name : (List ℕ → Bool) → Option (List ℕ) → Option (List ℕ)
kept_name is_gone name = if is_some_that is_gone name then None else name

abbrev pub kept_end : (List ℕ → Bool) → Option Binding → Option Binding
kept_end is_gone end' = if is_some_that is_gone (target_of end') then None else end'

-- the entries of a listing whose ids aren't gone
abbrev pub kept_entries : (List ℕ → Bool) → List BoundRef → List BoundRef
kept_entries is_gone entries = filter (λ (entry : BoundRef). not (is_gone entry.id)) entries

-- the element without the bindings, the container, the frame and the entries of its listing that
-- name what is gone
abbrev pub without_names : (List ℕ → Bool) → ElementValue → ElementValue
without_names is_gone e = record e {
  frame = kept_name is_gone e.frame;
  bound = kept_entries is_gone e.bound;
  container = kept_name is_gone e.container;
  start_binding = kept_end is_gone e.start_binding;
  end_binding = kept_end is_gone e.end_binding;
}

-- the element, deleted where its id is gone, and else without names of what is
abbrev pub deleted_from : (List ℕ → Bool) → ElementValue → ElementValue
deleted_from is_gone e =
    if is_gone e.id then record e { deleted = true } else without_names is_gone e

-- whether an element names something that is gone
abbrev pub has_gone_names : (List ℕ → Bool) → ElementValue → Bool
has_gone_names is_gone e =
    is_some_that is_gone e.frame || (is_some_that is_gone e.container ||
    (is_some_that is_gone (target_of e.start_binding)
    || (is_some_that is_gone (target_of e.end_binding)
    || list_any (λ (entry : BoundRef). is_gone entry.id) e.bound)))
