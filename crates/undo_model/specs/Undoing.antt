-- What undoing a change makes of an element that others may have changed since, as a function. This
-- project's own, after Excalidraw's history.
use Rattle.std.specs.Prelude.{ℕ, List, [], ◌∷◌, ◌++◌, bytes_eq, if◌then◌else◌}
use Rattle.json_text.specs.declared.text.Member.{Member}
use Rattle.elem.specs.ElementValue.{ElementValue}
use Rattle.elem.specs.Facts.{names}
use Rattle.elem.specs.Texts.{truth_text, text_or_null, binding_text}
use Rattle.delta.specs.Headers.{value_named}
use Rattle.elem.specs.Listings.{same_listing_entry}
use Rattle.delta.specs.Pairs.{Pair}
use Rattle.delta.specs.Parts.{scalars_same}
use Rattle.delta.specs.Rest.{with_value}
use Rattle.delta.specs.Undone.{undone_list}
use Rattle.undo_model.specs.Differing.{same_kind}

-- a header member that differed before and after becomes that of before
abbrev pub undone_header : {A : Type 0} → (A → List ℕ) → A → A → A → A
undone_header text before after now = if bytes_eq (text before) (text after) then now else before

-- further members, of which the one of this name becomes that of before, or goes, where it differed
-- before and after
abbrev pub undone_member : Pair → List ℕ → List Member → List Member
undone_member pair name members =
    if scalars_same (value_named name pair.before.rest) (value_named name pair.after.rest)
    then members
    else with_value name (value_named name pair.before.rest) members

abbrev pub undone_members : Pair → List (List ℕ) → List Member → List Member
undone_members pair [] members = members
undone_members pair (name ∷ names) members =
    undone_members pair names (undone_member pair name members)

-- an element of the kind in which each member outside the stamp that differed before and after is
-- undone
abbrev pub undone_in : Pair → ElementValue → ElementValue
undone_in pair now = record now {
  deleted = undone_header truth_text pair.before.deleted pair.after.deleted now.deleted;
  index = undone_header text_or_null pair.before.index pair.after.index now.index;
  groups = undone_list bytes_eq pair.before.groups pair.after.groups now.groups;
  frame = undone_header text_or_null pair.before.frame pair.after.frame now.frame;
  bound = undone_list same_listing_entry pair.before.bound pair.after.bound now.bound;
  container = undone_header text_or_null pair.before.container pair.after.container now.container;
  start_binding = undone_header binding_text pair.before.start_binding pair.after.start_binding
      now.start_binding;
  end_binding =
      undone_header binding_text pair.before.end_binding pair.after.end_binding now.end_binding;
  file = undone_header text_or_null pair.before.file pair.after.file now.file;
  rest = undone_members pair (names pair.before.rest ++ names pair.after.rest) now.rest;
}

-- The undone element: an element whose kind isn't that of after any more stays.
unfoldable pub undone : Pair → ElementValue → ElementValue
undone pair now = if same_kind pair.after.kind now.kind then undone_in pair now else now
