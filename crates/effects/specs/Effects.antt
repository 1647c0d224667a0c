-- What each command makes of a live stored element. This project's own.
use Rattle.std.specs.Prelude.{ℕ, List, [], ◌∷◌, ◌++◌, not, Option, Some, None, filter, bytes_eq, if◌then◌else◌}
use Rattle.elem.specs.ElementValue.{ElementValue}
use Rattle.board_commands.specs.declared.command.Command.{Command}
use Rattle.board_commands.specs.declared.command.Command.TheVariants as commands
use Rattle.effects.specs.Copying.{settled_for, shown_among}
use Rattle.effects.specs.Deleting.{deleted_from}
use Rattle.effects.specs.Linking.{bound_to, old_target, labelled, unlabelled, old_container}
use Rattle.elem_store.specs.Updates.{is_among}
use Rattle.effects.specs.Placing.{with_view_key, key_at, key_in, with_key_of}
use Rattle.effects.specs.Settings.{with_set_member}

-- the element in a frame, or in none, if it is of these ids
abbrev pub framed : List (List ℕ) → Option (List ℕ) → ElementValue → ElementValue
framed ids frame e = if is_among ids e.id then record e { frame = frame } else e

-- groups with one, which is added where it is missing, and without it
abbrev pub with_group : List ℕ → List (List ℕ) → List (List ℕ)
with_group group groups = if is_among groups group then groups else groups ++ group ∷ []

abbrev pub without_group : List ℕ → List (List ℕ) → List (List ℕ)
without_group group groups = filter (λ other. not (bytes_eq group other)) groups

-- the element in a group, or not in it, if it is of these ids
abbrev pub grouped : List (List ℕ) → List ℕ → ElementValue → ElementValue
grouped ids group e =
    if is_among ids e.id then record e { groups = with_group group e.groups } else e

abbrev pub ungrouped : List (List ℕ) → List ℕ → ElementValue → ElementValue
ungrouped ids group e =
    if is_among ids e.id then record e { groups = without_group group e.groups } else e

-- What the command makes of a live element, as stored: itself where it isn't concerned. What the
-- element of an id names is looked up among the stored elements, and keys among the shown ones.
abbrev pub effect : List ElementValue → List ElementValue → Command → ElementValue → ElementValue
effect stored shown (commands.Create element spot) e = with_view_key shown e
effect stored shown (commands.Set id member value) e =
    if bytes_eq id e.id then with_set_member member value e else e
effect stored shown (commands.Delete ids) e = deleted_from (is_among ids) e
effect stored shown (commands.Place id spot) e =
    with_key_of id (key_at shown spot (Some id) (key_in shown id)) (with_view_key shown e)
effect stored shown (commands.Bind arrow side target rest) e =
    bound_to arrow side (Some (record { target = target; rest = rest }))
    (old_target stored arrow side) e
effect stored shown (commands.Unbind arrow side) e =
    bound_to arrow side None (old_target stored arrow side) e
effect stored shown (commands.Label container text) e =
    labelled text container (old_container stored text) e
effect stored shown (commands.Unlabel text) e = unlabelled text (old_container stored text) e
effect stored shown (commands.Frame ids frame) e = framed ids (Some frame) e
effect stored shown (commands.Unframe ids) e = framed ids None e
effect stored shown (commands.Group ids group) e = grouped ids group e
effect stored shown (commands.Ungroup ids group) e = ungrouped ids group e
effect stored shown (commands.Duplicate ids prefix spot) e =
    with_view_key (settled_for (shown_among ids shown) shown) e
effect stored shown (commands.Paste elements prefix spot) e =
    with_view_key (settled_for elements shown) e
