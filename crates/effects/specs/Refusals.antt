-- Why a command is refused before anything of it is made. This project's own.
use Rattle.std.specs.Prelude.{ℕ, List, [], ◌∷◌, ◌++◌, Bool, true, false, not, Option, Some, None, is_some, find, bytes_eq}
use Rattle.std.specs.Option.{option_or, option_map, option_map_or}
use Rattle.elem.specs.declared.kind.Kind.{Kind}
use Rattle.elem.specs.ElementValue.{ElementValue}
use Rattle.elem_store.specs.Updates.{element_of, ids_of}
use Rattle.frames_groups.specs.Frames.{is_frame_kind}
use Rattle.links.specs.Arrows.{names_target}
use Rattle.links.specs.Names.{is_text, is_arrow, can_hold_text}
use Rattle.view.specs.Shown.{is_live}
use Rattle.board_commands.specs.declared.command.Command.{Command}
use Rattle.board_commands.specs.declared.command.Command.TheVariants as commands
use Rattle.effects.specs.declared.refusal.Refusal.{Refusal}
use Rattle.effects.specs.declared.refusal.Refusal.TheVariants.{Exists, NoElement, WrongKind, Protected}
use Rattle.board_commands.specs.declared.command.Spot.{Spot}
use Rattle.board_commands.specs.declared.command.Spot.TheVariants.{Bottom, Top, After}
use Rattle.effects.specs.Settings.{is_protected}

-- this refusal, if it holds
abbrev pub refusal_if : Bool → Refusal → Option Refusal
refusal_if true refusal = Some refusal
refusal_if false refusal = None

-- whether the element of an id is stored and isn't deleted
abbrev pub is_live_id : List ElementValue → List ℕ → Bool
is_live_id stored id = option_map_or is_live (element_of stored id) false

-- whether the stored element of an id is of such a kind
abbrev pub is_kind_of : List ElementValue → (Kind → Bool) → List ℕ → Bool
is_kind_of stored is_right id =
    option_map_or (λ (e : ElementValue). is_right e.kind) (element_of stored id) false

-- the id that a spot names
abbrev pub spot_ids : Spot → List (List ℕ)
spot_ids Bottom = []
spot_ids Top = []
spot_ids (After id) = id ∷ []

-- the ids of elements that a command names and that are to be live, in the order of its fields
abbrev pub command_ids : Command → List (List ℕ)
command_ids (commands.Create element spot) = spot_ids spot
command_ids (commands.Set id member value) = id ∷ []
command_ids (commands.Delete ids) = ids
command_ids (commands.Place id spot) = id ∷ spot_ids spot
command_ids (commands.Bind arrow side target rest) = arrow ∷ target ∷ []
command_ids (commands.Unbind arrow side) = arrow ∷ []
command_ids (commands.Label container text) = container ∷ text ∷ []
command_ids (commands.Unlabel text) = text ∷ []
command_ids (commands.Frame ids frame) = ids ++ frame ∷ []
command_ids (commands.Unframe ids) = ids
command_ids (commands.Group ids group) = ids
command_ids (commands.Ungroup ids group) = ids
command_ids (commands.Duplicate ids prefix spot) = ids ++ spot_ids spot
command_ids (commands.Paste elements prefix spot) = spot_ids spot

-- the first of these ids that is stored under a prefix, maybe as deleted
abbrev pub first_stored : List ElementValue → List ℕ → List (List ℕ) → Option Refusal
first_stored stored prefix ids =
    option_map (λ id. Exists (prefix ++ id))
    (find (λ id. is_some (element_of stored (prefix ++ id))) ids)

-- The id of a new element is stored, maybe as deleted.
abbrev pub existing : List ElementValue → Command → Option Refusal
existing stored (commands.Create element spot) =
    refusal_if (is_some (element_of stored element.id)) (Exists element.id)
existing stored (commands.Duplicate ids prefix spot) = first_stored stored prefix ids
existing stored (commands.Paste elements prefix spot) = first_stored stored prefix (ids_of elements)
existing stored _ = None

-- an element has no place above itself
abbrev pub own_spot : Command → Option Refusal
own_spot (commands.Place id (After other)) = refusal_if (bytes_eq id other) (NoElement other)
own_spot _ = None

-- The first named id that isn't live.
abbrev pub first_missing : List ElementValue → List (List ℕ) → Option Refusal
first_missing stored ids = option_map NoElement (find (λ id. not (is_live_id stored id)) ids)

abbrev pub missing : List ElementValue → Command → Option Refusal
missing stored command = option_or (first_missing stored (command_ids command)) (own_spot command)

-- the id, unless its element is of the right kind
abbrev pub unless_right : Bool → List ℕ → Option Refusal
unless_right is_right id = refusal_if (not is_right) (WrongKind id)

-- the first of these ids that is a frame's
abbrev pub first_frame : List ElementValue → List (List ℕ) → Option Refusal
first_frame stored ids = option_map WrongKind (find (is_kind_of stored is_frame_kind) ids)

-- The first named id whose element isn't of a kind that the command is for.
abbrev pub misfit : List ElementValue → List ElementValue → Command → Option Refusal
misfit stored shown (commands.Bind arrow side target rest) =
    option_or (unless_right (is_kind_of stored is_arrow arrow) arrow)
    (unless_right (names_target shown (Some target)) target)
misfit stored shown (commands.Unbind arrow side) =
    unless_right (is_kind_of stored is_arrow arrow) arrow
misfit stored shown (commands.Label container text) =
    option_or (unless_right (is_kind_of stored can_hold_text container) container)
    (unless_right (is_kind_of stored is_text text) text)
misfit stored shown (commands.Unlabel text) = unless_right (is_kind_of stored is_text text) text
misfit stored shown (commands.Frame ids frame) =
    option_or (first_frame stored ids) (unless_right (is_kind_of stored is_frame_kind frame) frame)
misfit stored shown _ = None

-- The member is one that no value can be given.
abbrev pub guarded : Command → Option Refusal
guarded (commands.Set id member value) = refusal_if (is_protected member) (Protected member)
guarded _ = None

-- The first cause, in their order.
abbrev pub refusal_of : List ElementValue → List ElementValue → Command → Option Refusal
refusal_of stored shown command =
    option_or (existing stored command) (option_or (missing stored command)
    (option_or (misfit stored shown command) (guarded command)))
