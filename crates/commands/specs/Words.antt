use Rattle.std.specs.Prelude.{◌≡◌, if◌then◌else◌, List, [], ◌∷◌, ℕ, Bool, true, false, ◌&&◌, Option, Some, None, codes, bytes_eq}
use Rattle.std.specs.Option.{option_map}
use Rattle.std.specs.Str.{is_utf8}
use Rattle.scene_file.specs.declared.layout.Layout.{Layout}
use Rattle.scene_file.specs.declared.layout.Layout.TheVariants.{Compact, Pretty}
use Rattle.commands.specs.Services.{drill_of, keeping_of, number_within, service_of}
use Rattle.commands.specs.declared.words.ProgramCommand.{ProgramCommand}
use Rattle.commands.specs.declared.words.ProgramCommand.TheVariants.{Restore, Merge, State, Pictures, Replay, Recover, Paste, Library, Insert, Check}
use Rattle.commands.specs.declared.words.Form.{Form}
use Rattle.commands.specs.declared.words.Form.TheVariants as form
use Rattle.commands.specs.declared.words.Request.{Request}
use Rattle.commands.specs.declared.words.Request.TheVariants.{Answer, Drill as Drilled, Serve, Keep}
use Rattle.commands.specs.declared.words.Begins.{Begins}
use Rattle.commands.specs.declared.words.Begins.TheVariants as begins
use Rattle.commands.specs.declared.words.Drill.{Drill}
use Rattle.commands.specs.declared.words.Keeping.{Keeping}
use Rattle.commands.specs.declared.words.Service.{Service}

-- the layout that the words behind a command ask for: `--pretty` alone, or none. This project's
-- own.
abbrev pub asked_layout : List (List ℕ) → Option Layout
asked_layout [] = Some Compact
asked_layout (word ∷ []) = if bytes_eq word (codes "--pretty") then Some Pretty else None
asked_layout (word ∷ next ∷ more) = None

-- a command that no word stands behind
abbrev pub asked_alone : ProgramCommand → List (List ℕ) → Option ProgramCommand
asked_alone command [] = Some command
asked_alone command (word ∷ more) = None

-- the form in which a journal is told that the words behind `recover` ask for: `--scene` alone, or
-- none. This project's own.
abbrev pub asked_form : List (List ℕ) → Option Form
asked_form [] = Some form.State
asked_form (word ∷ []) = if bytes_eq word (codes "--scene") then Some form.Scene else None
asked_form (word ∷ next ∷ more) = None

-- whether a word may stand for a text: it is UTF-8, and not empty
abbrev pub is_name : List ℕ → Bool
is_name [] = false
is_name (byte ∷ bytes) = is_utf8 (byte ∷ bytes)

-- the paste that the words behind `paste` say: a prefix
abbrev pub asked_paste : List (List ℕ) → Option ProgramCommand
asked_paste (prefix ∷ []) = if is_name prefix then Some (Paste prefix) else None
asked_paste words = None

-- the insertion that the words behind `insert` say: an item and a prefix
abbrev pub asked_insert : List (List ℕ) → Option ProgramCommand
asked_insert (item ∷ prefix ∷ []) =
    if is_name item && is_name prefix then Some (Insert (record { item = item; prefix = prefix }))
    else None
asked_insert words = None

-- the command of this name with these words behind it, which takes no text from them
abbrev pub asked_plain : List ℕ → List (List ℕ) → Option ProgramCommand
asked_plain word options =
    if bytes_eq word (codes "restore") then option_map Restore (asked_layout options)
    else if bytes_eq word (codes "merge") then option_map Merge (asked_layout options)
    else if bytes_eq word (codes "state") then asked_alone State options
    else if bytes_eq word (codes "pictures") then asked_alone Pictures options
    else if bytes_eq word (codes "replay") then asked_alone Replay options
    else if bytes_eq word (codes "recover") then option_map Recover (asked_form options)
    else if bytes_eq word (codes "library") then asked_alone Library options
    else if bytes_eq word (codes "check") then asked_alone Check options
    else None

-- the command of this name with these words behind it. This project's own.
abbrev pub asked_command : List ℕ → List (List ℕ) → Option ProgramCommand
asked_command word options =
    if bytes_eq word (codes "paste") then asked_paste options
    else if bytes_eq word (codes "insert") then asked_insert options
    else asked_plain word options

-- the service that the words behind `serve` say: a port, how many links, how often nothing happens
-- in a row, and a layout
abbrev pub asked_service : List (List ℕ) → Option Service
asked_service (port ∷ links ∷ idle ∷ options) =
    service_of (number_within 1 65535 port) (number_within 1 1024 links)
    (number_within 1 4294967295 idle)
    (asked_layout options)
asked_service words = None

-- the drill that the words behind `drill` say: a seed, and how many events
abbrev pub asked_drill : List (List ℕ) → Option Drill
asked_drill (seed ∷ events ∷ []) =
    drill_of (number_within 0 9007199254740991 seed) (number_within 1 200000 events)
asked_drill words = None

-- what a durable room begins with that a word asks for: `--journal` for scenes, `--resume` for a
-- journal. This project's own.
abbrev pub asked_begins : List ℕ → Option Begins
asked_begins word =
    if bytes_eq word (codes "--journal") then Some begins.Scenes
    else if bytes_eq word (codes "--resume") then Some begins.Journal
    else None

-- the durable room that the words behind `serve` say: a port, how many links, how often nothing
-- happens in a row, and what it begins with
abbrev pub asked_keeping : List (List ℕ) → Option Keeping
asked_keeping (port ∷ links ∷ idle ∷ word ∷ []) =
    keeping_of (number_within 1 65535 port) (number_within 1 1024 links)
    (number_within 1 4294967295 idle)
    (asked_begins word)
asked_keeping words = None

-- the room that the words behind `serve` say: a service, or else a durable room
abbrev pub room_of_words : Option Service → Option Keeping → Option Request
room_of_words (Some service) keeping = Some (Serve service)
room_of_words None keeping = option_map Keep keeping

abbrev pub asked_room : List (List ℕ) → Option Request
asked_room words = room_of_words (asked_service words) (asked_keeping words)

-- what these words ask for, where they are a form of it. This project's own.
abbrev pub asked : List (List ℕ) → Option Request
asked [] = None
asked (word ∷ options) =
    if bytes_eq word (codes "serve") then asked_room options
    else if bytes_eq word (codes "drill") then option_map Drilled (asked_drill options)
    else option_map Answer (asked_command word options)

-- The words that ask for each command. This project's own.
abbrev pub words_of : ProgramCommand → List (List ℕ)
words_of (Restore Compact) = codes "restore" ∷ []
words_of (Restore Pretty) = codes "restore" ∷ codes "--pretty" ∷ []
words_of (Merge Compact) = codes "merge" ∷ []
words_of (Merge Pretty) = codes "merge" ∷ codes "--pretty" ∷ []
words_of State = codes "state" ∷ []
words_of Pictures = codes "pictures" ∷ []
words_of Replay = codes "replay" ∷ []
words_of (Recover form.State) = codes "recover" ∷ []
words_of (Recover form.Scene) = codes "recover" ∷ codes "--scene" ∷ []
words_of (Paste prefix) = codes "paste" ∷ prefix ∷ []
words_of Library = codes "library" ∷ []
words_of (Insert insertion) = codes "insert" ∷ insertion.item ∷ insertion.prefix ∷ []
words_of Check = codes "check" ∷ []

-- The texts that a command takes from its words may stand in them: each is UTF-8, and not empty.
abbrev pub HasNames : ProgramCommand → Type 0
HasNames (Paste prefix) = is_name prefix ≡ true
HasNames (Insert insertion) = (is_name insertion.item ≡ true) × (is_name insertion.prefix ≡ true)
HasNames other = Unit {0}
