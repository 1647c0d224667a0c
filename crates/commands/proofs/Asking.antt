-- Each command is asked for by its words, and by no others.
use Rattle.std.proofs.Common.{◌≡◌, ◌↔◌, ◌⊎◌, IsSome, ◌≤◌, ℕ, Bool, true, false, List, [], ◌∷◌, Option, Some, None, inl, inr, codes, decimal, nat_le, bytes_eq, if◌then◌else◌, refl, sym, ap, ap₂, subst, ◌&&◌, ◌∙◌, lit≤, arith}
use Rattle.std.specs.Option.{option_map}
use Rattle.std.specs.Str.Parse.{digits_value}
use Rattle.std.proofs.lemmas.Bool.{cases_Bool, and_parts}
use Rattle.std.proofs.lemmas.Bool.Decides.{nat_tests}
use Rattle.std.proofs.lemmas.Option.{none-some, same_Some}
use Rattle.json_text.proofs.CallerLemmas.{bytes_eq-true}
use Rattle.scene_file.specs.declared.layout.Layout.{Layout}
use Rattle.scene_file.specs.declared.layout.Layout.TheVariants.{Compact, Pretty}
use Rattle.commands.specs.Services.{IsDrillWithinLimits, drill_of, keeping_of, number_within, is_number_within, service_of}
use Rattle.commands.specs.inner.Services.{IsKeeping, IsService}
use Rattle.commands.specs.Words.{HasNames, asked, asked_alone, asked_command, asked_drill, asked_begins, asked_form, asked_insert, asked_keeping, asked_layout, asked_paste, asked_plain, asked_room, asked_service, is_name, room_of_words, words_of}
use Rattle.commands.specs.declared.status.Fault.{Fault}
use Rattle.commands.specs.declared.status.Fault.TheVariants as fault
use Rattle.commands.specs.declared.words.ProgramCommand.{ProgramCommand}
use Rattle.commands.specs.declared.words.ProgramCommand.TheVariants.{Restore, Merge, State, Pictures, Replay, Recover, Paste, Library, Insert, Check}
use Rattle.commands.specs.declared.words.Drill.{Drill}
use Rattle.commands.specs.declared.words.Begins.{Begins}
use Rattle.commands.specs.declared.words.Keeping.{Keeping}
use Rattle.commands.specs.declared.words.Form.{Form}
use Rattle.commands.specs.declared.words.Form.TheVariants as form
use Rattle.commands.specs.declared.words.Request.{Request}
use Rattle.commands.specs.declared.words.Request.TheVariants.{Answer, Drill as Drilled, Serve, Keep}
use Rattle.commands.specs.declared.words.Service.{Service}

asked-words : (command : ProgramCommand) → HasNames command → asked (words_of command) ≡ Some (Answer command)
asked-words (Restore Compact) names = refl
asked-words (Restore Pretty) names = refl
asked-words (Merge Compact) names = refl
asked-words (Merge Pretty) names = refl
asked-words State names = refl
asked-words Pictures names = refl
asked-words Replay names = refl
asked-words (Recover form.State) names = refl
asked-words (Recover form.Scene) names = refl
asked-words (Paste prefix) names = ap (λ b. option_map Answer (if b then Some (Paste prefix) else None)) names
asked-words Library names = refl
asked-words Check names = refl
asked-words (Insert insertion) names =
    ap₂ (λ a b. option_map Answer (if a && b then Some (Insert insertion) else None)) names.0 names.1

-- The words are those of the command, and may stand for its texts.
abbrev IsAsked : List (List ℕ) → ProgramCommand → Type 0
IsAsked words command = (words ≡ words_of command) × HasNames command

asks-so : (made command : ProgramCommand) (words : List (List ℕ)) → words ≡ words_of made → HasNames made
    → Some made ≡ Some command → IsAsked words command
asks-so made command words is names e = subst (IsAsked words) (same_Some made command e) (is, names)

-- what is found where a word is this one, or by a later test
tested : (word text : List ℕ) (options : List (List ℕ)) (found rest : Option ProgramCommand) (command : ProgramCommand)
    → (found ≡ Some command → IsAsked (text ∷ options) command)
    → (rest ≡ Some command → IsAsked (word ∷ options) command)
    → (if bytes_eq word text then found else rest) ≡ Some command → IsAsked (word ∷ options) command
tested word text options found rest command here later e =
    elim (cases_Bool (bytes_eq word text)) [
      | inl t ↦ subst (λ w. IsAsked (w ∷ options) command) (sym (bytes_eq-true word text t))
          (here (sym (ap (λ b. if b then found else rest) t) ∙ e))
      | inr f ↦ later (sym (ap (λ b. if b then found else rest) f) ∙ e)
    ]

-- the words of a layout
abbrev options_of : Layout → List (List ℕ)
options_of Compact = []
options_of Pretty = codes "--pretty" ∷ []

-- what one further word asks for, and none
one-word : {X : Type 0} (text word : List ℕ) (made found : X) (words : X → List (List ℕ)) → words made ≡ text ∷ []
    → (if bytes_eq word text then Some made else None) ≡ Some found
    → word ∷ [] ≡ words found
one-word text word made found words named e =
    elim (cases_Bool (bytes_eq word text)) [
      | inl t ↦ ap (λ w. w ∷ []) (bytes_eq-true word text t)
          ∙ (sym named ∙ ap words (same_Some made found (sym (ap (λ b. if b then Some made else None) t) ∙ e)))
      | inr f ↦ absurd (none-some found (sym (ap (λ b. if b then Some made else None) f) ∙ e))
    ]

layout-words : (options : List (List ℕ)) (layout : Layout) → asked_layout options ≡ Some layout
    → options ≡ options_of layout
layout-words [] layout e = ap options_of (same_Some Compact layout e)
layout-words (word ∷ []) layout e = one-word (codes "--pretty") word Pretty layout options_of refl e
layout-words (word ∷ next ∷ more) layout e = absurd (none-some layout e)

-- the words of a form
abbrev form_options : Form → List (List ℕ)
form_options form.State = []
form_options form.Scene = codes "--scene" ∷ []

form-words : (options : List (List ℕ)) (f : Form) → asked_form options ≡ Some f → options ≡ form_options f
form-words [] f e = ap form_options (same_Some form.State f e)
form-words (word ∷ []) f e = one-word (codes "--scene") word form.Scene f form_options refl e
form-words (word ∷ next ∷ more) f e = absurd (none-some f e)

-- what is made of what the words behind a command ask for
laid-out : {X : Type 0} (make : X → ProgramCommand) (ask : List (List ℕ) → Option X) (words : X
    → List (List ℕ)) (word : List ℕ) (options : List (List ℕ)) (command : ProgramCommand)
    → ((x : X) → ask options ≡ Some x → options ≡ words x) → ((x : X) → word ∷ words x ≡ words_of (make x))
    → ((x : X) → HasNames (make x))
    → option_map make (ask options) ≡ Some command → IsAsked (word ∷ options) command
laid-out {X} make ask words word options command said named names e = by (ask options) refl e
  where
    by : (found : Option X) → ask options ≡ found → option_map make found ≡ Some command
        → IsAsked (word ∷ options) command
    by None is e = absurd (none-some command e)
    by (Some x) is e = asks-so (make x) command (word ∷ options) (ap (λ o. word ∷ o) (said x is) ∙ named x) (names x) e

alone : (made command : ProgramCommand) (word : List ℕ) (options : List (List ℕ)) → word ∷ [] ≡ words_of made
    → HasNames made
    → asked_alone made options ≡ Some command
    → IsAsked (word ∷ options) command
alone made command word [] named names e = asks-so made command (word ∷ []) named names e
alone made command word (next ∷ more) named names e = absurd (none-some command e)

restore-words : (layout : Layout) → codes "restore" ∷ options_of layout ≡ words_of (Restore layout)
restore-words Compact = refl
restore-words Pretty = refl

merge-words : (layout : Layout) → codes "merge" ∷ options_of layout ≡ words_of (Merge layout)
merge-words Compact = refl
merge-words Pretty = refl

recover-words : (f : Form) → codes "recover" ∷ form_options f ≡ words_of (Recover f)
recover-words form.State = refl
recover-words form.Scene = refl

plain-words : (word : List ℕ) (options : List (List ℕ)) (command : ProgramCommand)
    → asked_plain word options ≡ Some command
    → IsAsked (word ∷ options) command
plain-words word options command e =
    tested word (codes "restore") options _ _ command (laid-out Restore asked_layout options_of (codes "restore")
    options command (layout-words options) restore-words (λ x. tt))
    (tested word (codes "merge") options _ _ command (laid-out Merge asked_layout options_of (codes "merge") options
    command (layout-words options) merge-words (λ x. tt))
    (tested word (codes "state") options _ _ command (alone State command (codes "state") options refl tt)
    (tested word (codes "pictures") options _ _ command (alone Pictures command (codes "pictures") options refl tt)
    (tested word (codes "replay") options _ _ command (alone Replay command (codes "replay") options refl tt)
    (tested word (codes "recover") options _ _ command (laid-out Recover asked_form form_options (codes "recover")
    options command (form-words options) recover-words (λ x. tt))
    (tested word (codes "library") options _ _ command (alone Library command (codes "library") options refl tt)
    (tested word (codes "check") options _ _ command (alone Check command (codes "check") options refl tt)
    (λ e. absurd (none-some command e))))))))) e

-- a command that takes a text where a word may stand for it
named : (is : Bool) (made command : ProgramCommand) (words : List (List ℕ)) → words ≡ words_of made
    → (is ≡ true → HasNames made) → (if is then Some made else None) ≡ Some command → IsAsked words command
named true made command words said names e = asks-so made command words said (names refl) e
named false made command words said names e = absurd (none-some command e)

paste-words : (options : List (List ℕ)) (command : ProgramCommand) → asked_paste options ≡ Some command
    → IsAsked (codes "paste" ∷ options) command
paste-words [] command e = absurd (none-some command e)
paste-words (prefix ∷ []) command e =
    named (is_name prefix) (Paste prefix) command (codes "paste" ∷ prefix ∷ []) refl (λ is. is) e
paste-words (prefix ∷ next ∷ more) command e = absurd (none-some command e)

insert-words : (options : List (List ℕ)) (command : ProgramCommand) → asked_insert options ≡ Some command
    → IsAsked (codes "insert" ∷ options) command
insert-words [] command e = absurd (none-some command e)
insert-words (item ∷ []) command e = absurd (none-some command e)
insert-words (item ∷ prefix ∷ []) command e =
    named (is_name item && is_name prefix) (Insert (record { item = item; prefix = prefix })) command (codes "insert"
    ∷ item ∷ prefix ∷ []) refl (and_parts (is_name item) (is_name prefix)) e
insert-words (item ∷ prefix ∷ next ∷ more) command e = absurd (none-some command e)

command-words : (word : List ℕ) (options : List (List ℕ)) (command : ProgramCommand)
    → asked_command word options ≡ Some command → IsAsked (word ∷ options) command
command-words word options command e =
    tested word (codes "paste") options _ _ command (paste-words options command)
    (tested word (codes "insert") options _ _ command (insert-words options command) (plain-words word options command))
    e

-- what is asked for is one request
pub same-answer : (a b : ProgramCommand) → Some (Answer a) ≡ Some (Answer b) → a ≡ b
same-answer a b e = cc

pub same-service : (a b : Service) → Some (Serve a) ≡ Some (Serve b) → a ≡ b
same-service a b e = cc

pub same-keeping : (a b : Keeping) → Some (Keep a) ≡ Some (Keep b) → a ≡ b
same-keeping a b e = cc

-- words that ask for something are a form of it: where they can't be read, memory is wanted
pub memory-wanted : (request : Request) (f : Fault) (asks : Option Request) → ((f ≡ fault.Usage) × (asks ≡ None))
    ⊎ ((f ≡ fault.Memory) × IsSome asks) → asks ≡ Some request → f ≡ fault.Memory
memory-wanted request f asks (inl (usage, none)) is = absurd (none-some request (sym none ∙ is))
memory-wanted request f asks (inr (memory, some)) is = memory

-- ---- what is asked for is one of the four
answered : (found : Option ProgramCommand) (command : ProgramCommand) → option_map Answer found ≡ Some (Answer command)
    → found ≡ Some command
answered None command e = absurd (none-some (Answer command) e)
answered (Some other) command e = cc

drilled : (found : Option Drill) (drill : Drill) → option_map Drilled found ≡ Some (Drilled drill) → found ≡ Some drill
drilled None drill e = absurd (none-some (Drilled drill) e)
drilled (Some other) drill e = cc

-- an option that is made of what the one makes is none that is made of what the other makes
differs : {A B : Type 0} (make : A → Request) (other : B) (of : B → Request) (found : Option A)
    → ((a : A) → make a ≡ of other → ⊥)
    → option_map make found ≡ Some (of other) → ⊥
differs make other of None apart e = none-some (of other) e
differs make other of (Some a) apart e = apart a (same_Some (make a) (of other) e)

not-drilled : (found : Option Drill) (command : ProgramCommand) → option_map Drilled found ≡ Some (Answer command) → ⊥
not-drilled found command e = differs Drilled command Answer found (λ drill e. cc) e

-- what the words behind `serve` ask for is a service or a durable room
room-differs : {B : Type 0} (other : B) (of : B → Request) (service : Option Service) (keeping : Option Keeping)
    → ((s : Service) → Serve s ≡ of other → ⊥) → ((k : Keeping) → Keep k ≡ of other → ⊥)
    → room_of_words service keeping ≡ Some (of other) → ⊥
room-differs other of (Some service) keeping serves keeps e = serves service (same_Some (Serve service) (of other) e)
room-differs other of None keeping serves keeps e = differs Keep other of keeping keeps e

room-served : (found : Option Service) (keeping : Option Keeping) (service : Service)
    → room_of_words found keeping ≡ Some (Serve service) → found ≡ Some service
room-served (Some other) keeping service e = cc
room-served None keeping service e = absurd (differs Keep service Serve keeping (λ k e. cc) e)

room-kept : (found : Option Service) (keeping : Option Keeping) (kept : Keeping)
    → room_of_words found keeping ≡ Some (Keep kept) → keeping ≡ Some kept
room-kept (Some other) keeping kept e = absurd (serve-kept other kept e)
  where
    serve-kept : (s : Service) (k : Keeping) → Some (Serve s) ≡ Some (Keep k) → ⊥
    serve-kept s k e = cc
room-kept None None kept e = absurd (none-some (Keep kept) e)
room-kept None (Some k) kept e = cc

-- what is found behind the two tests of a first word
by-word : (word : List ℕ) (served drilled answered found : Option Request) (P : Type 0)
    → (served ≡ found → bytes_eq word (codes "serve") ≡ true → P) → (drilled ≡ found → P) → (answered ≡ found → P)
    → (if bytes_eq word (codes "serve") then served else if bytes_eq word (codes "drill") then drilled else answered)
    ≡ found → P
by-word word served drilled answered found P serves drills answers e =
    elim (cases_Bool (bytes_eq word (codes "serve"))) [
      | inl t ↦ serves (let h = rw t at e in h) t
      | inr f ↦ elim (cases_Bool (bytes_eq word (codes "drill"))) [
        | inl t ↦ drills (let h = rw (f, t) at e in h)
        | inr g ↦ answers (let h = rw (f, g) at e in h)
      ]
    ]

words-asked : (words : List (List ℕ)) (command : ProgramCommand) → asked words ≡ Some (Answer command)
    → IsAsked words command
words-asked [] command e = absurd (none-some (Answer command) e)
words-asked (word ∷ options) command e =
    by-word word (asked_room options) (option_map Drilled (asked_drill options))
    (option_map Answer (asked_command word options))
    (Some (Answer command)) (IsAsked (word ∷ options) command)
    (λ is t. absurd (room-differs command Answer (asked_service options) (asked_keeping options) (λ s e. cc) (λ k e. cc)
    is))
    (λ is. absurd (not-drilled (asked_drill options) command is))
    (λ is. command-words word options command (answered (asked_command word options) command is)) e

pub words-ask : (command : ProgramCommand) (words : List (List ℕ)) → asked words ≡ Some (Answer command)
    ↔ ((words ≡ words_of command) × HasNames command)
words-ask command words = (words-asked words command, λ is. ap asked is.0 ∙ asked-words command is.1)

-- ---- a service that is asked for
least : (from most : ℕ) (word : List ℕ) (number : ℕ) → number_within from most word ≡ Some number → from ≤ number
least from most word number e = elim (cases_Bool (is_number_within from most word)) [
  | inr f ↦ absurd (none-some number (let h = rw f at e in h))
  | inl t ↦
      let parts = and_parts (bytes_eq word (decimal (digits_value 10 word))) _ t in
      let bounds = and_parts (nat_le from (digits_value 10 word)) _ parts.1 in
      let same : digits_value 10 word ≡ number = same_Some (digits_value 10 word) number (let h = rw t at e in h) in
      let low : nat_le from (digits_value 10 word) ≡ true = bounds.0 in
      grind (arith, nat_tests)
]

made : (port links idle : Option ℕ) (layout : Option Layout) (service : Service)
    → service_of port links idle layout ≡ Some service
    → (links ≡ Some service.limits.links) × ((idle ≡ Some service.limits.idle) × (1 ≤ service.limits.events))
made None links idle layout service e = absurd (none-some service e)
made (Some port) None idle layout service e = absurd (none-some service e)
made (Some port) (Some links) None layout service e = absurd (none-some service e)
made (Some port) (Some links) (Some idle) None service e = absurd (none-some service e)
made (Some port) (Some links) (Some idle) (Some layout) service e =
    let same = same_Some _ service e in (
      ap (λ (s : Service). Some s.limits.links) same,
      (ap (λ (s : Service). Some s.limits.idle) same, subst (λ (s : Service). 1 ≤ s.limits.events) same (lit≤ tt)),
    )

service-is : (options : List (List ℕ)) (service : Service) → asked_service options ≡ Some service → IsService service
service-is [] service e = absurd (none-some service e)
service-is (port ∷ []) service e = absurd (none-some service e)
service-is (port ∷ links ∷ []) service e = absurd (none-some service e)
service-is (port ∷ links ∷ idle ∷ options) service e =
    let is = made (number_within 1 65535 port) (number_within 1 1024 links) (number_within 1 4294967295 idle)
    (asked_layout options) service e in
    record {
      links = least 1 1024 links service.limits.links is.0;
      idle = least 1 4294967295 idle service.limits.idle is.1.0;
      events = is.1.1;
    }

pub asked-service : (words : List (List ℕ)) (service : Service) → asked words ≡ Some (Serve service) → IsService service
asked-service [] service e = absurd (none-some (Serve service) e)
asked-service (word ∷ options) service e =
    by-word word (asked_room options) (option_map Drilled (asked_drill options))
    (option_map Answer (asked_command word options))
    (Some (Serve service)) (IsService service)
    (λ is t. service-is options service (room-served (asked_service options) (asked_keeping options) service is))
    (λ is. absurd (differs Drilled service Serve (asked_drill options) (λ drill e. cc) is))
    (λ is. absurd (differs Answer service Serve (asked_command word options) (λ command e. cc) is)) e

-- ---- a durable room that is asked for
made-kept : (port links idle : Option ℕ) (begins : Option Begins) (keeping : Keeping)
    → keeping_of port links idle begins ≡ Some keeping
    → (links ≡ Some keeping.limits.links) × ((idle ≡ Some keeping.limits.idle) × (1 ≤ keeping.limits.events))
made-kept None links idle begins keeping e = absurd (none-some keeping e)
made-kept (Some port) None idle begins keeping e = absurd (none-some keeping e)
made-kept (Some port) (Some links) None begins keeping e = absurd (none-some keeping e)
made-kept (Some port) (Some links) (Some idle) None keeping e = absurd (none-some keeping e)
made-kept (Some port) (Some links) (Some idle) (Some begins) keeping e =
    let same = same_Some _ keeping e in (
      ap (λ (k : Keeping). Some k.limits.links) same,
      (ap (λ (k : Keeping). Some k.limits.idle) same, subst (λ (k : Keeping). 1 ≤ k.limits.events) same (lit≤ tt)),
    )

keeping-is : (options : List (List ℕ)) (keeping : Keeping) → asked_keeping options ≡ Some keeping → IsKeeping keeping
keeping-is [] keeping e = absurd (none-some keeping e)
keeping-is (port ∷ []) keeping e = absurd (none-some keeping e)
keeping-is (port ∷ links ∷ []) keeping e = absurd (none-some keeping e)
keeping-is (port ∷ links ∷ idle ∷ []) keeping e = absurd (none-some keeping e)
keeping-is (port ∷ links ∷ idle ∷ word ∷ []) keeping e =
    let is = made-kept (number_within 1 65535 port) (number_within 1 1024 links) (number_within 1 4294967295 idle)
    (asked_begins word) keeping e in
    record {
      links = least 1 1024 links keeping.limits.links is.0;
      idle = least 1 4294967295 idle keeping.limits.idle is.1.0;
      events = is.1.1;
    }
keeping-is (port ∷ links ∷ idle ∷ word ∷ next ∷ more) keeping e = absurd (none-some keeping e)

pub asked-keeping : (words : List (List ℕ)) (keeping : Keeping) → asked words ≡ Some (Keep keeping) → IsKeeping keeping
asked-keeping [] keeping e = absurd (none-some (Keep keeping) e)
asked-keeping (word ∷ options) keeping e =
    by-word word (asked_room options) (option_map Drilled (asked_drill options))
    (option_map Answer (asked_command word options))
    (Some (Keep keeping)) (IsKeeping keeping)
    (λ is t. keeping-is options keeping (room-kept (asked_service options) (asked_keeping options) keeping is))
    (λ is. absurd (differs Drilled keeping Keep (asked_drill options) (λ drill e. cc) is))
    (λ is. absurd (differs Answer keeping Keep (asked_command word options) (λ command e. cc) is)) e

-- ---- a drill that is asked for
greatest : (from most : ℕ) (word : List ℕ) (number : ℕ) → number_within from most word ≡ Some number → number ≤ most
greatest from most word number e = elim (cases_Bool (is_number_within from most word)) [
  | inr f ↦ absurd (none-some number (let h = rw f at e in h))
  | inl t ↦
      let parts = and_parts (bytes_eq word (decimal (digits_value 10 word))) _ t in
      let bounds = and_parts (nat_le from (digits_value 10 word)) _ parts.1 in
      let same : digits_value 10 word ≡ number = same_Some (digits_value 10 word) number (let h = rw t at e in h) in
      let high : nat_le (digits_value 10 word) most ≡ true = bounds.1 in
      grind (arith, nat_tests)
]

drill-made : (seed events : Option ℕ) (drill : Drill) → drill_of seed events ≡ Some drill → (seed ≡ Some drill.seed)
    × (events ≡ Some drill.events)
drill-made None events drill e = absurd (none-some drill e)
drill-made (Some seed) None drill e = absurd (none-some drill e)
drill-made (Some seed) (Some events) drill e =
    let same = same_Some _ drill e in
    (ap (λ (d : Drill). Some d.seed) same, ap (λ (d : Drill). Some d.events) same)

drill-is : (options : List (List ℕ)) (drill : Drill) → asked_drill options ≡ Some drill → IsDrillWithinLimits drill
drill-is [] drill e = absurd (none-some drill e)
drill-is (seed ∷ []) drill e = absurd (none-some drill e)
drill-is (seed ∷ events ∷ []) drill e =
    let is = drill-made (number_within 0 9007199254740991 seed) (number_within 1 200000 events) drill e in
    record {
      seed = greatest 0 9007199254740991 seed drill.seed is.0;
      some = least 1 200000 events drill.events is.1;
      most = greatest 1 200000 events drill.events is.1;
    }
drill-is (seed ∷ events ∷ word ∷ more) drill e = absurd (none-some drill e)

pub asked-drill : (words : List (List ℕ)) (drill : Drill) → asked words ≡ Some (Drilled drill)
    → IsDrillWithinLimits drill
asked-drill [] drill e = absurd (none-some (Drilled drill) e)
asked-drill (word ∷ options) drill e =
    by-word word (asked_room options) (option_map Drilled (asked_drill options))
    (option_map Answer (asked_command word options))
    (Some (Drilled drill)) (IsDrillWithinLimits drill)
    (λ is t. absurd (room-differs drill Drilled (asked_service options) (asked_keeping options) (λ s e. cc) (λ k e. cc)
    is))
    (λ is. drill-is options drill (drilled (asked_drill options) drill is))
    (λ is. absurd (differs Answer drill Drilled (asked_command word options) (λ command e. cc) is)) e
