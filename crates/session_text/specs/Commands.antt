-- The commands of a session: by its name a command has these members, in this order. This project's
-- own.
use Rattle.std.specs.Prelude.{◌≡◌, ◌⊎◌, ℕ, List, Option, Some, Ok, Err, codes}
use Rattle.json_text.specs.Characters.{quote}
use Rattle.json_text.specs.Compact.{Member as Pair}
use Rattle.elem.specs.ElementValue.{ElementValue}
use Rattle.elem.specs.Forms.{IsText}
use Rattle.elem_read.specs.Reading.{IsElementIn, IsSelection, IsFaultIn}
use Rattle.elem_read.specs.declared.fault.ElemFault.{ElemFault}
use Rattle.elem_read.specs.declared.fault.ElemFault.TheVariants.{Kind}
use Rattle.clips.specs.Clips.{IsClipOf, IsClipFault}
use Rattle.clips.specs.declared.clip.Clip.{Clip}
use Rattle.clips.specs.declared.fault.ClipFault.{ClipFault}
use Rattle.board_commands.specs.declared.command.Command.{Command}
use Rattle.board_commands.specs.declared.command.Command.TheVariants as commands
use Rattle.board_commands.specs.declared.command.Side.{Side}
use Rattle.session_text.specs.Forms.{IsThere, IsShallow, AreIds, IsSide, IsSpot, IsRest}
use Rattle.session_text.specs.Reads.{Reading, MemberOf, Gives, Then}
use Rattle.session_text.specs.declared.command.Asked.{Asked}
use Rattle.session_text.specs.declared.command.Asked.TheVariants as asked
use Rattle.session_text.specs.declared.fault.TextFault.TheVariants.{Element}
use Rattle.session_text.specs.declared.fault.TextFault.TheVariants as faults
use Rattle.session_text.specs.declared.name.MemberName.{MemberName}
use Rattle.session_text.specs.declared.name.MemberName.TheVariants as names

-- the names of the commands
abbrev pub asked_text : Asked → List ℕ
asked_text asked.Create = quote (codes "create")
asked_text asked.Set = quote (codes "set")
asked_text asked.Delete = quote (codes "delete")
asked_text asked.Place = quote (codes "place")
asked_text asked.Bind = quote (codes "bind")
asked_text asked.Unbind = quote (codes "unbind")
asked_text asked.Label = quote (codes "label")
asked_text asked.Unlabel = quote (codes "unlabel")
asked_text asked.Frame = quote (codes "frame")
asked_text asked.Unframe = quote (codes "unframe")
asked_text asked.Group = quote (codes "group")
asked_text asked.Ungroup = quote (codes "ungroup")
asked_text asked.Duplicate = quote (codes "duplicate")
asked_text asked.Paste = quote (codes "paste")

abbrev pub IsAsked : Option (List ℕ) → Asked → Type 0
IsAsked found name = found ≡ Some (asked_text name)

-- The value is this element. Its fault is told with the place 0, and one of type `selection` has a
-- fault of its type.
abbrev pub IsDrawnAs : List ℕ → Reading ElementValue
IsDrawnAs value (Ok e) = IsElementIn value e
IsDrawnAs value (Err fault) =
    (why : ElemFault) × (fault ≡ Element 0 why)
    × (IsFaultIn value why ⊎ (IsSelection value × (why ≡ Kind)))

-- The value is this clip.
abbrev pub IsClipIn : List ℕ → Reading Clip
IsClipIn value (Ok clip) = IsClipOf value clip
IsClipIn value (Err fault) = (why : ClipFault) × (fault ≡ faults.Clip why) × IsClipFault value why

-- ---- members of commands
abbrev pub TextOf : MemberName → List Pair → Reading (List ℕ)
TextOf name members answer = MemberOf name IsText members answer

abbrev pub ElementOf : List Pair → Reading ElementValue
ElementOf members answer = Then (MemberOf names.Element IsThere members) IsDrawnAs answer

abbrev pub ClipOf : List Pair → Reading Clip
ClipOf members answer = Then (MemberOf names.Clip IsThere members) IsClipIn answer

abbrev pub IdsOf : List Pair → Reading (List (List ℕ))
IdsOf members answer = MemberOf names.Ids AreIds members answer

-- the ids, and the text of this name
abbrev pub IdsAnd : MemberName → List Pair → Reading (List (List ℕ) × List ℕ)
IdsAnd name members answer =
    Then (IdsOf members) (λ ids. Then (TextOf name members) (λ text. Gives (ids, text))) answer

-- an arrow and an end of it
abbrev pub EndOf : List Pair → Reading (List ℕ × Side)
EndOf members answer =
    Then (TextOf names.Arrow members) (λ arrow. Then (MemberOf names.End IsSide members)
    (λ side. Gives (arrow, side))) answer

-- ---- the commands
abbrev pub CommandNamed : List Pair → Asked → Reading Command
CommandNamed members asked.Create answer =
    Then (ElementOf members) (λ e. Then (MemberOf names.Spot IsSpot members)
    (λ spot. Gives (commands.Create e spot))) answer
CommandNamed members asked.Set answer =
    Then (TextOf names.Id members) (λ id. Then (TextOf names.Member members) (λ name.
    Then (MemberOf names.Value IsShallow members) (λ value. Gives (commands.Set id name value))))
    answer
CommandNamed members asked.Delete answer =
    Then (IdsOf members) (λ ids. Gives (commands.Delete ids)) answer
CommandNamed members asked.Place answer =
    Then (TextOf names.Id members) (λ id. Then (MemberOf names.Spot IsSpot members)
    (λ spot. Gives (commands.Place id spot))) answer
CommandNamed members asked.Bind answer =
    Then (EndOf members) (λ bound. Then (TextOf names.Target members) (λ target.
    Then (MemberOf names.Binding IsRest members)
    (λ rest. Gives (commands.Bind bound.0 bound.1 target rest)))) answer
CommandNamed members asked.Unbind answer =
    Then (EndOf members) (λ bound. Gives (commands.Unbind bound.0 bound.1)) answer
CommandNamed members asked.Label answer =
    Then (TextOf names.Container members)
    (λ container. Then (TextOf names.Text members) (λ text. Gives (commands.Label container text)))
    answer
CommandNamed members asked.Unlabel answer =
    Then (TextOf names.Text members) (λ text. Gives (commands.Unlabel text)) answer
CommandNamed members asked.Frame answer =
    Then (IdsAnd names.Frame members) (λ framed. Gives (commands.Frame framed.0 framed.1)) answer
CommandNamed members asked.Unframe answer =
    Then (IdsOf members) (λ ids. Gives (commands.Unframe ids)) answer
CommandNamed members asked.Group answer =
    Then (IdsAnd names.Group members) (λ grouped. Gives (commands.Group grouped.0 grouped.1)) answer
CommandNamed members asked.Ungroup answer =
    Then (IdsAnd names.Group members) (λ grouped. Gives (commands.Ungroup grouped.0 grouped.1))
    answer
CommandNamed members asked.Duplicate answer =
    Then (IdsAnd names.Prefix members) (λ copied. Then (MemberOf names.Spot IsSpot members)
    (λ spot. Gives (commands.Duplicate copied.0 copied.1 spot))) answer
CommandNamed members asked.Paste answer =
    Then (ClipOf members) (λ clip. Then (TextOf names.Prefix members) (λ prefix.
    Then (MemberOf names.Spot IsSpot members)
    (λ spot. Gives (commands.Paste clip.elements prefix spot)))) answer

-- The members of a command say this command.
abbrev pub CommandOf : List Pair → Reading Command
CommandOf members answer = Then (MemberOf names.Name IsAsked members) (CommandNamed members) answer
