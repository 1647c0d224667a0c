-- Commands, with what they look up on the board. Only contracts of private functions cite this.
use Rattle.std.specs.Prelude.{◌≡◌, ℕ, List, true, false, Option, IfSome, Contains, filter, bytes_eq, if◌then◌else◌}
use Rattle.std.specs.BTreeMap.{BTreeMap, get}
use Rattle.std.specs.BTreeSet.{BTreeSet, contains}
use Rattle.std.specs.Cmp.Lexicographic.{slice_cmp}
use Rattle.std.specs.Option.{option_map, unwrap_or}
use Rattle.std.specs.Ordering.{nat_cmp}
use Rattle.elem.specs.declared.parts.BoundRef.{BoundRef}
use Rattle.elem.specs.ElementValue.{ElementValue}
use Rattle.elem.specs.Facts.{IsBinding}
use Rattle.json_text.specs.Value.{IsCompact}
use Rattle.links.specs.Entries.{text_entry}
use Rattle.elem_store.specs.Updates.{element_of, is_among}
use Rattle.links.specs.Names.{target_of}
use Rattle.index_repair.specs.Keyed.{index_of}
use Rattle.effects.specs.declared.effect.Effect.{Effect}
use Rattle.effects.specs.declared.effect.Effect.TheVariants as effects
use Rattle.effects.specs.declared.linking.Link.{Link}
use Rattle.effects.specs.declared.linking.Label.{Label}
use Rattle.view.specs.Shown.{is_live}
use Rattle.effects.specs.inner.Concerning.{DeletesLive}
use Rattle.effects.specs.Deleting.{deleted_from}
use Rattle.board_commands.specs.declared.command.Command.{Command}
use Rattle.effects.specs.Effects.{effect, with_group, without_group}
use Rattle.effects.specs.Linking.{listed, unlisted, with_end_of, with_container_of, with_text_of, without_container_of}
use Rattle.effects.specs.Placing.{with_key_of}
use Rattle.effects.specs.Settings.{with_set_member, is_protected}

-- The map has the keys of the elements by their ids; of one id the first counts.
abbrev pub HasKeys : BTreeMap (List ℕ) (Option (List ℕ)) → List ElementValue → Type 0
HasKeys keys elements =
    (id : List ℕ) → get (slice_cmp nat_cmp) keys id ≡ option_map index_of (element_of elements id)

-- those of the elements that are of these ids
abbrev pub elements_among : BTreeSet (List ℕ) → List ElementValue → List ElementValue
elements_among ids elements =
    filter (λ (e : ElementValue). contains (slice_cmp nat_cmp) ids e.id) elements

-- the element with its key among these
abbrev pub settled_in : BTreeMap (List ℕ) (Option (List ℕ)) → ElementValue → ElementValue
settled_in keys e = record e { index = unwrap_or (get (slice_cmp nat_cmp) keys e.id) e.index }

-- the element after an end of an arrow was bound
abbrev pub linked : Link → ElementValue → ElementValue
linked link e =
    unlisted link.old link.entry (listed (target_of link.binding) link.entry
    (with_end_of link.arrow link.side link.binding e))

-- the element after a text got a container, and after it lost its own
abbrev pub put_in : Label → ElementValue → ElementValue
put_in label e =
    unlisted label.old label.entry (with_text_of label.text label.container
    (with_container_of label.text label.container e))

abbrev pub taken_out : List ℕ → Option (List ℕ) → BoundRef → ElementValue → ElementValue
taken_out text old entry e = unlisted old entry (without_container_of text e)

-- The set has these ids, and no other one.
abbrev pub HasIds : BTreeSet (List ℕ) → List (List ℕ) → Type 0
HasIds set ids = (id : List ℕ) → contains (slice_cmp nat_cmp) set id ≡ is_among ids id

-- what is made of an element
abbrev pub made_by : Effect → ElementValue → ElementValue
made_by (effects.Settle keys) e = settled_in keys e
made_by (effects.Place keys id key) e = with_key_of id key (settled_in keys e)
made_by (effects.Set id member value) e =
    if bytes_eq id e.id then with_set_member member value e else e
made_by (effects.Delete ids) e = deleted_from (contains (slice_cmp nat_cmp) ids) e
made_by (effects.Link link) e = linked link e
made_by (effects.Label label) e = put_in label e
made_by (effects.Unlabel text old entry) e = taken_out text old entry e
made_by (effects.Frame ids frame) e =
    if contains (slice_cmp nat_cmp) ids e.id then record e { frame = frame } else e
made_by (effects.Group ids group) e =
    if contains (slice_cmp nat_cmp) ids e.id then record e { groups = with_group group e.groups }
    else e
made_by (effects.Ungroup ids group) e =
    if contains (slice_cmp nat_cmp) ids e.id then record e { groups = without_group group e.groups }
    else e

-- What is set may be set, what is bound is a binding, and a text's entry is its own.
abbrev pub IsSoundEffect : Effect → Type 0
IsSoundEffect (effects.Set id member value) = (is_protected member ≡ false) × IsCompact 100 value
IsSoundEffect (effects.Link link) = IfSome link.binding IsBinding
IsSoundEffect (effects.Label label) = label.entry ≡ text_entry label.text
IsSoundEffect _ = Unit {0}

-- It makes of each live stored element what the command does, is sound, and deletes what is live.
pub record Prepares (stored shown : List ElementValue) (command : Command)
    (prepared : Effect) : Type 0 where
  pub exact : (e : ElementValue) → Contains stored e → is_live e ≡ true
      → made_by prepared e ≡ effect stored shown command e
  pub sound : IsSoundEffect prepared
  pub live : DeletesLive prepared stored
