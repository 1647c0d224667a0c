-- What a command makes of an element is one.
use Rattle.std.proofs.Common.{◌≡◌, ℕ, Bool, true, false, cond, not, ◌&&◌, ◌||◌, List, [], ◌∷◌, ◌++◌, Option, Some, None, unwrap_or, IfSome, bytes_eq, if◌then◌else◌, refl, IsUtf8, arith}
use Rattle.std.specs.List.{AllByRecursion}
use Rattle.std.proofs.ByRecursion.{All-append, all_kept_by}
use Rattle.std.proofs.lemmas.Bool.{and_parts, false≢true}
use Rattle.json_text.specs.Compact.{Member as Pair}
use Rattle.json_text.specs.Tree.{null_word}
use Rattle.json_text.specs.Value.{IsCompact}
use Rattle.json_text.specs.declared.text.Member.{Member}
use Rattle.scene_json.specs.Named.{value_at}
use Rattle.restore_table.specs.Table.{defaults}
use Rattle.restore_table.proofs.CallerLemmas.{defaults-compact}
use Rattle.elem.specs.declared.kind.Kind.{Kind}
use Rattle.elem.specs.declared.kind.Kind.TheVariants as kinds
use Rattle.elem.specs.declared.parts.BoundRef.{BoundRef}
use Rattle.elem.specs.declared.parts.Binding.{Binding}
use Rattle.elem.specs.ElementValue.{ElementValue}
use Rattle.elem.specs.Facts.{IsBinding, AllNest, names}
use Rattle.elem.specs.Said.{IsBindingText}
use Rattle.delta.specs.Rest.{with_value}
use Rattle.delta.proofs.CallerLemmas.{each-with_value}
use Rattle.elem.specs.Listings.{same_listing_entry}
use Rattle.links.specs.Entries.{arrow_entry, text_entry, lists}
use Rattle.links.specs.Names.{is_id, is_arrow, is_text, target_of}
use Rattle.links.specs.Tables.{with_listing_entry}
use Rattle.links.specs.Texts.{is_for_text}
use Rattle.index_repair.specs.Keyed.{HaveRisingKeys}
use Rattle.elem.proofs.CallerLemmas.{IsKept, AreKept, HasText, IsEnd, with_parts, with_deleted, with_index, with_groups, with_frame, with_bound, with_container, with_start, with_end'}
use Rattle.board_commands.specs.declared.command.Command.{Command}
use Rattle.board_commands.specs.declared.command.Command.TheVariants as commands
use Rattle.board_commands.specs.declared.command.Side.{Side}
use Rattle.board_commands.specs.declared.command.Side.TheVariants.{Start, End}
use Rattle.effects.specs.Copying.{settled_for, shown_among}
use Rattle.effects.specs.Deleting.{kept_name, kept_entries, kept_end, without_names, deleted_from}
use Rattle.effects.specs.Effects.{effect, with_group, without_group}
use Rattle.board_commands.specs.Limits.{IsRest, IsWithinLimits}
use Rattle.effects.specs.Linking.{without_listing_entry, listed, unlisted, with_end, with_end_of, old_target, old_container, with_container_of, without_other_texts, with_text_alone, with_text_of, without_container_of}
use Rattle.elem_store.specs.Updates.{is_among}
use Rattle.effects.specs.Naming.{is_some_that, apart_from}
use Rattle.effects.specs.Placing.{with_view_key, settled_key, key_at, key_in}
use Rattle.effects.specs.Refusals.{guarded}
use Rattle.effects.specs.Settings.{is_protected, given_value, with_set_member}
use Rattle.effects.proofs.CallerLemmas.{nests-more, free-header, refusal_if-none}
use Rattle.board_commands.specs.Written.{IsWrittenCommand}
use Rattle.effect_laws.proofs.PartLaws.{with_rest}
use Rattle.effect_laws.proofs.SpotLaws.{settled_key-is, key_at-is, key_in-is}

chosen : (b : Bool) (x y : ElementValue) → (b ≡ true → IsKept x) → IsKept y → IsKept (if b then x else y)
chosen true x y p q = p refl
chosen false x y p q = q

unless : {X : Type 0} (P : X → Type 0) (b : Bool) (o : Option X) → IfSome o P → IfSome (if b then None else o) P
unless P true o is = tt
unless P false o is = is

-- ---- keys
with_view_key-kept : (shown : List ElementValue) (e : ElementValue) → AreKept shown → IsKept e
    → IsKept (with_view_key shown e)
with_view_key-kept shown e all kept = with_index e kept (settled_key shown e) (settled_key-is shown e all kept)

-- ---- members
or-compact : (o : Option (List ℕ)) (value : List ℕ) → IfSome o (IsCompact 1) → IsCompact 100 value
    → IsCompact 119 (unwrap_or o value)
or-compact None value is own = nests-more 100 119 value (omega arith) own
or-compact (Some default') value is own = nests-more 1 119 default' (omega arith) is

either-compact : (b : Bool) (x y : List ℕ) → IsCompact 119 x → IsCompact 119 y → IsCompact 119 (if b then x else y)
either-compact true x y p q = p
either-compact false x y p q = q

found-compact : (name : List ℕ) (rows : List Pair) → AllByRecursion (λ (row : Pair). IsCompact 1 row.1) rows
    → IfSome (value_at name rows) (IsCompact 1)
found-compact name [] all = tt
found-compact name (row ∷ rows) all =
    elim (bytes_eq name row.0) as (λ (b : Bool). IfSome (cond b (Some row.1) (value_at name rows)) (IsCompact 1))
    [ true ↦ all.0 | false ↦ found-compact name rows all.1 ]

given-compact : (name value : List ℕ) → IsCompact 100 value → IsCompact 119 (given_value name value)
given-compact name value is =
    either-compact (bytes_eq value null_word) (unwrap_or (value_at name defaults) value) value
    (or-compact (value_at name defaults) value (found-compact name defaults defaults-compact) is)
    (nests-more 100 119 value (omega arith) is)

abbrev HasName : Member → Type 0
HasName m = IsUtf8 m.name

members-named : (ms : List Member) → AllByRecursion IsUtf8 (names ms) → AllByRecursion HasName ms
members-named [] all = tt
members-named (m ∷ ms) all = (all.0, members-named ms all.1)

names-written : (ms : List Member) → AllByRecursion HasName ms → AllByRecursion IsUtf8 (names ms)
names-written [] all = tt
names-written (m ∷ ms) all = (all.0, names-written ms all.1)

with_set_member-kept : (name value : List ℕ) (e : ElementValue) → is_protected name ≡ false → IsCompact 100 value
    → IsUtf8 name → IsKept e → IsKept (with_set_member name value e)
with_set_member-kept name value e free compact text kept =
    let given = given_value name value in
    with_rest e kept name given (free-header e.kind name free) (given-compact name value compact)
    (names-written (with_value name (Some given) e.rest) (each-with_value HasName name (Some given) e.rest (
      text,
      tt,
    ) (members-named e.rest kept.written.rest)))

-- ---- what is deleted
deleted_from-kept : (is_gone : List ℕ → Bool) (e : ElementValue) → IsKept e → IsKept (deleted_from is_gone e)
deleted_from-kept is_gone e kept =
    let a = kept.element in
    let w = kept.written in
    chosen (is_gone e.id) (record e { deleted = true }) (without_names is_gone e) (λ _. with_deleted e kept true)
    (with_parts e kept e.deleted e.index e.groups (kept_name is_gone e.frame) (kept_entries is_gone e.bound)
    (kept_name is_gone e.container) (kept_end is_gone e.start_binding) (kept_end is_gone e.end_binding)
    w.index w.groups (unless IsUtf8 (is_some_that is_gone e.frame) e.frame w.frame)
    (all_kept_by (λ (entry : BoundRef). not (is_gone entry.id)) HasText e.bound w.bound)
    (unless _ (is_some_that is_gone e.container) e.container a.container)
    (unless IsUtf8 (is_some_that is_gone e.container) e.container w.container)
    (unless _ (is_some_that is_gone (target_of e.start_binding)) e.start_binding a.start_binding)
    (unless IsBindingText (is_some_that is_gone (target_of e.start_binding)) e.start_binding w.start_binding)
    (unless _ (is_some_that is_gone (target_of e.end_binding)) e.end_binding a.end_binding)
    (unless IsBindingText (is_some_that is_gone (target_of e.end_binding)) e.end_binding w.end_binding))

-- ---- listings
with_listing_entry-text : (entry : BoundRef) (entries : List BoundRef) → IsUtf8 entry.id
    → AllByRecursion HasText entries → AllByRecursion HasText (with_listing_entry entries entry)
with_listing_entry-text entry entries text all =
    elim (lists entries entry) as (λ (b : Bool). AllByRecursion HasText (if b then entries else entries ++ entry
    ∷ [])) [
      | true ↦ all
      | false ↦ All-append HasText entries (entry ∷ []) all (text, tt)
    ]

listed-kept : (id : Option (List ℕ)) (entry : BoundRef) (e : ElementValue) → IsUtf8 entry.id → IsKept e
    → IsKept (listed id entry e)
listed-kept id entry e text kept =
    chosen (is_id e.id id) (record e { bound = with_listing_entry e.bound entry }) e
    (λ _. with_bound e kept (with_listing_entry e.bound entry)
    (with_listing_entry-text entry e.bound text kept.written.bound)) kept

unlisted-kept : (id : Option (List ℕ)) (entry : BoundRef) (e : ElementValue) → IsKept e
    → IsKept (unlisted id entry e)
unlisted-kept id entry e kept =
    chosen (is_id e.id id) (record e { bound = without_listing_entry entry e.bound }) e
    (λ _. with_bound e kept (without_listing_entry entry e.bound)
    (all_kept_by (λ (other : BoundRef). not (same_listing_entry entry other)) HasText e.bound kept.written.bound))
    kept

-- ---- ends of arrows
arrow-kind : (kind : Kind) → is_arrow kind ≡ true → kind ≡ kinds.Arrow
arrow-kind kinds.Arrow h = refl
arrow-kind kinds.Rectangle h = absurd (false≢true h)
arrow-kind kinds.Diamond h = absurd (false≢true h)
arrow-kind kinds.Ellipse h = absurd (false≢true h)
arrow-kind kinds.Line h = absurd (false≢true h)
arrow-kind kinds.Freedraw h = absurd (false≢true h)
arrow-kind kinds.Text h = absurd (false≢true h)
arrow-kind kinds.Image h = absurd (false≢true h)
arrow-kind kinds.Frame h = absurd (false≢true h)
arrow-kind kinds.Magicframe h = absurd (false≢true h)
arrow-kind kinds.Iframe h = absurd (false≢true h)
arrow-kind kinds.Embeddable h = absurd (false≢true h)
arrow-kind (kinds.Other name) h = absurd (false≢true h)

end-of : (kind : Kind) (binding : Option Binding) → kind ≡ kinds.Arrow → IfSome binding IsBinding
    → IsEnd kind binding
end-of kind None arrow is = tt
end-of kind (Some binding) arrow is = (arrow, is)

with_end-kept : (side : Side) (binding : Option Binding) (e : ElementValue) → e.kind ≡ kinds.Arrow
    → IfSome binding IsBinding → IfSome binding IsBindingText → IsKept e → IsKept (with_end side binding e)
with_end-kept Start binding e arrow is text kept = with_start e kept binding (end-of e.kind binding arrow is) text
with_end-kept End binding e arrow is text kept = with_end' e kept binding (end-of e.kind binding arrow is) text

with_end_of-kept : (arrow : List ℕ) (side : Side) (binding : Option Binding) (e : ElementValue)
    → IfSome binding IsBinding → IfSome binding IsBindingText → IsKept e → IsKept (with_end_of arrow side binding e)
with_end_of-kept arrow side binding e is text kept =
    chosen (bytes_eq arrow e.id && is_arrow e.kind) (with_end side binding e) e
    (λ t. with_end-kept side binding e (arrow-kind e.kind (and_parts (bytes_eq arrow e.id) (is_arrow e.kind) t).1) is
    text kept) kept

nests : (ms : List Member) → AllNest 99 ms → AllNest 118 ms
nests [] all = tt
nests (m ∷ ms) all = (nests-more 99 118 m.value (omega arith) all.0, nests ms all.1)

binding-is : (target : List ℕ) (rest : List Member) → IsRest rest
    → IsBinding (record { target = target; rest = rest })
binding-is target rest is = record { rise = is.rise; free = is.free; nest = nests rest is.nest }

-- ---- texts in containers
text-kind : (kind : Kind) → is_text kind ≡ true → kind ≡ kinds.Text
text-kind kinds.Text h = refl
text-kind kinds.Rectangle h = absurd (false≢true h)
text-kind kinds.Diamond h = absurd (false≢true h)
text-kind kinds.Ellipse h = absurd (false≢true h)
text-kind kinds.Arrow h = absurd (false≢true h)
text-kind kinds.Line h = absurd (false≢true h)
text-kind kinds.Freedraw h = absurd (false≢true h)
text-kind kinds.Image h = absurd (false≢true h)
text-kind kinds.Frame h = absurd (false≢true h)
text-kind kinds.Magicframe h = absurd (false≢true h)
text-kind kinds.Iframe h = absurd (false≢true h)
text-kind kinds.Embeddable h = absurd (false≢true h)
text-kind (kinds.Other name) h = absurd (false≢true h)

with_container_of-kept : (text container : List ℕ) (e : ElementValue) → IsUtf8 container → IsKept e
    → IsKept (with_container_of text container e)
with_container_of-kept text container e written kept =
    chosen (bytes_eq text e.id && is_text e.kind) (record e { container = Some container })
    (if is_id container e.container then record e { container = None } else e)
    (λ t. with_container e kept (Some container)
    (text-kind e.kind (and_parts (bytes_eq text e.id) (is_text e.kind) t).1) written)
    (chosen (is_id container e.container) (record e { container = None }) e (λ _. with_container e kept None tt tt)
    kept)

with_text_of-kept : (text container : List ℕ) (e : ElementValue) → IsUtf8 text → IsKept e
    → IsKept (with_text_of text container e)
with_text_of-kept text container e written kept =
    chosen (bytes_eq container e.id) (record e { bound = with_text_alone text e.bound }) e
    (λ _. with_bound e kept (with_text_alone text e.bound)
    (with_listing_entry-text (text_entry text) (without_other_texts text e.bound) written
    (all_kept_by (λ (other : BoundRef). not (is_for_text other.role) || bytes_eq text other.id) HasText e.bound
    kept.written.bound)))
    kept

without_container_of-kept : (text : List ℕ) (e : ElementValue) → IsKept e → IsKept (without_container_of text e)
without_container_of-kept text e kept =
    chosen (bytes_eq text e.id) (record e { container = None }) e (λ _. with_container e kept None tt tt) kept

-- ---- groups
with_group-text : (group : List ℕ) (groups : List (List ℕ)) → IsUtf8 group → AllByRecursion IsUtf8 groups
    → AllByRecursion IsUtf8 (with_group group groups)
with_group-text group groups text all =
    elim (is_among groups group) as (λ (b : Bool). AllByRecursion IsUtf8 (if b then groups else groups ++ group
    ∷ [])) [
      | true ↦ all
      | false ↦ All-append IsUtf8 groups (group ∷ []) all (text, tt)
    ]

-- ---- keys that copies settle
settled_for-kept : (originals shown : List ElementValue) → AreKept shown → AreKept (settled_for originals shown)
settled_for-kept [] shown all = tt
settled_for-kept (e ∷ originals) shown all = all

-- ---- each command

pub effect-kept : (stored shown : List ElementValue) (command : Command) (e : ElementValue) → AreKept shown
    → HaveRisingKeys shown → IsWithinLimits command → IsWrittenCommand command → guarded command ≡ None → IsKept e
    → IsKept (effect stored shown command e)
effect-kept stored shown (commands.Create element spot) e all rise limits written free kept =
    with_view_key-kept shown e all kept
effect-kept stored shown (commands.Set id name value) e all rise limits written free kept =
    chosen (bytes_eq id e.id) (with_set_member name value e) e
    (λ _. with_set_member-kept name value e (refusal_if-none (is_protected name) _ free) limits written kept) kept
effect-kept stored shown (commands.Delete ids) e all rise limits written free kept =
    deleted_from-kept (is_among ids) e kept
effect-kept stored shown (commands.Place id spot) e all rise limits written free kept =
    let key = key_at shown spot (Some id) (key_in shown id) in
    chosen (bytes_eq id e.id) (record (with_view_key shown e) { index = key }) (with_view_key shown e)
    (λ _. with_index (with_view_key shown e) (with_view_key-kept shown e all kept) key
    (key_at-is shown spot (Some id) (key_in shown id) all rise (key_in-is shown id all)))
    (with_view_key-kept shown e all kept)
effect-kept stored shown (commands.Bind arrow side target rest) e all rise limits written free kept =
    let binding : Option Binding = Some (record { target = target; rest = rest }) in
    let ended = with_end_of arrow side binding e in
    unlisted-kept (apart_from (Some target) (old_target stored arrow side)) (arrow_entry arrow)
    (listed (Some target) (arrow_entry arrow) ended)
    (listed-kept (Some target) (arrow_entry arrow) ended written.0
    (with_end_of-kept arrow side binding e (binding-is target rest limits)
    (record { target = written.1; rest = written.2 }) kept))
effect-kept stored shown (commands.Unbind arrow side) e all rise limits written free kept =
    unlisted-kept (apart_from None (old_target stored arrow side)) (arrow_entry arrow)
    (with_end_of arrow side None e)
    (with_end_of-kept arrow side None e tt tt kept)
effect-kept stored shown (commands.Label container text) e all rise limits written free kept =
    let named = with_container_of text container e in
    unlisted-kept (apart_from (Some container) (old_container stored text)) (text_entry text)
    (with_text_of text container named)
    (with_text_of-kept text container named written.1 (with_container_of-kept text container e written.0 kept))
effect-kept stored shown (commands.Unlabel text) e all rise limits written free kept =
    unlisted-kept (old_container stored text) (text_entry text) (without_container_of text e)
    (without_container_of-kept text e kept)
effect-kept stored shown (commands.Frame ids frame) e all rise limits written free kept =
    chosen (is_among ids e.id) (record e { frame = Some frame }) e (λ _. with_frame e kept (Some frame) written) kept
effect-kept stored shown (commands.Unframe ids) e all rise limits written free kept =
    chosen (is_among ids e.id) (record e { frame = None }) e (λ _. with_frame e kept None tt) kept
effect-kept stored shown (commands.Group ids group) e all rise limits written free kept =
    chosen (is_among ids e.id) (record e { groups = with_group group e.groups }) e
    (λ _. with_groups e kept (with_group group e.groups)
    (with_group-text group e.groups written kept.written.groups))
    kept
effect-kept stored shown (commands.Ungroup ids group) e all rise limits written free kept =
    chosen (is_among ids e.id) (record e { groups = without_group group e.groups }) e
    (λ _. with_groups e kept (without_group group e.groups)
    (all_kept_by (λ other. not (bytes_eq group other)) IsUtf8 e.groups kept.written.groups)) kept
effect-kept stored shown (commands.Duplicate ids prefix spot) e all rise limits written free kept =
    with_view_key-kept (settled_for (shown_among ids shown) shown) e
    (settled_for-kept (shown_among ids shown) shown all) kept
effect-kept stored shown (commands.Paste elements prefix spot) e all rise limits written free kept =
    with_view_key-kept (settled_for elements shown) e (settled_for-kept elements shown all) kept
