-- No effect and no command changes an element's id, kind, version or file.
use Rattle.std.proofs.Common.{◌≡◌, ℕ, Bool, true, false, ◌&&◌, List, Option, Some, None, bytes_eq, if◌then◌else◌, nat_cmp, refl, ◌∙◌}
use Rattle.std.specs.BTreeSet.{contains}
use Rattle.std.specs.Cmp.Lexicographic.{slice_cmp}
use Rattle.elem.specs.declared.kind.Kind.{Kind}
use Rattle.elem.specs.declared.parts.BoundRef.{BoundRef}
use Rattle.elem.specs.declared.parts.Binding.{Binding}
use Rattle.elem.specs.ElementValue.{ElementValue}
use Rattle.links.specs.Entries.{arrow_entry, text_entry}
use Rattle.links.specs.Names.{is_id, is_arrow, is_text, target_of}
use Rattle.links.specs.Tables.{with_listing_entry}
use Rattle.board_commands.specs.declared.command.Command.{Command}
use Rattle.board_commands.specs.declared.command.Command.TheVariants as commands
use Rattle.board_commands.specs.declared.command.Side.{Side}
use Rattle.board_commands.specs.declared.command.Side.TheVariants.{Start, End}
use Rattle.effects.specs.declared.effect.Effect.{Effect}
use Rattle.effects.specs.declared.effect.Effect.TheVariants as effects
use Rattle.effects.specs.Deleting.{without_names}
use Rattle.effects.specs.Effects.{effect, with_group, without_group}
use Rattle.effects.specs.Linking.{listed, unlisted, without_listing_entry, with_end, with_end_of, with_container_of, with_text_of, with_text_alone, without_container_of, bound_to, old_target, old_container}
use Rattle.elem_store.specs.Updates.{is_among}
use Rattle.effects.specs.Naming.{apart_from}
use Rattle.effects.specs.Placing.{with_view_key, key_at, key_in}
use Rattle.effects.specs.inner.Prepared.{made_by, settled_in}
use Rattle.effects.specs.Settings.{with_set_member}

-- what an element is
pub record Self : Type 0 where
  pub id : List ℕ
  pub kind : Kind
  pub version : ℕ
  pub file : Option (List ℕ)

abbrev pub self_of : ElementValue → Self
self_of e = record { id = e.id; kind = e.kind; version = e.version; file = e.file }

one_of : (b : Bool) (e x y : ElementValue) → self_of x ≡ self_of e → self_of y ≡ self_of e
    → self_of (if b then x else y) ≡ self_of e
one_of true e x y p q = p
one_of false e x y p q = q

with_end-keeps : (side : Side) (binding : Option Binding) (e : ElementValue)
    → self_of (with_end side binding e) ≡ self_of e
with_end-keeps Start binding e = refl
with_end-keeps End binding e = refl

pub listed-keeps : (id : Option (List ℕ)) (entry : BoundRef) (e : ElementValue)
    → self_of (listed id entry e) ≡ self_of e
listed-keeps id entry e = one_of (is_id e.id id) e (record e { bound = with_listing_entry e.bound entry }) e refl refl

unlisted-keeps : (id : Option (List ℕ)) (entry : BoundRef) (e : ElementValue)
    → self_of (unlisted id entry e) ≡ self_of e
unlisted-keeps id entry e =
    one_of (is_id e.id id) e (record e { bound = without_listing_entry entry e.bound }) e refl refl

pub with_end_of-keeps : (arrow : List ℕ) (side : Side) (binding : Option Binding) (e : ElementValue)
    → self_of (with_end_of arrow side binding e) ≡ self_of e
with_end_of-keeps arrow side binding e =
    one_of (bytes_eq arrow e.id && is_arrow e.kind) e (with_end side binding e) e (with_end-keeps side binding e) refl

pub with_container_of-keeps : (text container : List ℕ) (e : ElementValue)
    → self_of (with_container_of text container e) ≡ self_of e
with_container_of-keeps text container e =
    one_of (bytes_eq text e.id && is_text e.kind) e (record e { container = Some container })
    (if is_id container e.container then record e { container = None } else e) refl
    (one_of (is_id container e.container) e (record e { container = None }) e refl refl)

pub with_text_of-keeps : (text container : List ℕ) (e : ElementValue)
    → self_of (with_text_of text container e) ≡ self_of e
with_text_of-keeps text container e =
    one_of (bytes_eq container e.id) e (record e { bound = with_text_alone text e.bound }) e refl refl

pub without_container_of-keeps : (text : List ℕ) (e : ElementValue) → self_of (without_container_of text e) ≡ self_of e
without_container_of-keeps text e = one_of (bytes_eq text e.id) e (record e { container = None }) e refl refl

pub made_by-keeps : (effect : Effect) (e : ElementValue) → self_of (made_by effect e) ≡ self_of e
made_by-keeps (effects.Settle keys) e = refl
made_by-keeps (effects.Place keys id key) e =
    one_of (bytes_eq id e.id) e (record (settled_in keys e) { index = key }) (settled_in keys e) refl refl
made_by-keeps (effects.Set id name value) e = one_of (bytes_eq id e.id) e (with_set_member name value e) e refl refl
made_by-keeps (effects.Delete ids) e =
    one_of (contains (slice_cmp nat_cmp) ids e.id) e (record e { deleted = true })
    (without_names (contains (slice_cmp nat_cmp) ids) e) refl refl
made_by-keeps (effects.Link link) e =
    unlisted-keeps link.old link.entry (listed (target_of link.binding) link.entry
    (with_end_of link.arrow link.side link.binding e))
    ∙ listed-keeps (target_of link.binding) link.entry (with_end_of link.arrow link.side link.binding e)
    ∙ with_end_of-keeps link.arrow link.side link.binding e
made_by-keeps (effects.Label label) e =
    unlisted-keeps label.old label.entry
    (with_text_of label.text label.container (with_container_of label.text label.container e))
    ∙ with_text_of-keeps label.text label.container (with_container_of label.text label.container e)
    ∙ with_container_of-keeps label.text label.container e
made_by-keeps (effects.Unlabel text old entry) e =
    unlisted-keeps old entry (without_container_of text e) ∙ without_container_of-keeps text e
made_by-keeps (effects.Frame ids frame) e =
    one_of (contains (slice_cmp nat_cmp) ids e.id) e (record e { frame = frame }) e refl refl
made_by-keeps (effects.Group ids group) e =
    one_of (contains (slice_cmp nat_cmp) ids e.id) e (record e { groups = with_group group e.groups }) e refl refl
made_by-keeps (effects.Ungroup ids group) e =
    one_of (contains (slice_cmp nat_cmp) ids e.id) e (record e { groups = without_group group e.groups }) e refl refl

bound_to-keeps : (arrow : List ℕ) (side : Side) (binding : Option Binding) (old : Option (List ℕ)) (e : ElementValue)
    → self_of (bound_to arrow side binding old e) ≡ self_of e
bound_to-keeps arrow side binding old e =
    unlisted-keeps (apart_from (target_of binding) old) (arrow_entry arrow)
    (listed (target_of binding) (arrow_entry arrow) (with_end_of arrow side binding e))
    ∙ listed-keeps (target_of binding) (arrow_entry arrow) (with_end_of arrow side binding e)
    ∙ with_end_of-keeps arrow side binding e

pub effect-keeps : (stored shown : List ElementValue) (command : Command) (e : ElementValue)
    → self_of (effect stored shown command e) ≡ self_of e
effect-keeps stored shown (commands.Create element spot) e = refl
effect-keeps stored shown (commands.Set id name value) e =
    one_of (bytes_eq id e.id) e (with_set_member name value e) e refl refl
effect-keeps stored shown (commands.Delete ids) e =
    one_of (is_among ids e.id) e (record e { deleted = true }) (without_names (is_among ids) e) refl refl
effect-keeps stored shown (commands.Place id spot) e =
    one_of (bytes_eq id e.id) e (record (with_view_key shown e) {
      index =
          key_at shown spot (Some id) (key_in shown id);
    }) (with_view_key shown e) refl refl
effect-keeps stored shown (commands.Bind arrow side target rest) e =
    bound_to-keeps arrow side (Some (record { target = target; rest = rest })) (old_target stored arrow side) e
effect-keeps stored shown (commands.Unbind arrow side) e =
    bound_to-keeps arrow side None (old_target stored arrow side) e
effect-keeps stored shown (commands.Label container text) e =
    let old = apart_from (Some container) (old_container stored text) in
    unlisted-keeps old (text_entry text) (with_text_of text container (with_container_of text container e))
    ∙ with_text_of-keeps text container (with_container_of text container e)
    ∙ with_container_of-keeps text container e
effect-keeps stored shown (commands.Unlabel text) e =
    unlisted-keeps (old_container stored text) (text_entry text) (without_container_of text e)
    ∙ without_container_of-keeps text e
effect-keeps stored shown (commands.Frame ids frame) e =
    one_of (is_among ids e.id) e (record e { frame = Some frame }) e refl refl
effect-keeps stored shown (commands.Unframe ids) e =
    one_of (is_among ids e.id) e (record e { frame = None }) e refl refl
effect-keeps stored shown (commands.Group ids group) e =
    one_of (is_among ids e.id) e (record e { groups = with_group group e.groups }) e refl refl
effect-keeps stored shown (commands.Ungroup ids group) e =
    one_of (is_among ids e.id) e (record e { groups = without_group group e.groups }) e refl refl
effect-keeps stored shown (commands.Duplicate ids prefix spot) e = refl
effect-keeps stored shown (commands.Paste elements prefix spot) e = refl
