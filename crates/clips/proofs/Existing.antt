-- Each compact text is that of a clip, or has a first fault.
use Rattle.std.proofs.Common.{◌≡◌, ◌≢◌, ◌⊎◌, inl, inr, ℕ, List, Option, Some, None, codes, refl, sym, subst, lit≤}
use Rattle.json_text.specs.Compact.{Member as Pair, object_text}
use Rattle.json_text.specs.Parts.{AreMembers}
use Rattle.json_text.specs.Value.{IsCompact}
use Rattle.json_text.proofs.CallerLemmas.{object-or-not}
use Rattle.scene_json.specs.Named.{value_at}
use Rattle.elem.specs.Forms.{IsObject}
use Rattle.elem_read.proofs.CallerLemmas.{Decided, fits-in, pairs-unpaired, read-or-faulty, unpaired}
use Rattle.scene_file.specs.Reading.{value_unless_null, HasItems, HasMembers}
use Rattle.scene_file.proofs.CallerLemmas.{fits-value_unless_null, is-text, items-compact, items-or-not, members-or-not}
use Rattle.clips.specs.Clips.{live_in, IsClipboard, IsClipOf, IsClipFault, IsClipWith}
use Rattle.clips.specs.Placed.{elements_in, places_in, first_repeat, AreReadFrom}
use Rattle.clips.specs.declared.clip.Clip.{Clip}
use Rattle.clips.specs.declared.fault.ClipFault.{ClipFault}
use Rattle.clips.specs.declared.fault.ClipFault.TheVariants.{NotObject, NotClip, Elements, Files, Element, Repeated}
use Rattle.clips.specs.declared.placed.Placed.{Placed}
use Rattle.clips.proofs.PlacedReading.{placed-of}

abbrev Told : List ℕ → Type 0
Told text = ((clip : Clip) × IsClipOf text clip) ⊎ ((fault : ClipFault) × IsClipFault text fault)

module _ (text : List ℕ) (members : List Pair) (are : AreMembers 127 members) (object : IsObject text members)
    (kind : IsClipboard members)
    (values : List (List ℕ)) (items : HasItems (value_unless_null (codes "elements") members) values)
    (files : List Pair) (table : HasMembers (value_unless_null (codes "files") members) files) where
  is-with : IsClipWith text members values
  is-with = record { object = object; kind = kind; items = items }

  with-placed : (placed : List Placed) → AreReadFrom 0 values placed → Told text
  with-placed placed read = by (first_repeat (live_in placed)) refl
    where
      by : (repeat : Option ℕ) → first_repeat (live_in placed) ≡ repeat → Told text
      by None distinct = inl (
        record { elements = elements_in (live_in placed); places = places_in (live_in placed); files = unpaired files },
        record {
          members = members;
          object = object;
          kind = kind;
          values = values;
          items = items;
          files = subst (HasMembers (value_unless_null (codes "files") members)) (sym (pairs-unpaired files)) table;
          placed = placed;
          read = read;
          distinct = distinct;
          elements = refl;
          places = refl;
        },
      )
      by (Some place) repeated =
          inr (Repeated place, (members, values, is-with, (files, table), (placed, read, repeated)))

  with-elements : Told text
  with-elements =
      elim (read-or-faulty values (items-compact (value_unless_null (codes "elements") members) values items)) [
        | inl (elements, read) ↦ let placed = placed-of 0 values elements read in with-placed placed.0 placed.1
        | inr (place, fault, faulty) ↦ inr (Element place fault, (members, values, is-with, (files, table), faulty))
      ]

pub clip-or-fault : (text : List ℕ) → IsCompact 128 text → ((clip : Clip) × IsClipOf text clip)
    ⊎ ((fault : ClipFault) × IsClipFault text fault)
clip-or-fault text is = by (object-or-not text is)
  where
    parts : (members : List Pair) → AreMembers 127 members → IsObject text members → IsClipboard members
        → Decided (HasItems (value_unless_null (codes "elements") members))
        → Decided (HasMembers (value_unless_null (codes "files") members)) → Told text
    parts members are object kind (inr none) entries = inr (Elements, (members, object, kind, none))
    parts members are object kind (inl (values, items)) (inr none) =
        inr (Files, (members, values, record { object = object; kind = kind; items = items }, none))
    parts members are object kind (inl (values, items)) (inl (files, table)) =
        with-elements text members are object kind values items files table

    by : ((members : List Pair) × AreMembers 127 members × (text ≡ object_text members))
        ⊎ ((members : List Pair) → text ≢ object_text members) → Told text
    by (inr none) = inr (NotObject, λ members object. none members object.spelled)
    by (inl (members, are, e)) =
        let object : IsObject text members = record { are_members = are; spelled = e } in
        elim (is-text (value_at (codes "type") members) (codes "excalidraw/clipboard")
        (fits-in 127 members (lit≤ tt) are (codes "type"))) [
          | inr none ↦ inr (NotClip, (members, object, none))
          | inl kind ↦ parts members are object kind (items-or-not (value_unless_null (codes "elements") members)
              (fits-value_unless_null (codes "elements") members are))
              (members-or-not (value_unless_null (codes "files") members)
              (fits-value_unless_null (codes "files") members are))
        ]
