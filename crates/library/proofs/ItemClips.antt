-- The clip with the elements of an item is read as the clip of the item.
use Rattle.std.proofs.Common.{◌≡◌, ℕ, Bool, true, false, cond, not, List, [], ◌∷◌, Some, None, codes, map, bytes_eq, refl, sym, subst, lit≤}
use Rattle.std.specs.Cmp.Lexicographic.{nat_list_eq_equiv}
use Rattle.std.specs.List.{AllByRecursion, IsDistinct}
use Rattle.std.proofs.lemmas.Bool.{cond-false}
use Rattle.std.proofs.lemmas.Map.Made.{IsDistinct-from_count}
use Rattle.json_text.specs.Characters.{quote}
use Rattle.json_text.specs.Compact.{array_text}
use Rattle.json_text.specs.Tree.{null_word}
use Rattle.json_text.proofs.CallerLemmas.{Value-deeper, quote-compact, ascii-utf8}
use Rattle.elem.specs.ElementValue.{ElementValue}
use Rattle.elem.specs.Order.{HaveDistinctIds}
use Rattle.elem.specs.Texts.{element_text}
use Rattle.scene_file.specs.Reading.{HasItems}
use Rattle.scene_file.proofs.CallerLemmas.{array-no-null}
use Rattle.clips.specs.Clips.{live_in, IsClipOf}
use Rattle.clips.specs.Placed.{elements_in}
use Rattle.clips.specs.declared.placed.Placed.{Placed}
use Rattle.clips.proofs.CallerLemmas.{repeat-none}
use Rattle.library.specs.Inserting.{clip_of, clip_text, placed_from}
use Rattle.library.specs.Items.{item_text}
use Rattle.library.specs.Reading.{IsWholeItem}
use Rattle.library.specs.declared.item.Item.{Item}
use Rattle.library.proofs.Whole.{elements-compact, elements-placed, item-sound, texts-array, texts-placed}

-- ---- those that aren't deleted
abbrev ids : List Placed → List (List ℕ)
ids placed = map (λ (e : ElementValue). e.id) (elements_in placed)

apart-live : (id : List ℕ) (placed : List Placed) → AllByRecursion (λ y. bytes_eq id y ≡ false) (ids placed)
    → AllByRecursion (λ y. bytes_eq id y ≡ false) (ids (live_in placed))
apart-live id [] apart = tt
apart-live id (p ∷ placed) apart = by (not p.element.deleted) (apart-live id placed apart.1)
  where
    by : (b : Bool) → AllByRecursion (λ y. bytes_eq id y ≡ false) (ids (live_in placed))
        → AllByRecursion (λ y. bytes_eq id y ≡ false) (ids (cond b (p ∷ live_in placed) (live_in placed)))
    by true later = (apart.0, later)
    by false later = later

distinct-live : (placed : List Placed) → HaveDistinctIds (elements_in placed)
    → HaveDistinctIds (elements_in (live_in placed))
unfolding IsDistinct
distinct-live [] d = tt
distinct-live (p ∷ placed) d = by (not p.element.deleted) (distinct-live placed d.1)
  where
    by : (b : Bool) → HaveDistinctIds (elements_in (live_in placed))
        → HaveDistinctIds (elements_in (cond b (p ∷ live_in placed) (live_in placed)))
    by true later = (apart-live p.element.id placed d.0, later)
    by false later = later

-- ---- the clip

items-given : (texts : List (List ℕ)) → HasItems (Some (array_text texts)) texts
    → HasItems (cond (bytes_eq (array_text texts) null_word) None (Some (array_text texts))) texts
items-given texts has =
    subst (λ found. HasItems found texts)
    (sym (cond-false (bytes_eq (array_text texts) null_word) None (Some (array_text texts)) (array-no-null texts)))
    has

pub item-clip : (item : Item) → IsWholeItem item → IsClipOf (clip_text item.elements) (clip_of item)
unfolding clip_text
item-clip item whole =
    let sound = item-sound (item_text item) item whole in
    let texts = map element_text item.elements in
    let members = (codes "type", quote (codes "excalidraw/clipboard")) ∷ (codes "elements", array_text texts) ∷ [] in
    let array = texts-array item.elements sound.whole in
    let placed = placed_from 0 item.elements in
    record {
      members = members;
      object = record {
        are_members = record {
          named = (ascii-utf8 (codes "type") refl, (ascii-utf8 (codes "elements") refl, tt));
          valued = (
            quote-compact 127 (codes "excalidraw/clipboard") (ascii-utf8 (codes "excalidraw/clipboard") refl),
            (Value-deeper (lit≤ tt) (elements-compact item.elements sound.whole), tt),
          );
          distinct = IsDistinct-from_count nat_list_eq_equiv _ refl;
        };
        spelled = refl;
      };
      kind = (ascii-utf8 (codes "excalidraw/clipboard") refl, refl);
      values = texts;
      items = items-given texts (array.0, refl);
      files = refl;
      placed = placed;
      read = texts-placed 0 item.elements sound.whole;
      distinct = (repeat-none (live_in placed)).1
          (distinct-live placed (subst HaveDistinctIds (elements-placed 0 item.elements) sound.distinct));
      elements = refl;
      places = refl;
    }
