-- The items of an array that are left while it is taken apart.
use Rattle.std.proofs.Common.{◌≡◌, ◌≢◌, ◌+◌, ◌-◌, ◌≤◌, ◌<◌, ℕ, List, [], ◌∷◌, ◌++◌, length, take, drop, get_or, refl, sym, ap, subst, ◌∙◌, arith, append_assoc, append-nil, length-append, length-drop, drop-cons, drop-drop, add-one}
use Rattle.std.proofs.Math.Seq.{take-append_seam, drop-append_seam}
use Rattle.std.specs.List.{AllByRecursion, join_with_byte}
use Rattle.json_text.specs.Tree.{Container, array, closing}
use Rattle.json_text.specs.Compact.{array_text}
use Rattle.json_text.specs.Value.{IsCompact}
use Rattle.json_text.proofs.CallerLemmas.{drop-after, inside-after, begins_value, Head, tree-Head, head-apart, first-same}
use Rattle.scene_json.specs.Passes.{IsEnd, left_text, behind_item}
use Rattle.scene_json.specs.inner.Passes.{Compacted, EndsAt, GoesOn}
use Rattle.scene_json.specs.Walks.{Leaves}

-- the byte at an offset, and what follows it
pub front : (bytes : List ℕ) (at : ℕ) {b : ℕ} → at < length bytes → get_or bytes at 0 ≡ b
    → drop at bytes ≡ b ∷ drop (at + 1) bytes
front bytes at within e = rw add-one (drop-cons bytes at 0 within) ∙ ap (λ b. b ∷ drop (at + 1) bytes) e

pub front-is : (bytes : List ℕ) (at : ℕ) {b : ℕ} {rest : List ℕ} → drop at bytes ≡ b ∷ rest → get_or bytes at 0 ≡ b
front-is bytes at e = first-same (sym (front bytes at (inside-after bytes at e) refl) ∙ e)

-- What stands between two offsets is what stands before the rest.
pub between-is : (bytes text rest : List ℕ) (at end : ℕ) → at ≤ length bytes → end ≡ length bytes - length rest
    → drop at bytes ≡ text ++ rest → (drop end bytes ≡ rest) × (take (end - at) (drop at bytes) ≡ text)
between-is bytes text rest at end within is parts =
    grind (
      arith,
      length-drop at bytes,
      length-append text rest,
      drop-drop (length text) at bytes,
      drop-append_seam text rest,
      take-append_seam text rest,
    )

pub behind-split : (c : Container) (rest item : List ℕ) (more : List (List ℕ))
    → join_with_byte 44 (item ∷ more) ++ closing c ∷ rest ≡ item ++ behind_item c rest more
behind-split c rest item more = grind (arith, append_assoc)

pub behind-ends : (c : Container) (rest : List ℕ) (more : List (List ℕ)) → IsEnd (behind_item c rest more)
behind-ends c rest more = grind arith

-- Where a value in a container ends, something stands.
pub ends-inside : (bytes : List ℕ) (at : ℕ) (text rest : List ℕ) → IsEnd rest → drop at bytes ≡ text ++ rest
    → at < length bytes
ends-inside bytes at text rest ends e = grind (arith, ap length e, length-drop at bytes, length-append text rest)

-- ---- the start
-- No item begins with a closing bracket.
item-Head : (item : List ℕ) → IsCompact 127 item → Head begins_value item
item-Head item v = subst (Head begins_value) v.spells (tree-Head v.tree v.good)

pub item-opens : (item : List ℕ) (more : List (List ℕ)) (tail rest : List ℕ) → IsCompact 127 item
    → left_text array tail (item ∷ more) ≡ 93 ∷ rest → ⊥
item-opens item more tail rest v e =
    head-apart begins_value item (behind_item array tail more) rest 93 (item-Head item v) refl
    (sym (behind-split array tail item more) ∙ e)

pub array-opened : (bytes : List ℕ) (at : ℕ) (items : List (List ℕ)) (rest : List ℕ)
    → AllByRecursion (IsCompact 127) items → drop at bytes ≡ array_text items ++ rest
    → Leaves (record { text = bytes; at = at + 1 }) items rest
unfolding array_text
array-opened bytes at items rest compact e =
    record { compact = compact; here = drop-after bytes at e ∙ append_assoc (join_with_byte 44 items) (93 ∷ []) rest }

-- ---- a step
-- The first of the items that are left stands here, and behind its end the others are left.
pub record IsNext (bytes : List ℕ) (at : ℕ) (left : List (List ℕ)) (rest : List ℕ) : Type 0 where
  pub item : List ℕ
  pub others : List (List ℕ)
  pub parts : left ≡ item ∷ others
  pub stands : Compacted (drop at bytes) item (behind_item array rest others)
  pub goes_on : (end next : ℕ) → drop end bytes ≡ behind_item array rest others → GoesOn bytes end next → end ≤ next
      → (at < next) × Leaves (record { text = bytes; at = next }) others rest

module _ (bytes : List ℕ) (at : ℕ) where
  pub left-inside : (left : List (List ℕ)) (rest : List ℕ) → Leaves (record { text = bytes; at = at }) left rest
      → at < length bytes
  left-inside left rest l =
      omega (arith, ap length l.here, length-drop at bytes, length-append (join_with_byte 44 left) (93 ∷ rest))

  pub left-next : (left : List (List ℕ)) (rest : List ℕ) → Leaves (record { text = bytes; at = at }) left rest
      → get_or bytes at 0 ≢ 93 → IsNext bytes at left rest
  left-next [] rest l other = absurd (other (front-is bytes at l.here))
  left-next (item ∷ others) rest l other =
      let behind = behind_item array rest others in
      let here : drop at bytes ≡ item ++ behind = l.here ∙ behind-split array rest item others in
      let head = item-Head item l.compact.0 in
      record {
        item = item;
        others = others;
        parts = refl;
        stands = record { compact = l.compact.0; parts = here; ends = behind-ends array rest others };
        goes_on = λ end next e goes within. (
          omega (
            arith,
            ap length here,
            length-drop at bytes,
            length-append item behind,
            ap length head.parts,
            ap length e,
            length-drop end bytes,
            within,
          ),
          record { compact = l.compact.1; here = goes array rest others e },
        );
      }

  pub left-none : (left : List (List ℕ)) (rest : List ℕ) → Leaves (record { text = bytes; at = at }) left rest
      → get_or bytes at 0 ≡ 93 → (left ≡ []) × (drop (at + 1) bytes ≡ rest)
  left-none [] rest l closed = (refl, drop-after bytes at l.here)
  left-none (item ∷ others) rest l closed =
      absurd (item-opens item others rest (drop (at + 1) bytes) l.compact.0 (sym l.here
      ∙ front bytes at (left-inside (item ∷ others) rest l) closed))

-- All items are those that were found and those that are left.
pub record AreItemsLeft (bytes : List ℕ) (at : ℕ) (all found : List (List ℕ)) : Type 0 where
  pub left : List (List ℕ)
  pub parts : all ≡ found ++ left
  pub walk : Leaves (record { text = bytes; at = at }) left []

module _ {bytes : List ℕ} {at : ℕ} {all found : List (List ℕ)} (l : AreItemsLeft bytes at all found) where
  -- The first of them ends somewhere; behind its end the others are left.
  pub item-found : (end next : ℕ) → get_or bytes at 0 ≢ 93 → EndsAt bytes at end → GoesOn bytes end next → end ≤ next
      → (at < next) × AreItemsLeft bytes next all (found ++ take (end - at) (drop at bytes) ∷ [])
  item-found end next other ends goes within =
      let n = left-next bytes at l.left [] l.walk other in
      let here = ends n.item (behind_item array [] n.others) n.stands in
      let after = n.goes_on end next here.0 goes within in (
        after.0,
        record {
          left = n.others;
          parts = rw here.1 (l.parts ∙ ap (λ items. found ++ items) n.parts
              ∙ sym (append_assoc found (n.item ∷ []) n.others));
          walk = after.1;
        },
      )

  pub all-found : get_or bytes at 0 ≡ 93 → all ≡ found
  all-found closed =
      l.parts ∙ ap (λ items. found ++ items) (left-none bytes at l.left [] l.walk closed).0 ∙ append-nil found
