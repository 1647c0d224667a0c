-- One more head.
use Rattle.std.proofs.Common.{◌≡◌, ℕ, ◌+◌, ◌<◌, Bool, true, false, cond, List, [], ◌∷◌, ◌++◌, length, take, get_or, Option, Some, None, refl, sym, ap, ap₂, ◌∙◌, subst, append_assoc, append-nil}
use Rattle.std.specs.Cmp.{IsStrictWeakOrder}
use Rattle.std.specs.Cmp.Lexicographic.{nat_list_cmp_total}
use Rattle.std.proofs.lemmas.Bool.{both_ways, cond-true, cond-false, true_from_ne_false}
use Rattle.std.specs.List.{flat_map}
use Rattle.std.proofs.lemmas.Grind.{flat_map-append}
use Rattle.std.proofs.lemmas.List.{take_more, map-append}
use Rattle.std.proofs.lemmas.List.MinMax.{ranks_by}
use Rattle.json_text.specs.Characters.{quote}
use Rattle.json_text.specs.Compact.{Member as Pair}
use Rattle.json_text.specs.Members.{pairs, pair_of}
use Rattle.json_text.specs.declared.text.Member.{Member}
use Rattle.scene_json.specs.Named.{HaveRisingNames}
use Rattle.scene_json.proofs.CallerLemmas.{rising_from, rising_none}
use Rattle.frac_keys.specs.Keys.{bytes_less}
use Rattle.file_table.specs.Table.{AreLeastEntries}
use Rattle.file_table.proofs.CallerLemmas.{AreLeastEntries-join, AreLeastEntries-own}
use Rattle.scene_file.specs.Heads.{Heading, lesser_source, least_source, IsJoinedHead}

-- ---- sources
-- whether the string of a text is less than that of another one
abbrev is_lesser : List ℕ → List ℕ → Bool
is_lesser text other = bytes_less (quote text) (quote other)

lesser_order : IsStrictWeakOrder is_lesser
lesser_order = ranks_by nat_list_cmp_total quote

pub lesser_source-none : (source : Option (List ℕ)) → lesser_source source None ≡ source
lesser_source-none None = refl
lesser_source-none (Some text) = refl

pub lesser_source-assoc : (a b c : Option (List ℕ)) → lesser_source a (lesser_source b c)
    ≡ lesser_source (lesser_source a b) c
lesser_source-assoc None b c = refl
lesser_source-assoc (Some a) None c = refl
lesser_source-assoc (Some a) (Some b) None = sym (lesser_source-none (lesser_source (Some a) (Some b)))
lesser_source-assoc (Some a) (Some b) (Some c) = go (is_lesser c b) (is_lesser b a) refl refl
  where
    go : (t u : Bool) → is_lesser c b ≡ t → is_lesser b a ≡ u → lesser_source (Some a) (cond t (Some c) (Some b))
        ≡ lesser_source (cond u (Some b) (Some a)) (Some c)
    go true true h k =
        let below : is_lesser c a ≡ true = true_from_ne_false (is_lesser c a) (λ n.
        both_ways (is_lesser c b) (lesser_order.chain c a b n (lesser_order.one_way b a k)) h) in
        cond-true (is_lesser c a) (Some c) (Some a) below ∙ sym (cond-true (is_lesser c b) (Some c) (Some b) h)
    go true false h k = refl
    go false true h k =
        cond-true (is_lesser b a) (Some b) (Some a) k ∙ sym (cond-false (is_lesser c b) (Some c) (Some b) h)
    go false false h k = cond-false (is_lesser b a) (Some b) (Some a) k
        ∙ sym (cond-false (is_lesser c a) (Some c) (Some a) (lesser_order.chain c b a h k))

pub least_source-more : (heads : List Heading) (other : Heading)
    → least_source (heads ++ other ∷ []) ≡ lesser_source (least_source heads) other.source
least_source-more [] other = lesser_source-none other.source
least_source-more (head ∷ heads) other =
    ap (lesser_source head.source) (least_source-more heads other)
    ∙ lesser_source-assoc head.source (least_source heads) other.source

-- ---- heads
module _ (part : Heading → List Pair) where
  pub all-more : (heads : List Heading) (other : Heading) → flat_map part (heads ++ other ∷ []) ≡ flat_map part heads
      ++ part other
  all-more heads other =
      flat_map-append part heads (other ∷ []) ∙ ap (λ more. flat_map part heads ++ more) (append-nil (part other))

  -- a part of the joined head
  more : (heads : List Heading) (other : Heading) (old new : List Pair) → AreLeastEntries (flat_map part heads) old
      → HaveRisingNames (part other) → AreLeastEntries (old ++ part other) new
      → AreLeastEntries (flat_map part (heads ++ other ∷ [])) new
  more heads other old new before rise are =
      subst (λ all. AreLeastEntries all new) (sym (all-more heads other))
      (AreLeastEntries-join (flat_map part heads) old (part other) (part other) new before
      (AreLeastEntries-own (part other) rise) are)

pub joined-more : (heads : List Heading) (old new other : Heading) → new.source ≡ lesser_source old.source other.source
    → AreLeastEntries (pairs old.app_state ++ pairs other.app_state) (pairs new.app_state)
    → HaveRisingNames (pairs other.app_state)
    → AreLeastEntries (old.files ++ other.files) new.files → HaveRisingNames other.files
    → IsJoinedHead heads old → IsJoinedHead (heads ++ other ∷ []) new
joined-more heads old new other source settings rise files files_rise before = record {
  source =
      source ∙ (ap (λ least. lesser_source least other.source) before.source ∙ sym (least_source-more heads other));
  app_state = more (λ (head : Heading). pairs head.app_state) heads other (pairs old.app_state) (pairs new.app_state)
      before.app_state rise settings;
  files = more (λ (head : Heading). head.files) heads other old.files new.files before.files files_rise files;
}

-- ---- one more member in a table
pub table-more : (given : List Pair) (members : List Member) (i : ℕ) (member copy : Member) (old new : List Pair)
    → i < length members → member ≡ get_or members i member → copy ≡ member
    → AreLeastEntries (given ++ pairs (take i members)) old → AreLeastEntries (old ++ (copy.name, copy.value) ∷ []) new
    → AreLeastEntries (given ++ pairs (take (i + 1) members)) new
table-more given members i member copy old new within at same before after =
    let pair : Pair = (copy.name, copy.value) in
    let next : take (i + 1) members ≡ take i members ++ copy ∷ [] =
    take_more members i member within ∙ ap (λ m. take i members ++ m ∷ []) (sym at ∙ sym same) in
    let all : (given ++ pairs (take i members)) ++ pair ∷ [] ≡ given ++ pairs (take (i + 1) members) =
    append_assoc given (pairs (take i members)) (pair ∷ [])
    ∙ ap (λ ps. given ++ ps) (sym (ap pairs next ∙ map-append pair_of (take i members) (copy ∷ []))) in
    subst (λ ps. AreLeastEntries ps new) all
    (AreLeastEntries-join (given ++ pairs (take i members)) old (pair ∷ []) (pair ∷ []) new before
    (AreLeastEntries-own (pair ∷ []) (rising_from pair [] tt rising_none)) after)

-- ---- the lesser of two texts
pub lesser-told : (source other : Option (List ℕ)) (text another : List ℕ) (less : Bool) → source ≡ Some text
    → other ≡ Some another → less ≡ bytes_less (quote text) (quote another)
    → lesser_source other source ≡ cond less source other
lesser-told source other text another less e f h =
    ap₂ (λ x y. lesser_source y x) e f
    ∙ (ap (λ b. cond b (Some text) (Some another)) (sym h) ∙ ap₂ (λ x y. cond less x y) (sym e) (sym f))
