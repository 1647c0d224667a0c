-- Entries in the order of their ids: what is found under an id stays, the ids rise, and there is one such list.
use Rattle.std.proofs.Common.{◌≡◌, inl, inr, ℕ, true, false, cond, List, [], ◌∷◌, Some, bytes_eq, if◌then◌else◌, refl, sym, ap, ◌∙◌, subst}
use Rattle.std.specs.List.{IsDistinct}
use Rattle.std.specs.List.Sorted.{IsPermutation}
use Rattle.std.proofs.lemmas.Bool.{cases_Bool, false≢true}
use Rattle.std.proofs.lemmas.List.Sorted.{IsPermutation-sym, IsPermutation-trans}
use Rattle.json_text.specs.Compact.{Member as Pair}
use Rattle.json_text.specs.Parts.{names_of}
use Rattle.json_text.specs.Value.{IsCompact}
use Rattle.scene_json.specs.Named.{value_at, HaveRisingNames}
use Rattle.json_text.proofs.CallerLemmas.{bytes_eq-true}
use Rattle.frac_keys.specs.Keys.{bytes_less}
use Rattle.frac_keys.proofs.CallerLemmas.{bytes_less_itself}
use Rattle.elem.specs.Texts.{with_member, sorted_members}
use Rattle.elem.proofs.CallerLemmas.{IsRising-sorted, IsPermutation-sorted, same_rising, AllByRecursion-sorted, names-rising, rising-names}
use Rattle.file_table.specs.Table.{EntriesNest}

-- ---- look-ups
apart-below : (q id other : List ℕ) → bytes_eq q other ≡ true → bytes_less other id ≡ true → bytes_eq q id ≡ false
apart-below q id other own less = elim (cases_Bool (bytes_eq q id)) [
  | inr apart ↦ apart
  | inl same ↦
      let one : other ≡ id = sym (bytes_eq-true q other own) ∙ bytes_eq-true q id same in
      absurd (false≢true (sym (bytes_less_itself id) ∙ subst (λ o. bytes_less o id ≡ true) one less))
]

value-with_member : (q : List ℕ) (file : Pair) (files : List Pair)
    → value_at q (with_member file files) ≡ cond (bytes_eq q file.0) (Some file.1) (value_at q files)
value-with_member q file [] = refl
value-with_member q file (other ∷ files) =
    elim (bytes_less other.0 file.0) as (λ b. bytes_less other.0 file.0 ≡ b
    → value_at q (if b then other ∷ with_member file files else file ∷ other ∷ files)
    ≡ cond (bytes_eq q file.0) (Some file.1) (value_at q (other ∷ files))) [
      | false ↦ λ _. refl
      | true ↦ λ less. elim (cases_Bool (bytes_eq q other.0)) [
        | inl own ↦ rw (own, apart-below q file.0 other.0 own less) refl
        | inr later ↦ rw later (value-with_member q file files)
      ]
    ] refl

pub value-by_id : (q : List ℕ) (files : List Pair) → value_at q (sorted_members files) ≡ value_at q files
value-by_id q [] = refl
value-by_id q (file ∷ files) =
    value-with_member q file (sorted_members files) ∙ ap (cond (bytes_eq q file.0) (Some file.1)) (value-by_id q files)

-- ---- ids that rise

pub rising-by_id : (files : List Pair) → IsDistinct bytes_eq (names_of files) → HaveRisingNames (sorted_members files)
rising-by_id files distinct = rising-names (sorted_members files) (IsRising-sorted files distinct)

-- files that were moved so that their ids rise
pub moved-by_id : (files others : List Pair) → IsDistinct bytes_eq (names_of files) → IsPermutation files others
    → HaveRisingNames others → others ≡ sorted_members files
moved-by_id files others distinct moved rise =
    same_rising others (sorted_members files) (names-rising others rise) (IsRising-sorted files distinct)
    (IsPermutation-trans _ files _ (IsPermutation-sym _ _ moved) (IsPermutation-sorted files))

-- ---- entries that nest
pub nest-by_id : (limit : ℕ) (files : List Pair) → EntriesNest limit files → EntriesNest limit (sorted_members files)
nest-by_id limit files nest = AllByRecursion-sorted (λ (file : Pair). IsCompact limit file.1) files nest
