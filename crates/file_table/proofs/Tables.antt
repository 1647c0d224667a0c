-- A table after one entry more.
use Rattle.std.proofs.Common.{◌≡◌, ℕ, true, false, cond, ◌⊎◌, List, [], ◌∷◌, ◌++◌, Option, Some, None, bytes_eq, if◌then◌else◌, refl, sym, ap, ◌∙◌, subst, inl, inr}
use Rattle.std.specs.Cmp.Lexicographic.{nat_list_eq_equiv}
use Rattle.std.specs.List.{IsDistinct}
use Rattle.std.proofs.lemmas.Bool.{cases_Bool, both_ways, cond-true, cond-false}
use Rattle.indexmap.specs.IndexMap.{insert_entry}
use Rattle.json_text.specs.Compact.{Member as Pair}
use Rattle.json_text.specs.Parts.{names_of}
use Rattle.json_text.specs.Value.{IsCompact}
use Rattle.json_text.proofs.CallerLemmas.{bytes_eq-true}
use Rattle.scene_json.specs.Named.{value_at, HaveRisingNames}
use Rattle.frac_keys.specs.Keys.{bytes_less}
use Rattle.file_table.specs.Table.{takes_place, least_entry, AreLeastEntries, EntriesNest, HaveFiles}
use Rattle.elem.specs.Texts.{sorted_members}
use Rattle.file_table.proofs.ById.{value-by_id, rising-by_id}
use Rattle.file_table.proofs.Lesser.{lesser_either, lesser_either-none}
use Rattle.file_table.proofs.Least.{least-append, least-own}

-- what the table and the one entry have for an id
least-one : (old : List Pair) (id entry : List ℕ) (q : List ℕ) → HaveRisingNames old
    → least_entry (old ++ (id, entry) ∷ []) q ≡ lesser_either (value_at q old) (cond (bytes_eq q id) (Some entry) None)
least-one old id entry q rising =
    least-append old ((id, entry) ∷ []) q
    ∙ ap (λ o. lesser_either o (cond (bytes_eq q id) (Some entry) None)) (least-own old q rising)

taken : (entry : List ℕ) (o : Option (List ℕ)) → takes_place o entry ≡ true → lesser_either o (Some entry) ≡ Some entry
taken entry None h = refl
taken entry (Some old) h = ap Some (cond-true (bytes_less entry old) entry old h)

kept : (entry : List ℕ) (o : Option (List ℕ)) → takes_place o entry ≡ false → lesser_either o (Some entry) ≡ o
kept entry None h = absurd (both_ways true h refl)
kept entry (Some old) h = ap Some (cond-false (bytes_less entry old) entry old h)

AreLeastEntries-taken : (old new : List Pair) (id entry : List ℕ) → HaveRisingNames old → HaveRisingNames new
    → takes_place (value_at id old) entry ≡ true
    → ((q : List ℕ) → value_at q new ≡ cond (bytes_eq q id) (Some entry) (value_at q old))
    → AreLeastEntries (old ++ (id, entry) ∷ []) new
AreLeastEntries-taken old new id entry rising still takes each =
    record { ordered = still; each = λ q. go q (cases_Bool (bytes_eq q id)) }
  where
    go : (q : List ℕ) → (bytes_eq q id ≡ true) ⊎ (bytes_eq q id ≡ false)
        → value_at q new ≡ least_entry (old ++ (id, entry) ∷ []) q
    go q (inl t) =
        each q ∙ cond-true (bytes_eq q id) (Some entry) (value_at q old) t
        ∙ sym (taken entry (value_at id old) takes)
        ∙ ap (λ i. lesser_either (value_at i old) (Some entry)) (sym (bytes_eq-true q id t))
        ∙ ap (lesser_either (value_at q old)) (sym (cond-true (bytes_eq q id) (Some entry) None t))
        ∙ sym (least-one old id entry q rising)
    go q (inr f) =
        each q ∙ cond-false (bytes_eq q id) (Some entry) (value_at q old) f
        ∙ sym (lesser_either-none (value_at q old))
        ∙ ap (lesser_either (value_at q old)) (sym (cond-false (bytes_eq q id) (Some entry) None f))
        ∙ sym (least-one old id entry q rising)

AreLeastEntries-kept : (old : List Pair) (id entry : List ℕ) → HaveRisingNames old
    → takes_place (value_at id old) entry ≡ false → AreLeastEntries (old ++ (id, entry) ∷ []) old
AreLeastEntries-kept old id entry rising stays =
    record { ordered = rising; each = λ q. go q (cases_Bool (bytes_eq q id)) }
  where
    go : (q : List ℕ) → (bytes_eq q id ≡ true) ⊎ (bytes_eq q id ≡ false)
        → value_at q old ≡ least_entry (old ++ (id, entry) ∷ []) q
    go q (inl t) =
        ap (λ i. value_at i old) (bytes_eq-true q id t)
        ∙ sym (kept entry (value_at id old) stays)
        ∙ ap (λ i. lesser_either (value_at i old) (Some entry)) (sym (bytes_eq-true q id t))
        ∙ ap (lesser_either (value_at q old)) (sym (cond-true (bytes_eq q id) (Some entry) None t))
        ∙ sym (least-one old id entry q rising)
    go q (inr f) =
        sym (lesser_either-none (value_at q old))
        ∙ ap (lesser_either (value_at q old)) (sym (cond-false (bytes_eq q id) (Some entry) None f))
        ∙ sym (least-one old id entry q rising)

EntriesNest-insert : (limit : ℕ) (files : List Pair) (id entry : List ℕ) → EntriesNest limit files
    → IsCompact limit entry → EntriesNest limit (insert_entry bytes_eq files id entry)
EntriesNest-insert limit [] id entry nest h = (h, tt)
EntriesNest-insert limit (file ∷ files) id entry nest h =
    elim (bytes_eq id file.0) as (λ b. EntriesNest limit (if b then (file.0, entry) ∷ files else file
    ∷ insert_entry bytes_eq files id entry)) [
      | true ↦ (h, nest.1)
      | false ↦ (nest.0, EntriesNest-insert limit files id entry nest.1 h)
    ]

pub HaveFiles-insert : (old new : List Pair) (id entry : List ℕ) → HaveFiles old → IsCompact 126 entry
    → new ≡ insert_entry bytes_eq old id entry → IsDistinct bytes_eq (names_of new) → HaveFiles new
HaveFiles-insert old new id entry has h is distinct = record {
  distinct = distinct;
  nest = subst (EntriesNest 126) (sym is) (EntriesNest-insert 126 old id entry has.nest h);
}

-- ---- entries in whatever order
pub by_id-taken : (old new : List Pair) (id entry : List ℕ) → HaveFiles old → HaveFiles new
    → takes_place (value_at id old) entry ≡ true
    → ((q : List ℕ) → value_at q new ≡ cond (bytes_eq id q) (Some entry) (value_at q old))
    → AreLeastEntries (sorted_members old ++ (id, entry) ∷ []) (sorted_members new)
by_id-taken old new id entry has gets takes each =
    AreLeastEntries-taken (sorted_members old) (sorted_members new) id entry (rising-by_id old has.distinct)
    (rising-by_id new gets.distinct)
    (ap (λ o. takes_place o entry) (value-by_id id old) ∙ takes)
    (λ q. value-by_id q new ∙ each q ∙ ap (λ b. cond b (Some entry) (value_at q old)) (nat_list_eq_equiv.symm id q)
    ∙ ap (cond (bytes_eq q id) (Some entry)) (sym (value-by_id q old)))

pub by_id-kept : (old : List Pair) (id entry : List ℕ) → HaveFiles old → takes_place (value_at id old) entry ≡ false
    → AreLeastEntries (sorted_members old ++ (id, entry) ∷ []) (sorted_members old)
by_id-kept old id entry has stays =
    AreLeastEntries-kept (sorted_members old) id entry (rising-by_id old has.distinct)
    (ap (λ o. takes_place o entry) (value-by_id id old) ∙ stays)
