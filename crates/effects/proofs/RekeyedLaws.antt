-- The keys of what may be rekeyed, looked up id by id.
use Rattle.std.proofs.Common.{◌≡◌, ℕ, true, false, cond, List, [], ◌∷◌, Option, Some, None, bytes_eq, nat_cmp, inl, inr, sym, ap, ◌∙◌}
use Rattle.std.specs.BTreeMap.{BTreeMap, get, is_at, Updates}
use Rattle.std.specs.BTreeSet.{BTreeSet, contains}
use Rattle.std.specs.Cmp.Lexicographic.{slice_cmp, nat_list_eq_equiv, texts_ties}
use Rattle.std.specs.Map.{lookup}
use Rattle.std.specs.Option.{option_map}
use Rattle.std.proofs.lemmas.Bool.{cases_Bool, cond-false, cond-true, or_left, or_right}
use Rattle.json_text.proofs.CallerLemmas.{bytes_eq-same, bytes_eq-true}
use Rattle.elem.specs.ElementValue.{ElementValue}
use Rattle.elem_store.specs.Updates.{element_of, is_among}
use Rattle.index_repair.specs.Keyed.{index_of}
use Rattle.effects.specs.inner.Prepared.{HasKeys, elements_among}
use Rattle.effects.proofs.ChosenLaws.{contains-among, filtered-of}

abbrev pub Keys : Type 0
Keys = BTreeMap (List ℕ) (Option (List ℕ))

-- The ids that are left are of the set, and each other one has its key, if it is of the set.
pub record HasFound (keys : Keys) (set : BTreeSet (List ℕ)) (elements : List ElementValue)
    (left : List (List ℕ)) : Type 0 where
  pub within : (id : List ℕ) → is_among left id ≡ true → contains (slice_cmp nat_cmp) set id ≡ true
  pub done : (id : List ℕ) → is_among left id ≡ false
      → get (slice_cmp nat_cmp) keys id ≡ option_map index_of (element_of (elements_among set elements) id)

module _ (set : BTreeSet (List ℕ)) (elements : List ElementValue) where
  of-set : (id : List ℕ) → contains (slice_cmp nat_cmp) set id ≡ true
      → element_of (elements_among set elements) id ≡ element_of elements id
  of-set id among = filtered-of (contains (slice_cmp nat_cmp) set) elements id
      ∙ cond-true (contains (slice_cmp nat_cmp) set id) (element_of elements id) None among

  of-none : (id : List ℕ) → contains (slice_cmp nat_cmp) set id ≡ false
      → element_of (elements_among set elements) id ≡ None
  of-none id other = filtered-of (contains (slice_cmp nat_cmp) set) elements id
      ∙ cond-false (contains (slice_cmp nat_cmp) set id) (element_of elements id) None other

  pub found-none : (keys : Keys) (left : List (List ℕ)) → keys.entries ≡ [] → left ≡ set.keys
      → HasFound keys set elements left
  found-none keys left empty all = record {
    within = λ id among. contains-among set id ∙ ap (λ ids. is_among ids id) (sym all) ∙ among;
    done = λ id out. ap (λ entries. lookup (is_at (slice_cmp nat_cmp id)) entries) empty
        ∙ sym (ap (option_map index_of) (of-none id
        (contains-among set id ∙ ap (λ ids. is_among ids id) (sym all) ∙ out)));
  }

  pub found-more : (keys new : Keys) (left rest : List (List ℕ)) (id : List ℕ) (e : ElementValue)
      → HasFound keys set elements left → left ≡ id ∷ rest → element_of elements id ≡ Some e
      → Updates (slice_cmp nat_cmp) keys new id (Some e.index) → HasFound new set elements rest
  found-more keys new left rest id e has next found updates = record {
    within = λ q among. has.within q
        (ap (λ ids. is_among ids q) next ∙ or_right (bytes_eq q id) (is_among rest q) among);
    done = λ q out. updates.0 q
        ∙ ap (λ b. cond b (Some e.index) (get (slice_cmp nat_cmp) keys q)) (sym (texts_ties id q)
        ∙ nat_list_eq_equiv.symm id q)
        ∙ elim (cases_Bool (bytes_eq q id)) [
          | inl same ↦ rw same (sym (ap (option_map index_of)
              (ap (element_of (elements_among set elements)) (bytes_eq-true q id same) ∙ own)))
          | inr other ↦ rw other (has.done q (ap (λ ids. is_among ids q) next ∙ rw other out))
        ];
  }
    where
      own : element_of (elements_among set elements) id ≡ Some e
      own = of-set id (has.within id (ap (λ ids. is_among ids id) next
          ∙ or_left (bytes_eq id id) (is_among rest id) (bytes_eq-same id))) ∙ found

  pub found-all : (keys : Keys) (left : List (List ℕ)) → HasFound keys set elements left → left ≡ []
      → HasKeys keys (elements_among set elements)
  found-all keys left has none id = has.done id (ap (λ ids. is_among ids id) none)
