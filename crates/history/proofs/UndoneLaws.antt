-- What a step makes of the elements that its entry stands for.
use Rattle.std.proofs.Common.{◌≡◌, ℕ, List, true, Option, Some, None, refl, sym, ap, ◌∙◌, subst, inl, inr}
use Rattle.std.proofs.lemmas.Option.{same_Some}
use Rattle.json_text.proofs.CallerLemmas.{Contains-to_map}
use Rattle.elem.specs.ElementValue.{ElementValue}
use Rattle.elem.specs.Facts.{IsElement}
use Rattle.elem.specs.Order.{unstamped, has_id}
use Rattle.elem.specs.Stamp.{stamped}
use Rattle.elem.proofs.CallerLemmas.{element_with_deleted}
use Rattle.elem_store.specs.Updates.{element_of}
use Rattle.elem_store.proofs.CallerLemmas.{same_id, find-Some}
use Rattle.delta.specs.Applied.{IsApplied}
use Rattle.delta.specs.Delta.{Delta}
use Rattle.delta.specs.Pairs.{Pair, EntryStandsFor, pair_with, pairs_from}
use Rattle.delta.specs.Parts.{counted, inverse}
use Rattle.delta.proofs.CallerLemmas.{undone-from, applied-back}
use Rattle.history.specs.Steps.{AreGiven}
use Rattle.history.specs.Undone.{EachIsElement, ArePairsOfElements, AreUndone, ComesBack}

-- a stored element is an element
stored-is : (store : List ElementValue) (id : List ℕ) (now : ElementValue) → EachIsElement store
    → element_of store id ≡ Some now → IsElement now
stored-is store id now are stored = are now (find-Some (has_id id) store now stored).0

module _ (parts : List Delta) (store given : List ElementValue) (time nonce : ℕ) (are : EachIsElement store)
    (gives : AreGiven parts store time nonce given) where
  pub undone-pairs : (pairs : List Pair) → EntryStandsFor parts pairs → ArePairsOfElements pairs
      → AreUndone pairs store time nonce given
  undone-pairs pairs stands elements = record {
    ordered = gives.ordered;
    each = λ e c.
        let own = gives.each e c in
        let of = stands.each_part own.part own.at.among in
        let both = elements of.0 of.1 in
        record {
          pair = of.0;
          now = own.now;
          undone = own.reverted;
          undoes = record {
            among = of.1;
            stored = ap (element_of store) (sym of.2.stands.id) ∙ own.at.stored;
            undoes = undone-from own.part of.0.before of.0.after both.0 both.1 of.2.stands own.now own.reverted
                (stored-is store own.part.id own.now are own.at.stored) own.reverts.is_element own.reverts.applied;
          };
          differs = own.differs;
          is = own.is;
        };
    all = λ pair c. elim (stands.each_pair pair c) [
      | inl same ↦ inl same
      | inr of ↦
          let own = gives.all of.0 of.1 in
          let both = elements pair c in
          inr (record {
            now = own.now;
            undone = own.reverted;
            undoes = record {
              among = c;
              stored = ap (element_of store) (sym of.2.stands.id) ∙ own.at.stored;
              undoes = undone-from of.0 pair.before pair.after both.0 both.1 of.2.stands own.now own.reverted
                  (stored-is store of.0.id own.now are own.at.stored) own.reverts.is_element own.reverts.applied;
            };
            comes = own.comes;
          })
    ];
  }

  -- an element that isn't deleted any more is one too, and so is a deleted one
  counted-is : (o : Option ElementValue) (now : ElementValue) → IsElement now
      → ((e : ElementValue) → o ≡ Some e → IsElement e) → IsElement (counted o now)
  counted-is None now is each = element_with_deleted now true is
  counted-is (Some e) now is each = each e refl

  counted-id : (old : List ElementValue) (now : ElementValue) (o : Option ElementValue) → element_of old now.id ≡ o
      → (counted o now).id ≡ now.id
  counted-id old now None h = refl
  counted-id old now (Some e) h = sym (same_id now.id e (find-Some (has_id now.id) old e h).1)

  pub brought-back : (old : List ElementValue) (now : ElementValue)
      → EntryStandsFor parts (pairs_from (element_of old) store) → EachIsElement old
      → element_of store now.id ≡ Some now → (counted (element_of old now.id) now).kind ≡ now.kind
      → ComesBack given now (counted (element_of old now.id) now)
  brought-back old now stands olds stored kind =
      let before = counted (element_of old now.id) now in
      let is = stored-is store now.id now are stored in
      let is' = counted-is (element_of old now.id) now is (λ e h. stored-is old now.id e olds h) in
      let pair = λ (x : ElementValue). pair_with (element_of old x.id) x in
      elim (stands.each_pair (pair now) (Contains-to_map pair store now
      (find-Some (has_id now.id) store now stored).0)) [
        | inl same ↦ inl (sym (same kind))
        | inr of ↦
            let own = gives.all of.0 of.1 in
            let one : own.now ≡ now =
            same_Some own.now now (sym own.at.stored ∙ ap (element_of store) of.2.stands.id ∙ stored) in
            let back : unstamped own.reverted ≡ unstamped before =
            applied-back of.0 before now is' is of.2.stands own.reverted own.reverts.is_element
            (counted-id old now (element_of old now.id) refl) kind
            (subst (λ x. IsApplied (inverse of.0) x own.reverted) one own.reverts.applied) in
            elim own.comes [
              | inl same ↦ inl (ap unstamped (sym one) ∙ same ∙ back)
              | inr among ↦ inr (
                stamped time nonce own.reverted,
                among,
                own.reverts.kept.id
                    ∙ ap (λ (x : ElementValue). x.id) one,
                back,
              )
            ]
      ]
