-- What is shown of an element far from a change: it is settled as before, and has its key as before.
use Rattle.std.proofs.Common.{◌≡◌, ℕ, Bool, true, false, cond, List, [], ◌∷◌, map, Option, Some, None, bytes_eq, refl, sym, ap, ap₂, ◌∙◌, inl, inr}
use Rattle.std.specs.Option.{option_map}
use Rattle.std.proofs.lemmas.Bool.{cases_Bool}
use Rattle.std.proofs.lemmas.Option.{same_Some}
use Rattle.elem.specs.ElementValue.{ElementValue}
use Rattle.elem.specs.Order.{HaveDistinctIds}
use Rattle.elem_store.specs.Updates.{element_of, ids_of}
use Rattle.view.specs.Settled.{settled, unsettled}
use Rattle.index_repair.specs.Keyed.{index_of}
use Rattle.view.specs.Shown.{without_index}
use Rattle.view.specs.Steps.{settled_but_for_key}
use Rattle.view.proofs.CallerLemmas.{unsettled-settled}
use Rattle.kept_view.proofs.ByIds.{same-by_ids}

pub element-map : (f : ElementValue → ElementValue) → ((e : ElementValue) → (f e).id ≡ e.id)
    → (es : List ElementValue) (id : List ℕ) → element_of (map f es) id ≡ option_map f (element_of es id)
element-map f keep [] id = refl
element-map f keep (e ∷ es) id =
    ap (λ i. cond (bytes_eq id i) (Some (f e)) (element_of (map f es) id)) (keep e)
    ∙ elim (bytes_eq id e.id) as (λ b. cond b (Some (f e)) (element_of (map f es) id)
    ≡ option_map f (cond b (Some e) (element_of es id))) [
      | true ↦ refl
      | false ↦ element-map f keep es id
    ]

rekeyed : Option (List ℕ) → ElementValue → ElementValue
rekeyed index e = record e { index = index }

pub same_option : (o p : Option ElementValue) → option_map without_index o ≡ option_map without_index p
    → option_map index_of o ≡ option_map index_of p → o ≡ p
unfolding rekeyed
same_option None None others index = refl
same_option None (Some f) others index = cc
same_option (Some e) None others index = cc
same_option (Some e) (Some f) others index =
    ap Some (ap₂ rekeyed (same_Some e.index f.index index) (same_Some (without_index e) (without_index f) others))

index-unsettled : (o : Option ElementValue) → option_map index_of (option_map unsettled o) ≡ option_map index_of o
index-unsettled None = refl
index-unsettled (Some e) = refl

pub index-settled : (es : List ElementValue) (id : List ℕ) → option_map index_of (element_of (settled es) id)
    ≡ option_map index_of (element_of es id)
index-settled es id =
    sym (index-unsettled (element_of (settled es) id))
    ∙ (ap (option_map index_of) (sym (element-map unsettled (λ e. refl) (settled es) id)
    ∙ (ap (λ fs. element_of fs id) (unsettled-settled es) ∙ element-map unsettled (λ e. refl) es id))
    ∙ index-unsettled (element_of es id))

-- settled alike, with one key
pub untouched : (es fs : List ElementValue) (id : List ℕ) → settled_but_for_key es id ≡ settled_but_for_key fs id
    → element_of es id ≡ element_of fs id
    → element_of (settled es) id ≡ element_of (settled fs) id
untouched es fs id alike same =
    same_option (element_of (settled es) id) (element_of (settled fs) id) alike (index-settled es id
    ∙ (ap (option_map index_of) same ∙ sym (index-settled fs id)))

-- Elements in which those that a change touches are what is shown afterwards, and all others what was shown before, are
-- what is shown afterwards.
pub all-shown : (touched : List ℕ → Bool) (before after new : List ElementValue) → HaveDistinctIds new
    → HaveDistinctIds (settled after) → ids_of new ≡ ids_of (settled after)
    → ((id : List ℕ) → touched id ≡ true → element_of new id ≡ element_of (settled after) id)
    → ((id : List ℕ) → touched id ≡ false → element_of new id ≡ element_of (settled before) id)
    → ((id : List ℕ) → touched id ≡ false → settled_but_for_key before id ≡ settled_but_for_key after id)
    → ((id : List ℕ) → touched id ≡ false → element_of before id ≡ element_of after id)
    → new ≡ settled after
all-shown touched before after new apart others along near far alike same =
    same-by_ids new (settled after) apart others along each
  where
    each : (id : List ℕ) → element_of new id ≡ element_of (settled after) id
    each id = elim (cases_Bool (touched id)) [
      | inl is ↦ near id is
      | inr not ↦ far id not ∙ untouched before after id (alike id not) (same id not)
    ]
