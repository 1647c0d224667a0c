-- Values that are read one after the other, each with its place.
use Rattle.std.proofs.Common.{◌≡◌, inl, inr, ℕ, suc, ◌+◌, ◌<◌, List, [], ◌∷◌, ◌++◌, All, length, take, get_or, refl, sym, ap, ap₂, subst, ◌∙◌, arith, length-take}
use Rattle.json_text.proofs.CallerLemmas.{taken-next}
use Rattle.elem.specs.ElementValue.{ElementValue}
use Rattle.elem_read.specs.Elements.{AreRead, IsFirstFaulty}
use Rattle.elem_read.specs.Reading.{IsSelection, IsElementIn, IsFaultIn, IsWholeElement}
use Rattle.elem_read.specs.declared.fault.ElemFault.{ElemFault}
use Rattle.elem_read.proofs.CallerLemmas.{All-whole, element-kept, element-once, faultless, faulty-at}
use Rattle.clips.specs.Placed.{elements_in, AreReadFrom}
use Rattle.clips.specs.declared.placed.Placed.{Placed}

-- ---- one value more
read-append : (n : ℕ) (values : List (List ℕ)) (value : List ℕ) (placed : List Placed) (p : Placed)
    → p.place ≡ n + length values → IsElementIn value p.element
    → AreReadFrom n values placed → AreReadFrom n (values ++ value ∷ []) (placed ++ p ∷ [])
read-append n [] value placed p at is read = inr (p, [], ap (λ ps. ps ++ p ∷ []) read, omega (arith, at), is, refl)
read-append n (v ∷ values) value placed p at is (inl (dropped, read)) =
    inl (dropped, read-append (suc n) values value placed p (omega (arith, at)) is read)
read-append n (v ∷ values) value placed p at is (inr (first, others, all, here, one, read)) =
    inr (
      first,
      others ++ p ∷ [],
      ap (λ ps. ps ++ p ∷ []) all,
      here,
      one,
      read-append (suc n) values value others p (omega (arith, at)) is read,
    )

dropped-append : (n : ℕ) (values : List (List ℕ)) (value : List ℕ) (placed : List Placed) → IsSelection value
    → AreReadFrom n values placed → AreReadFrom n (values ++ value ∷ []) placed
dropped-append n [] value placed is read = inl (is, read)
dropped-append n (v ∷ values) value placed is (inl (dropped, read)) =
    inl (dropped, dropped-append (suc n) values value placed is read)
dropped-append n (v ∷ values) value placed is (inr (first, others, all, here, one, read)) =
    inr (first, others, all, here, one, dropped-append (suc n) values value others is read)

pub read-more : (values : List (List ℕ)) (i : ℕ) (value : List ℕ) (placed new : List Placed) (p : Placed)
    → i < length values → value ≡ get_or values i value
    → AreReadFrom 0 (take i values) placed → p.place ≡ i → IsElementIn value p.element → new ≡ placed ++ p ∷ []
    → AreReadFrom 0 (take (i + 1) values) new
read-more values i value placed new p within at read place is pushed =
    subst (λ vs. AreReadFrom 0 vs new) (sym (taken-next values i value within at))
    (subst (AreReadFrom 0 (take i values ++ value ∷ [])) (sym pushed)
    (read-append 0 (take i values) value placed p (omega (arith, place, length-take i values)) is read))

pub dropped-more : (values : List (List ℕ)) (i : ℕ) (value : List ℕ) (placed : List Placed) → i < length values
    → value ≡ get_or values i value
    → AreReadFrom 0 (take i values) placed → IsSelection value → AreReadFrom 0 (take (i + 1) values) placed
dropped-more values i value placed within at read is =
    subst (λ vs. AreReadFrom 0 vs placed) (sym (taken-next values i value within at))
    (dropped-append 0 (take i values) value placed is read)

-- ---- without the places
pub without-places : (n : ℕ) (values : List (List ℕ)) (placed : List Placed) → AreReadFrom n values placed
    → AreRead values (elements_in placed)
without-places n [] placed read = ap elements_in read
without-places n (v ∷ values) placed (inl (dropped, read)) = inl (dropped, without-places (suc n) values placed read)
without-places n (v ∷ values) placed (inr (p, others, all, here, is, read)) =
    inr (p.element, elements_in others, ap elements_in all, is, without-places (suc n) values others read)

-- a faulty value behind values that are read
pub faulty-next : (values : List (List ℕ)) (i : ℕ) (value : List ℕ) (placed : List Placed) (fault : ElemFault)
    → i < length values → value ≡ get_or values i value
    → AreReadFrom 0 (take i values) placed → IsFaultIn value fault → IsFirstFaulty values i fault
faulty-next values i value placed fault within at read faulty =
    faulty-at values i value (elements_in placed) fault within at (without-places 0 (take i values) placed read) faulty

pub placed-whole : (values : List (List ℕ)) (placed : List Placed) → AreReadFrom 0 values placed
    → All IsWholeElement (elements_in placed)
placed-whole values placed read = All-whole values (elements_in placed) (without-places 0 values placed read)

-- ---- one way alone
placed-same : (p q : Placed) → p.place ≡ q.place → p.element ≡ q.element → p ≡ q
placed-same p q place element = λ i. record { place = place i; element = element i }

pub placed-once : (n : ℕ) (values : List (List ℕ)) (ps qs : List Placed) → AreReadFrom n values ps
    → AreReadFrom n values qs → ps ≡ qs
placed-once n [] ps qs one two = one ∙ sym two
placed-once n (v ∷ values) ps qs (inl (dropped, read)) (inl (gone, others)) =
    placed-once (suc n) values ps qs read others
placed-once n (v ∷ values) ps qs (inl (dropped, read)) (inr (q, more, all, here, is, others)) =
    absurd (element-kept v q.element is dropped)
placed-once n (v ∷ values) ps qs (inr (p, more, all, here, is, read)) (inl (dropped, others)) =
    absurd (element-kept v p.element is dropped)
placed-once n (v ∷ values) ps qs (inr (p, more, all, here, is, read)) (inr (q, rest, each, there, are, others)) =
    all ∙ (ap₂ (λ x xs. x ∷ xs) (placed-same p q (here ∙ sym there) (element-once v p.element q.element is are))
    (placed-once (suc n) values more rest read others) ∙ sym each)

pub placed-faultless : (values : List (List ℕ)) (placed : List Placed) (place : ℕ) (fault : ElemFault)
    → AreReadFrom 0 values placed → IsFirstFaulty values place fault → ⊥
placed-faultless values placed place fault read faulty =
    faultless values (elements_in placed) place fault (without-places 0 values placed read) faulty

-- ---- elements that are read have places
pub placed-of : (n : ℕ) (values : List (List ℕ)) (elements : List ElementValue) → AreRead values elements
    → (placed : List Placed) × AreReadFrom n values placed
placed-of n [] elements none = ([], refl)
placed-of n (v ∷ values) elements (inl (dropped, read)) =
    let rest = placed-of (suc n) values elements read in (rest.0, inl (dropped, rest.1))
placed-of n (v ∷ values) elements (inr (e, others, all, is, read)) =
    let rest = placed-of (suc n) values others read in
    let own : Placed = record { place = n; element = e } in
    (own ∷ rest.0, inr (own, rest.0, refl, refl, is, rest.1))
