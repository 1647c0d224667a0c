-- Values that are read one after the other.
use Rattle.std.proofs.Common.{◌≡◌, ◌⊎◌, inl, inr, ℕ, zero, suc, ◌+◌, ◌<◌, List, [], ◌∷◌, ◌++◌, All, lit≤, length, take, take_all, drop, map, get_or, add-one, drop-cons, length-drop, refl, sym, ap, ap₂, subst, ◌∙◌, arith}
use Rattle.std.specs.List.{AllByRecursion}
use Rattle.std.proofs.lemmas.List.Elements.{recursion_from_All, All-from_recursion}
use Rattle.json_text.specs.Value.{IsCompact}
use Rattle.json_text.proofs.CallerLemmas.{Value-deeper, taken-next}
use Rattle.scene_json.specs.Walks.{Walk, AreLeft}
use Rattle.elem.specs.ElementValue.{ElementValue}
use Rattle.elem.specs.Texts.{element_text}
use Rattle.elem_read.specs.Elements.{AreRead, IsFirstFaulty}
use Rattle.elem_read.specs.Reading.{IsSelection, IsElementIn, IsFaultIn, IsWholeElement}
use Rattle.elem_read.specs.declared.fault.ElemFault.{ElemFault}
use Rattle.elem_read.proofs.Read.{read-exists}
use Rattle.elem_read.proofs.Unique.{element-once, element-faultless, element-kept, fault-once, fault-dropped}
use Rattle.elem_read.proofs.Whole.{whole}

-- ---- one value more
read-append : (values : List (List ℕ)) (value : List ℕ) (elements : List ElementValue) (e : ElementValue)
    → IsElementIn value e → AreRead values elements → AreRead (values ++ value ∷ []) (elements ++ e ∷ [])
read-append [] value elements e is read = inr (e, [], ap (λ es. es ++ e ∷ []) read, is, refl)
read-append (v ∷ values) value elements e is (inl (dropped, read)) =
    inl (dropped, read-append values value elements e is read)
read-append (v ∷ values) value elements e is (inr (first, others, all, here, read)) =
    inr (first, others ++ e ∷ [], ap (λ es. es ++ e ∷ []) all, here, read-append values value others e is read)

dropped-append : (values : List (List ℕ)) (value : List ℕ) (elements : List ElementValue) → IsSelection value
    → AreRead values elements → AreRead (values ++ value ∷ []) elements
dropped-append [] value elements is read = inl (is, read)
dropped-append (v ∷ values) value elements is (inl (dropped, read)) =
    inl (dropped, dropped-append values value elements is read)
dropped-append (v ∷ values) value elements is (inr (first, others, all, here, read)) =
    inr (first, others, all, here, dropped-append values value others is read)

-- one more value that is an element
pub read-more : (values : List (List ℕ)) (i : ℕ) (value : List ℕ) (elements new : List ElementValue) (e : ElementValue)
    → i < length values → value ≡ get_or values i value
    → AreRead (take i values) elements → IsElementIn value e → new ≡ elements ++ e ∷ []
    → AreRead (take (i + 1) values) new
read-more values i value elements new e within at read is pushed =
    subst (λ vs. AreRead vs new) (sym (taken-next values i value within at))
    (subst (AreRead (take i values ++ value ∷ [])) (sym pushed) (read-append (take i values) value elements e is read))

-- one more value that is dropped
pub dropped-more : (values : List (List ℕ)) (i : ℕ) (value : List ℕ) (elements : List ElementValue) → i < length values
    → value ≡ get_or values i value
    → AreRead (take i values) elements → IsSelection value → AreRead (take (i + 1) values) elements
dropped-more values i value elements within at read is =
    subst (λ vs. AreRead vs elements) (sym (taken-next values i value within at))
    (dropped-append (take i values) value elements is read)

-- a faulty value behind values that are read
pub faulty-at : (values : List (List ℕ)) (i : ℕ) (value : List ℕ) (elements : List ElementValue) (fault : ElemFault)
    → i < length values → value ≡ get_or values i value
    → AreRead (take i values) elements → IsFaultIn value fault → IsFirstFaulty values i fault
faulty-at [] i value elements fault within at read faulty = absurd (omega arith)
faulty-at (v ∷ values) zero value elements fault within at read faulty = subst (λ w. IsFaultIn w fault) at faulty
faulty-at (v ∷ values) (suc i) value elements fault within at (inl (dropped, read)) faulty =
    (inl dropped, faulty-at values i value elements fault (omega arith) at read faulty)
faulty-at (v ∷ values) (suc i) value elements fault within at (inr (e, others, all, here, read)) faulty =
    (inr (e, here), faulty-at values i value others fault (omega arith) at read faulty)

-- ---- an array that is read item by item
-- So many of the values are read, and these are left.
pub record IsReadTo (values : List (List ℕ)) (walk : Walk) (place : ℕ) (elements : List ElementValue) : Type 0 where
  pub read : AreRead (take place values) elements
  pub left : AreLeft walk (drop place values)

here : {A : Type 0} (xs : List A) (i : ℕ) (x : A) (others : List A) → drop i xs ≡ x ∷ others → (i < length xs)
    × (x ≡ get_or xs i x) × (drop (i + 1) xs ≡ others)
here xs i x others e =
    let within : i < length xs = omega (arith, ap length e, length-drop i xs) in
    let split : get_or xs i x ∷ drop (i + 1) xs ≡ x ∷ others = rw add-one (sym (drop-cons xs i x within)) ∙ e in
    (within, cc, cc)

module _ (values : List (List ℕ)) (walk new : Walk) (place : ℕ) (elements : List ElementValue) (item : List ℕ)
    (others : List (List ℕ))
    (r : IsReadTo values walk place elements) (next : drop place values ≡ item ∷ others) (left : AreLeft new others)
  where
    pub IsReadTo-more : (more : List ElementValue) (e : ElementValue) → IsElementIn item e → more ≡ elements ++ e ∷ []
        → IsReadTo values new (place + 1) more
    IsReadTo-more more e is pushed =
        let h = here values place item others next in
        record { read = read-more values place item elements more e h.0 h.1 r.read is pushed; left = rw h.2 left }

    pub IsReadTo-dropped : IsSelection item → IsReadTo values new (place + 1) elements
    IsReadTo-dropped is =
        let h = here values place item others next in
        record { read = dropped-more values place item elements h.0 h.1 r.read is; left = rw h.2 left }

    pub IsReadTo-faulty : (fault : ElemFault) → IsFaultIn item fault → IsFirstFaulty values place fault
    IsReadTo-faulty fault is =
        let h = here values place item others next in
        faulty-at values place item elements fault h.0 h.1 r.read is

pub IsReadTo-all : (values : List (List ℕ)) (walk : Walk) (place : ℕ) (elements : List ElementValue)
    → IsReadTo values walk place elements → drop place values ≡ [] → AreRead values elements
IsReadTo-all values walk place elements r none =
    subst (λ vs. AreRead vs elements) (take_all place values (omega (arith, ap length none, length-drop place values)))
    r.read

-- ---- what is read is whole, and what is whole is read
whole-each : (values : List (List ℕ)) (elements : List ElementValue) → AreRead values elements
    → AllByRecursion IsWholeElement elements
whole-each [] elements read = subst (AllByRecursion IsWholeElement) (sym read) tt
whole-each (v ∷ values) elements (inl (dropped, read)) = whole-each values elements read
whole-each (v ∷ values) elements (inr (e, others, all, is, read)) =
    subst (AllByRecursion IsWholeElement) (sym all) (whole v e is, whole-each values others read)

pub All-whole : (values : List (List ℕ)) (elements : List ElementValue) → AreRead values elements
    → All IsWholeElement elements
All-whole values elements read = All-from_recursion IsWholeElement elements (whole-each values elements read)

texts-read : (elements : List ElementValue) → AllByRecursion IsWholeElement elements
    → AreRead (map element_text elements) elements
texts-read [] all = refl
texts-read (e ∷ elements) all = inr (e, elements, refl, all.0, texts-read elements all.1)

pub AreRead-texts : (elements : List ElementValue) → All IsWholeElement elements
    → AreRead (map element_text elements) elements
AreRead-texts elements all = texts-read elements (recursion_from_All IsWholeElement elements all)

-- ---- one way alone
pub read-once : (values : List (List ℕ)) (es fs : List ElementValue) → AreRead values es → AreRead values fs → es ≡ fs
read-once [] es fs one two = one ∙ sym two
read-once (v ∷ values) es fs (inl (dropped, read)) (inl (gone, others)) = read-once values es fs read others
read-once (v ∷ values) es fs (inl (dropped, read)) (inr (f, more, all, is, others)) =
    absurd (element-kept v f is dropped)
read-once (v ∷ values) es fs (inr (e, more, all, is, read)) (inl (dropped, others)) =
    absurd (element-kept v e is dropped)
read-once (v ∷ values) es fs (inr (e, more, all, is, read)) (inr (f, rest, each, are, others)) =
    all ∙ (ap₂ (λ x xs. x ∷ xs) (element-once v e f is are) (read-once values more rest read others) ∙ sym each)

no-fault : (v : List ℕ) (fault : ElemFault) → IsFaultIn v fault → IsSelection v ⊎ ((e : ElementValue) × IsElementIn v e)
    → ⊥
no-fault v fault one (inl dropped) = fault-dropped v fault one dropped
no-fault v fault one (inr (e, is)) = element-faultless v e fault is one

pub faulty-once : (values : List (List ℕ)) (place other : ℕ) (fault why : ElemFault) → IsFirstFaulty values place fault
    → IsFirstFaulty values other why → (place ≡ other) × (fault ≡ why)
faulty-once [] place other fault why one two = absurd one
faulty-once (v ∷ values) zero zero fault why one two = (refl, fault-once v fault why one two)
faulty-once (v ∷ values) zero (suc other) fault why one two = absurd (no-fault v fault one two.0)
faulty-once (v ∷ values) (suc place) zero fault why one two = absurd (no-fault v why two one.0)
faulty-once (v ∷ values) (suc place) (suc other) fault why one two =
    let more = faulty-once values place other fault why one.1 two.1 in
    (ap suc more.0, more.1)

pub faultless : (values : List (List ℕ)) (elements : List ElementValue) (place : ℕ) (fault : ElemFault)
    → AreRead values elements → IsFirstFaulty values place fault → ⊥
faultless [] elements place fault read faulty = faulty
faultless (v ∷ values) elements zero fault (inl (dropped, read)) faulty = no-fault v fault faulty (inl dropped)
faultless (v ∷ values) elements zero fault (inr (e, others, all, is, read)) faulty =
    no-fault v fault faulty (inr (e, is))
faultless (v ∷ values) elements (suc place) fault (inl (dropped, read)) faulty =
    faultless values elements place fault read faulty.1
faultless (v ∷ values) elements (suc place) fault (inr (e, others, all, is, read)) faulty =
    faultless values others place fault read faulty.1

-- ---- some way
pub read-or-faulty : (values : List (List ℕ)) → AllByRecursion (IsCompact 127) values
    → ((elements : List ElementValue) × AreRead values elements)
    ⊎ ((place : ℕ) × (fault : ElemFault) × IsFirstFaulty values place fault)
read-or-faulty [] all = inl ([], refl)
read-or-faulty (v ∷ values) all = by (read-exists v (Value-deeper (lit≤ tt) all.0)) (read-or-faulty values all.1)
  where
    by : IsSelection v ⊎ (((e : ElementValue) × IsElementIn v e) ⊎ ((fault : ElemFault) × IsFaultIn v fault))
        → ((elements : List ElementValue) × AreRead values elements)
        ⊎ ((place : ℕ) × (fault : ElemFault) × IsFirstFaulty values place fault)
        → ((elements : List ElementValue) × AreRead (v ∷ values) elements)
        ⊎ ((place : ℕ) × (fault : ElemFault) × IsFirstFaulty (v ∷ values) place fault)
    by (inl dropped) (inl (elements, read)) = inl (elements, inl (dropped, read))
    by (inl dropped) (inr (place, fault, is)) = inr (suc place, fault, (inl dropped, is))
    by (inr (inl (e, is))) (inl (elements, read)) = inl (e ∷ elements, inr (e, elements, refl, is, read))
    by (inr (inl (e, is))) (inr (place, fault, later)) = inr (suc place, fault, (inr (e, is), later))
    by (inr (inr (fault, is))) others = inr (zero, fault, is)
