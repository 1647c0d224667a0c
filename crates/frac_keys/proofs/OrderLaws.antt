-- The order of keys by their bytes.
use Rattle.std.proofs.Common.{◌≡◌, ◌≢◌, ℕ, ◌<◌, true, false, ◌⊎◌, List, [], ◌∷◌, ◌++◌, length, bytes_eq, Ordering, is_lt, nat_cmp, inl, inr, refl, sym, ap, ◌∙◌, subst, arith}
use Rattle.std.specs.Ordering.{is_eq, ordering_reverse, ordering_then}
use Rattle.std.specs.Cmp.Lexicographic.{slice_cmp, texts_ties}
use Rattle.std.proofs.lemmas.Bool.Decides.{nat_tests}
use Rattle.std.proofs.lemmas.Cmp.{tied_itself, nat_list_cmp_total}
use Rattle.std.specs.declared.cmp.Ordering.TheVariants.{Less, Equal, Greater}
use Rattle.std.proofs.lemmas.Bool.{cases_Bool, false≢true}
use Rattle.std.proofs.lemmas.Slice.Eq.{bytes_eq-Decides}
use Rattle.frac_keys.specs.Keys.{bytes_less}

-- A list of bytes is less than another one where it ends before it, or has the lower byte where they part.
pub data IsLess : List ℕ → List ℕ → Type 0 where
  ended : {y : ℕ} {ys : List ℕ} → IsLess [] (y ∷ ys)
  parted : {x y : ℕ} {xs ys : List ℕ} → x < y → IsLess (x ∷ xs) (y ∷ ys)
  later : {x : ℕ} {xs ys : List ℕ} → IsLess xs ys → IsLess (x ∷ xs) (x ∷ ys)

heads : (x y : ℕ) (o : Ordering) → is_lt (ordering_then (nat_cmp x y) o) ≡ true → (x < y) ⊎ ((x ≡ y) × (is_lt o ≡ true))
heads x y o h = grind (arith, nat_tests)

pub IsLess-from : (a b : List ℕ) → bytes_less a b ≡ true → IsLess a b
IsLess-from [] [] h = cc
IsLess-from [] (y ∷ ys) h = ended
IsLess-from (x ∷ xs) [] h = cc
IsLess-from (x ∷ xs) (y ∷ ys) h =
    elim (heads x y (slice_cmp nat_cmp xs ys) h) [
      | inl l ↦ parted l
      | inr e ↦ subst (λ z. IsLess (x ∷ xs) (z ∷ ys)) e.0 (later (IsLess-from xs ys e.1))
    ]

lower : (x y : ℕ) (o : Ordering) → x < y → is_lt (ordering_then (nat_cmp x y) o) ≡ true
lower x y o h = grind (arith, nat_tests)

pub alike : (x : ℕ) (o : Ordering) → is_lt o ≡ true → is_lt (ordering_then (nat_cmp x x) o) ≡ true
alike x o h = grind (arith, nat_tests)

pub bytes_less-from : {a b : List ℕ} → IsLess a b → bytes_less a b ≡ true
bytes_less-from ended = refl
bytes_less-from (parted {x} {y} {xs} {ys} l) = lower x y (slice_cmp nat_cmp xs ys) l
bytes_less-from (later {x} {xs} {ys} r) = alike x (slice_cmp nat_cmp xs ys) (bytes_less-from r)

pub bytes_less_itself : (a : List ℕ) → bytes_less a a ≡ false
bytes_less_itself a = ap is_lt (tied_itself nat_list_cmp_total a)

pub IsLess-trans : {a b c : List ℕ} → IsLess a b → IsLess b c → IsLess a c
IsLess-trans ended (parted m) = ended
IsLess-trans ended (later s) = ended
IsLess-trans (parted l) (parted m) = parted (omega arith)
IsLess-trans (parted l) (later s) = parted l
IsLess-trans (later r) (parted m) = parted m
IsLess-trans (later r) (later s) = later (IsLess-trans r s)

pub bytes_less-trans : (a b c : List ℕ) → bytes_less a b ≡ true → bytes_less b c ≡ true → bytes_less a c ≡ true
bytes_less-trans a b c first second = bytes_less-from (IsLess-trans (IsLess-from a b first) (IsLess-from b c second))

pub bytes_less-asym : (a b : List ℕ) → bytes_less a b ≡ true → bytes_less b a ≡ false
bytes_less-asym a b h = elim (cases_Bool (bytes_less b a)) [
  | inl back ↦ absurd (false≢true (sym (bytes_less_itself a) ∙ bytes_less-trans a b a h back))
  | inr above ↦ above
]

pub bytes_eq-less : (a b : List ℕ) → bytes_less a b ≡ true → bytes_eq a b ≡ false
bytes_eq-less a b h = let less : slice_cmp nat_cmp a b ≡ Less = grind arith in texts_ties a b ∙ ap is_eq less

turned : (o p : Ordering) → o ≡ ordering_reverse p → is_eq o ≡ false → is_lt p ≡ false → is_lt o ≡ true
turned o Less e differ above = cc
turned o Equal e differ above = absurd (false≢true (sym differ ∙ ap is_eq e))
turned o Greater e differ above = ap is_lt e

-- of two lists that differ the one that isn't greater is less
pub bytes_less-turned : (a b : List ℕ) → bytes_eq a b ≡ false → bytes_less b a ≡ false → bytes_less a b ≡ true
bytes_less-turned a b differ above =
    turned (slice_cmp nat_cmp a b) (slice_cmp nat_cmp b a) (nat_list_cmp_total.antisymm a b) (sym (texts_ties a b)
    ∙ differ) above

-- where neither is less, the two are equal
pub bytes-neither : (a b : List ℕ) → bytes_less a b ≡ false → bytes_less b a ≡ false → a ≡ b
bytes-neither a b first second = elim (cases_Bool (bytes_eq a b)) [
  | inl same ↦ (bytes_eq-Decides a b).0 same
  | inr differ ↦ absurd (false≢true (sym first ∙ bytes_less-turned a b differ second))
]

-- what isn't greater than the one that isn't greater isn't greater
pub bytes-below : (a b c : List ℕ) → bytes_less b a ≡ false → bytes_less c b ≡ false → bytes_less c a ≡ false
bytes-below a b c first second = elim (cases_Bool (bytes_less c a)) [
  | inl less ↦ elim (cases_Bool (bytes_less a b)) [
    | inl more ↦ absurd (false≢true (sym second ∙ bytes_less-trans c a b less more))
    | inr same ↦ absurd (false≢true (sym second
        ∙ subst (λ t. bytes_less c t ≡ true) (bytes-neither a b same first) less))
  ]
  | inr above ↦ above
]

-- what two lists begin with can be left out
pub IsLess-append : (i : List ℕ) {f g : List ℕ} → IsLess f g → IsLess (i ++ f) (i ++ g)
IsLess-append [] l = l
IsLess-append (x ∷ i) l = later (IsLess-append i l)

tails : {x y : ℕ} {xs ys : List ℕ} → IsLess (x ∷ xs) (y ∷ ys) → x ≡ y → IsLess xs ys
tails (parted l) e = absurd (omega arith)
tails (later r) e = r

pub IsLess-cancel : (i f g : List ℕ) → IsLess (i ++ f) (i ++ g) → IsLess f g
IsLess-cancel [] f g l = l
IsLess-cancel (x ∷ i) f g l = IsLess-cancel i f g (tails l refl)

-- Two lists part at a place within both, where their bytes stand in the relation.
pub data Part (R : ℕ → ℕ → Type 0) : List ℕ → List ℕ → Type 0 where
  here : {x y : ℕ} {xs ys : List ℕ} → R x y → Part R (x ∷ xs) (y ∷ ys)
  there : {x : ℕ} {xs ys : List ℕ} → Part R xs ys → Part R (x ∷ xs) (x ∷ ys)

-- the second list is above the first, or below it, at that place
abbrev pub Up : ℕ → ℕ → Type 0
Up x y = x < y

abbrev pub Down : ℕ → ℕ → Type 0
Down x y = y < x

-- whatever follows them, lists that part are in the order of their bytes there
pub IsLess-up : {i j : List ℕ} → Part Up i j → (f g : List ℕ) → IsLess (i ++ f) (j ++ g)
IsLess-up (here l) f g = parted l
IsLess-up (there p) f g = later (IsLess-up p f g)

pub IsLess-down : {i j : List ℕ} → Part Down i j → (f g : List ℕ) → IsLess (j ++ f) (i ++ g)
IsLess-down (here l) f g = parted l
IsLess-down (there p) f g = later (IsLess-down p f g)

-- lists of one length that differ part, if what they begin is in order
pub Part-from : (i j f g : List ℕ) → length i ≡ length j → i ≢ j → IsLess (i ++ f) (j ++ g) → Part Up i j
Part-from [] [] f g e ne l = absurd (ne refl)
Part-from [] (y ∷ j) f g e ne l = absurd (omega arith)
Part-from (x ∷ i) [] f g e ne l = absurd (omega arith)
Part-from (x ∷ i) (y ∷ j) f g e ne (parted l) = here l
Part-from (x ∷ i) (y ∷ j) f g e ne (later r) = there (Part-from i j f g (omega arith) (λ h. ne (ap (λ t. y ∷ t) h)) r)
