-- The parts of a key, and keys from their parts.
use Rattle.std.proofs.Common.{◌≡◌, ℕ, ◌+◌, ◌<◌, ◌≤◌, true, false, not, get_or, List, [], ◌∷◌, ◌++◌, length, take, drop, leb, bytes_eq, refl, sym, ◌∙◌, ap, length-append, length-take, drop_at, append-nil, one-add, arith}
use Rattle.std.specs.Char.{is_ascii_alphabetic}
use Rattle.std.specs.List.{list_all}
use Rattle.std.proofs.lemmas.Bool.{and_parts, and_from, not-true, not_from_false, leb-true, le-leb, eq-eqb, false_from_ne_true}
use Rattle.std.proofs.lemmas.List.{take-append-drop, length-take-le}
use Rattle.std.proofs.lemmas.List.Folds.{list_all-append}
use Rattle.std.proofs.lemmas.Slice.Eq.{bytes_eq-Decides}
use Rattle.frac_keys.specs.Digits.{is_key_digit}
use Rattle.frac_keys.specs.Keys.{digit_count, integer_part, fraction, ends_in_zero, smallest_integer, is_integer, is_key}
use Rattle.frac_keys.proofs.PartLemmas.{list_all-parts}
use Rattle.frac_keys.proofs.MidpointLaws.{IsPositive, IsPositive-digits, ends_in_zero-positive}
use Rattle.frac_keys.proofs.IntegerLaws.{IsInteger, integer}

-- what is known of the parts of a key
pub record IsKey (k : List ℕ) : Type 0 where
  pub integer_is : IsInteger (integer_part k)
  pub digits : list_all is_key_digit (fraction k) ≡ true
  pub not_zero : ends_in_zero (fraction k) ≡ false
  pub joined : integer_part k ++ fraction k ≡ k
  pub other : k ≡ smallest_integer → ⊥

pub IsKey-from : (k : List ℕ) → is_key k ≡ true → IsKey k
unfolding is_key
IsKey-from [] h = cc
IsKey-from (head ∷ rest) h =
    let p4 = and_parts _ (not (bytes_eq (head ∷ rest) smallest_integer)) h in
    let p3 = and_parts _ (not (ends_in_zero (drop (digit_count head) rest))) p4.0 in
    let p2 = and_parts _ (list_all is_key_digit rest) p3.0 in
    let p1 = and_parts (is_ascii_alphabetic head) (leb (digit_count head) (length rest)) p2.0 in
    let split : take (digit_count head) rest ++ drop (digit_count head) rest ≡ rest =
    take-append-drop (digit_count head) rest in
    let digits = list_all-parts is_key_digit (digit_count head) rest p2.1 in
    record {
      integer_is =
          integer p1.0 (length-take-le (digit_count head) rest (leb-true (digit_count head) (length rest) p1.1))
          digits.0;
      digits = digits.1;
      not_zero = not-true _ p3.1;
      joined = ap (λ t. head ∷ t) split;
      other = λ e. absurd (let f = not-true (bytes_eq (head ∷ rest) smallest_integer) p4.1 in let t =
          (bytes_eq-Decides (head ∷ rest) smallest_integer).1 e in cc);
    }

pub is_key-from : {i : List ℕ} → IsInteger i → (f : List ℕ) → list_all is_key_digit f ≡ true → ends_in_zero f ≡ false
    → (i ++ f ≡ smallest_integer → ⊥) → is_key (i ++ f) ≡ true
unfolding is_key
is_key-from (integer {h} {ds} a n d) f e z ne =
    let cut : drop (digit_count h) (ds ++ f) ≡ f = drop_at ds f (digit_count h) n in
    let long : digit_count h ≤ length (ds ++ f) = omega (arith, length-append ds f) in
    let all : list_all is_key_digit (ds ++ f) ≡ true =
    list_all-append is_key_digit ds f ∙ and_from (list_all is_key_digit ds) (list_all is_key_digit f) d e in
    let other : bytes_eq (h ∷ (ds ++ f)) smallest_integer ≡ false =
    false_from_ne_true _ (λ t. ne ((bytes_eq-Decides (h ∷ (ds ++ f)) smallest_integer).0 t)) in
    and_from _ _ (and_from _ _ (and_from _ _ (and_from _ _ a (le-leb (digit_count h) (length (ds ++ f)) long)) all)
    (not_from_false _ (ap ends_in_zero cut ∙ z))) (not_from_false _ other)

-- an integer part, and digits behind it that don't end in `0`, are a key
pub is_key-positive : {i : List ℕ} → IsInteger i → {f : List ℕ} → IsPositive f → is_key (i ++ f) ≡ true
is_key-positive {i} n {f} p =
    is_key-from n f (IsPositive-digits p) (ends_in_zero-positive [] p)
    (λ e. absurd (let t : ends_in_zero smallest_integer ≡ false = ap ends_in_zero (sym e) ∙ ends_in_zero-positive i p in
    cc))

-- an integer part alone is one, if it isn't the smallest
pub is_key-integer : {i : List ℕ} → IsInteger i → (i ≡ smallest_integer → ⊥) → is_key i ≡ true
is_key-integer {i} n ne = rw append-nil at (is_key-from n [] refl refl (λ e. ne (rw append-nil at e)))

-- the two parts of a key, where the code cuts it
pub record IsCut (k : List ℕ) : Type 0 where
  pub some : 0 < length k
  pub head : is_ascii_alphabetic (get_or k 0 0) ≡ true
  pub long : 1 + digit_count (get_or k 0 0) ≤ length k
  pub integer_is : take (1 + digit_count (get_or k 0 0)) k ≡ integer_part k
  pub fraction_is : drop (1 + digit_count (get_or k 0 0)) k ≡ fraction k
  pub is_integer_part : is_integer (integer_part k) ≡ true
  pub digits : list_all is_key_digit (fraction k) ≡ true

is_integer-from : {i : List ℕ} → IsInteger i → is_integer i ≡ true
is_integer-from (integer {h} {ds} a n d) = and_from _ _ (and_from _ _ a (eq-eqb (length ds) (digit_count h) n)) d

nothing : IsInteger [] → ⊥
nothing n = elim n [ ]

cut : (head : ℕ) (rest : List ℕ) → IsKey (head ∷ rest) → is_ascii_alphabetic head ≡ true
    → digit_count head ≤ length rest → IsCut (head ∷ rest)
cut head rest p a long = record {
  some = omega arith;
  head = a;
  long = omega arith;
  integer_is = rw one-add refl;
  fraction_is = rw one-add refl;
  is_integer_part = is_integer-from p.integer_is;
  digits = p.digits;
}

head_of : {h : ℕ} {ds : List ℕ} → IsInteger (h ∷ ds) → (is_ascii_alphabetic h ≡ true) × (length ds ≡ digit_count h)
head_of (integer a n d) = (a, n)

pub IsCut-from : (k : List ℕ) → is_key k ≡ true → IsCut k
IsCut-from k h = by k (IsKey-from k h) where
  by : (k : List ℕ) → IsKey k → IsCut k
  by [] p = absurd (nothing p.integer_is)
  by (head ∷ rest) p =
      let h = head_of p.integer_is in
      cut head rest p h.0 (omega (arith, h.1, length-take (digit_count head) rest))
