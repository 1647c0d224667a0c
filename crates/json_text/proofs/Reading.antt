-- Numbers and words; and that a text is read in one way alone: trees whose spellings begin one text are equal, and so
-- is what follows them.
use Rattle.std.proofs.Common.{◌≡◌, ℕ, List, [], ◌∷◌, ◌++◌, Bool, true, false, ◌||◌, ◌==◌, refl, sym, ap, ◌∙◌, arith, append_assoc, ◌⊎◌, flat_map, ◌<◌, ◌^◌, not, ◌&&◌, subst, decimal, get_or, append-nil, eq-zero-or-pos, inl, inr, ⊎_elim}
use Rattle.std.proofs.lemmas.Bool.{and_parts, or_left}
use Rattle.std.proofs.lemmas.Bool.Decides.{nat_tests}
use Rattle.std.specs.List.{list_all}
use Rattle.std.specs.Str.Parse.{AllDigits}
use Rattle.std.proofs.lemmas.Fmt.{decimal_digit, decimal_is_IsNumeral, first_decimal}
use Rattle.std.proofs.lemmas.List.Folds.{list_all-append}
use Rattle.std.proofs.lemmas.Str.Parse.{tells_digits}
use Rattle.json_text.specs.Characters.{is_digit, is_space, is_blank, is_opening, is_closing}
use Rattle.json_text.specs.Tree.{Piece, piece_spelling, Container, array, object, opening, closing, Label, unnamed, named, label_spelling, Tree, scalar, text, empty, filled, Values, last, next, IsNumber, IsWord, IsGood, AreGood, IsLabel, spelling, values_spelling, IsSign, IsIntegerPart, IsFraction, IsExponent}
use Rattle.json_text.specs.Compact.{compact}
use Rattle.json_text.specs.Value.{extends_number, Follows, Stands}
use Rattle.json_text.proofs.Strings.{pieces-once}

-- a byte that is no white space and neither opens, ends nor parts a value
abbrev pub is_part_of_literal : ℕ → Bool
is_part_of_literal b =
    not (is_space b) && (not (b == 34) && (not (b == 44 || b == 58) && (not (is_opening b) && not (is_closing b))))

-- what holds of each byte
pub list_all-each : (p q : ℕ → Bool) → ((b : ℕ) → p b ≡ true → q b ≡ true) → (xs : List ℕ) → list_all p xs ≡ true
    → list_all q xs ≡ true
list_all-each p q all [] h = refl
list_all-each p q all (x ∷ xs) h = grind (arith, all x, list_all-each p q all xs)

-- ---- each byte of a number may go on with one
digits-extend : (s : List ℕ) → list_all is_digit s ≡ true → list_all extends_number s ≡ true
digits-extend = list_all-each is_digit extends_number (λ b h. or_left (is_digit b) _ h)

exponent-extends : (s : List ℕ) → IsExponent s → list_all extends_number s ≡ true
exponent-extends s h = grind (arith, nat_tests, digits-extend, list_all-append extends_number)

pub number-extends : (s : List ℕ) → IsNumber s → list_all extends_number s ≡ true
number-extends s n =
    let signed : list_all extends_number n.sign ≡ true = let h = n.signed in grind (arith, nat_tests) in
    let counted : list_all extends_number n.whole ≡ true =
    let h = n.counted in grind (arith, nat_tests, digits-extend) in
    let parted : list_all extends_number n.fraction ≡ true =
    let h = n.parted in grind (arith, nat_tests, digits-extend) in
    rw (
      n.spells,
      list_all-append,
      list_all-append,
      list_all-append,
      signed,
      counted,
      parted,
      exponent-extends n.exponent n.scaled,
    ) refl

-- ---- neither numbers nor words open, end or part a value
pub literal-plain : (s : List ℕ) → IsNumber s ⊎ IsWord s → list_all is_part_of_literal s ≡ true
literal-plain s literal = grind (
  arith,
  nat_tests,
  number-extends s,
  list_all-each extends_number is_part_of_literal (λ b h. grind (arith, nat_tests)) s,
)

-- ---- how numbers are spelled
-- four parts spell a number, and a whole part alone does
pub number : (sign whole fraction exponent : List ℕ) → IsSign sign → IsIntegerPart whole → IsFraction fraction
    → IsExponent exponent → IsNumber (sign ++ (whole ++ (fraction ++ exponent)))
number sign whole fraction exponent s w f e =
    record {
      sign = sign;
      whole = whole;
      fraction = fraction;
      exponent = exponent;
      spells = refl;
      signed = s;
      counted =
          w;
      parted = f;
      scaled = e;
    }

pub whole_number : (s : List ℕ) → IsIntegerPart s → IsNumber s
whole_number s w = subst IsNumber (append-nil s) (number [] s [] [] (inl refl) w (inl refl) (inl refl))

-- a printed number is a number: `0` alone, or digits that don't begin with `0`
digits-pass : (ds : List ℕ) → AllDigits 10 ds → list_all is_digit ds ≡ true
digits-pass [] h = refl
digits-pass (d ∷ ds) h = let both = tells_digits.parts d ds h in grind (arith, nat_tests, digits-pass ds)

positive_part : (ds : List ℕ) → 48 < get_or ds 0 0 → list_all is_digit ds ≡ true → IsIntegerPart ds
positive_part [] above all = absurd (omega arith)
positive_part (d ∷ ds) above all = inr (d, ds, refl, omega arith, all)

pub decimal-number : (n : ℕ) → n < 2 ^ 64 → IsNumber (decimal n)
decimal-number n h = whole_number (decimal n)
    (⊎_elim (λ e. inl (rw e (decimal_digit 0 (omega arith))))
    (λ p. positive_part _ (first_decimal n p h) (digits-pass _ (decimal_is_IsNumeral n h).0.1)) (eq-zero-or-pos n))

-- ---- what stands first, and what stops a run
-- the list is empty, or its first number fails the test
abbrev pub Stops : (ℕ → Bool) → List ℕ → Type 0
Stops p [] = Unit {0}
Stops p (b ∷ bs) = p b ≡ false

-- the longest run at the front is read in one way
pub run-once : (p : ℕ → Bool) (xs ys r t : List ℕ) → list_all p xs ≡ true → list_all p ys ≡ true → Stops p r → Stops p t
    → xs ++ r ≡ ys ++ t → (xs ≡ ys) × (r ≡ t)
run-once p [] [] r t h k stop halt e = (refl, e)
run-once p [] (y ∷ ys) r t h k stop halt e = let ends = rw e at stop in cc
run-once p (x ∷ xs) [] r t h k stop halt e = let ends = rw (← e) at halt in cc
run-once p (x ∷ xs) (y ∷ ys) r t h k stop halt e = grind (arith, run-once p xs ys r t)

-- the first byte of a number, and of a number or a word
abbrev pub begins_number : ℕ → Bool
begins_number b = is_digit b || b == 45

abbrev pub begins_scalar : ℕ → Bool
begins_scalar b = begins_number b || (b == 110 || (b == 116 || b == 102))

pub record Head (p : ℕ → Bool) (s : List ℕ) : Type 0 where
  pub first : ℕ
  pub more : List ℕ
  pub parts : s ≡ first ∷ more
  pub begins : p first ≡ true

pub number-Head : (s : List ℕ) → IsNumber s → Head begins_number s
number-Head s n = let signed = n.signed in let counted = n.counted in rw n.spells (grind (arith, nat_tests))

pub scalar-Head : (s : List ℕ) → IsNumber s ⊎ IsWord s → Head begins_scalar s
scalar-Head s good = grind (arith, nat_tests, number-Head s)

pub first-same : {a b : ℕ} {s t : List ℕ} → a ∷ s ≡ b ∷ t → a ≡ b
first-same e = cc

pub tail-same : {a b : ℕ} {s t : List ℕ} → a ∷ s ≡ b ∷ t → s ≡ t
tail-same e = cc

pub append-none : (xs ys : List ℕ) → xs ++ ys ≡ [] → ys ≡ []
append-none [] ys e = e
append-none (x ∷ xs) ys e = cc

-- a list that begins with a byte that passes does not begin with one that fails
pub head-apart : (p : ℕ → Bool) (s r t : List ℕ) (b : ℕ) → Head p s → p b ≡ false → s ++ r ≡ b ∷ t → ⊥
head-apart p s r t b h fails e = grind (arith, h.parts, h.begins)

-- the first byte of a value
abbrev pub begins_value : ℕ → Bool
begins_value b = begins_scalar b || (b == 34 || (b == 91 || b == 123))

pub tree-Head : (t : Tree) → IsGood t → Head begins_value (spelling t)
tree-Head (scalar s) good = grind (arith, nat_tests, scalar-Head s)
tree-Head t good = grind (arith, nat_tests)

pub begins-no-space : (b : ℕ) → begins_value b ≡ true → is_space b ≡ false
begins-no-space b h = grind (arith, nat_tests)

pub tree-Stops : (t : Tree) (r : List ℕ) → IsGood t → Stops is_space (spelling t ++ r)
tree-Stops t r good = let h = tree-Head t good in rw h.parts (begins-no-space h.first h.begins)

pub Follows-Stops : (s r : List ℕ) → IsNumber s → Follows s r → Stops extends_number r
Follows-Stops s r n h = grind arith

scalar-once : (s u r t : List ℕ) → IsNumber s ⊎ IsWord s → IsNumber u ⊎ IsWord u → Follows s r → Follows u t
    → s ++ r ≡ u ++ t → (s ≡ u) × (r ≡ t)
scalar-once s u r t good fine before after e =
    let numbers = λ (n : IsNumber s) (m : IsNumber u). run-once extends_number s u r t (number-extends s n)
    (number-extends u m) (Follows-Stops s r n before) (Follows-Stops u t m after) e in
    grind (arith, nat_tests, number-Head s, number-Head u, numbers)

-- what follows a value in a container: white space and then a byte that no number goes on with
pub space-ends : (b : ℕ) → is_space b ≡ true → extends_number b ≡ false
space-ends b h = grind (arith, nat_tests)

pub Follows-blank : (s blank rest : List ℕ) (b : ℕ) → is_blank blank ≡ true → extends_number b ≡ false
    → Follows s (blank ++ b ∷ rest)
Follows-blank s [] rest b h ends = λ _. ends
Follows-blank s (c ∷ cs) rest b h ends = λ _. space-ends c (and_parts (is_space c) (is_blank cs) h).0

pub spread : (before : List ℕ) (name : List Piece) (between after r : List ℕ)
    → label_spelling (named before name between after) ++ r ≡
    before ++ 34 ∷ (flat_map piece_spelling name ++ 34 ∷ (between ++ 58 ∷ (after ++ r)))
spread before name between after r = simp append_assoc

label-once : (c : Container) (l m : Label) (r t : List ℕ) → IsLabel c l → IsLabel c m → Stops is_space r
    → Stops is_space t → label_spelling l ++ r ≡ label_spelling m ++ t → (l ≡ m) × (r ≡ t)
label-once array (unnamed before) (unnamed other) r t h k stop halt e =
    let run = run-once is_space before other r t h k stop halt e in (ap unnamed run.0, run.1)
label-once object (named before name between after) (named front other middle back) r t h k stop halt e =
    let first = run-once is_space before front _ _ h.0 k.0 refl refl (sym (spread before name between after r) ∙ e
    ∙ spread front other middle back t) in
    let second = pieces-once name other _ _ h.1 k.1 (tail-same first.1) in
    let third = run-once is_space between middle _ _ h.2 k.2 refl refl second.1 in
    grind (arith, first, second, third, run-once is_space after back r t h.3 k.3 stop halt (tail-same third.1))
label-once c l m r t h k stop halt e = absurd (grind arith)

-- a byte that ends a value: neither white space nor one that a number goes on with
abbrev Ends : ℕ → Type 0
Ends b = (is_space b ≡ false) × (extends_number b ≡ false)

-- one value of a container with its label and the white space behind it, up to a byte that ends it
item-once : (c : Container) (l m : Label) (v w : Tree) (blank other rest more : List ℕ) (b d : ℕ)
    → AreGood c (last l v blank) → AreGood c (last m w other) → Ends b → Ends d →
    (Follows (spelling v) (blank ++ b ∷ rest) → Follows (spelling w) (other ++ d ∷ more) →
    spelling v ++ (blank ++ b ∷ rest) ≡ spelling w ++ (other ++ d ∷ more) → (v ≡ w)
    × (blank ++ b ∷ rest ≡ other ++ d ∷ more)) →
    label_spelling l ++ (spelling v ++ (blank ++ b ∷ rest)) ≡ label_spelling m ++ (spelling w ++ (other ++ d ∷ more)) →
    (l ≡ m) × (v ≡ w) × (blank ≡ other) × (b ∷ rest ≡ d ∷ more)
item-once c l m v w blank other rest more b d good fine end end' once e =
    let label = label-once c l m _ _ good.0 fine.0 (tree-Stops v _ good.1) (tree-Stops w _ fine.1) e in
    let value = once (Follows-blank (spelling v) blank rest b good.2 end.1)
    (Follows-blank (spelling w) other more d fine.2 end'.1) label.1 in
    let between = run-once is_space blank other (b ∷ rest) (d ∷ more) good.2 fine.2 end.0 end'.0 value.1 in
    (label.0, value.0, between.0, between.1)

-- brackets
closing-Ends : (c : Container) → Ends (closing c)
closing-Ends c = grind (arith, nat_tests)

-- some bytes, and then P; and white space, and then P
pub record Front (Q P : List ℕ → Type 0) (w : List ℕ) : Type 0 where
  pub front : List ℕ
  pub rest : List ℕ
  pub holds : Q front
  pub spells : w ≡ front ++ rest
  pub follows : P rest

abbrev pub Blank : (List ℕ → Type 0) → List ℕ → Type 0
Blank P w = Front (λ s. is_blank s ≡ true) P w

-- the values of a container begin with white space and then with the first byte of a value
label-Front : (c : Container) (l : Label) (v : Tree) (r : List ℕ) → IsLabel c l → IsGood v
    → Blank (Head begins_value) (label_spelling l ++ (spelling v ++ r))
label-Front array (unnamed before) v r h good =
    let head = tree-Head v good in
    record {
      front = before;
      rest = _;
      holds = h;
      spells = refl;
      follows =
          record { first = head.first; more = head.more ++ r; parts = rw head.parts refl; begins = head.begins };
    }
label-Front object (named before name between after) v r h good =
    record {
      front = before;
      rest = _;
      holds = h.0;
      spells = spread before name between after (spelling v ++ r);
      follows = record { first = 34; more = _; parts = refl; begins = refl };
    }
label-Front c l v r h good = absurd h

pub values-Front : (c : Container) (vs : Values) → AreGood c vs → Blank (Head begins_value) (values_spelling vs)
values-Front c (last l v blank) good = label-Front c l v blank good.0 good.1
values-Front c (next l v blank vs) good = label-Front c l v (blank ++ 44 ∷ values_spelling vs) good.0 good.1

pub regroup-last : (a b c rest : List ℕ) → (a ++ (b ++ c)) ++ rest ≡ a ++ (b ++ (c ++ rest))
regroup-last a b c rest = simp append_assoc

pub regroup-next : (a b c : List ℕ) (mark : ℕ) (d rest : List ℕ)
    → (a ++ (b ++ (c ++ mark ∷ d))) ++ rest ≡ a ++ (b ++ (c ++ mark ∷ (d ++ rest)))
regroup-next a b c mark d rest = simp append_assoc

-- white space is no values
no-mix : (c d : Container) (blank : List ℕ) (vs : Values) (r s : List ℕ) → is_blank blank ≡ true → AreGood d vs →
    opening c ∷ ((blank ++ closing c ∷ []) ++ r) ≡ opening d ∷ ((values_spelling vs ++ closing d ∷ []) ++ s) → ⊥
no-mix c d blank vs r s space good e =
    let f = values-Front d vs good in
    let h = f.follows in
    let run = run-once is_space blank f.front (closing c ∷ r) (h.first ∷ (h.more ++ closing d ∷ s)) space f.holds
    (closing-Ends c).0 (begins-no-space h.first h.begins)
    (simp append_assoc at (rw (f.spells, h.parts) at (tail-same e))) in
    grind (arith, nat_tests, h.begins, first-same run.1)

-- trees and lists of values
mutual
  pub tree-once : (t u : Tree) (r s : List ℕ) → IsGood t → IsGood u → Follows (spelling t) r → Follows (spelling u) s
      → spelling t ++ r ≡ spelling u ++ s → (t ≡ u) × (r ≡ s)
  tree-once (scalar a) (scalar b) r s good fine before after e =
      let both = scalar-once a b r s good fine before after e in (cc, both.1)
  tree-once (text ps) (text qs) r s good fine before after e =
      grind (arith, pieces-once ps qs r s good fine (simp append_assoc at (tail-same e)))
  tree-once (empty c blank) (empty d other) r s good fine before after e =
      grind (
        arith,
        nat_tests,
        run-once is_space blank other (closing c ∷ r) (closing d ∷ s) good fine
            (closing-Ends c).0 (closing-Ends d).0 (simp append_assoc at (tail-same e)),
      )
  tree-once (empty c blank) (filled d vs) r s good fine before after e = absurd (no-mix c d blank vs r s good fine e)
  tree-once (filled c vs) (empty d blank) r s good fine before after e =
      absurd (no-mix d c blank vs s r fine good (sym e))
  tree-once (filled c vs) (filled d ws) r s good fine before after e =
      let same : c ≡ d = grind (arith, nat_tests) in
      grind (arith, values-once c vs ws r s good (rw same fine) (rw (← same) at (simp append_assoc at (tail-same e))))
  tree-once t u r s good fine before after e = absurd (grind (arith, nat_tests, scalar-Head))

  values-once : (c : Container) (vs ws : Values) (r s : List ℕ) → AreGood c vs → AreGood c ws
      → values_spelling vs ++ closing c ∷ r ≡ values_spelling ws ++ closing c ∷ s → (vs ≡ ws) × (r ≡ s)
  values-once c (last l v blank) (last m w other) r s good fine e =
      grind (
        arith,
        item-once c l m v w blank other r s _ _ good fine (closing-Ends c) (closing-Ends c)
            (tree-once v w _ _ good.1 fine.1) (simp append_assoc at e),
      )
  values-once c (last l v blank) (next m w other ws) r s good fine e =
      absurd (grind (
        arith,
        item-once c l m v w blank other _ _ _ _ good (fine.0, fine.1, fine.2) (closing-Ends c)
            (refl, refl) (tree-once v w _ _ good.1 fine.1) (simp append_assoc at e),
      ))
  values-once c (next l v blank vs) (last m w other) r s good fine e =
      absurd (grind (
        arith,
        item-once c l m v w blank other _ _ _ _ (good.0, good.1, good.2) fine (
          refl,
          refl,
        ) (closing-Ends c) (tree-once v w _ _ good.1 fine.1) (simp append_assoc at e),
      ))
  values-once c (next l v blank vs) (next m w other ws) r s good fine e =
      let all = item-once c l m v w blank other _ _ _ _ (good.0, good.1, good.2) (fine.0, fine.1, fine.2) (
        refl,
        refl,
      ) (refl, refl) (tree-once v w _ _ good.1 fine.1) (simp append_assoc at e) in
      grind (arith, all, values-once c vs ws r s good.3 fine.3 (tail-same all.3))

-- At the front of a text stands one value at most.
pub Stands-once : {bytes a b r s : List ℕ} → Stands bytes a r → Stands bytes b s → (a ≡ b) × (r ≡ s)
Stands-once {bytes} {a} {b} {r} {s} x y =
    let t = x.reads in let u = y.reads in
    let space = run-once is_space x.blank y.blank _ _ x.space y.space (tree-Stops t.tree r t.good)
    (tree-Stops u.tree s u.good) (rw (t.spells, u.spells) (sym x.parts ∙ y.parts)) in
    let tree =
    tree-once t.tree u.tree r s t.good u.good (rw (← t.spells) at x.ends) (rw (← u.spells) at y.ends) space.1 in
    (sym t.means ∙ ap compact tree.0 ∙ u.means, tree.1)
