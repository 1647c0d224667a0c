-- Strings: what their pieces stand for is UTF-8, and each text of UTF-8 has a quote made of pieces.
use Rattle.std.proofs.Common.{◌≡◌, ◌≢◌, ◌<◌, ℕ, List, [], ◌∷◌, ◌++◌, true, ◌&&◌, refl, ap, ◌∙◌, eqb, arith, map, flat_map, IsUtf8, encode_utf8_all, append_assoc, append-nil, one-add, take, drop, take_all, drop_of_length-le, position, None, false, ◌+◌, add-one, get_or, length, drop-cons, Some, zero, suc}
use Rattle.std.proofs.lemmas.Bool.{eqb-false, and_parts, ltb-true}
use Rattle.std.proofs.lemmas.Bool.Decides.{nat_tests}
use Rattle.std.proofs.lemmas.Str.{encode_ascii, encode_same, IsUtf8-from_ascii}
use Rattle.std.proofs.lemmas.List.Concat.{flat_map-append}
use Rattle.std.specs.Char.{IsScalar, encode_utf8}
use Rattle.std.specs.List.{AllByRecursion, list_all, position_or_len}
use lib.Utf8.{scalar, scalars}
use Rattle.std.specs.Prelude.{nat_lt}
use Rattle.std.specs.Str.{IsAscii}
use Rattle.json_text.specs.Characters.{hex_value, is_hex, is_plain, needs_escape, quote, quoted_byte}
use Rattle.json_text.specs.Tree.{Piece, bare, letter, unit, IsPiece, piece_spelling, string_spelling}
use Rattle.json_text.specs.Compact.{piece_value, is_high, is_low, paired, lone, characters, content}

-- a text of ASCII alone
ascii-bytes : (text : List ℕ) → list_all (λ b. nat_lt b 128) text ≡ true → IsAscii text
ascii-bytes [] h i = omega arith
ascii-bytes (b ∷ bs) h zero = ltb-true b 128 (and_parts _ _ h).0
ascii-bytes (b ∷ bs) h (suc i) = ascii-bytes bs (and_parts _ _ h).1 i

pub ascii-utf8 : (text : List ℕ) → list_all (λ b. nat_lt b 128) text ≡ true → IsUtf8 text
ascii-utf8 text h = IsUtf8-from_ascii text (ascii-bytes text h)

-- a pair of surrogates is a character
pub paired-scalar : (u v : ℕ) → (is_high u && is_low v) ≡ true → scalar (paired u v) ≡ true
paired-scalar u v h = grind (arith, nat_tests)

pub four-hex : (a b c d : ℕ) → list_all is_hex (a ∷ b ∷ c ∷ d ∷ []) ≡ true → (is_hex a ≡ true) × (is_hex b ≡ true)
    × (is_hex c ≡ true) × (is_hex d ≡ true)
four-hex a b c d h = grind arith

piece_value-lt : (p : Piece) → IsPiece p → piece_value p < 0x11_0000
piece_value-lt p h =
    let small : (digit : ℕ) → is_hex digit ≡ true → hex_value digit < 16 =
    λ digit is. grind (arith, nat_tests) in grind (arith, nat_tests, four-hex, small)

characters-scalars : (ps : List Piece) → AllByRecursion IsPiece ps → scalars (characters (map piece_value ps)) ≡ true
characters-scalars [] h = refl
characters-scalars (p ∷ []) h = grind (arith, nat_tests, piece_value-lt p)
characters-scalars (p ∷ q ∷ ps) h =
    grind (
      arith,
      nat_tests,
      piece_value-lt p,
      characters-scalars ps,
      characters-scalars (q ∷ ps),
      paired-scalar (piece_value p) (piece_value q),
    )

-- what pieces stand for is a text
pub content-utf8 : (ps : List Piece) → AllByRecursion IsPiece ps → IsUtf8 (content ps)
unfolding content
content-utf8 ps h = (characters (map piece_value ps), (characters-scalars ps h, refl))

-- the characters of codes without surrogates are these codes
pub lone-same : (u : ℕ) → scalar u ≡ true → lone u ≡ u
lone-same u h = grind (arith, nat_tests)

pub lone-first : (u : ℕ) (us : List ℕ) → scalar u ≡ true → characters (u ∷ us) ≡ u ∷ characters us
lone-first u us h = grind (arith, nat_tests)

characters-same : (us : List ℕ) → scalars us ≡ true → characters us ≡ us
characters-same [] h = refl
characters-same (u ∷ us) h = grind (arith, lone-first u us, characters-same us)

-- the piece by which a character stands in a quote
abbrev piece_with : ℕ → List ℕ → Piece
piece_with c (a ∷ b ∷ []) = letter b
piece_with c (a ∷ b ∷ d ∷ e ∷ f ∷ g ∷ []) = unit d e f g
piece_with c bytes = bare c

abbrev pub piece_of : ℕ → Piece
piece_of c = piece_with c (quoted_byte c)

-- the bytes of a character other than `"` and `\` are others too
pub plain-bare : (c : ℕ) → c ≢ 34 → c ≢ 92 → list_all is_plain (encode_utf8 c) ≡ true
unfolding encode_utf8
plain-bare c a b = grind (arith, nat_tests)

-- the bytes before the first that needs an escape are copied
pub plain_front : (xs : List ℕ) →
    flat_map quoted_byte xs ≡ take (position_or_len needs_escape xs) xs
    ++ flat_map quoted_byte (drop (position_or_len needs_escape xs) xs)
plain_front [] = refl
plain_front (x ∷ xs) = rw one-add (grind (arith, nat_tests, plain_front xs))

pub quoted-None : (xs : List ℕ) → None ≡ position needs_escape xs → flat_map quoted_byte xs ≡ xs
quoted-None xs h = grind (
  arith,
  nat_tests,
  plain_front xs,
  take_all (position_or_len needs_escape xs) xs,
  drop_of_length-le xs,
  append-nil xs,
)

-- the bytes before the first that needs an escape, that byte and the others
pub quoted-Some : (xs : List ℕ) (k : ℕ) → Some k ≡ position needs_escape xs →
    (k < length xs) × (flat_map quoted_byte xs ≡ take k xs
    ++ (quoted_byte (get_or xs k 0) ++ flat_map quoted_byte (drop (k + 1) xs)))
quoted-Some xs k h =
    let first : (k < length xs) × (k ≡ position_or_len needs_escape xs) = grind (arith, nat_tests) in
    (first.0, plain_front xs ∙ rw (← first.1) (rw (drop-cons xs k 0 first.0, add-one) refl))

-- a character that stands in a string as it is stands so in a quote too
pub quoted-bare : (c : ℕ) → IsPiece (bare c) → flat_map quoted_byte (encode_utf8 c) ≡ encode_utf8 c
unfolding encode_utf8
quoted-bare c h = let none : None ≡ position needs_escape (encode_utf8 c) = grind (arith, nat_tests) in
    quoted-None (encode_utf8 c) none

-- how a character stands in a quote, and a list of characters
scalar-quoted : (c : ℕ) → IsScalar c → IsPiece (piece_of c) × (piece_value (piece_of c) ≡ c)
    × (piece_spelling (piece_of c) ≡ flat_map quoted_byte (encode_utf8 c))
scalar-quoted c s =
    (grind (arith, nat_tests), grind (arith, nat_tests), grind (arith, nat_tests, encode_ascii c, quoted-bare c))

scalars-quoted : (cs : List ℕ) → scalars cs ≡ true → AllByRecursion IsPiece (map piece_of cs)
    × (map piece_value (map piece_of cs) ≡ cs)
    × (flat_map piece_spelling (map piece_of cs) ≡ flat_map quoted_byte (encode_utf8_all cs))
scalars-quoted [] h = (tt, refl, refl)
scalars-quoted (c ∷ cs) h =
    grind (arith, scalar-quoted c, scalars-quoted cs, flat_map-append quoted_byte (encode_utf8 c) (encode_utf8_all cs))

-- pieces that spell a text's quote and stand for the text
pub record Quotes (text : List ℕ) : Type 0 where
  pub pieces : List Piece
  pub good : AllByRecursion IsPiece pieces
  pub spells : string_spelling pieces ≡ quote text
  pub means : content pieces ≡ text

pub utf8-Quotes : (text : List ℕ) → IsUtf8 text → Quotes text
unfolding quote content
utf8-Quotes text (cs, (ok, e)) = let all = scalars-quoted cs ok in record {
  pieces = map piece_of cs;
  good = all.0;
  spells = ap (λ s. 34 ∷ (s ++ 34 ∷ [])) (all.2 ∙ ap (flat_map quoted_byte) e);
  means = rw (all.1, characters-same cs ok) e;
}

-- two lists whose first numbers differ
pub heads-differ : (a b : ℕ) (s t : List ℕ) → eqb a b ≡ false → a ∷ s ≡ b ∷ t → ⊥
heads-differ a b s t differ e = eqb-false a b differ cc

-- a character that begins with an ASCII byte is that byte
pub first_code : (c b : ℕ) (r t : List ℕ) → b < 128 → encode_utf8 c ++ r ≡ b ∷ t → c ≡ b
unfolding encode_utf8
first_code c b r t low e = grind (arith, nat_tests)

-- a good piece is read in one way alone
piece-once : (p q : Piece) (r t : List ℕ) → IsPiece p → IsPiece q → piece_spelling p ++ r ≡ piece_spelling q ++ t
    → (p ≡ q) × (r ≡ t)
piece-once (bare c) (bare d) r t good other e = let same = encode_same c d r t e in (cc, same.1)
piece-once (bare c) q r t good other e = grind (arith, first_code c 92 r)
piece-once p (bare c) r t good other e = grind (arith, first_code c 92 t)
piece-once p q r t good other e = grind (arith, nat_tests)

-- a string is read in one way alone
pub pieces-once : (ps qs : List Piece) (r t : List ℕ) → AllByRecursion IsPiece ps → AllByRecursion IsPiece qs
    → flat_map piece_spelling ps ++ 34 ∷ r ≡ flat_map piece_spelling qs ++ 34 ∷ t → (ps ≡ qs) × (r ≡ t)
pieces-once [] [] r t good other e = (refl, cc)
pieces-once (p ∷ ps) (q ∷ qs) r t good other e =
    let first = piece-once p q _ _ good.0 other.0 (simp append_assoc at e) in
    grind (arith, first, pieces-once ps qs r t)
pieces-once ps qs r t good other e = let first = simp append_assoc at e in absurd (grind (arith, nat_tests, first_code))

-- a plain byte is neither mark
pub plain-quote : (b : ℕ) → is_plain b ≡ true → eqb b 34 ≡ false
plain-quote b h = grind (arith, nat_tests)

pub plain-slash : (b : ℕ) → is_plain b ≡ true → eqb b 92 ≡ false
plain-slash b h = grind (arith, nat_tests)

pub hex-plain : (b : ℕ) → is_hex b ≡ true → is_plain b ≡ true
hex-plain b h = grind (arith, nat_tests)

pub ruleset string_steps = (quoted-None, quoted-Some, four-hex)
