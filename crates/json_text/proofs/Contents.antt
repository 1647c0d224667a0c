-- How a string is read: its escapes and their texts, its runs of plain bytes, and the loop over them.
use Rattle.std.proofs.Common.{◌≡◌, ◌≤◌, ◌<◌, ℕ, suc, ◌+◌, ◌-◌, List, [], ◌∷◌, ◌++◌, Bool, true, false, refl, sym, ap, ◌∙◌, subst, arith, map, flat_map, length, get_or, take, drop, append_assoc, append-nil, IsUtf8, get_or-drop, drop-drop, length-drop, length-append, lt_of_lt_of_le, zero-add, add-zero, one-add}
use Rattle.std.proofs.Math.Seq.{take-append-add, drop-append-add}
use Rattle.std.proofs.lemmas.Bool.Decides.{nat_tests}
use Rattle.std.proofs.lemmas.List.{take_more, take_rest}
use Rattle.std.proofs.lemmas.List.Concat.{flat_map-append}
use Rattle.std.proofs.lemmas.List.Sums.{prefix_len_stops, prefix_len-le-length}
use Rattle.std.proofs.lemmas.Str.{encode_ascii}
use Rattle.std.specs.Char.{IsScalar, encode_utf8}
use lib.Utf8.{low_scalar}
use Rattle.std.specs.List.{AllByRecursion, list_all, prefix_len}
use Rattle.json_text.specs.Characters.{is_plain, quote, quoted_byte}
use Rattle.json_text.specs.Tree.{Piece, bare, letter, unit, IsPiece, letter_meaning, piece_spelling}
use Rattle.json_text.specs.Compact.{piece_value, is_high, is_low, paired, lone, characters, content}
use Rattle.json_text.specs.inner.Spans.{between, StandsQuoted}
use Rattle.json_text.specs.Walk.{Quoted}
use Rattle.json_text.specs.inner.Walk.{Unread, Takes, StartsWithUnit, unit_at}
use Rattle.json_text.proofs.Strings.{lone-same, lone-first, paired-scalar, content-utf8, plain-bare, quoted-bare}

-- a piece that is no half of a character stands for its own
pub content-first : (p : Piece) (ps : List Piece) → IsScalar (piece_value p)
    → content (p ∷ ps) ≡ encode_utf8 (piece_value p) ++ content ps
unfolding content
content-first p ps h = rw (lone-first (piece_value p) (map piece_value ps) h) refl

meaning-low : (b : ℕ) → letter_meaning b < 128
meaning-low b = grind (arith, nat_tests)

-- The first of a string's pieces is this one, of so many bytes.
pub record Ahead (piece : Piece) (count : ℕ) (xs : List ℕ) (ps : List Piece) (after : List ℕ) : Type 0 where
  pub pieces : List Piece
  pub is : ps ≡ piece ∷ pieces
  pub good : AllByRecursion IsPiece (piece ∷ pieces)
  pub within : count ≤ length xs
  pub rest : drop count xs ≡ flat_map piece_spelling pieces ++ 34 ∷ after

pub Ahead-unread : {p : Piece} {count : ℕ} {xs : List ℕ} {ps : List Piece} {after : List ℕ}
    → (h : Ahead p count xs ps after) → Unread (drop count xs) (content h.pieces) after
Ahead-unread h = record { pieces = h.pieces; good = h.good.1; parts = h.rest; means = refl }

-- a letter behind a `\`, and a `u`
letter-first : (ps : List Piece) (xs after : List ℕ) → AllByRecursion IsPiece ps
    → xs ≡ flat_map piece_spelling ps ++ 34 ∷ after →
    get_or xs 0 0 ≡ 92 → (get_or xs 1 0 ≡ 117 → ⊥) → Ahead (letter (get_or xs 1 0)) 2 xs ps after
unfolding encode_utf8
letter-first (letter b ∷ ps) xs after good e first second =
    rw e (record { pieces = ps; is = refl; good = good; within = omega arith; rest = refl })
letter-first ps xs after good e first second =
    let byte = rw e at first in let next = rw e at second in absurd (grind (arith, nat_tests))

unit-first : (ps : List Piece) (xs after : List ℕ) → AllByRecursion IsPiece ps
    → xs ≡ flat_map piece_spelling ps ++ 34 ∷ after →
    get_or xs 0 0 ≡ 92 → get_or xs 1 0 ≡ 117 → Ahead (unit_at xs) 6 xs ps after
unfolding encode_utf8
unit-first (unit a b c d ∷ ps) xs after good e first second =
    rw e (record { pieces = ps; is = refl; good = good; within = omega arith; rest = refl })
unit-first ps xs after good e first second =
    let byte = rw e at first in let next = rw e at second in absurd (grind (arith, nat_tests))

pub unit-ahead : {xs text after : List ℕ} (u : Unread xs text after) → get_or xs 0 0 ≡ 92 → get_or xs 1 0 ≡ 117
    → Ahead (unit_at xs) 6 xs u.pieces after
unit-ahead u first second = unit-first u.pieces _ _ u.good u.parts first second

-- what was made of the pieces at the front is appended, and the others are left
left-over : {rest text after : List ℕ} (old made new : List ℕ) (ps : List Piece) → Unread rest (content ps) after
    → made ++ content ps ≡ text → new ≡ old ++ made →
    (left : List ℕ) × Unread rest left after × (new ++ left ≡ old ++ text)
left-over old made new ps u means e = (content ps, u, rw (e, append_assoc) (ap (λ s. old ++ s) means))

-- the three ways in which an escape is taken
pub letter_takes : (xs old new : List ℕ) → get_or xs 0 0 ≡ 92 → (get_or xs 1 0 ≡ 117 → ⊥) →
    new ≡ old ++ letter_meaning (get_or xs 1 0) ∷ [] → Takes Unread xs 2 old new
letter_takes xs old new first other e text after u =
    let b = get_or xs 1 0 in
    let h = letter-first u.pieces xs after u.good u.parts first other in
    left-over old (letter_meaning b ∷ []) new h.pieces (Ahead-unread h)
    (grind (
      arith,
      encode_ascii (letter_meaning b) (meaning-low b),
      content-first (letter b) h.pieces (low_scalar (letter_meaning b) (omega (arith, meaning-low b))),
      h.is,
      u.means,
    )) e

-- a unit that is no high surrogate before a low one stands alone
alone : (u : ℕ) (ps : List Piece) (after : List ℕ) → AllByRecursion IsPiece ps →
    ((second : ℕ) → is_high u ≡ true → is_low second ≡ true
    → StartsWithUnit (flat_map piece_spelling ps ++ 34 ∷ after) second → ⊥) →
    characters (u ∷ map piece_value ps) ≡ lone u ∷ characters (map piece_value ps)
alone u (unit a b c d ∷ ps) after good none =
    let pairs = λ (high : is_high u ≡ true) (low : is_low (piece_value (unit a b c d)) ≡ true). none _ high low
    (omega arith, refl, refl, refl) in grind (arith, pairs)
alone u ps after good none = grind (arith, nat_tests, meaning-low)

module _ (xs : List ℕ) (first : ℕ) (old new : List ℕ) (zeroth : get_or xs 0 0 ≡ 92) (one : get_or xs 1 0 ≡ 117)
    (is : first ≡ piece_value (unit_at xs)) where
  pub unit-takes : ((second : ℕ) → is_high first ≡ true → is_low second ≡ true
      → StartsWithUnit (take (length xs - 6) (drop 6 xs)) second → ⊥) →
      new ≡ old ++ encode_utf8 (lone first) → Takes Unread xs 6 old new
  unfolding content
  unit-takes none e text after u =
      let h = unit-ahead u zeroth one in
      let single = alone first h.pieces after h.good.1
      (λ second high low starts. none second high low (rw (take_rest, h.rest) starts)) in
      left-over old (encode_utf8 (lone first)) new h.pieces (Ahead-unread h)
      (sym (ap content h.is ∙ (rw (← is, single) refl)) ∙ u.means) e

  pub pair-takes : (second : ℕ) → is_high first ≡ true → is_low second ≡ true
      → StartsWithUnit (take (length xs - 6) (drop 6 xs)) second →
      new ≡ old ++ encode_utf8 (lone (paired first second)) → Takes Unread xs 12 old new
  unfolding content
  pair-takes second high low starts e text after u =
      let here = rw take_rest at starts in
      let h = unit-ahead u zeroth one in
      let k = unit-first h.pieces (drop 6 xs) after h.good.1 h.rest here.1 here.2 in
      let whole = lone-same (paired first second) (paired-scalar first second (rw (high, low) refl)) in
      let means : content (unit_at xs ∷ h.pieces) ≡ encode_utf8 (paired first second) ++ content k.pieces =
      grind (arith, is, k.is, here.3, high, low) in
      left-over old (encode_utf8 (paired first second)) new k.pieces (rw (← drop-drop 6 6 xs) (Ahead-unread k))
      (sym (ap content h.is ∙ means) ∙ u.means) (rw whole at e)

-- the characters before the next `"` or `\`
pub prefix-run : (p : ℕ → Bool) (xs ys : List ℕ) → list_all p xs ≡ true
    → prefix_len p (xs ++ ys) ≡ length xs + prefix_len p ys
prefix-run p [] ys h = sym (zero-add (prefix_len p ys))
prefix-run p (x ∷ xs) ys h = grind (arith, prefix-run p xs ys)

-- the longest stretch from an offset on whose bytes pass a test
pub passed_within : (p : ℕ → Bool) (bytes : List ℕ) (at end : ℕ) → at ≤ length bytes
    → end ≡ at + prefix_len p (drop at bytes) → (at ≤ end) × (end ≤ length bytes)
passed_within p bytes at end low is =
    (omega arith, omega (arith, prefix_len-le-length p (drop at bytes), length-drop at bytes))

pub passed_all : (p : ℕ → Bool) (P : ℕ → Type 0) → ((b : ℕ) → p b ≡ true → P b) → (bytes : List ℕ) (at end : ℕ)
    → end ≡ at + prefix_len p (drop at bytes)
    → AllByRecursion P (take (end - at) (drop at bytes))
passed_all p P each bytes at end is =
    subst (λ n. AllByRecursion P (take n (drop at bytes))) (omega arith) (front (drop at bytes))
  where
    front : (xs : List ℕ) → AllByRecursion P (take (prefix_len p xs) xs)
    front [] = tt
    front (x ∷ xs) = rw one-add (grind (arith, each x, front xs))

-- what is left of a string behind the run of plain bytes at its front, which stand so in a quote too
pub record Run (xs text after : List ℕ) (n : ℕ) : Type 0 where
  pub left : List ℕ
  pub unread : Unread (drop n xs) left after
  pub same : take n xs ++ left ≡ text
  pub within : n < length xs
  pub kept : flat_map quoted_byte (take n xs) ≡ take n xs

run-pieces : (ps : List Piece) (after : List ℕ) → AllByRecursion IsPiece ps →
    Run (flat_map piece_spelling ps ++ 34 ∷ after) (content ps) after
    (prefix_len is_plain (flat_map piece_spelling ps ++ 34 ∷ after))
run-pieces (bare c ∷ ps) after good =
    let r = run-pieces ps after good.1 in
    rw (
      append_assoc,
      prefix-run is_plain (encode_utf8 c) (flat_map piece_spelling ps ++ 34 ∷ after)
          (plain-bare c good.0.2 good.0.3),
      content-first (bare c) ps good.0.0,
    ) (record {
      left = r.left;
      unread = rw drop-append-add r.unread;
      same = rw (take-append-add, append_assoc, r.same) refl;
      within = omega (arith, r.within, length-append (encode_utf8 c) (flat_map piece_spelling ps ++ 34 ∷ after));
      kept = rw (take-append-add, flat_map-append, quoted-bare c good.0, r.kept) refl;
    })
run-pieces ps after good = record {
  left = content ps;
  unread =
      record { pieces = ps; good = good; parts = refl; means = refl };
  same = refl;
  within = omega arith;
  kept = refl;
}

pub unread-Run : {xs text after : List ℕ} → Unread xs text after → Run xs text after (prefix_len is_plain xs)
unread-Run {xs} {text} {after} u = rw (u.parts, (sym u.means)) (run-pieces u.pieces after u.good)

-- what follows the first byte of what follows an offset
pub drop-after : (xs : List ℕ) (at : ℕ) {b : ℕ} {rest : List ℕ} → drop at xs ≡ b ∷ rest → drop (at + 1) xs ≡ rest
drop-after xs at {b} {rest} e = sym (drop-drop 1 at xs) ∙ ap (drop 1) e

pub inside-after : (xs : List ℕ) (at : ℕ) {b : ℕ} {rest : List ℕ} → drop at xs ≡ b ∷ rest → at < length xs
inside-after xs at {b} {rest} e = omega (arith, length-drop at xs, ap length e)

-- where a string closes, nothing of its text is left
pub close : (xs after : List ℕ) (ps : List Piece) → AllByRecursion IsPiece ps
    → xs ≡ flat_map piece_spelling ps ++ 34 ∷ after → get_or xs 0 0 ≡ 34 →
    (content ps ≡ []) × (drop 1 xs ≡ after)
unfolding content encode_utf8
close xs after [] good e first = (refl, ap (drop 1) e)
close xs after ps good e first = let byte = rw e at first in absurd (grind (arith, nat_tests))

-- what stands behind the mark that begins a string
pub quoted-Unread : (bytes : List ℕ) (at : ℕ) {text after : List ℕ} → Quoted (drop at bytes) text after
    → Unread (drop (at + 1) bytes) text after
quoted-Unread bytes at {text} {after} q =
    record {
      pieces = q.pieces;
      good = q.good;
      parts = drop-after bytes at q.parts
          ∙ append_assoc (flat_map piece_spelling q.pieces) (34 ∷ []) after;
      means = q.means;
    }

-- the loop's invariant
pub record Reading (bytes : List ℕ) (at next : ℕ) (out : List ℕ) : Type 0 where
  pub begun : at < next
  pub within : next ≤ length bytes
  pub split : (text after : List ℕ) → Quoted (drop at bytes) text after → (left : List ℕ)
      × Unread (drop next bytes) left after × (out ++ left ≡ text)

pub reading-starts : (bytes : List ℕ) (at : ℕ) {text after : List ℕ} → Quoted (drop at bytes) text after
    → Reading bytes at (at + 1) []
reading-starts bytes at q = record {
  begun = omega arith;
  within = omega (arith, inside-after bytes at q.parts);
  split =
      λ t a other. (t, quoted-Unread bytes at other, refl);
}

pub reading-takes : {bytes out : List ℕ} {at end : ℕ} (count : ℕ) (new : List ℕ) → Reading bytes at end out
    → Takes Unread (drop end bytes) count out new → end + count ≤ length bytes →
    Reading bytes at (end + count) new
reading-takes {bytes} {out} {at} {end} count new r takes fits = record {
  begun = lt_of_lt_of_le r.begun (omega arith);
  within = fits;
  split = rw (← drop-drop count end bytes) (λ t a q. let one = r.split t a q in let two = takes one.0 a one.1 in
      (two.0, two.1, two.2 ∙ one.2));
}

-- one run of plain bytes is appended
pub record Ran (bytes : List ℕ) (at end : ℕ) (out : List ℕ) : Type 0 where
  pub within : end < length bytes
  pub stops : is_plain (get_or bytes end 0) ≡ false
  pub reading : Reading bytes at end out

pub reading-runs : {bytes out : List ℕ} {at next : ℕ} (end : ℕ) (new : List ℕ) {text after : List ℕ}
    → Quoted (drop at bytes) text after → Reading bytes at next out →
    end ≡ next + prefix_len is_plain (drop next bytes) → new ≡ out ++ take (end - next) (drop next bytes)
    → Ran bytes at end new
reading-runs {bytes} {out} {at} {next} end new {text} {after} q r e is =
    let n = prefix_len is_plain (drop next bytes) in
    let run = unread-Run (r.split text after q).1 in
    let takes : Takes Unread (drop next bytes) n out (out ++ take n (drop next bytes)) = λ t a u.
    let mine = unread-Run u in (mine.left, mine.unread, append_assoc out _ mine.left ∙ ap (λ s. out ++ s) mine.same) in
    let span : end - next ≡ n = omega (arith, e) in
    record {
      within = omega (arith, e, run.within, length-drop next bytes);
      stops = rw e (rw (← get_or-drop) (prefix_len_stops is_plain (drop next bytes) 0 run.within));
      reading = rw (is, span, e) (reading-takes n _ r takes (omega (arith, run.within, length-drop next bytes)));
    }

pub reading-closes : {bytes out : List ℕ} {at end : ℕ} → Reading bytes at end out → get_or bytes end 0 ≡ 34
    → (text after : List ℕ) → Quoted (drop at bytes) text after →
    (out ≡ text) × (drop (end + 1) bytes ≡ after)
reading-closes {bytes} {out} {at} {end} r first text after q =
    let mine = r.split text after q in
    let both = close _ after mine.1.pieces mine.1.good mine.1.parts (rw (get_or-drop, add-zero) first) in (
      sym (append-nil out) ∙ ap (λ s. out ++ s) (sym both.0 ∙ mine.1.means) ∙ mine.2,
      sym (drop-drop 1 end bytes)
          ∙ both.1,
    )

pub quoted-utf8 : {bytes text rest : List ℕ} → Quoted bytes text rest → IsUtf8 text
quoted-utf8 q = subst IsUtf8 q.means (content-utf8 q.pieces q.good)

-- the run of plain bytes behind the mark of a string ends within the bytes; and where it ends the string, that is its
-- own quote
pub run-within : {bytes value text rest : List ℕ} {end : ℕ} (at : ℕ) → bytes ≡ value → Quoted (drop at value) text rest
    → end ≡ at + 1 + prefix_len is_plain (drop (at + 1) bytes) → end < length bytes
run-within {bytes} {value} at same q is =
    omega (arith, rw (← same) at ((unread-Run (quoted-Unread value at q)).within), length-drop (at + 1) bytes)

pub unescaped : {bytes value text rest : List ℕ} {end : ℕ} (at : ℕ) → bytes ≡ value → Quoted (drop at value) text rest
    → end ≡ at + 1 + prefix_len is_plain (drop (at + 1) bytes) → get_or bytes end 0 ≡ 34
    → StandsQuoted value (at + 1) end × IsUtf8 (between value (at + 1) end) × (between value (at + 1) end ≡ text)
    × (drop (end + 1) value ≡ rest)
unfolding quote
unescaped {bytes} {value} {text} {rest} {end} at same q is stop =
    let ys = drop (at + 1) value in
    let n = prefix_len is_plain ys in
    let run = unread-Run (quoted-Unread value at q) in
    let reach : end ≡ at + 1 + n = rw same at is in
    let opens : drop at value ≡ 34 ∷ ys = q.parts ∙ ap (λ s. 34 ∷ s) (sym (drop-after value at q.parts)) in
    let closes : get_or ys n 0 ≡ 34 = rw (get_or-drop, ← reach, ← same) stop in
    let first : at + 1 - 1 ≡ at = omega arith in
    let size : end + 1 - at ≡ suc (n + 1) = omega (arith, reach) in
    let span : end - (at + 1) ≡ n = omega (arith, reach) in
    let behind : at + 1 + (n + 1) ≡ end + 1 = omega (arith, reach) in
    let closed =
    close (drop n ys) rest run.unread.pieces run.unread.good run.unread.parts (rw (get_or-drop, add-zero) closes) in
    let all : take n ys ≡ text =
    sym (append-nil (take n ys)) ∙ ap (λ s. take n ys ++ s) (sym closed.0 ∙ run.unread.means) ∙ run.same in
    let quoted : StandsQuoted value (at + 1) end = record {
      begun = omega arith;
      rises = omega (arith, reach);
      within = omega (arith, reach, run.within, length-drop (at + 1) value);
      same = rw (first, size, opens, span, take_more ys n 0 run.within, closes, run.kept) refl;
    } in (
      quoted,
      rw (span, all) (quoted-utf8 q),
      rw span all,
      rw (← behind, ← drop-drop (n + 1) (at + 1) value, ← drop-drop 1 n ys) closed.1,
    )
