-- The rows of the table: their names rise, and their defaults are compact texts.
use Rattle.std.proofs.Common.{length, get_or, drop, map, bytes_eq, Some, ◌≡◌, ◌≢◌, ◌<◌, ℕ, zero, suc, List, [], ◌∷◌, Bool, true, ◌&&◌, None, codes, nat_cmp, is_lt, refl, sym, append-nil, inl, inr, arith}
use Rattle.std.specs.Cmp.Lexicographic.{slice_cmp}
use Rattle.std.specs.List.{AllByRecursion, list_all}
use Rattle.std.specs.Prelude.{nat_lt}
use Rattle.std.specs.declared.cmp.Ordering.TheVariants.{Less}
use Rattle.std.proofs.lemmas.Bool.{and_parts}
use Rattle.std.proofs.lemmas.Map.Entries.{lookup_head}
use Rattle.json_text.specs.Characters.{quote, is_digit}
use Rattle.json_text.specs.Compact.{Member as Pair, array_text}
use Rattle.json_text.specs.Tree.{null_word, false_word}
use Rattle.json_text.specs.Value.{IsCompact}
use Rattle.scene_json.specs.Named.{value_at, HaveRisingNames}
use Rattle.json_text.proofs.CallerLemmas.{quote-compact, literal-compact, array-compact, ascii-utf8}
use Rattle.scene_json.proofs.CallerLemmas.{IsBelow-less, rising_from, rising_none, rising_parts}
use Rattle.restore_table.specs.declared.table.Row.{Row}
use Rattle.restore_table.specs.inner.Merged.{row_pair}
use Rattle.restore_table.specs.Table.{defaults}
use Rattle.restore_table.specs.Restored.{old_name}

-- ---- the names rise
abbrev rise_one_by_one : List Pair → Bool
rise_one_by_one [] = true
rise_one_by_one (m ∷ []) = true
rise_one_by_one (m ∷ n ∷ ms) = is_lt (slice_cmp nat_cmp m.0 n.0) && rise_one_by_one (n ∷ ms)

rising : (ms : List Pair) → rise_one_by_one ms ≡ true → HaveRisingNames ms
rising [] h = rising_none
rising (m ∷ []) h = rising_from m [] tt rising_none
rising (m ∷ n ∷ ms) h =
    let parts = and_parts (is_lt (slice_cmp nat_cmp m.0 n.0)) (rise_one_by_one (n ∷ ms)) h in
    let first : slice_cmp nat_cmp m.0 n.0 ≡ Less = grind (arith, parts.0) in
    let others = rising (n ∷ ms) parts.1 in
    rising_from m (n ∷ ms) (first, IsBelow-less m.0 n.0 ms first (rising_parts n ms others).0) others

pub defaults-rise : HaveRisingNames defaults
defaults-rise = rising defaults refl

pub defaults-after : HaveRisingNames (([], []) ∷ defaults)
defaults-after = rising (([], []) ∷ defaults) refl

pub defaults-old : value_at old_name defaults ≡ None
defaults-old = refl

-- ---- the defaults are compact texts
number : (first : ℕ) (more : List ℕ) → first ≢ 48 → list_all is_digit (first ∷ more) ≡ true → IsCompact 1 (first ∷ more)
number first more differ digits = literal-compact 1 (first ∷ more) (inl (record {
  sign = [];
  whole = first ∷ more;
  fraction = [];
  exponent = [];
  spells = sym (append-nil (first ∷ more));
  signed = inl refl;
  counted = inr (first, more, refl, differ, digits);
  parted = inl refl;
  scaled = inl refl;
}))

zero_digit : IsCompact 1 (codes "0")
zero_digit = literal-compact 1 (codes "0") (inl (record {
  sign = [];
  whole = codes "0";
  fraction = [];
  exponent = [];
  spells = refl;
  signed = inl refl;
  counted = inl refl;
  parted = inl refl;
  scaled = inl refl;
}))

word : (bs : List ℕ) → list_all (λ b. nat_lt b 128) bs ≡ true → IsCompact 1 (quote bs)
word bs h = quote-compact 1 bs (ascii-utf8 bs h)

transparent : IsCompact 1 (codes "\"transparent\"")
unfolding quote
transparent = word (codes "transparent") refl

solid : IsCompact 1 (codes "\"solid\"")
unfolding quote
solid = word (codes "solid") refl

black : IsCompact 1 (codes "\"#1e1e1e\"")
unfolding quote
black = word (codes "#1e1e1e") refl

nothing : IsCompact 1 (codes "[]")
unfolding array_text
nothing = array-compact 0 [] tt

null : IsCompact 1 (codes "null")
null = literal-compact 1 null_word (inr (inl refl))

no : IsCompact 1 (codes "false")
no = literal-compact 1 false_word (inr (inr (inr refl)))

one : IsCompact 1 (codes "1")
one = number 49 [] (λ e. omega arith) refl

pub defaults-compact : AllByRecursion (λ (row : Pair). IsCompact 1 row.1) defaults
defaults-compact = (
  zero_digit,
  (
    transparent,
    (
      nothing,
      (
        solid,
        (
          null,
          (
            nothing,
            (
              zero_digit,
              (
                null,
                (
                  no,
                  (
                    null,
                    (
                      no,
                      (
                        number 49 (48 ∷ 48 ∷ []) (λ e. omega arith) refl,
                        (
                          one,
                          (
                            null,
                            (
                              one,
                              (
                                black,
                                (
                                  solid,
                                  (
                                    number 50 [] (λ e. omega arith) refl,
                                    (zero_digit, (one, (zero_digit, (zero_digit, (zero_digit, (zero_digit, tt)))))),
                                  ),
                                ),
                              ),
                            ),
                          ),
                        ),
                      ),
                    ),
                  ),
                ),
              ),
            ),
          ),
        ),
      ),
    ),
  ),
)

-- ---- a row is found by its name
pub row-found : (name : List ℕ) (rows : List Row) (i : ℕ) (d : Row) → i < length rows
    → bytes_eq name (get_or rows i d).name.now ≡ true →
    value_at name (map row_pair (drop i rows)) ≡ Some (get_or rows i d).default.now
row-found name [] i d h test = absurd (omega arith)
row-found name (x ∷ xs) zero d h test = lookup_head (bytes_eq name) (row_pair x) (map row_pair xs) test
row-found name (x ∷ xs) (suc i) d h test = row-found name xs i d (omega arith) test
