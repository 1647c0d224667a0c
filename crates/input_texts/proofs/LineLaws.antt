-- Lines of bytes.
use Rattle.std.proofs.Common.{◌≡◌, ℕ, ◌+◌, ◌<◌, List, [], ◌∷◌, ◌++◌, true, false, length, take, get_or, flat_map, refl, sym, ap, ◌∙◌, subst, inl, inr, arith, one-add, append_assoc, append-nil}
use Rattle.std.specs.List.{AllByRecursion, list_all, prefix_len}
use Rattle.std.proofs.lemmas.Bool.{and_from, and_parts, cases_Bool, cond-true}
use Rattle.std.proofs.lemmas.Bool.Decides.{nat_tests}
use Rattle.std.proofs.lemmas.List.{take_more}
use Rattle.std.proofs.lemmas.List.Folds.{list_all-append}
use Rattle.std.proofs.lemmas.List.Sums.{prefix_len_stops}
use Rattle.input_texts.specs.Lines.{is_within_line, lines_behind, begun_behind, lines_of, begun_of, IsLine, AreLines}

-- no line feed is among the bytes
abbrev pub NoFeed : List ℕ → Type 0
NoFeed bytes = list_all is_within_line bytes ≡ true

pub joined : (xs ys : List ℕ) → NoFeed xs → NoFeed ys → NoFeed (xs ++ ys)
joined xs ys h k =
    list_all-append is_within_line xs ys ∙ and_from (list_all is_within_line xs) (list_all is_within_line ys) h k

-- ---- what bytes without a line feed, and one, add
pub lines-run : (begun front bytes : List ℕ) → NoFeed front
    → lines_behind begun (front ++ bytes) ≡ lines_behind (begun ++ front) bytes
lines-run begun [] bytes none = ap (λ b. lines_behind b bytes) (sym (append-nil begun))
lines-run begun (b ∷ front) bytes none =
    let p = and_parts (is_within_line b) (list_all is_within_line front) none in
    cond-true (is_within_line b) _ _ p.0
    ∙ (lines-run (begun ++ b ∷ []) front bytes p.1
    ∙ ap (λ c. lines_behind c bytes) (append_assoc begun (b ∷ []) front))

pub begun-run : (begun front bytes : List ℕ) → NoFeed front
    → begun_behind begun (front ++ bytes) ≡ begun_behind (begun ++ front) bytes
begun-run begun [] bytes none = ap (λ b. begun_behind b bytes) (sym (append-nil begun))
begun-run begun (b ∷ front) bytes none =
    let p = and_parts (is_within_line b) (list_all is_within_line front) none in
    cond-true (is_within_line b) _ _ p.0
    ∙ (begun-run (begun ++ b ∷ []) front bytes p.1
    ∙ ap (λ c. begun_behind c bytes) (append_assoc begun (b ∷ []) front))

-- ---- two stretches
pub lines-append : (begun xs ys : List ℕ) → lines_behind begun (xs ++ ys) ≡ lines_behind begun xs
    ++ lines_behind (begun_behind begun xs) ys
lines-append begun [] ys = refl
lines-append begun (b ∷ xs) ys = elim (cases_Bool (is_within_line b)) [
  | inl t ↦ rw t (lines-append (begun ++ b ∷ []) xs ys)
  | inr f ↦ rw f (ap (λ ls. (begun ++ b ∷ []) ∷ ls) (lines-append [] xs ys))
]

pub begun-append : (begun xs ys : List ℕ) → begun_behind begun (xs ++ ys) ≡ begun_behind (begun_behind begun xs) ys
begun-append begun [] ys = refl
begun-append begun (b ∷ xs) ys = elim (cases_Bool (is_within_line b)) [
  | inl t ↦ rw t (begun-append (begun ++ b ∷ []) xs ys)
  | inr f ↦ rw f (begun-append [] xs ys)
]

-- bytes without a line feed, and such that end with their only one
pub none-lines : (begun front : List ℕ) → NoFeed front → lines_behind begun front ≡ []
none-lines begun front none = ap (lines_behind begun) (sym (append-nil front)) ∙ lines-run begun front [] none

pub none-begun : (begun front : List ℕ) → NoFeed front → begun_behind begun front ≡ begun ++ front
none-begun begun front none = ap (begun_behind begun) (sym (append-nil front)) ∙ begun-run begun front [] none

-- a stretch without a line feed, and one that ends with its only one
pub stretch-lines : (stream front : List ℕ) → NoFeed front → lines_of (stream ++ front) ≡ lines_of stream
stretch-lines stream front none =
    lines-append [] stream front ∙ (ap (λ ls. lines_of stream ++ ls) (none-lines (begun_of stream) front none)
    ∙ append-nil (lines_of stream))

pub stretch-begun : (stream front : List ℕ) → NoFeed front → begun_of (stream ++ front) ≡ begun_of stream ++ front
stretch-begun stream front none =
    begun-append [] stream front ∙ none-begun (begun_of stream) front none

pub ended-lines : (stream front : List ℕ) → NoFeed front → lines_of (stream ++ (front ++ 10 ∷ [])) ≡ lines_of stream
    ++ ((begun_of stream ++ front) ++ 10 ∷ []) ∷ []
ended-lines stream front none =
    lines-append [] stream (front ++ 10 ∷ [])
    ∙ ap (λ ls. lines_of stream ++ ls) (lines-run (begun_of stream) front (10 ∷ []) none)

pub ended-begun : (stream front : List ℕ) → NoFeed front → begun_of (stream ++ (front ++ 10 ∷ [])) ≡ []
ended-begun stream front none =
    begun-append [] stream (front ++ 10 ∷ []) ∙ begun-run (begun_of stream) front (10 ∷ []) none

-- ---- bytes are their lines
parts : (begun bytes : List ℕ) → begun ++ bytes ≡ flat_map (λ (line : List ℕ). line) (lines_behind begun bytes)
    ++ begun_behind begun bytes
parts begun [] = append-nil begun
parts begun (b ∷ bytes) = elim (cases_Bool (is_within_line b)) [
  | inl t ↦ rw t (sym (append_assoc begun (b ∷ []) bytes) ∙ parts (begun ++ b ∷ []) bytes)
  | inr f ↦ rw f (sym (append_assoc begun (b ∷ []) bytes) ∙ (ap (λ bs. (begun ++ b ∷ []) ++ bs) (parts [] bytes)
      ∙ sym (append_assoc (begun ++ b ∷ []) (flat_map (λ (line : List ℕ). line) (lines_behind [] bytes))
      (begun_behind [] bytes))))
]

pub feed : (b : ℕ) → is_within_line b ≡ false → b ≡ 10
feed b h = grind (arith, nat_tests)

each : (begun bytes : List ℕ) → NoFeed begun → AllByRecursion IsLine (lines_behind begun bytes)
each begun [] none = tt
each begun (b ∷ bytes) none = elim (cases_Bool (is_within_line b)) [
  | inl t ↦ rw t (each (begun ++ b ∷ []) bytes (joined begun (b ∷ []) none (and_from (is_within_line b) true t refl)))
  | inr f ↦ rw f (
    record { front = begun; parts = ap (λ x. begun ++ x ∷ []) (feed b f); within = none },
    each [] bytes refl,
  )
]

within : (begun bytes : List ℕ) → NoFeed begun → NoFeed (begun_behind begun bytes)
within begun [] none = none
within begun (b ∷ bytes) none = elim (cases_Bool (is_within_line b)) [
  | inl t ↦ rw t (within (begun ++ b ∷ []) bytes (joined begun (b ∷ []) none (and_from (is_within_line b) true t refl)))
  | inr f ↦ rw f (within [] bytes refl)
]

pub are_lines : (bytes : List ℕ) → AreLines bytes (lines_of bytes) (begun_of bytes)
are_lines bytes = record { parts = parts [] bytes; each = each [] bytes refl; within = within [] bytes refl }

-- ---- the run of bytes at the front that has no line feed, and the one behind it
run-none : (p : ℕ → _) (xs : List ℕ) → list_all p (take (prefix_len p xs) xs) ≡ true
run-none p [] = refl
run-none p (x ∷ xs) = elim (cases_Bool (p x)) [
  | inl t ↦ rw t (rw one-add (and_from (p x) (list_all p (take (prefix_len p xs) xs)) t (run-none p xs)))
  | inr f ↦ rw f refl
]

pub front-none : (xs : List ℕ) (n : ℕ) → n ≡ prefix_len is_within_line xs → NoFeed (take n xs)
front-none xs n e = subst (λ k. NoFeed (take k xs)) (sym e) (run-none is_within_line xs)

pub front-ended : (xs : List ℕ) (n : ℕ) → n ≡ prefix_len is_within_line xs → n < length xs
    → take (n + 1) xs ≡ take n xs ++ 10 ∷ []
front-ended xs n e within =
    let less : prefix_len is_within_line xs < length xs = omega (arith, within, e) in
    let byte : get_or xs n 0 ≡ 10 = feed (get_or xs n 0) (subst (λ k. is_within_line (get_or xs k 0) ≡ false) (sym e)
    (prefix_len_stops is_within_line xs 0 less)) in
    take_more xs n 0 within ∙ ap (λ b. take n xs ++ b ∷ []) byte

-- a stretch that ends with its first line feed
pub feed-lines : (begun piece : List ℕ) (n : ℕ) → n ≡ prefix_len is_within_line piece → n < length piece
    → lines_behind begun (take (n + 1) piece) ≡ (begun ++ take (n + 1) piece) ∷ []
feed-lines begun piece n e within =
    let front = take n piece in
    subst (λ (bytes : List ℕ). lines_behind begun bytes ≡ (begun ++ bytes) ∷ []) (sym (front-ended piece n e within))
    (lines-run begun front (10 ∷ []) (front-none piece n e)
    ∙ ap (λ line. line ∷ []) (append_assoc begun front (10 ∷ [])))

pub feed-begun : (begun piece : List ℕ) (n : ℕ) → n ≡ prefix_len is_within_line piece → n < length piece
    → begun_behind begun (take (n + 1) piece) ≡ []
feed-begun begun piece n e within =
    let front = take n piece in
    subst (λ (bytes : List ℕ). begun_behind begun bytes ≡ []) (sym (front-ended piece n e within))
    (begun-run begun front (10 ∷ []) (front-none piece n e))
