-- The runs of the machine; what completes a value from each of its states; and that with a byte in front this completes
-- one from the state before it.
use Rattle.std.proofs.Common.{◌≡◌, ◌⊎◌, ℕ, suc, ◌+◌, ◌-◌, ◌≤◌, List, [], ◌∷◌, ◌++◌, length, true, refl, sym, ap, ◌∙◌, inl, inr, arith, append_assoc, zero, ne_eqb, subst, length-append, ◌==◌, Some, ◌&&◌, not, Option, None, nat_lt, false, flat_map, le-ltb, eqb-true}
use Rattle.std.specs.List.{AllByRecursion, list_all}
use Rattle.std.proofs.lemmas.List.Folds.{list_all-append}
use Rattle.std.proofs.lemmas.Bool.{and_from, eqb-false, cond_both}
use Rattle.std.proofs.lemmas.Bool.Decides.{nat_tests}
use Rattle.std.proofs.lemmas.Str.{encode_ascii}
use lib.Utf8.{low_scalar}
use Rattle.json_text.specs.Characters.{is_hex, is_space, is_blank, is_bare}
use Rattle.json_text.specs.Tree.{Piece, IsPiece, piece_spelling, closing, Tree, spelling, IsGood, depth, Values, values_spelling, AreGood, values_depth, bare, unit, Label, unnamed, named, label_spelling, IsLabel, last, next, letter, letter_meaning, opening, scalar, text, empty, filled, IsWord}
use Rattle.json_text.specs.Value.{extends_number, Follows}
use Rattle.json_reader.specs.inner.Machine.{Bracket, Square, Curly, Role, Place, Plain, Escape, Hex, Sequence, Mode, Fresh, Name, Colon, After, Quoted, letters_of, Number, Word, container_of, Outcome, state, ended, refused, Tail, One, after_digit, tail_fits, in_sequence, tail_after, Part, Letters, Ull, Rue, Alse, To, Open, Move, applied, step, part_begun, value_begun, tail_led, tail_length, part_after, top, string_move, closes_bracket, after_move, is_complete, number_move_on, first_move, after_letter, first_letter, led_on}
pub use Rattle.json_reader.specs.inner.Runs.{go, run, start}
use Rattle.json_text.proofs.CallerLemmas.{Stops, Front, Blank, spread, regroup-last, regroup-next}
use Rattle.json_reader.proofs.NumberRuns.{ends, number_run, run_number}
use Rattle.json_reader.proofs.Sequences.{Completes, IsChar, led_char}

pub run-append : (limit : ℕ) (from : Outcome) (xs ys : List ℕ)
    → run limit from (xs ++ ys) ≡ run limit (run limit from xs) ys
run-append limit from [] ys = refl
run-append limit from (x ∷ xs) ys = run-append limit (go limit from x) xs ys

-- these bytes, and then P
abbrev pub Bytes : List ℕ → (List ℕ → Type 0) → List ℕ → Type 0
Bytes s P w = (rest : List ℕ) × (w ≡ s ++ rest) × P rest

-- this byte, and then P
abbrev pub Byte : ℕ → (List ℕ → Type 0) → List ℕ → Type 0
Byte b P w = Bytes (b ∷ []) P w

-- pieces of a string, the closing quote, and then P
pub record Pieces (P : List ℕ → Type 0) (w : List ℕ) : Type 0 where
  pub pieces : List Piece
  pub rest : List ℕ
  pub good : AllByRecursion IsPiece pieces
  pub spells : w ≡ flat_map piece_spelling pieces ++ 34 ∷ rest
  pub follows : P rest

-- the same behind the bytes that have come of a piece
abbrev pub InString : (List ℕ → Type 0) → Place → List ℕ → Type 0
InString P Plain w = Pieces P w
InString P Escape w = Pieces P (92 ∷ w)
InString P (Hex more) w =
    (digits : List ℕ) → list_all is_hex digits ≡ true → length digits + more ≡ 3 → Pieces P (92 ∷ 117 ∷ (digits ++ w))
InString P (Sequence n tail) w =
    (come : List ℕ) → ((t : List ℕ) → Completes t tail → IsChar (come ++ t)) → Pieces P (come ++ w)

-- no byte that goes on with a number comes first
abbrev pub Quiet : List ℕ → Type 0
Quiet w = Stops extends_number w

-- What is left over when the value has ended is given.
module _ (limit : ℕ) (left : List ℕ) where
  -- The values behind a comma in a container, and what follows its closing bracket.
  pub record Listed (bracket : Bracket) (st : List Bracket) (P : List ℕ → Type 0) (w : List ℕ) : Type 0 where
    pub values : Values
    pub rest : List ℕ
    pub good : AreGood (container_of bracket) values
    pub shallow : values_depth values ≤ limit - suc (length st)
    pub spells : w ≡ values_spelling values ++ closing (container_of bracket) ∷ rest
    pub follows : P rest

  -- after a value
  abbrev pub Rest : List Bracket → List ℕ → Type 0
  Rest [] w = w ≡ left
  Rest (bracket ∷ st) w =
      Blank (λ r. Byte (closing (container_of bracket)) (Rest st) r ⊎ Byte 44 (Listed bracket st (Rest st)) r) w

  -- a value, and what follows it
  pub record Starts (st : List Bracket) (w : List ℕ) : Type 0 where
    pub tree : Tree
    pub rest : List ℕ
    pub good : IsGood tree
    pub shallow : depth tree ≤ limit - length st
    pub spells : w ≡ spelling tree ++ rest
    pub ends : Follows (spelling tree) rest
    pub follows : Rest st rest

  abbrev pub AfterName : List Bracket → List ℕ → Type 0
  AfterName st w = Blank (Byte 58 (Blank (Starts st))) w

  abbrev pub AfterString : Role → List Bracket → List ℕ → Type 0
  AfterString Role.Name st w = AfterName st w
  AfterString Role.Value st w = Rest st w

  abbrev pub First : Bracket → List Bracket → List ℕ → Type 0
  First Square st w = Starts st w
  First Curly st w = Byte 34 (InString (AfterName st) Plain) w

  -- what completes a value from this state
  abbrev pub Finishes : Mode → List Bracket → List ℕ → Type 0
  Finishes Mode.Value st w = Blank (Starts st) w
  Finishes Fresh [] w = w ≡ left
  Finishes Fresh (bracket ∷ st) w =
      Blank (λ r. Byte (closing (container_of bracket)) (Rest st) r ⊎ First bracket (bracket ∷ st) r) w
  Finishes Name st w = Blank (First Curly st) w
  Finishes Colon st w = AfterName st w
  Finishes After st w = Rest st w
  Finishes (Quoted r place) st w = InString (AfterString r st) place w
  Finishes (Number part) st w = Front (λ s. ends s part ≡ true) (λ r. Quiet r × Rest st r) w
  Finishes (Word letters) st w = Bytes (letters_of letters) (Rest st) w

-- what completes a value from there, with what is left over when it has ended
abbrev pub Reaches : ℕ → List ℕ → Outcome → List ℕ → Type 0
Reaches limit left (state m st) w = Finishes limit left m st w
Reaches limit left (ended b) w = b ∷ w ≡ left
Reaches limit left refused w = ⊥

-- ---- a byte more in front of a string
module _ {P : List ℕ → Type 0} where
  pub shut : {w : List ℕ} → P w → Pieces P (34 ∷ w)
  shut {w} p = record { pieces = []; rest = w; good = tt; spells = refl; follows = p }

  pub with_piece : (piece : Piece) (w : List ℕ) → IsPiece piece → Pieces P w → Pieces P (piece_spelling piece ++ w)
  with_piece piece w good p = record {
    pieces = piece ∷ p.pieces;
    rest = p.rest;
    good = (good, p.good);
    spells = ap (λ x. piece_spelling piece ++ x) p.spells
        ∙ sym (append_assoc (piece_spelling piece) (flat_map piece_spelling p.pieces) (34 ∷ p.rest));
    follows = p.follows;
  }

  pub bare_said : (b : ℕ) (w : List ℕ) → is_bare b ≡ true → Pieces P w → Pieces P (b ∷ w)
  bare_said b w is p =
      rw (encode_ascii b (grind (arith, nat_tests))) at (with_piece (bare b) w (
        low_scalar b (grind (arith, nat_tests)),
        grind (arith, nat_tests),
        grind (arith, nat_tests),
        grind (arith, nat_tests),
      ) p)

  pub inner_said : (n b : ℕ) (tail : Tail) (w : List ℕ) → tail_fits tail b ≡ true
      → InString P (in_sequence n (tail_after tail)) w → InString P (Sequence n tail) (b ∷ w)
  inner_said n b One w fits p come char =
      let c = char (b ∷ []) (fits, refl) in
      subst (Pieces P) (ap (λ x. x ++ w) c.3 ∙ append_assoc come (b ∷ []) w)
      (with_piece (bare c.0) w (c.1, omega (arith, c.2), λ q. omega (arith, c.2), λ q. omega (arith, c.2)) p)
  inner_said n b tail w fits h come char =
      subst (Pieces P) (append_assoc come (b ∷ []) w)
      (h (come ++ b ∷ []) (λ t c. subst IsChar (sym (append_assoc come (b ∷ []) t)) (char (b ∷ t) (fits, c))))

  pub digit_said : (more b : ℕ) (w : List ℕ) → is_hex b ≡ true → InString P (after_digit more) w
      → InString P (Hex more) (b ∷ w)
  digit_said zero b w is p (a ∷ c ∷ d ∷ []) all counts = with_piece (unit a c d b) w (grind arith) p
  digit_said zero b w is p digits all counts = absurd (omega arith)
  digit_said (suc more) b w is h digits all counts =
      subst (λ x. Pieces P (92 ∷ 117 ∷ x)) (append_assoc digits (b ∷ []) w)
      (h (digits ++ b ∷ []) (grind (arith, list_all-append is_hex digits (b ∷ [])))
      (omega (arith, counts, length-append digits (b ∷ []))))

-- ---- white space
pub here : {P : List ℕ → Type 0} {w : List ℕ} → P w → Blank P w
here {w = w} p = record { front = []; rest = w; holds = refl; spells = refl; follows = p }

pub space : {P : List ℕ → Type 0} {b : ℕ} {w : List ℕ} → is_space b ≡ true → Blank P w → Blank P (b ∷ w)
space {b = b} s more =
    record {
      front = b ∷ more.front;
      rest = more.rest;
      holds = and_from (is_space b) (is_blank more.front) s more.holds;
      spells = ap (λ x. b ∷ x) more.spells;
      follows = more.follows;
    }

pub quiet_follows : (value w : List ℕ) → Quiet w → Follows value w
quiet_follows value w q = grind arith

pub spelled : (limit : ℕ) (left : List ℕ) (st : List Bracket) (tree : Tree) (w rest : List ℕ) → IsGood tree
    → depth tree ≤ limit - length st → w ≡ spelling tree ++ rest
    → Follows (spelling tree) rest → Rest limit left st rest → Starts limit left st w
spelled limit left st tree w rest good shallow spells ends follows =
    record { tree = tree; rest = rest; good = good; shallow = shallow; spells = spells; ends = ends; follows = follows }

module _ (limit : ℕ) (left : List ℕ) (st : List Bracket) where
  listed : (bracket : Bracket) (values : Values) (w rest : List ℕ) → AreGood (container_of bracket) values
      → values_depth values ≤ limit - suc (length st)
      → w ≡ values_spelling values ++ closing (container_of bracket) ∷ rest → Rest limit left st rest
      → Listed limit left bracket st (Rest limit left st) w
  listed bracket values w rest good shallow spells follows =
      record { values = values; rest = rest; good = good; shallow = shallow; spells = spells; follows = follows }

  -- a label and the value behind it
  label_of : (bracket : Bracket) (w : List ℕ) → Blank (First limit left bracket (bracket ∷ st)) w
      → (label : Label) × (rest : List ℕ) × (w ≡ label_spelling label ++ rest) × IsLabel (container_of bracket) label
      × Starts limit left (bracket ∷ st) rest
  label_of Square w b = (unnamed b.front, b.rest, b.spells, b.holds, b.follows)
  label_of Curly w before =
      let quote = before.follows in
      let name = quote.2 in
      let between = name.follows in
      let colon = between.follows in
      let after = colon.2 in
      let label : Label = named before.front name.pieces between.front after.front in (
        label,
        after.rest,
        rw (
          spread,
          ← after.spells,
          ← colon.1,
          ← between.spells,
          ← name.spells,
          ← quote.1,
        ) before.spells,
        (before.holds, name.good, between.holds, after.holds),
        after.follows,
      )

  pub rolled : (bracket : Bracket) (w : List ℕ) → Blank (First limit left bracket (bracket ∷ st)) w
      → Listed limit left bracket st (Rest limit left st) w
  rolled bracket w s =
      let l = label_of bracket w s in
      let value = l.4 in
      let b = value.follows in
      let spells : w ≡ label_spelling l.0 ++ (spelling value.tree ++ (b.front ++ b.rest)) =
      l.2 ∙ ap (λ x. label_spelling l.0 ++ x) (value.spells ∙ ap (λ x. spelling value.tree ++ x) b.spells) in
      elim b.follows [
        | inl end ↦
            listed bracket (last l.0 value.tree b.front) w end.0 (l.3, value.good, b.holds) value.shallow
            (rw (regroup-last, ← end.1) spells) end.2
        | inr more ↦
            let all = more.2 in
            listed bracket (next l.0 value.tree b.front all.values) w all.rest (
              l.3,
              value.good,
              b.holds,
              all.good,
            ) (omega (arith, value.shallow, all.shallow))
            (rw (regroup-next, ← all.spells, ← more.1) spells) all.follows
      ]

-- a byte that begins a sequence
pub led_high : (b : ℕ) (tail : Tail) → tail_led b ≡ Some tail → 192 ≤ b
led_high b tail e = grind arith

pub lead_char : (r : Role) (b : ℕ) (tail : Tail) → tail_led b ≡ Some tail
    → string_move r Plain b ≡ To (Quoted r (Sequence (tail_length tail + 1) tail))
lead_char r b tail e = rw (
  ne_eqb b 34 (λ q. grind arith),
  ne_eqb b 92 (λ q. grind arith),
  le-ltb b 32 (grind arith),
  le-ltb b 128 (grind arith),
  e,
) refl

-- what begins so is no number
no_number : (b : ℕ) (s w : List ℕ) → part_begun b ≡ None → Follows (b ∷ s) w
no_number b s w none = grind (arith, number_run (b ∷ s))

module _ (limit : ℕ) (left : List ℕ) where
  abbrev Moves : List Bracket → ℕ → List ℕ → Move → Type 0
  Moves st b w m = Reaches limit left (applied limit st b m) w

  -- what completes a value behind the move completes one from this mode with the byte
  abbrev Back : Mode → List Bracket → ℕ → List ℕ → Move → Type 0
  Back m st b w move = Moves st b w move → Finishes limit left m st (b ∷ w)

  -- after a value
  pub rest_back : (st : List Bracket) (b : ℕ) (w : List ℕ) → Moves st b w (after_move (top st) b)
      → Rest limit left st (b ∷ w)
  rest_back [] b w = λ h. h
  rest_back (bracket ∷ st) b w =
      cond_both (is_space b) _ _ (Back After (bracket ∷ st) b w) (λ s h. space s h) (λ _.
      cond_both (closes_bracket bracket b) _ _ (Back After (bracket ∷ st) b w)
      (λ c h. here (inl (rw (eqb-true b (closing (container_of bracket)) c) (w, refl, h)))) (λ _.
      cond_both (b == 44) _ _ (Back After (bracket ∷ st) b w)
      (λ k h. here (inr (rw (eqb-true b 44 k) (w, refl, rolled limit left st bracket w (grind arith)))))
      (λ _ h. absurd h)))

  -- a value
  number_back : (st : List Bracket) (b : ℕ) (w : List ℕ) (o : Option Part) → part_begun b ≡ o
      → Moves st b w (number_move_on o false None b) → Starts limit left st (b ∷ w)
  number_back st b w None e h = absurd h
  number_back st b w (Some part) e f =
      spelled limit left st (scalar (b ∷ f.front)) _ f.rest (inl (run_number b f.front (rw e f.holds))) (omega arith)
      (ap (λ x. b ∷ x) f.spells) (quiet_follows _ _ f.follows.0) f.follows.1

  word_back : (st : List Bracket) (b : ℕ) (s w : List ℕ) → part_begun b ≡ None → IsWord (b ∷ s)
      → Bytes s (Rest limit left st) w → Starts limit left st (b ∷ w)
  word_back st b s w none word r =
      spelled limit left st (scalar (b ∷ s)) _ r.0 (inr word) (omega arith) (ap (λ x. b ∷ x) r.1) (no_number _ _ _ none)
      r.2

  open_back : (st : List Bracket) (bracket : Bracket) (w : List ℕ) (b : ℕ) → Moves st b w (Open bracket)
      → Starts limit left st (opening (container_of bracket) ∷ w)
  open_back st bracket w b =
      cond_both (nat_lt (length st) limit) (state Fresh (bracket ∷ st)) refused (λ o. Reaches limit left o w
      → Starts limit left st (opening (container_of bracket) ∷ w)) (λ room b.
      elim b.follows [
        | inl end ↦
            spelled limit left st (empty (container_of bracket) b.front) _ end.0 b.holds (grind (arith, room))
            (grind (arith, append_assoc, b.spells, end.1)) (no_number _ _ _ (grind arith)) end.2
        | inr first ↦
            let l = rolled limit left st bracket w (record {
              front = b.front;
              rest = b.rest;
              holds = b.holds;
              spells =
                  b.spells;
              follows = first;
            }) in
            spelled limit left st (filled (container_of bracket) l.values) _ l.rest l.good
            (grind (arith, l.shallow, room)) (grind (arith, append_assoc, l.spells)) (no_number _ _ _ (grind arith))
            l.follows
      ]) (λ _ h. absurd h)

  starts_back : (st : List Bracket) (b : ℕ) (w : List ℕ) → Moves st b w (value_begun b) → Starts limit left st (b ∷ w)
  starts_back st b w =
      let Back = λ (m : Move). Moves st b w m → Starts limit left st (b ∷ w) in
      cond_both (b == 34) _ _ Back (λ e p. rw (eqb-true b 34 e)
      (spelled limit left st (text p.pieces) _ p.rest p.good (omega arith)
      (rw append_assoc (ap (λ x. 34 ∷ x) p.spells)) (no_number _ _ _ refl) p.follows)) (λ _.
      cond_both (b == 91) _ _ Back (λ e h. rw (eqb-true b 91 e) (open_back st Square w b h)) (λ _.
      cond_both (b == 123) _ _ Back (λ e h. rw (eqb-true b 123 e) (open_back st Curly w b h)) (λ _.
      cond_both (b == 110) _ _ Back (λ e h. rw (eqb-true b 110 e)
      (word_back st 110 (letters_of Ull) w refl (inl refl) h)) (λ _.
      cond_both (b == 116) _ _ Back (λ e h. rw (eqb-true b 116 e)
      (word_back st 116 (letters_of Rue) w refl (inr (inl refl)) h)) (λ _.
      cond_both (b == 102) _ _ Back (λ e h. rw (eqb-true b 102 e)
      (word_back st 102 (letters_of Alse) w refl (inr (inr refl)) h)) (λ _ h.
      number_back st b w (part_begun b) refl h))))))

  -- names, colons and what follows an opening bracket
  first_back : (bracket : Bracket) (st : List Bracket) (b : ℕ) (w : List ℕ) → Moves st b w (first_move bracket b)
      → First limit left bracket st (b ∷ w)
  first_back Square st b w h = starts_back st b w h
  first_back Curly st b w h = cond_both (b == 34) _ _ (λ m. Moves st b w m
      → First limit left Curly st (b ∷ w)) (λ e h. rw (eqb-true b 34 e) (w, refl, h)) (λ _ h. absurd h) h

  -- strings
  led_back : (r : Role) (st : List Bracket) (b : ℕ) (w : List ℕ) (o : Option Tail) → tail_led b ≡ o
      → Moves st b w (led_on r o) → InString (AfterString limit left r st) Plain (b ∷ w)
  led_back r st b w None e h = absurd h
  led_back r st b w (Some tail) e s = s (b ∷ []) (λ t c. led_char b t tail e c)

  -- numbers and words
  part_back : (part : Part) (st : List Bracket) (b : ℕ) (w : List ℕ) (after : Option Part) → part_after part b ≡ after
      → Moves st b w (number_move_on after (is_complete part && not (extends_number b)) (top st) b)
      → Front (λ s. ends s part ≡ true) (λ r. Quiet r × Rest limit left st r) (b ∷ w)
  part_back part st b w None e =
      cond_both (is_complete part && not (extends_number b)) _ _ (Back (Number part) st b w)
      (λ c h. record {
        front = [];
        rest = b ∷ w;
        holds = grind arith;
        spells = refl;
        follows =
            (grind arith, rest_back st b w h);
      }) (λ _ h. absurd h)
  part_back part st b w (Some other) e = λ f. record {
    front = b ∷ f.front;
    rest = f.rest;
    holds = rw e f.holds;
    spells = ap (λ x. b ∷ x) f.spells;
    follows = f.follows;
  }

  -- the letter and those that follow it
  letters_back : (letters : Letters) (st : List Bracket) (b : ℕ) (w : List ℕ) → Moves st b w (To (after_letter letters))
      → Bytes (letters_of letters) (Rest limit left st) (first_letter letters ∷ w)
  letters_back letters st b w r = grind arith

  pub backward : (m : Mode) (st : List Bracket) (b : ℕ) (w : List ℕ) → Reaches limit left (step limit m st b) w
      → Finishes limit left m st (b ∷ w)
  backward Mode.Value st b w =
      cond_both (is_space b) _ _ (Back Mode.Value st b w) (λ s h. space s h) (λ _ h. here (starts_back st b w h))
  backward Fresh [] b w = λ h. h
  backward Fresh (bracket ∷ st) b w =
      cond_both (is_space b) _ _ (Back Fresh (bracket ∷ st) b w) (λ s h. space s h) (λ _.
      cond_both (closes_bracket bracket b) _ _ (Back Fresh (bracket ∷ st) b w)
      (λ c h. here (inl (rw (eqb-true b (closing (container_of bracket)) c) (w, refl, h)))) (λ _ h.
      here (inr (first_back bracket (bracket ∷ st) b w h))))
  backward Name st b w =
      cond_both (is_space b) _ _ (Back Name st b w) (λ s h. space s h) (λ _ h. here (first_back Curly st b w h))
  backward Colon st b w =
      cond_both (is_space b) _ _ (Back Colon st b w) (λ s h. space s h) (λ _.
      cond_both (b == 58) _ _ (Back Colon st b w) (λ e h. here (rw (eqb-true b 58 e) (w, refl, h))) (λ _ h. absurd h))
  backward After st b w = rest_back st b w
  backward (Quoted r Plain) st b w =
      cond_both (b == 34) _ _ (Back (Quoted r Plain) st b w) (λ e h. rw (eqb-true b 34 e) (shut (grind arith)))
      (λ quote.
      cond_both (b == 92) _ _ (Back (Quoted r Plain) st b w) (λ e h. rw (eqb-true b 92 e) h) (λ slash.
      cond_both (nat_lt b 32) _ _ (Back (Quoted r Plain) st b w) (λ _ h. absurd h) (λ low.
      cond_both (nat_lt b 128) _ _ (Back (Quoted r Plain) st b w) (λ high h. bare_said b w (grind (arith, nat_tests)) h)
      (λ _ h. led_back r st b w (tail_led b) refl h))))
  backward (Quoted r Escape) st b w =
      cond_both (b == 117) _ _ (Back (Quoted r Escape) st b w) (λ e h. rw (eqb-true b 117 e) (h [] refl refl)) (λ _.
      cond_both (letter_meaning b == 0) _ _ (Back (Quoted r Escape) st b w) (λ _ h. absurd h)
      (λ some h. with_piece (letter b) w (eqb-false (letter_meaning b) 0 some) h))
  backward (Quoted r (Hex more)) st b w =
      cond_both (is_hex b) _ _ (Back (Quoted r (Hex more)) st b w) (λ is h. digit_said more b w is h) (λ _ h. absurd h)
  backward (Quoted r (Sequence n tail)) st b w =
      cond_both (tail_fits tail b) _ _ (Back (Quoted r (Sequence n tail)) st b w)
      (λ fits h. inner_said n b tail w fits h) (λ _ h. absurd h)
  backward (Number part) st b w = part_back part st b w (part_after part b) refl
  backward (Word letters) st b w =
      cond_both (first_letter letters == b) _ _ (Back (Word letters) st b w)
      (λ e h. subst (λ x. Bytes (letters_of letters) (Rest limit left st) (x ∷ w)) (eqb-true (first_letter letters) b e)
      (letters_back letters st b w h)) (λ _ h. absurd h)
