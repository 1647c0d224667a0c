-- What is spelled is run over, and behind its spelling a value is done. What a text that begins a value, and one that a
-- value stands in, say of the machine's run, and the other way round: where the machine ends, a value stands; where it
-- is refused, none stands.
use Rattle.std.proofs.Common.{◌≡◌, ◌==◌, ◌&&◌, not, ◌<◌, ◌≤◌, ◌-◌, ◌+◌, ℕ, suc, List, [], ◌∷◌, ◌++◌, length, Bool, true, false, Option, Some, refl, ap, ◌∙◌, inl, inr, arith, append_assoc, None, zero, sym, subst, append-nil, flat_map, lt-ltb}
use Rattle.std.specs.List.{AllByRecursion}
use Rattle.std.proofs.lemmas.Bool.{cases_lt, and_parts}
use Rattle.std.proofs.lemmas.Bool.Decides.{nat_tests}
use Rattle.std.proofs.lemmas.Str.{encode_ascii}
use Rattle.std.proofs.lemmas.List.{append_cancel_right}
use Rattle.json_text.specs.Characters.{is_space, is_blank}
use Rattle.json_text.specs.Tree.{Piece, bare, letter, unit, IsPiece, piece_spelling, array, object, opening, closing, Label, unnamed, named, label_spelling, IsLabel, Tree, scalar, text, empty, filled, spelling, IsGood, depth, Values, last, next, values_spelling, AreGood, values_depth, IsNumber}
use Rattle.json_text.specs.Value.{extends_number, Value, Follows, Stands, Begins, IsFaulty}
use Rattle.json_text.specs.Compact.{compact}
use Rattle.json_reader.specs.inner.Machine.{Part, Tail, One, Bracket, Square, Curly, Role, Plain, Escape, Hex, Sequence, Mode, Fresh, Name, Colon, After, Quoted, Number, Move, To, Close, state, top, applied, moved, container_of, after_string, after_comma, after_move, part_begun, part_after, is_complete, value_begun, number_move_on, tail_length, Zero, Two, Three, Long3, Low3, Long4, Low4, Word, Ull, Place, letters_of, Outcome, ended, refused, step}
use Rattle.json_text.proofs.CallerLemmas.{space-ends, spread, regroup-last, regroup-next, four-hex}
use Rattle.json_reader.proofs.NumberRuns.{ends, IsRun, number_run, ended_part, some_part}
use Rattle.json_reader.proofs.Sequences.{Completes, char_led}
use Rattle.json_reader.proofs.Steps.{run, lead_char, here, backward, go, run-append, Quiet, Rest, Finishes, start, Reaches}

-- a value is done in this mode, and what follows it is read as behind one
abbrev pub IsDone : List ℕ → Mode → Type 0
IsDone value After = Unit {0}
IsDone value (Number part) = (is_complete part ≡ true) × IsNumber value
IsDone value m = ⊥

done_moved : (value : List ℕ) (m : Mode) (top : Option Bracket) (b : ℕ) → IsDone value m
    → (IsNumber value → extends_number b ≡ false) → moved m top b ≡ after_move top b
done_moved value m top b done quiet = grind (arith, ended_part)

-- a value comes next, and no white space and no closing bracket
abbrev Awaits : Mode → List Bracket → Type 0
Awaits m st = (b : ℕ) → is_space b ≡ false → (b == 93) ≡ false → moved m (top st) b ≡ value_begun b

-- the first value of a container, or a further one
abbrev begins_in : Bracket → Bool → Mode
begins_in bracket true = Fresh
begins_in bracket false = after_comma bracket

module _ (limit : ℕ) where
  byte_over : (m : Mode) (st : List Bracket) (b : ℕ) (move : Move) (rest : List ℕ) → moved m (top st) b ≡ move
      → run limit (state m st) (b ∷ rest) ≡ run limit (applied limit st b move) rest
  byte_over m st b move rest is = ap (λ x. run limit (applied limit st b x) rest) is

  pub blank_over : (m : Mode) (st : List Bracket) → ((b : ℕ) → is_space b ≡ true → moved m (top st) b ≡ To m)
      → (blank rest : List ℕ) → is_blank blank ≡ true → run limit (state m st) (blank ++ rest)
      ≡ run limit (state m st) rest
  blank_over m st keeps [] rest is = refl
  blank_over m st keeps (b ∷ blank) rest is =
      let both = and_parts (is_space b) (is_blank blank) is in
      rw (run, keeps b both.0) (blank_over m st keeps blank rest both.1)

  -- strings
  pub tail_over : (r : Role) (st : List Bracket) (n : ℕ) (more rest : List ℕ) (tail : Tail) → Completes more tail
      → run limit (state (Quoted r (Sequence n tail)) st) (more ++ rest) ≡ run limit (state (Quoted r Plain) st) rest
  tail_over r st n [] rest tail c = absurd c
  tail_over r st n (b ∷ more) rest tail c = grind (arith, c.0, c.1, tail_over r st n more rest)

  piece_over : (r : Role) (st : List Bracket) (piece : Piece) (rest : List ℕ) → IsPiece piece
      → run limit (state (Quoted r Plain) st) (piece_spelling piece ++ rest)
      ≡ run limit (state (Quoted r Plain) st) rest
  piece_over r st (bare c) rest good = elim (cases_lt c 128) [
    | inl small ↦ rw (encode_ascii c small) (byte_over (Quoted r Plain) st c (To (Quoted r Plain)) rest
        (grind (arith, nat_tests)))
    | inr big ↦ let l = char_led c good.0 big in
        rw l.spells (byte_over (Quoted r Plain) st l.first _ (l.more ++ rest) (lead_char r l.first l.tail l.led)
        ∙ tail_over r st (tail_length l.tail + 1) l.more rest l.tail l.completes)
  ]
  piece_over r st (letter b) rest good = byte_over (Quoted r Escape) st b (To (Quoted r Plain)) rest (grind arith)
  piece_over r st (unit a b c d) rest good = let h = four-hex a b c d good in rw (run, h.0, h.1, h.2, h.3) refl

  string_over : (r : Role) (st : List Bracket) (pieces : List Piece) (rest : List ℕ) → AllByRecursion IsPiece pieces
      → run limit (state (Quoted r Plain) st) (flat_map piece_spelling pieces ++ 34 ∷ rest)
      ≡ run limit (state (after_string r) st) rest
  string_over r st [] rest good = refl
  string_over r st (piece ∷ pieces) rest good =
      rw append_assoc (piece_over r st piece (flat_map piece_spelling pieces ++ 34 ∷ rest) good.0
      ∙ string_over r st pieces rest good.1)

  number_over : (s : List ℕ) (part : Part) (st : List Bracket) → ends s part ≡ true
      → (next : Part) × (is_complete next ≡ true)
      × ((rest : List ℕ) → run limit (state (Number part) st) (s ++ rest) ≡ run limit (state (Number next) st) rest)
  number_over [] part st is = (part, is, λ rest. refl)
  number_over (b ∷ s) part st is =
      let p = some_part s (part_after part b) is in
      let n = number_over s p.0 st p.2 in (
        n.0,
        n.1,
        λ rest. byte_over (Number part) st b (To (Number p.0)) (s ++ rest)
            (ap (λ o. number_move_on o (is_complete part && not (extends_number b)) (top st) b) p.1) ∙ n.2 rest,
      )

  -- a value's spelling leads from this mode to where it is done
  pub record IsOver (value : List ℕ) (m : Mode) (st : List Bracket) : Type 0 where
    pub next : Mode
    pub done : IsDone value next
    pub runs : (rest : List ℕ) → run limit (state m st) (value ++ rest) ≡ run limit (state next st) rest

  module _ (m : Mode) (st : List Bracket) (awaits : Awaits m st) where
    first_over : (b : ℕ) (rest : List ℕ) → is_space b ≡ false → (b == 93) ≡ false
        → run limit (state m st) (b ∷ rest) ≡ run limit (applied limit st b (value_begun b)) rest
    first_over b rest solid inside = byte_over m st b (value_begun b) rest (awaits b solid inside)

    scalar_over : (literal : List ℕ) → IsNumber literal → IsRun literal → IsOver literal m st
    scalar_over [] number is = absurd is
    scalar_over (b ∷ s) number is =
        let p = some_part s (part_begun b) is in
        let n = number_over s p.0 st p.2 in
        record {
          next = Number n.0;
          done = (n.1, number);
          runs =
              λ rest. byte_over m st b (To (Number p.0)) (s ++ rest) (awaits b (grind arith) (grind arith)
              ∙ grind (arith, p.1)) ∙ n.2 rest;
        }

    -- a value that is done with its last byte
    whole : (value : List ℕ) → ((rest : List ℕ) → run limit (state m st) (value ++ rest)
        ≡ run limit (state After st) rest) → IsOver value m st
    whole value runs = record { next = After; done = tt; runs = runs }

    -- a container whose inner bytes lead to what closes it
    held : (bracket : Bracket) (inner : List ℕ) → length st < limit
        → ((rest : List ℕ) → run limit (state Fresh (bracket ∷ st)) (inner ++ closing (container_of bracket) ∷ rest)
        ≡ run limit (state After st) rest)
        → IsOver (opening (container_of bracket) ∷ (inner ++ closing (container_of bracket) ∷ [])) m st
    held bracket inner room runs =
        whole _ (λ rest. rw append_assoc (first_over (opening (container_of bracket))
        (inner ++ closing (container_of bracket) ∷ rest) (grind arith) (grind arith)
        ∙ grind (arith, lt-ltb (length st) limit room, runs rest)))

  -- containers
  label_over : (bracket : Bracket) (label : Label) (first : Bool) (st : List Bracket)
      → IsLabel (container_of bracket) label
      → (next : Mode) × Awaits next (bracket ∷ st)
      × ((rest : List ℕ) → run limit (state (begins_in bracket first) (bracket ∷ st)) (label_spelling label ++ rest)
      ≡ run limit (state next (bracket ∷ st)) rest)
  label_over Square (unnamed before) first st good = (
    begins_in Square first,
    (λ b solid inside. grind arith),
    λ rest. blank_over (begins_in Square first) (Square ∷ st) (λ b s. grind arith) before rest good,
  )
  label_over Curly (named before name between after) first st good = (
    Mode.Value,
    (λ b solid inside. rw solid refl),
    λ rest. rw spread (quote first (flat_map piece_spelling name ++ 34 ∷ (between ++ 58 ∷ (after ++ rest)))
        ∙ string_over Role.Name (Curly ∷ st) name (between ++ 58 ∷ (after ++ rest)) good.1
        ∙ blank_over Colon (Curly ∷ st) (λ b s. rw s refl) between (58 ∷ (after ++ rest)) good.2
        ∙ blank_over Mode.Value (Curly ∷ st) (λ b s. rw s refl) after rest good.3),
  )
    where
      quote : (first : Bool) (rest : List ℕ)
          → run limit (state (begins_in Curly first) (Curly ∷ st)) (before ++ 34 ∷ rest)
          ≡ run limit (state (Quoted Role.Name Plain) (Curly ∷ st)) rest
      quote first rest =
          blank_over (begins_in Curly first) (Curly ∷ st) (λ b s. grind arith) before (34 ∷ rest) good.0 ∙ grind arith
  label_over bracket label first st good = absurd (grind arith)

  behind_over : (bracket : Bracket) (st : List Bracket) (value : List ℕ) (m : Mode) → IsDone value m → (blank : List ℕ)
      → is_blank blank ≡ true → (b : ℕ) (move : Move) (rest : List ℕ)
      → (after_move (Some bracket) b ≡ move) × (extends_number b ≡ false)
      → run limit (state m (bracket ∷ st)) (blank ++ b ∷ rest)
      ≡ run limit (applied limit (bracket ∷ st) b move) rest
  behind_over bracket st value m done [] is b move rest mark =
      rw (run, done_moved value m (Some bracket) b done (λ n. mark.1), mark.0) refl
  behind_over bracket st value m done (c ∷ blank) is b move rest mark =
      let both = and_parts (is_space c) (is_blank blank) is in
      rw (
        run,
        done_moved value m (Some bracket) c done (λ n. space-ends c both.0),
        both.0,
      ) (behind_over bracket st value After tt blank both.1 b move rest mark)

  mutual
    pub tree_over : (tree : Tree) (m : Mode) (st : List Bracket) → Awaits m st → IsGood tree
        → depth tree ≤ limit - length st → IsOver (spelling tree) m st
    tree_over (scalar literal) m st awaits (inl number) shallow =
        scalar_over m st awaits literal number (number_run literal number)
    tree_over (scalar literal) m st awaits (inr word) shallow =
        whole m st awaits _ (λ rest. grind (arith, word, awaits))
    tree_over (text pieces) m st awaits good shallow =
        whole m st awaits _ (λ rest. rw append_assoc (first_over m st awaits 34 (flat_map piece_spelling pieces ++ 34
        ∷ rest) refl refl ∙ string_over Role.Value st pieces rest good))
    tree_over (empty array blank) m st awaits good shallow =
        held m st awaits Square blank (omega arith) (λ rest. blank_over Fresh (Square ∷ st) (λ b s. rw s refl) blank
        (93 ∷ rest) good)
    tree_over (empty object blank) m st awaits good shallow =
        held m st awaits Curly blank (omega arith) (λ rest. blank_over Fresh (Curly ∷ st) (λ b s. rw s refl) blank
        (125 ∷ rest) good)
    tree_over (filled array values) m st awaits good shallow =
        held m st awaits Square (values_spelling values) (omega arith)
        (values_over Square values true st good (omega arith))
    tree_over (filled object values) m st awaits good shallow =
        held m st awaits Curly (values_spelling values) (omega arith)
        (values_over Curly values true st good (omega arith))

    values_over : (bracket : Bracket) (values : Values) (first : Bool) (st : List Bracket)
        → AreGood (container_of bracket) values → values_depth values ≤ limit - suc (length st) → (rest : List ℕ)
        → run limit (state (begins_in bracket first) (bracket ∷ st)) (values_spelling values
        ++ closing (container_of bracket) ∷ rest) ≡ run limit (state After st) rest
    values_over bracket (last label value blank) first st good shallow rest =
        let l = label_over bracket label first st good.0 in
        let v = tree_over value l.0 (bracket ∷ st) l.1 good.1 (omega arith) in
        let more : List ℕ = blank ++ closing (container_of bracket) ∷ rest in
        rw regroup-last (l.2 (spelling value ++ more) ∙ v.runs more
        ∙ behind_over bracket st (spelling value) v.next v.done blank good.2 (closing (container_of bracket)) Close
        rest (grind arith))
    values_over bracket (next label value blank values) first st good shallow rest =
        let l = label_over bracket label first st good.0 in
        let v = tree_over value l.0 (bracket ∷ st) l.1 good.1 (omega arith) in
        let others : List ℕ = values_spelling values ++ closing (container_of bracket) ∷ rest in
        rw regroup-next (l.2 (spelling value ++ (blank ++ 44 ∷ others)) ∙ v.runs (blank ++ 44 ∷ others)
        ∙ behind_over bracket st (spelling value) v.next v.done blank good.2 44 (To (after_comma bracket)) others
        (grind arith)
        ∙ values_over bracket values false st good.3 (omega arith) rest)

-- ---- every state can be brought to the end of a value
pub tail_closed : (tail : Tail) → (t : List ℕ) × Completes t tail
tail_closed One = (128 ∷ [], (refl, refl))
tail_closed Two = (128 ∷ 128 ∷ [], (refl, (refl, refl)))
tail_closed Three = (128 ∷ 128 ∷ 128 ∷ [], (refl, (refl, (refl, refl))))
tail_closed Long3 = (160 ∷ 128 ∷ [], (refl, (refl, refl)))
tail_closed Low3 = (128 ∷ 128 ∷ [], (refl, (refl, refl)))
tail_closed Long4 = (144 ∷ 128 ∷ 128 ∷ [], (refl, (refl, (refl, refl))))
tail_closed Low4 = (128 ∷ 128 ∷ 128 ∷ [], (refl, (refl, (refl, refl))))

number_closed : (part : Part) → (s : List ℕ) × (ends s part ≡ true)
number_closed Zero = ([], refl)
number_closed part = (48 ∷ [], refl)

module _ (limit : ℕ) where
  -- no number goes on with it
  rest_closed : (st : List Bracket) → (w : List ℕ) × Rest limit [] st w × Quiet w
  rest_closed [] = ([], refl, tt)
  rest_closed (bracket ∷ st) =
      let r = rest_closed st in (closing (container_of bracket) ∷ r.0, here (inl (r.0, refl, r.1)), grind arith)

  pub runs_backward : (left xs w : List ℕ) (o : Outcome) → Reaches limit left (run limit o xs) w
      → Reaches limit left o (xs ++ w)
  runs_backward left [] w o r = r
  runs_backward left (x ∷ xs) w (state m st) r =
      backward limit left m st x (xs ++ w) (runs_backward left xs w (step limit m st x) r)
  runs_backward left (x ∷ xs) w o r = absurd (runs_backward left xs w refused r)

  -- bytes that lead to where a character of a string may come
  plain_over : (r : Role) (place : Place) (st : List Bracket) → (xs : List ℕ)
      × ((rest : List ℕ) → run limit (state (Quoted r place) st) (xs ++ rest)
      ≡ run limit (state (Quoted r Plain) st) rest)
  plain_over r Plain st = ([], λ rest. refl)
  plain_over r Escape st = (34 ∷ [], λ rest. refl)
  plain_over r (Hex zero) st = (48 ∷ [], λ rest. refl)
  plain_over r (Hex (suc more)) st = let h = plain_over r (Hex more) st in (48 ∷ h.0, h.1)
  plain_over r (Sequence n tail) st =
      let t = tail_closed tail in (t.0, λ rest. tail_over limit r st n t.0 rest tail t.1)

  over_closed : (m : Mode) (st : List Bracket) (xs : List ℕ) → run limit (state m st) xs ≡ state After st → (w : List ℕ)
      × Finishes limit [] m st w
  over_closed m st xs is = let r = rest_closed st in (xs ++ r.0, runs_backward [] xs r.0 (state m st) (rw is r.1))

  pub closed : (m : Mode) (st : List Bracket) → (w : List ℕ) × Finishes limit [] m st w
  closed Mode.Value st = over_closed Mode.Value st (34 ∷ 34 ∷ []) refl
  closed Fresh [] = ([], refl)
  closed Fresh (bracket ∷ st) =
      let r = rest_closed st in (closing (container_of bracket) ∷ r.0, here (inl (r.0, refl, r.1)))
  closed Name st = over_closed Name st (34 ∷ 34 ∷ 58 ∷ 34 ∷ 34 ∷ []) refl
  closed Colon st = over_closed Colon st (58 ∷ 34 ∷ 34 ∷ []) refl
  closed After st = over_closed After st [] refl
  closed (Quoted Role.Name place) st =
      let s = plain_over Role.Name place st in
      over_closed (Quoted Role.Name place) st (s.0 ++ 34 ∷ 58 ∷ 34 ∷ 34 ∷ []) (s.1 (34 ∷ 58 ∷ 34 ∷ 34 ∷ []))
  closed (Quoted Role.Value place) st = let s = plain_over Role.Value place st in
      over_closed (Quoted Role.Value place) st (s.0 ++ 34 ∷ []) (s.1 (34 ∷ []))
  closed (Number part) st =
      let s = number_closed part in
      let r = rest_closed st in
      (s.0 ++ r.0, record { front = s.0; rest = r.0; holds = s.1; spells = refl; follows = (r.2, r.1) })
  closed (Word Ull) st = over_closed (Word Ull) st (letters_of Ull) refl
  closed (Word letters) st = over_closed (Word letters) st (letters_of letters) refl

-- ---- runs
-- the run is in a state
pub record Runs (limit : ℕ) (from : Outcome) (bytes : List ℕ) : Type 0 where
  pub mode : Mode
  pub brackets : List Bracket
  pub reached : run limit from bytes ≡ state mode brackets

module _ (limit : ℕ) where
  pub refused_stays : (xs : List ℕ) (m : Mode) (st : List Bracket) → run limit refused xs ≡ state m st → ⊥
  refused_stays [] m st e = cc
  refused_stays (x ∷ xs) m st e = refused_stays xs m st e

  pub ended_stays : (b : ℕ) (xs : List ℕ) (m : Mode) (st : List Bracket) → run limit (ended b) xs ≡ state m st → ⊥
  ended_stays b [] m st e = cc
  ended_stays b (x ∷ xs) m st e = refused_stays xs m st e

  pub was_state : (o : Outcome) (xs : List ℕ) (m : Mode) (st : List Bracket) → run limit o xs ≡ state m st
      → Runs limit o []
  was_state (state m0 st0) xs m st e = record { mode = m0; brackets = st0; reached = refl }
  was_state o xs m st e = absurd (grind (arith, refused_stays, ended_stays))

  -- ---- what begins a value is run over, and no other text
  pub value_runs : (blank value found : List ℕ) → is_blank blank ≡ true → Value limit value found → (ending : Mode)
      × IsDone value ending × (run limit start (blank ++ value) ≡ state ending [])
  value_runs blank value found space v =
      let o = subst (λ x. IsOver limit x Mode.Value []) v.spells
      (tree_over limit v.tree Mode.Value [] (λ b solid inside. rw solid refl) v.good (omega (arith, v.shallow))) in (
        o.next,
        o.done,
        blank_over limit Mode.Value [] (λ b s. rw s refl) blank value space
            ∙ ap (run limit start) (sym (append-nil value)) ∙ o.runs [],
      )

  pub begins_runs : (bytes : List ℕ) → Begins limit bytes → Runs limit start bytes
  begins_runs bytes b =
      let v = value_runs b.blank b.value b.text b.space b.reads in
      let s = was_state (run limit start bytes) b.more v.0 [] (sym (run-append limit start bytes b.more)
      ∙ ap (run limit start) b.parts ∙ v.2) in
      record { mode = s.mode; brackets = s.brackets; reached = s.reached }

  pub runs_begins : (bytes : List ℕ) → Runs limit start bytes → Begins limit bytes
  runs_begins bytes r =
      let c = closed limit r.mode r.brackets in
      let b = (runs_backward limit [] bytes c.0 start (rw r.reached c.1)) in
      let s = b.follows in
      record {
        more = c.0;
        blank = b.front;
        value = spelling s.tree;
        text = compact s.tree;
        parts = b.spells ∙ ap (λ x. b.front ++ x) (s.spells ∙ ap (λ x. spelling s.tree ++ x) s.follows
            ∙ append-nil (spelling s.tree));
        space = b.holds;
        reads =
            record { tree = s.tree; good = s.good; shallow = omega (arith, s.shallow); spells = refl; means = refl };
      }

  -- less of what begins a value begins one
  pub begins_less : (xs ys : List ℕ) → Begins limit (xs ++ ys) → Begins limit xs
  begins_less xs ys b = record {
    more = ys ++ b.more;
    blank = b.blank;
    value = b.value;
    text = b.text;
    parts =
        sym (append_assoc xs ys b.more) ∙ b.parts;
    space = b.space;
    reads = b.reads;
  }

-- ---- where a value stands
pub start_stands : (bytes rest : List ℕ) → Reaches 128 rest start bytes → (text : List ℕ) × Stands bytes text rest
start_stands bytes rest r =
    let s = r.follows in (
      compact s.tree,
      record {
        blank = r.front;
        value = spelling s.tree;
        parts = r.spells ∙ ap (λ x. r.front ++ x) (s.spells ∙ ap (λ x. spelling s.tree ++ x) s.follows);
        space = r.holds;
        reads =
            record { tree = s.tree; good = s.good; shallow = omega (arith, s.shallow); spells = refl; means = refl };
        ends = subst (Follows (spelling s.tree)) s.follows s.ends;
      },
    )

-- a value is one whatever follows it
pub Stands-cut : (xs found rest : List ℕ) → Stands (xs ++ rest) found rest → Stands xs found []
Stands-cut xs found rest s = record {
  blank = s.blank;
  value = s.value;
  parts = append_cancel_right xs (s.blank ++ s.value) rest (s.parts ∙ sym (append_assoc s.blank s.value rest))
      ∙ ap (λ x. s.blank ++ x) (sym (append-nil s.value));
  space = s.space;
  reads = s.reads;
  ends = tt;
}

-- ---- what follows a value that is done
done_ends : (value : List ℕ) (m : Mode) → IsDone value m → (b : ℕ) → (IsNumber value → extends_number b ≡ false)
    → step 128 m [] b ≡ ended b
done_ends value m done b quiet = ap (applied 128 [] b) (done_moved value m None b done quiet)

-- the machine refuses none of these bytes, and white space ends the value where they are none
abbrev Goes : Mode → List Bracket → List ℕ → Type 0
Goes m st [] = step 128 m st 32 ≡ ended 32
Goes m st (b ∷ more) = step 128 m st b ≡ refused → ⊥

-- the machine has run over xs, and over ys to where a value is done
goes_on : (value : List ℕ) (ending : Mode) → IsDone value ending
    → (xs ys left rest : List ℕ) (o : Outcome) (m : Mode) (st : List Bracket) → run 128 o ys ≡ state ending []
    → run 128 o xs ≡ state m st
    → xs ++ left ≡ ys ++ rest → Follows value rest → Goes m st left
goes_on value ending done [] [] left rest o m st over is e follows =
    grind (arith, over, is, e, done_ends value ending done)
goes_on value ending done [] (y ∷ ys) left rest o m st over is e follows =
    rw e (λ stuck. refused_stays 128 ys ending [] (rw (is, stuck) at over))
goes_on value ending done (x ∷ xs) [] left rest o m st over is e follows =
    absurd
    (ended_stays 128 x xs m st (ap (λ o. run 128 o xs)
    (sym (done_ends value ending done x (subst (Follows value) (sym e) follows))) ∙ (rw over at is)))
goes_on value ending done (x ∷ xs) (y ∷ ys) left rest o m st over is e follows =
    let same : x ≡ y =
    cc in goes_on value ending done xs ys left rest (go 128 o x) m st (rw (← same) at over) is (cc) follows

-- ---- the machine stands so behind these bytes
module _ (front : List ℕ) (m : Mode) (st : List Bracket) (is : run 128 start front ≡ state m st) where
  stands_goes : (left found rest : List ℕ) → Stands (front ++ left) found rest → Goes m st left
  stands_goes left found rest s =
      let v = value_runs 128 s.blank s.value found s.space s.reads in
      goes_on s.value v.0 v.1 front (s.blank ++ s.value) left rest start m st v.2 is (s.parts
      ∙ sym (append_assoc s.blank s.value rest)) s.ends

  -- the value ends before a byte
  pub ended_stands : (b : ℕ) (more : List ℕ) → step 128 m st b ≡ ended b → (text : List ℕ)
      × Stands (front ++ b ∷ more) text (b ∷ more)
  ended_stands b more e =
      start_stands (front ++ b ∷ more) (b ∷ more)
      (runs_backward 128 (b ∷ more) front (b ∷ more) start
      (rw is (backward 128 (b ∷ more) m st b more (rw e refl))))

  pub refused_faulty : (b : ℕ) (more : List ℕ) → step 128 m st b ≡ refused → IsFaulty (front ++ b ∷ more)
  refused_faulty b more e found rest s = stands_goes (b ∷ more) found rest s e

  -- the value ends with the bytes
  pub done_stands : step 128 m st 32 ≡ ended 32 → (text : List ℕ) × Stands front text []
  done_stands e = let s = ended_stands 32 [] e in (s.0, Stands-cut front s.0 (32 ∷ []) s.1)

  pub undone_faulty : (step 128 m st 32 ≡ ended 32 → ⊥) → IsFaulty front
  undone_faulty undone found rest s = undone (stands_goes [] found rest (rw append-nil s))
