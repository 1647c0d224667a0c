-- What the moves of the machine keep, where an escape may come, and what the limit on open brackets refuses.
use Rattle.std.proofs.Common.{◌≡◌, ◌⊎◌, inr, ◌==◌, ℕ, ◌+◌, ◌<◌, ◌≤◌, List, [], ◌∷◌, ◌++◌, length, Bool, true, false, Option, Some, None, refl, sym, ap, subst, ◌∙◌, arith, append_assoc, append-nil, length-append, zero, suc, replicate, inl, length-drop}
use Rattle.std.proofs.lemmas.Bool.{cond_both, false≢true, lt-ltb}
use Rattle.json_text.specs.Tree.{opening}
use Rattle.json_reader.specs.inner.Machine.{Tail, One, Bracket, Square, Role, Plain, Escape, Hex, Sequence, Mode, Fresh, After, Quoted, Move, To, Open, Close, End, Refuse, Place, Outcome, state, top, applied, moved, container_of, after_move, tail_led, tail_fits, tail_length, refused, opens, string_move}
use Rattle.json_reader.proofs.Sequences.{Completes, IsChar, led_char}
use Rattle.json_reader.proofs.Steps.{go, run, run-append, lead_char}
use Rattle.json_reader.proofs.NumberRuns.{ended_part}
use Rattle.json_reader.proofs.ValueRuns.{refused_stays}
use Rattle.std.specs.List.{AllByRecursion}

-- P holds of the mode that the move leads to
abbrev pub OnMove : (Mode → Type 0) → Move → Type 0
OnMove P (To m) = P m
OnMove P (Open bracket) = P Fresh
OnMove P Close = P After
OnMove P move = Unit {0}

-- P holds of the mode, if a value may go on
abbrev pub OnState : (Mode → Type 0) → Outcome → Type 0
OnState P (state m st) = P m
OnState P o = Unit {0}

pub on_applied : (P : Mode → Type 0) (limit : ℕ) (st : List Bracket) (b : ℕ) (move : Move) → OnMove P move
    → OnState P (applied limit st b move)
on_applied P limit st b move p = grind arith

pub on_go : (P Q : Mode → Type 0) (limit b : ℕ) → ((m : Mode) (top : Option Bracket) → P m → OnMove Q (moved m top b))
    → (o : Outcome) → OnState P o → OnState Q (go limit o b)
on_go P Q limit b moves o p = grind (arith, on_applied Q limit)

-- ---- the bytes of a sequence that have come
pub record HasCome (bytes : List ℕ) (n : ℕ) (tail : Tail) : Type 0 where
  pub before : List ℕ
  pub come : List ℕ
  pub parts : bytes ≡ before ++ come
  pub counts : length come + tail_length tail ≡ n
  pub some : 0 < length come
  pub completes : (t : List ℕ) → Completes t tail → IsChar (come ++ t)

-- inside a sequence its first bytes have come
abbrev pub Keeps : List ℕ → Mode → Type 0
Keeps bytes (Quoted r (Sequence n tail)) = HasCome bytes n tail
Keeps bytes m = Unit {0}

-- the move keeps this, and a bracket is opened by its own byte
abbrev pub Kept : List ℕ → ℕ → Move → Type 0
Kept bytes b (To m) = Keeps (bytes ++ b ∷ []) m
Kept bytes b (Open bracket) = b ≡ opening (container_of bracket)
Kept bytes b move = Unit {0}

-- a move that neither enters a sequence nor opens a bracket by another byte
abbrev IsCalm : ℕ → Move → Bool
IsCalm b (To (Quoted r (Sequence n tail))) = false
IsCalm b (Open bracket) = b == opening (container_of bracket)
IsCalm b move = true

module _ (bytes : List ℕ) (b : ℕ) where
  calm_kept : (move : Move) → IsCalm b move ≡ true → Kept bytes b move
  calm_kept move calm = grind arith

  plain_kept : (r : Role) (o : Option Tail) → tail_led b ≡ o → Kept bytes b (string_move r Plain b)
  plain_kept r None e = calm_kept _ (grind arith)
  plain_kept r (Some tail) e =
      rw (lead_char r b tail e) (record {
        before = bytes;
        come = b ∷ [];
        parts = refl;
        counts = omega arith;
        some =
            omega arith;
        completes = λ t c. led_char b t tail e c;
      })

  pub kept : (m : Mode) (top : Option Bracket) → Keeps bytes m → Kept bytes b (moved m top b)
  kept (Quoted r Plain) top h = plain_kept r (tail_led b) refl
  kept (Quoted r (Sequence n One)) top h = cond_both (tail_fits One b) _ _ (Kept bytes b) (λ fits. tt) (λ _. tt)
  kept (Quoted r (Sequence n tail)) top h = cond_both (tail_fits tail b) _ _ (Kept bytes b) (λ fits. record {
    before = h.before;
    come = h.come ++ b ∷ [];
    parts = ap (λ x. x ++ b ∷ []) h.parts ∙ append_assoc h.before h.come (b ∷ []);
    counts = omega (arith, h.counts, length-append h.come (b ∷ []));
    some = omega (arith, h.some, length-append h.come (b ∷ []));
    completes = λ t c. subst IsChar (sym (append_assoc h.come (b ∷ []) t)) (h.completes (b ∷ t) (fits, c));
  }) (λ _. tt)
  kept Fresh None h = tt
  kept Fresh (Some Square) h = calm_kept _ (grind arith)
  kept m top h = calm_kept _ (grind arith)

pub run_keeps : (limit : ℕ) (bytes xs : List ℕ) (o : Outcome) → OnState (Keeps bytes) o
    → OnState (Keeps (bytes ++ xs)) (run limit o xs)
run_keeps limit bytes [] o k = subst (λ x. OnState (Keeps x) o) (sym (append-nil bytes)) k
run_keeps limit bytes (x ∷ xs) o k =
    subst (λ y. OnState (Keeps y) (run limit (go limit o x) xs)) (append_assoc bytes (x ∷ []) xs)
    (run_keeps limit (bytes ++ x ∷ []) xs (go limit o x)
    (on_go (Keeps bytes) (Keeps (bytes ++ x ∷ [])) limit x (λ m top h. grind (arith, kept bytes x m top h)) o k))

-- ---- a `\` and a byte that begins a sequence
-- the machine is between two characters of a string
abbrev pub IsBetween : Mode → Type 0
IsBetween (Quoted r Plain) = Unit {0}
IsBetween m = ⊥

-- No escape may come, even after zeros.
abbrev pub IsOutside : Mode → Type 0
IsOutside (Quoted r Plain) = ⊥
IsOutside (Quoted r Escape) = ⊥
IsOutside (Quoted r (Hex more)) = ⊥
IsOutside m = Unit {0}

-- a move that leads on
abbrev Leads : Move → Bool
Leads End = false
Leads Refuse = false
Leads move = true

not_led : (move : Move) → Leads move ≡ false → OnMove (λ m. ⊥) move
not_led move e = grind arith

module _ (b : ℕ) (is : (b ≡ 92) ⊎ (192 ≤ b)) where
  strange_after : (top : Option Bracket) → Leads (after_move top b) ≡ false
  strange_after top = grind arith

  -- where no escape may come the machine does not go on with it
  pub outside_moved : (m : Mode) (top : Option Bracket) → IsOutside m → OnMove (λ m. ⊥) (moved m top b)
  outside_moved Fresh None h = tt
  outside_moved Fresh (Some Square) h = not_led _ (grind arith)
  outside_moved m top h = not_led _ (grind (arith, ended_part, strange_after top))

-- only between two characters does the machine go on with a byte that begins a sequence
pub high_moved : (b : ℕ) → 192 ≤ b → (m : Mode) (top : Option Bracket) → (IsBetween m → ⊥)
    → OnMove (λ m. ⊥) (moved m top b)
high_moved b high (Quoted r place) top no_plain = not_led _ (grind arith)
high_moved b high m top no_plain = outside_moved b (inr high) m top tt

-- ---- inside a string an escape may come, and elsewhere none may
-- the place is inside no sequence
abbrev pub IsInside : Place → Type 0
IsInside (Sequence n tail) = ⊥
IsInside place = Unit {0}

pub no_escape : (limit : ℕ) (o : Outcome) (zeros : ℕ) → OnState IsOutside o
    → OnState (λ m. ⊥) (run limit o (replicate zeros 48 ++ 92 ∷ []))
no_escape limit o zero h = on_go IsOutside (λ m. ⊥) limit 92 (outside_moved 92 (inl refl)) o h
no_escape limit o (suc zeros) h =
    no_escape limit (go limit o 48) zeros (on_go IsOutside IsOutside limit 48 (λ m top h. grind arith) o h)

-- ---- inside a string an escape comes after some zeros
abbrev Goes : Outcome → Type 0
Goes o = (m : Mode) × (st : List Bracket) × (o ≡ state m st)

hex_goes : (limit : ℕ) (r : Role) (more : ℕ) (st : List Bracket)
    → run limit (state (Quoted r (Hex more)) st) (replicate (suc more) 48) ≡ state (Quoted r Plain) st
hex_goes limit r zero st = refl
hex_goes limit r (suc more) st = hex_goes limit r more st

pub some_escape : (limit : ℕ) (r : Role) (place : Place) (st : List Bracket) → IsInside place → (zeros : ℕ)
    × Goes (run limit (state (Quoted r place) st) (replicate zeros 48 ++ 92 ∷ []))
some_escape limit r Plain st h = (0, (Quoted r Escape, st, refl))
some_escape limit r Escape st h = (0, (Quoted r Plain, st, refl))
some_escape limit r (Hex more) st h = (
  suc more,
  (
    Quoted r Escape,
    st,
    run-append limit (state (Quoted r (Hex more)) st) (replicate (suc more) 48)
        (92 ∷ []) ∙ ap (λ o. run limit o (92 ∷ [])) (hex_goes limit r more st),
  ),
)
some_escape limit r (Sequence n tail) st h = absurd h

-- ---- a greater limit refuses nothing more
applied_more : (limit : ℕ) (st : List Bracket) (b : ℕ) (move : Move) → (applied limit st b move ≡ refused)
    ⊎ (applied (suc limit) st b move ≡ applied limit st b move)
applied_more limit st b move = grind arith

pub run_more : (limit : ℕ) (o : Outcome) (xs : List ℕ) (m : Mode) (st : List Bracket) → run limit o xs ≡ state m st
    → run (suc limit) o xs ≡ state m st
run_more limit o [] m st e = e
run_more limit o (x ∷ xs) m st e =
    grind (arith, applied_more limit, refused_stays limit xs m st, run_more limit (go limit o x) xs m st)

-- ---- no more are open than may be
abbrev pub IsWithin : ℕ → Outcome → Type 0
IsWithin limit (state m st) = length st ≤ limit
IsWithin limit o = Unit {0}

applied_within : (limit : ℕ) (st : List Bracket) (b : ℕ) (move : Move) → length st ≤ limit
    → IsWithin limit (applied limit st b move)
applied_within limit st b move h = grind (arith, length-drop 1 st)

pub run_within : (limit : ℕ) (o : Outcome) (xs : List ℕ) → IsWithin limit o → IsWithin limit (run limit o xs)
run_within limit o [] h = h
run_within limit o (x ∷ xs) h = run_within limit (go limit o x) xs (grind (arith, applied_within limit))

-- ---- what the lesser limit alone refuses
pub deep_opens : (limit : ℕ) (st : List Bracket) (b : ℕ) (move : Move) (m : Mode) (after : List Bracket)
    → applied limit st b move ≡ refused → applied (suc limit) st b move ≡ state m after → opens move ≡ true
deep_opens limit st b move m after e more = grind arith

-- a refused bracket is one too many, and could stand under one more
pub opens_deeper : (limit : ℕ) (st : List Bracket) (b : ℕ) (move : Move) → length st ≤ limit → opens move ≡ true
    → (m : Mode) × (after : List Bracket) × (applied (suc limit) st b move ≡ state m after)
opens_deeper limit st b (Open bracket) h e =
    (Fresh, bracket ∷ st, rw (lt-ltb (length st) (suc limit) (omega arith)) refl)
opens_deeper limit st b move h e = absurd (false≢true e)

-- no bracket opens in a string
pub string_shut : (r : Role) (place : Place) (b : ℕ) → opens (string_move r place b) ≡ false
string_shut r place b = grind arith

-- ---- bytes that leave the machine as it is
pub stay_run : (m : Mode) (st : List Bracket) (xs : List ℕ) → AllByRecursion (λ b. moved m (top st) b ≡ To m) xs
    → run 128 (state m st) xs ≡ state m st
stay_run m st [] all = refl
stay_run m st (x ∷ xs) all = ap (λ move. run 128 (applied 128 st x move) xs) all.0 ∙ stay_run m st xs all.1
