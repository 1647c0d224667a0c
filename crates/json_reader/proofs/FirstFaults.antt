-- Which the first fault is, and where; and that a text has at most one.
use Rattle.std.proofs.Common.{take-suc, ◌≡◌, ◌⊎◌, ℕ, suc, ◌+◌, ◌-◌, ◌<◌, ◌≤◌, List, [], ◌∷◌, ◌++◌, length, get_or, take, drop, replicate, true, false, Option, Some, None, refl, sym, ap, subst, ◌∙◌, inl, inr, arith, take-append-drop, length-append, length-drop, slice_get, encode_utf8, take-take, drop_at, length-take-le}
use Rattle.std.specs.Char.{IsScalar}
use Rattle.std.proofs.lemmas.Bool.{cond_both, cases_lt, false≢true}
use Rattle.std.proofs.lemmas.Str.{encode_ascii}
use Rattle.std.proofs.lemmas.Option.{slice_get-get_or, slice_get_within, get_or_from_slice_get}
use Rattle.std.proofs.lemmas.Bool.Decides.{nat_tests}
use lib.Utf8.{low_scalar}
use Rattle.json_text.specs.Value.{Begins, IsLongest, IsInString, IsUnfinished, IsTooDeepBracket, IsStray, IsBrokenOff, IsBadUtf8}
use Rattle.json_reader.specs.Faults.{IsJsonFault}
use Rattle.json_reader.specs.inner.Machine.{Syntax, Depth, Utf8, Tail, Bracket, Role, Place, Plain, Sequence, Mode, Quoted, Outcome, state, refused, top, step, moved, opens, tail_led, tail_length, is_stray, stray_fault, bracket_fault, fault_of, JsonFault, One}
use Rattle.json_text.proofs.CallerLemmas.{append-none}
use Rattle.json_reader.proofs.Sequences.{Completes, IsChar, char_led, led_char}
use Rattle.json_reader.proofs.Steps.{run, start, run-append, lead_char, led_high}
use Rattle.json_reader.proofs.ValueRuns.{tail_closed, begins_runs, runs_begins, begins_less, refused_stays, was_state}
use Rattle.json_reader.proofs.Moves.{OnState, on_applied, HasCome, Keeps, kept, run_keeps, IsOutside, high_moved, IsWithin, run_more, run_within, deep_opens, opens_deeper, string_shut, IsInside, no_escape, some_escape}

-- the machine is inside a sequence of which so many bytes have come
abbrev InSequence : ℕ → Mode → Type 0
InSequence come (Quoted r (Sequence n tail)) = come + tail_length tail ≡ n
InSequence come m = ⊥

take_one : (xs : List ℕ) (n b : ℕ) → slice_get xs n ≡ Some b → take (suc n) xs ≡ take n xs ++ b ∷ []
take_one xs n b got = grind (arith, take-suc xs n 0, slice_get_within xs n b got, get_or_from_slice_get xs n b 0 got)

-- ---- the longest stretch
longest_least : (bytes : List ℕ) (n k : ℕ) → IsLongest bytes n → IsLongest bytes k → n < k → ⊥
longest_least bytes n k a b less =
    a.stops (omega (arith, b.within)) (subst (Begins 128) (take-take (suc n) k bytes (omega arith))
    (begins_less 128 _ _ (subst (Begins 128) (sym (take-append-drop (suc n) (take k bytes))) b.begins)))

longest_one : (bytes : List ℕ) (n k : ℕ) → IsLongest bytes n → IsLongest bytes k → k ≡ n
longest_one bytes n k a b = omega (arith, longest_least bytes n k a b, longest_least bytes k n b a)

-- ---- a sequence that is begun and not complete
-- what the first byte of a character says of the others
char_begun : (c first : ℕ) (more : List ℕ) → IsScalar c → encode_utf8 c ≡ first ∷ more → ((first < 128) × (more ≡ []))
    ⊎ ((tail : Tail) × (tail_led first ≡ Some tail) × Completes more tail)
char_begun c first more scalar e = elim (cases_lt c 128) [
  | inl small ↦ inl (grind (arith, encode_ascii c small))
  | inr big ↦
      let l = char_led c scalar big in
      inr (l.tail, grind (arith, l.spells, l.led), grind (arith, l.spells, l.completes))
]

-- over the first bytes of a sequence
tail_run : (limit : ℕ) (r : Role) (n : ℕ) (st : List Bracket) (more next : List ℕ) (tail : Tail)
    → Completes (more ++ next) tail → (next ≡ [] → ⊥)
    → (rest : Tail) × (run limit (state (Quoted r (Sequence n tail)) st) more ≡ state (Quoted r (Sequence n rest)) st)
    × (length more + tail_length rest ≡ tail_length tail)
tail_run limit r n st [] next tail c some = (tail, refl, omega arith)
tail_run limit r n st (x ∷ more) next One c some = absurd (some (append-none more next c.1))
tail_run limit r n st (x ∷ more) next tail c some =
    let t = tail_run limit r n st more next _ c.1 some in (t.0, rw c.0 t.1, omega (arith, t.2))

module _ (limit first : ℕ) (more next : List ℕ) (tail : Tail) (led : tail_led first ≡ Some tail)
    (completes : Completes (more ++ next) tail) (some : next ≡ [] → ⊥) (m : Mode) (st : List Bracket) where
  led_sequence : (o : Outcome) → run limit o (first ∷ more) ≡ state m st → InSequence (suc (length more)) m
  led_sequence (state (Quoted r Plain) st0) e =
      let t = tail_run limit r (tail_length tail + 1) st0 more next tail completes some in
      grind (arith, t.1, t.2, rw (lead_char r first tail led) at e)
  led_sequence (state m0 st0) e =
      let none = on_applied (λ m. ⊥) limit st0 first (moved m0 (top st0) first)
      (high_moved first (led_high first tail led) m0 (top st0) (λ h. h)) in
      absurd (subst (OnState (λ m. ⊥)) (was_state limit (step limit m0 st0 first) more m st e).reached none)
  led_sequence o e = absurd (refused_stays limit more m st e)

-- behind bytes that end in an unfinished sequence the machine is inside one
unfinished_sequence : (limit : ℕ) (bytes : List ℕ) (k : ℕ) (m : Mode) (st : List Bracket) → IsUnfinished (drop k bytes)
    → run limit start bytes ≡ state m st → InSequence (length (drop k bytes)) m
unfinished_sequence limit bytes k m st (c, first, more, next, scalar, parts, spells, some) is =
    let whole : bytes ≡ take k bytes ++ (first ∷ more) =
    sym (take-append-drop k bytes) ∙ ap (λ x. take k bytes ++ x) parts in
    let runs = sym (run-append limit start (take k bytes) (first ∷ more)) ∙ ap (run limit start) (sym whole) ∙ is in
    elim (char_begun c first (more ++ next) scalar (spells ∙ ap (λ x. x ++ next) parts)) [
      | inl low ↦ absurd (some (append-none more next low.1))
      | inr l ↦ subst (λ xs. InSequence (length xs) m) (sym parts)
          (led_sequence limit first more next l.0 l.1 l.2 some m st (run limit start (take k bytes)) runs)
    ]

-- outside a string no escape may come
not_inside : (bytes : List ℕ) (m : Mode) (st : List Bracket) → run 128 start bytes ≡ state m st → IsOutside m
    → IsInString bytes → ⊥
not_inside bytes m st is outside (zeros, begins) =
    let r = begins_runs 128 (bytes ++ (replicate zeros 48 ++ 92 ∷ [])) begins in
    subst (OnState (λ x. ⊥)) (rw (run-append, is) at r.reached) (no_escape 128 (state m st) zeros outside)

-- ---- stray bytes
stray_some : (b : ℕ) → is_stray b ≡ false → ((c : ℕ) (more : List ℕ) → IsScalar c → encode_utf8 c ≡ b ∷ more → ⊥) → ⊥
stray_some b stray none = by (tail_led b) refl
  where
    by : (o : Option Tail) → tail_led b ≡ o → ⊥
    by None e = let low = rw e at stray in let small : b < 128 = grind (arith, nat_tests) in
        none b [] (low_scalar b (omega arith)) (encode_ascii b small)
    by (Some tail) e = let t = tail_closed tail in let c = led_char b t.0 tail e t.1 in none c.0 t.0 c.1 c.3

-- ---- the fault behind the first n bytes
module _ (every : List ℕ) (at n : ℕ) (within : n ≤ length (drop at every)) where
  abbrev bytes : List ℕ
  bytes = drop at every

  abbrev Stops : Mode → List Bracket → Type 0
  Stops m st = (b : ℕ) → slice_get bytes n ≡ Some b → step 128 m st b ≡ refused

  module _ (m : Mode) (st : List Bracket) (is : run 128 start (take n bytes) ≡ state m st) (stops : Stops m st) where
    -- one byte more
    run_one : (limit b : ℕ) → run limit start (take n bytes) ≡ state m st → slice_get bytes n ≡ Some b
        → run limit start (take (suc n) bytes) ≡ step limit m st b
    run_one limit b so got = ap (run limit start) (take_one bytes n b got)
        ∙ run-append limit start (take n bytes) (b ∷ []) ∙ ap (λ o. run limit o (b ∷ [])) so

    longest : IsLongest bytes n
    longest = record {
      within = within;
      begins = runs_begins 128 (take n bytes) (record { mode = m; brackets = st; reached = is });
      stops = λ less begins.
          let g : slice_get bytes n ≡ Some (get_or bytes n 0) = slice_get-get_or bytes n 0 less in
          grind (
            arith,
            run_one 128 (get_or bytes n 0) is g,
            stops (get_or bytes n 0) g,
            (begins_runs 128 (take (suc n) bytes) begins).reached,
          );
    }

    keeps : Keeps (take n bytes) m
    keeps = subst (OnState (Keeps (take n bytes))) is (run_keeps 128 [] (take n bytes) start tt)

    -- a bracket that is one too many
    deep_opens_here : IsTooDeepBracket bytes n → (b : ℕ) × (slice_get bytes n ≡ Some b)
        × (opens (moved m (top st) b) ≡ true)
    deep_opens_here d =
        let b : (b : ℕ) × (slice_get bytes n ≡ Some b) = elim d.bracket [ inl g ↦ (91, g) | inr g ↦ (123, g) ] in
        let r = begins_runs 129 (take (suc n) bytes) d.deeper in (
          b.0,
          b.1,
          deep_opens 128 st b.0 (moved m (top st) b.0) r.mode r.brackets (stops b.0 b.1)
              (sym (run_one 129 b.0 (run_more 128 start (take n bytes) m st is) b.1) ∙ r.reached),
        )

    too_deep : (b : ℕ) → slice_get bytes n ≡ Some b → opens (moved m (top st) b) ≡ true → IsTooDeepBracket bytes n
    too_deep b g o =
        let fits : length st ≤ 128 =
        subst (λ x. IsWithin 128 x) is (run_within 128 start (take n bytes) (omega arith)) in
        let d = opens_deeper 128 st b (moved m (top st) b) fits o in
        let more = run_more 128 start (take n bytes) m st is in
        record {
          longest = longest;
          bracket = grind (arith, g, o, kept (take n bytes) b m (top st) keeps);
          deeper = runs_begins 129 (take (suc n) bytes) (record {
            mode = d.0;
            brackets = d.1;
            reached =
                run_one 129 b more g ∙ d.2;
          });
        }

    -- no sequence is cut off here
    syntax : (IsTooDeepBracket bytes n → ⊥) → ((come : ℕ) → InSequence come m → ⊥) → (IsStray bytes n → ⊥)
        → IsJsonFault every at (Syntax (at + n))
    syntax deep sequence stray = (
      n,
      refl,
      record {
        longest = longest;
        not_deep = deep;
        not_utf8 = λ k bad. elim bad [
          | inl (i, broken) ↦ sequence _ (unfinished_sequence 128 (take n bytes) k m st
              (subst (λ x. IsUnfinished (drop k (take x bytes))) (longest_one bytes n i longest broken.longest)
              broken.unfinished) is)
          | inr s ↦ stray (subst (IsStray bytes) (longest_one bytes n k longest s.longest) s)
        ];
      },
    )

    -- outside strings
    told_bracket : IsOutside m → ((come : ℕ) → InSequence come m → ⊥) → (next : Option ℕ) → slice_get bytes n ≡ next
        → IsJsonFault every at (bracket_fault m (top st) next (at + n))
    told_bracket outside none None g = syntax (λ d. let e = sym g ∙ (deep_opens_here d).1 in
        cc) none (λ s. not_inside (take n bytes) m st is outside s.inside)
    told_bracket outside none (Some b) g =
        cond_both (opens (moved m (top st) b)) _ _ (IsJsonFault every at) (λ o. (n, refl, too_deep b g o))
        (λ shut. syntax (λ d. let o = deep_opens_here d in let got = o.1 in let opened = o.2 in
        cc) none (λ s. not_inside (take n bytes) m st is outside s.inside))

  -- inside strings
  module _ (r : Role) (place : Place) (st : List Bracket) (is : run 128 start (take n bytes)
      ≡ state (Quoted r place) st) (stops : Stops (Quoted r place) st) where
    inside : IsInside place → IsInString (take n bytes)
    inside in_string =
        let e = some_escape 128 r place st in_string in
        let zeros : List ℕ = replicate e.0 48 ++ 92 ∷ [] in
        let ran : run 128 start (take n bytes ++ zeros) ≡ state e.1.0 e.1.1 =
        run-append 128 start (take n bytes) zeros ∙ ap (λ o. run 128 o zeros) is ∙ e.1.2 in
        (e.0, runs_begins 128 (take n bytes ++ zeros) (record { mode = e.1.0; brackets = e.1.1; reached = ran }))

    syntax_there : ((come : ℕ) → InSequence come (Quoted r place) → ⊥) → (IsStray bytes n → ⊥)
        → IsJsonFault every at (Syntax (at + n))
    syntax_there = syntax (Quoted r place) st is stops (λ d. let o = deep_opens_here (Quoted r place) st is stops d in
        false≢true (sym (string_shut r place o.0) ∙ o.2))

    told_stray : IsInside place → ((come : ℕ) → InSequence come (Quoted r place) → ⊥) → (next : Option ℕ)
        → slice_get bytes n ≡ next → IsJsonFault every at (stray_fault next (at + n))
    told_stray in_string none None g = syntax_there none (λ s. let e : None ≡ Some s.byte = sym g ∙ s.read in cc)
    told_stray in_string none (Some b) g =
        let here = longest (Quoted r place) st is stops in
        cond_both (is_stray b) _ _ (IsJsonFault every at)
        (λ stray. (
          n,
          refl,
          inr (record {
            longest = here;
            inside = inside in_string;
            byte = b;
            read = g;
            begins_none =
                λ c more s e. grind (arith, nat_tests, char_begun c b more s e);
          }),
        ))
        (λ e. syntax_there none (λ s. let same : s.byte ≡ b = let x : Some s.byte ≡ Some b = sym s.read
        ∙ g in cc in stray_some b e (rw same at s.begins_none)))

-- inside a sequence
unfinished : (come : List ℕ) (tail : Tail) → 0 < length come → ((t : List ℕ) → Completes t tail → IsChar (come ++ t))
    → IsUnfinished come
unfinished [] tail some completes = absurd (omega arith)
unfinished (first ∷ more) tail some completes =
    let t = tail_closed tail in
    let c = completes t.0 t.1 in
    (c.0, first, more, t.0, c.1, refl, c.3, λ e. subst (λ x. Completes x tail) e t.1)

told_sequence : (every : List ℕ) (at n : ℕ) (within : n ≤ length (drop at every)) (r : Role) (size : ℕ) (tail : Tail)
    (st : List Bracket)
    → (is : run 128 start (take n (drop at every)) ≡ state (Quoted r (Sequence size tail)) st)
    → Stops every at n within (Quoted r (Sequence size tail)) st
    → IsJsonFault every at (Utf8 ((at + n) - (size - tail_length tail)))
told_sequence every at n within r size tail st is stops =
    let h : HasCome (take n (drop at every)) size tail =
    keeps every at n within (Quoted r (Sequence size tail)) st is stops in
    let long : length h.before + length h.come ≡ n =
    sym (length-append h.before h.come) ∙ ap length (sym h.parts) ∙ length-take-le n (drop at every) within in
    let rest : drop (length h.before) (take n (drop at every)) ≡ h.come =
    ap (drop (length h.before)) h.parts ∙ drop_at h.before h.come (length h.before) refl in (
      length h.before,
      omega (arith, h.counts),
      inl (
        n,
        record {
          longest = longest every at n within (Quoted r (Sequence size tail)) st is stops;
          before = omega (arith, h.some);
          unfinished = subst IsUnfinished (sym rest) (unfinished h.come tail h.some h.completes);
        },
      ),
    )

-- the fault of the code is the first one
pub told : (every : List ℕ) (at n : ℕ) (within : n ≤ length (drop at every)) (m : Mode) (st : List Bracket)
    → (is : run 128 start (take n (drop at every)) ≡ state m st) → Stops every at n within m st → (next : Option ℕ)
    → slice_get (drop at every) n ≡ next
    → IsJsonFault every at (fault_of m (top st) next (at + n))
told every at n within (Quoted r (Sequence size tail)) st is stops next g =
    told_sequence every at n within r size tail st is stops
told every at n within (Quoted r place) st is stops next g =
    told_stray every at n within r place st is stops tt (λ come h. h) next g
told every at n within m st is stops next g = told_bracket every at n within m st is stops tt (λ come h. h) next g

-- ---- no fault is of two kinds
-- a byte below 128 goes on with no sequence
sequence_refuses : (limit b come : ℕ) (m : Mode) (st : List Bracket) → b < 128 → InSequence come m
    → step limit m st b ≡ refused
sequence_refuses limit b come m st small h = grind arith

module _ (bytes : List ℕ) where
  -- a bracket is a byte below 128
  bracket_byte : (n : ℕ) → IsTooDeepBracket bytes n → (b : ℕ) × (b < 128) × (slice_get bytes n ≡ Some b)
  bracket_byte n deep = elim deep.bracket [ inl got ↦ (91, omega arith, got) | inr got ↦ (123, omega arith, got) ]

  deep_not_utf8 : (n m : ℕ) → IsTooDeepBracket bytes n → IsBadUtf8 bytes m → ⊥
  deep_not_utf8 n k deep (inl (i, bad)) =
      let broken = subst (IsBrokenOff bytes k) (longest_one bytes n i deep.longest bad.longest) bad in
      let b = bracket_byte n deep in
      let deeper : Begins 129 (take n bytes ++ b.0 ∷ []) = rw (take_one bytes n b.0 b.2) at deep.deeper in
      let whole = begins_runs 129 (take n bytes ++ b.0 ∷ []) deeper in
      let front = begins_runs 129 (take n bytes) (begins_less 129 (take n bytes) (b.0 ∷ []) deeper) in
      let inside = unfinished_sequence 129 (take n bytes) k front.mode front.brackets broken.unfinished front.reached in
      grind (
        arith,
        whole.reached,
        run-append 129 start (take n bytes) (b.0 ∷ []),
        front.reached,
        sequence_refuses 129 b.0 _ front.mode front.brackets b.1 inside,
      )
  deep_not_utf8 n m deep (inr stray) =
      let b = bracket_byte n deep in
      stray_some stray.byte (grind (
        arith,
        nat_tests,
        stray.read,
        longest_one bytes n m deep.longest stray.longest,
        b.1,
        b.2,
      )) stray.begins_none

  broken_not_stray : (k n m : ℕ) → IsBrokenOff bytes k n → IsStray bytes m → ⊥
  broken_not_stray k n m broken stray =
      let here = subst (IsStray bytes) (longest_one bytes n m broken.longest stray.longest) stray in
      let r = begins_runs 128 (take n bytes) broken.longest.begins in
      let inside = unfinished_sequence 128 (take n bytes) k r.mode r.brackets broken.unfinished r.reached in
      not_inside (take n bytes) r.mode r.brackets r.reached (grind (arith, inside)) here.inside

  utf8_one : (m k : ℕ) → IsBadUtf8 bytes m → IsBadUtf8 bytes k → m ≡ k
  utf8_one m k (inl (n, a)) (inl (i, b)) =
      let same = longest_one bytes n i a.longest b.longest in
      let r = begins_runs 128 (take n bytes) a.longest.begins in
      let there = unfinished_sequence 128 (take n bytes) k r.mode r.brackets
      (subst (λ x. IsUnfinished (drop k (take x bytes))) same b.unfinished) r.reached in
      let here = unfinished_sequence 128 (take n bytes) m r.mode r.brackets a.unfinished r.reached in
      let lengths : length (drop m (take n bytes)) ≡ length (drop k (take n bytes)) = grind (arith, here, there) in
      omega (
        arith,
        lengths,
        same,
        a.before,
        b.before,
        length-drop m (take n bytes),
        length-drop k (take n bytes),
        length-take-le n bytes a.longest.within,
      )
  utf8_one m k (inl (n, a)) (inr b) = absurd (broken_not_stray m n k a b)
  utf8_one m k (inr a) (inl (i, b)) = absurd (broken_not_stray k i m b a)
  utf8_one m k (inr a) (inr b) = longest_one bytes k m b.longest a.longest

pub fault-once : (bytes : List ℕ) (at : ℕ) (fault other : JsonFault) → IsJsonFault bytes at fault
    → IsJsonFault bytes at other → fault ≡ other
fault-once every at (Syntax p) (Syntax q) (n, e, a) (i, f, b) =
    ap Syntax (e ∙ ap (λ x. at + x) (longest_one (drop at every) i n b.longest a.longest) ∙ sym f)
fault-once every at (Syntax p) (Depth q) (n, e, a) (i, f, b) =
    absurd (a.not_deep (subst (IsTooDeepBracket (drop at every)) (longest_one (drop at every) n i a.longest b.longest)
    b))
fault-once every at (Syntax p) (Utf8 q) (n, e, a) (i, f, b) = absurd (a.not_utf8 i b)
fault-once every at (Depth p) (Syntax q) (n, e, a) (i, f, b) =
    absurd (b.not_deep (subst (IsTooDeepBracket (drop at every)) (longest_one (drop at every) i n b.longest a.longest)
    a))
fault-once every at (Depth p) (Depth q) (n, e, a) (i, f, b) =
    ap Depth (e ∙ ap (λ x. at + x) (longest_one (drop at every) i n b.longest a.longest) ∙ sym f)
fault-once every at (Depth p) (Utf8 q) (n, e, a) (i, f, b) = absurd (deep_not_utf8 (drop at every) n i a b)
fault-once every at (Utf8 p) (Syntax q) (n, e, a) (i, f, b) = absurd (b.not_utf8 n a)
fault-once every at (Utf8 p) (Depth q) (n, e, a) (i, f, b) = absurd (deep_not_utf8 (drop at every) i n b a)
fault-once every at (Utf8 p) (Utf8 q) (n, e, a) (i, f, b) =
    ap Utf8 (e ∙ ap (λ x. at + x) (utf8_one (drop at every) n i a b) ∙ sym f)
