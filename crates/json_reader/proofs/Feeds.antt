-- Where a feed stands in a stream, and what the machine's run over a piece says there.
use Rattle.std.proofs.Common.{◌≡◌, ℕ, ◌+◌, ◌-◌, ◌<◌, ◌≤◌, List, [], ◌∷◌, ◌++◌, length, take, drop, get_or, true, false, Some, None, refl, sym, ap, subst, subst₂, ◌∙◌, inl, inr, arith, append_assoc, append-nil, length-append, length-drop, drop-cons, take-append-drop, one-add}
use Rattle.std.specs.Prelude.{slice_get}
use Rattle.std.specs.List.{prefix_len}
use Rattle.std.proofs.lemmas.Bool.{cases_Bool, cases_lt, false≢true, false_from_ne_true}
use Rattle.std.proofs.lemmas.List.{take_all, take-append-le, drop_all, drop-append-le, drop-drop, append_cancel_right}
use Rattle.std.proofs.lemmas.List.Folds.{list_all-append}
use Rattle.std.proofs.lemmas.List.Sums.{prefix_len-le-length}
use Rattle.std.proofs.Math.Seq.{drop-append-add}
use Rattle.json_text.specs.Characters.{is_space, is_blank}
use Rattle.json_text.specs.Tree.{IsNumber}
use Rattle.json_text.specs.Value.{Begins, Stands}
use Rattle.json_text.proofs.CallerLemmas.{Stands-once, tree-Head}
use Rattle.json_reader.specs.Faults.{IsFirstFault}
use Rattle.json_reader.specs.Feeding.{behind_space, Feeding, IsAt, IsUnderWay}
use Rattle.json_reader.specs.inner.Machine.{Machine, JsonFault, Bracket, Mode, Syntax, state, top, step, fault_of}
use Rattle.json_reader.specs.inner.Runs.{run, start, IsKept}
use Rattle.json_reader.specs.inner.Writing.{ValueReader, stretch, EndsAt, Breaks, Came, IsBroken, IsRefusedIn, HasFed}
use Rattle.json_reader.specs.declared.reader.Taken.TheVariants as taken
use Rattle.json_reader.proofs.Outcomes.{parted, read_on, refused_in, ends_stands, first_fault}
use Rattle.json_reader.proofs.ValueRuns.{blank_over, Stands-cut, begins_less, begins_runs, runs_begins, value_runs}

-- ---- white space before a value
spaced : (bytes : List ℕ) → (blank : List ℕ) × (is_blank blank ≡ true) × (bytes ≡ blank ++ behind_space bytes)
spaced [] = ([], refl, refl)
spaced (b ∷ bytes) = elim (cases_Bool (is_space b)) [
  | inl e ↦ let s = spaced bytes in (b ∷ s.0, rw e s.1, rw e (ap (λ xs. b ∷ xs) s.2))
  | inr e ↦ ([], refl, rw e refl)
]

pub behind-append : (xs ys : List ℕ) → behind_space (xs ++ ys) ≡ behind_space (behind_space xs ++ ys)
behind-append [] ys = refl
behind-append (b ∷ xs) ys =
    elim (cases_Bool (is_space b)) [ inl e ↦ rw e (behind-append xs ys) | inr e ↦ rw (e, e) refl ]

pub behind-drop : (bytes : List ℕ) → behind_space bytes ≡ drop (prefix_len is_space bytes) bytes
behind-drop [] = refl
behind-drop (b ∷ bytes) = rw one-add (grind (arith, behind-drop bytes))

-- what is kept behind bytes that begin with no white space
pub behind_on : (xs ys : List ℕ) → behind_space xs ≡ xs → (xs ≡ [] → ⊥) → behind_space (xs ++ ys) ≡ xs ++ ys
behind_on [] ys begun some = absurd (some refl)
behind_on (b ∷ xs) ys begun some =
    grind (arith, ap length begun, ap length (behind-drop xs), length-drop (prefix_len is_space xs) xs)

pub space_within : (bytes : List ℕ) → prefix_len is_space bytes ≤ length bytes
space_within bytes = prefix_len-le-length is_space bytes

-- what is read of a first piece
pub first_bytes : (rest piece : List ℕ) (start : ℕ) → rest ≡ [] → start ≡ 0 + prefix_len is_space piece
    → take (length piece - start) (drop start piece) ≡ behind_space (rest ++ piece)
first_bytes rest piece start none is =
    rw (none, behind-drop) (take_all (length piece - start) (drop start piece) (omega (arith, length-drop start piece))
    ∙ ap (λ k. drop k piece) (omega arith))

pub behind-blank : (bytes : List ℕ) → behind_space bytes ≡ [] → is_blank bytes ≡ true
behind-blank bytes none = let s = spaced bytes in ap is_blank (s.2 ∙ ap (λ xs. s.0 ++ xs) none ∙ append-nil s.0) ∙ s.1

pub blank-behind : (bytes : List ℕ) → is_blank bytes ≡ true → behind_space bytes ≡ []
blank-behind [] space = refl
blank-behind (b ∷ bytes) space = grind (arith, blank-behind bytes)

-- a value that stands behind less white space
pub Stands-spaced : (bytes more text rest : List ℕ) → Stands (behind_space bytes ++ more) text rest
    → Stands (bytes ++ more) text rest
Stands-spaced bytes more text rest s =
    let b = spaced bytes in
    let parts = ap (λ xs. xs ++ more) b.2 ∙ append_assoc b.0 (behind_space bytes) more ∙ ap (λ xs. b.0 ++ xs) s.parts
    ∙ sym (append_assoc b.0 s.blank (s.value ++ rest)) in
    record {
      blank = b.0 ++ s.blank;
      value = s.value;
      parts = parts;
      space =
          grind (arith, list_all-append is_space b.0 s.blank, b.1, s.space);
      reads = s.reads;
      ends = s.ends;
    }

-- ---- a value and what follows it
-- a value takes some bytes
pub used_some : (rest piece left : List ℕ) (n : ℕ) (text : List ℕ)
    → HasFed (behind_space (rest ++ piece)) piece left n (Some text) → 0 < length rest + n
used_some rest piece left n text fed =
    let whole = behind_space (rest ++ piece) in
    let s = fed.4.3 in
    let value = s.reads in
    let some : 0 < length s.value =
    omega (arith, ap length value.spells, ap length (tree-Head value.tree value.good).parts) in
    let all : length whole ≤ length rest + length piece =
    omega (
      arith,
      ap length (behind-drop (rest ++ piece)),
      length-drop (prefix_len is_space (rest ++ piece)) (rest ++ piece),
      length-append rest piece,
    ) in
    omega (
      arith,
      some,
      all,
      fed.3,
      fed.4.1,
      ap length s.parts,
      length-append s.blank (s.value ++ drop fed.2 whole),
      length-append s.value (drop fed.2 whole),
      length-drop fed.2 whole,
    )

-- where it has ended the value stands whatever follows
ended-on : (bytes : List ℕ) (end : ℕ) → EndsAt bytes 0 end → (text more : List ℕ) → Stands bytes text (drop end bytes)
    → Stands (bytes ++ more) text (drop end bytes ++ more)
ended-on bytes end e text more s =
    let front = stretch bytes 0 end in
    let left = drop end bytes in
    let parts : bytes ≡ front ++ left = parted bytes 0 end (omega arith) in
    let found = ends_stands front e.mode e.brackets e.ran (left ++ more) (e.ends more) in
    let same = Stands-once (Stands-cut front found.0 (left ++ more) found.1)
    (Stands-cut front text left (subst (λ xs. Stands xs text left) parts s)) in
    subst₂ (λ xs t. Stands xs t (left ++ more)) (sym (ap (λ xs. xs ++ more) parts ∙ append_assoc front left more))
    same.0 found.1

-- a value that isn't over has not ended with the bytes: a number that has would not stand before a sign
pub under_way : (xs : List ℕ) → IsKept xs → IsUnderWay xs
under_way xs kept = record {
  begins = runs_begins 128 xs (record { mode = kept.mode; brackets = kept.brackets; reached = kept.ran });
  unended = λ text stands.
      let s = stands (43 ∷ []) in
      let v = value_runs 128 s.blank s.value text s.space s.reads in
      let front : xs ≡ s.blank ++ s.value = append_cancel_right xs (s.blank ++ s.value) (43 ∷ []) (s.parts
      ∙ sym (append_assoc s.blank s.value (43 ∷ []))) in
      let same : state kept.mode kept.brackets ≡ state v.0 [] = sym kept.ran ∙ ap (run 128 start) front ∙ v.2 in
      let number : IsNumber s.value = grind (arith, v.1, same, kept.goes_on) in
      false≢true (sym (s.ends number));
}

-- ---- what came of the bytes
pub kept_none : IsKept []
kept_none = record { mode = Mode.Value; brackets = []; ran = refl; begun = refl; goes_on = refl }

module _ (rest piece bytes : List ℕ) (is : bytes ≡ behind_space (rest ++ piece)) where
  pub through_fed : (reader : ValueReader) → Came bytes 0 (taken.Through reader) → (left : List ℕ) → left ≡ bytes
      → HasFed (behind_space (rest ++ piece)) piece left (length piece) None
  through_fed reader came left same = (
    refl,
    same ∙ is,
    subst IsKept (sym same) (record {
      mode = reader.reading.machine.mode;
      brackets = reader.reading.machine.brackets;
      ran = ap (run 128 start) (sym (take_all (reader.next - 0) bytes (omega (arith, came.1)))) ∙ came.0.runs;
      begun = grind (arith, is, behind-append (rest ++ piece) [], append-nil (rest ++ piece), append-nil bytes);
      goes_on = came.2;
    }),
  )

  pub ended_fed : (value : List ℕ) (end used : ℕ) (left : List ℕ) → left ≡ [] → Came bytes 0 (taken.Ended value end)
      → used + length bytes ≡ end + length piece
      → HasFed (behind_space (rest ++ piece)) piece left used (Some value)
  ended_fed value end used left none came counted =
      subst (λ xs. HasFed xs piece left used (Some value)) is (none, omega (arith, came.1), end, counted, came)

  pub refused_fed : (machine : Machine) (n : ℕ) → Came bytes 0 (taken.Refused machine n) → (place total : ℕ)
      → place + length bytes ≡ total + n
      → (fault : JsonFault) → fault ≡ fault_of machine.mode (top machine.brackets) (Some (get_or bytes n 0)) place
      → IsRefusedIn (behind_space (rest ++ piece)) total fault
  refused_fed machine n came place total counted fault told =
      subst (λ xs. IsRefusedIn xs total fault) is (refused_in bytes 0 machine n came place total counted fault told)

pub ruleset fed_steps = (through_fed, ended_fed, refused_fed)

-- ---- the machine goes on over the bytes that are kept
module _ (rest piece bytes : List ℕ) (is : bytes ≡ rest ++ piece) (kept : IsKept rest) where
  late : (n : ℕ) → n ≤ length bytes → (m : Mode) (st : List Bracket) → run 128 start (stretch bytes 0 n) ≡ state m st
      → (n < length bytes → (o : Mode) (others : List Bracket) → step 128 m st (get_or bytes n 0) ≡ state o others → ⊥)
      → length rest ≤ n
  late n within m st ran stops = elim (cases_lt n (length rest)) [
    | inl less ↦
        let high : n < length bytes = omega (arith, less, ap length is, length-append rest piece) in
        let front = take (n + 1) rest in
        let size : n + 1 - 0 ≡ n + 1 = omega arith in
        let same : stretch bytes 0 (n + 1) ≡ front =
        ap (λ k. take k bytes) size ∙ ap (take (n + 1)) is ∙ take-append-le (n + 1) rest piece (omega arith) in
        let begins : Begins 128 (front ++ drop (n + 1) rest) =
        subst (Begins 128) (sym (take-append-drop (n + 1) rest))
        (runs_begins 128 rest (record { mode = kept.mode; brackets = kept.brackets; reached = kept.ran })) in
        let r = begins_runs 128 front (begins_less 128 front (drop (n + 1) rest) begins) in
        absurd (stops high r.mode r.brackets (sym (read_on bytes 0 n (omega arith) m st ran _ high refl)
        ∙ ap (run 128 start) same ∙ r.reached))
    | inr up ↦ up
  ]

  pub late_ended : (value : List ℕ) (n : ℕ) → Came bytes 0 (taken.Ended value n) → length rest ≤ n
  late_ended value n came =
      let e = came.2 in
      late n came.1 e.mode e.brackets e.ran (λ more o others goes. let over =
      rw (append-nil, drop-cons bytes n 0 more) at (e.ends []) in let no = sym over ∙ goes in cc)

  pub late_refused : (machine : Machine) (n : ℕ) → Came bytes 0 (taken.Refused machine n) → length rest ≤ n
  late_refused machine n came = late n (omega (arith, came.1)) machine.mode machine.brackets came.2
      (λ more o others goes. let no = sym came.3 ∙ goes in cc)

-- at the stream's end
module _ (rest : List ℕ) (kept : IsKept rest) where
  pub end_ended : (value : List ℕ) (n : ℕ) → Came rest 0 (taken.Ended value n) → Stands rest value []
  end_ended value n came = subst (Stands rest value)
      (drop_all n rest (late_ended rest [] rest (sym (append-nil rest)) kept value n came)) came.3

  pub end_refused : (machine : Machine) (n : ℕ) → Came rest 0 (taken.Refused machine n) → ⊥
  end_refused machine n came =
      omega (arith, came.1, late_refused rest [] rest (sym (append-nil rest)) kept machine n came)

pub ruleset end_steps = (end_ended, end_refused)

-- ---- where the feed stands
module _ (stream : List ℕ) (begin : ℕ) (piece : List ℕ) (feed : Feeding) (at : IsAt stream begin piece feed) where
  -- behind white space the stream goes on as what is kept and the piece
  behind : behind_space (drop begin stream) ≡ behind_space (feed.rest ++ piece)
  behind = ap behind_space at.parts ∙ behind-append at.stretch piece ∙ ap (λ xs. behind_space (xs ++ piece)) at.kept

  more_there : (behind_space (feed.rest ++ piece) ≡ [] → ⊥) → is_blank (drop begin stream) ≡ false
  more_there some = false_from_ne_true (is_blank (drop begin stream))
      (λ blank. some (sym behind ∙ blank-behind (drop begin stream) blank))

  pub stands_there : (text left more : List ℕ) → Stands (behind_space (feed.rest ++ piece) ++ more) text left
      → Stands (drop begin stream ++ more) text left
  stands_there text left more s = Stands-spaced (drop begin stream) more text left (rw behind s)

  pub first_there : (left : List ℕ) (fault : JsonFault)
      (b : IsBroken (behind_space (feed.rest ++ piece)) left (feed.used + length piece) fault) (more : List ℕ)
      → Breaks b.mode b.brackets (left ++ more) → slice_get (left ++ more) 0 ≡ slice_get left 0
      → IsFirstFault (stream ++ more) begin fault
  first_there left fault b more breaks same =
      let s = spaced (drop begin stream) in
      let front = s.0 ++ b.front in
      let here : drop begin stream ≡ front ++ left =
      s.2 ∙ ap (λ xs. s.0 ++ xs) (behind ∙ b.parts) ∙ sym (append_assoc s.0 b.front left) in
      let parts =
      drop-append-le begin stream more at.within ∙ ap (λ xs. xs ++ more) here ∙ append_assoc front left more in
      let place : begin + length front ≡ b.place = omega (
        arith,
        ap length here,
        length-append front left,
        at.within,
        length-drop begin stream,
        b.counted,
        at.counted,
      ) in
      subst (IsFirstFault (stream ++ more) begin) (rw (same, place) (sym b.told))
      (first_fault front b.mode b.brackets (blank_over 128 Mode.Value [] (λ b s. rw s refl) s.0 b.front s.1
      ∙ b.ran) (stream ++ more) begin (left ++ more) parts breaks)

  -- a byte that is refused
  pub refused_there : (fault : JsonFault)
      → IsRefusedIn (behind_space (feed.rest ++ piece)) (feed.used + length piece) fault
      → (is_blank (drop begin stream) ≡ false) × ((more : List ℕ) → IsFirstFault (stream ++ more) begin fault)
  refused_there fault r = (
    more_there (λ none. omega (
      arith,
      ap length (sym none ∙ r.broken.parts),
      length-append r.broken.front (r.byte ∷ r.more),
    )),
    λ more. first_there (r.byte ∷ r.more) fault r.broken more r.broken.breaks refl,
  )

  module _ (left : List ℕ) (n : ℕ) where
    pub going_on : HasFed (behind_space (feed.rest ++ piece)) piece left n None
        → IsAt stream begin [] (record { rest = left; used = feed.used + n; fault = feed.fault })
    going_on fed = record {
      within = at.within;
      stretch = at.stretch ++ piece;
      parts = at.parts ∙ sym (append-nil (at.stretch ++ piece));
      kept = behind-append at.stretch piece ∙ ap (λ x. behind_space (x ++ piece)) at.kept ∙ sym fed.1;
      counted = omega (arith, at.counted, fed.0);
      sound = at.sound;
    }

    -- the value that has ended
    pub value_there : (text : List ℕ) → HasFed (behind_space (feed.rest ++ piece)) piece left n (Some text)
        → (next : ℕ) × IsAt stream next (drop n piece) (record {
          rest = left;
          used = feed.used + n;
          fault =
              feed.fault;
        })
        × ((more : List ℕ) → Stands (drop begin stream ++ more) text (drop next stream ++ more))
    value_there text fed =
        let width : ℕ = length at.stretch + n in
        let whole = behind_space (feed.rest ++ piece) in
        let s = spaced (drop begin stream) in
        let all : drop begin stream ≡ s.0 ++ whole = s.2 ∙ ap (λ xs. s.0 ++ xs) behind in
        let after : drop (begin + width) stream ≡ drop n piece =
        sym (drop-drop width begin stream) ∙ ap (drop width) at.parts ∙ drop-append-add at.stretch piece n in
        let same : width ≡ length s.0 + fed.2 =
        omega (
          arith,
          fed.3,
          ap length (sym at.parts ∙ all),
          length-append at.stretch piece,
          length-append s.0 whole,
        ) in
        let left_there : drop (begin + width) stream ≡ drop fed.2 whole = sym (drop-drop width begin stream)
        ∙ ap (drop width) all ∙ ap (λ k. drop k (s.0 ++ whole)) same ∙ drop-append-add s.0 whole fed.2 in (
          begin + width,
          record {
            within = omega (
              arith,
              at.within,
              length-drop begin stream,
              ap length at.parts,
              length-append at.stretch piece,
              fed.1,
            );
            stretch = [];
            parts = after;
            kept = sym fed.0;
            counted = omega (arith, at.counted, length-drop n piece, fed.1);
            sound = at.sound;
          },
          λ more. rw left_there (stands_there text _ more (ended-on whole fed.2 fed.4.2 text more fed.4.3)),
        )

-- ---- where the feed stands at the stream's end
module _ (stream : List ℕ) (begin : ℕ) (feed : Feeding) (at : IsAt stream begin [] feed) where
  -- what is kept is all
  all_kept : behind_space (feed.rest ++ []) ≡ feed.rest
  all_kept = sym (behind stream begin [] feed at) ∙ ap behind_space (at.parts ∙ append-nil at.stretch) ∙ at.kept

  pub number_there : (text : List ℕ) → Stands feed.rest text [] → Stands (drop begin stream) text []
  number_there text s = rw append-nil at (stands_there stream begin [] feed at text [] [] (rw (all_kept, append-nil) s))

  pub cut_off_there : (fault : JsonFault) → IsBroken feed.rest [] feed.used fault → IsFirstFault stream begin fault
  cut_off_there fault b =
      let whole : IsBroken (behind_space (feed.rest ++ [])) [] (feed.used + 0) fault =
      subst₂ (λ xs total. IsBroken xs [] total fault) (sym all_kept) (omega arith) b in
      subst (λ xs. IsFirstFault xs begin fault) (append-nil stream)
      (first_there stream begin [] feed at [] fault whole [] whole.breaks refl)

  pub some_there : (feed.rest ≡ [] → ⊥) → is_blank (drop begin stream) ≡ false
  some_there some = more_there stream begin [] feed at (λ none. some (sym all_kept ∙ none))

  -- white space alone is left: a value that must come is missing
  pub blank_there : feed.rest ≡ [] → (is_blank (drop begin stream) ≡ true)
      × IsFirstFault stream begin (Syntax feed.used)
  blank_there none = (
    behind-blank (drop begin stream) (behind stream begin [] feed at ∙ all_kept ∙ none),
    cut_off_there (Syntax feed.used) (record {
      mode = Mode.Value;
      brackets = [];
      front = [];
      place = feed.used;
      parts =
          none;
      counted = omega arith;
      ran = refl;
      breaks = λ e. cc;
      told = refl;
    }),
  )
