-- Numbers in arrays, many at a time: the machine and the writer over them.
use Rattle.std.proofs.Common.{◌≡◌, ℕ, ◌+◌, ◌-◌, ◌≤◌, List, [], ◌∷◌, ◌++◌, Bool, true, false, Some, length, refl, sym, ap, subst, ◌∙◌, arith, inl, inr, append_assoc, append-nil, ne_eqb}
use Rattle.std.specs.List.{AllByRecursion}
use Rattle.std.proofs.lemmas.Bool.{false≢true, lt-ltb}
use Rattle.std.proofs.lemmas.Bool.Decides.{nat_tests}
use Rattle.json_text.specs.Characters.{is_space}
use Rattle.json_reader.specs.inner.Drafts.{Drafted, grown}
use Rattle.json_reader.specs.inner.Items.{Item, behind, item_spelling, items_spelling, opened_by, IsComplete, IsItem, AreItems}
use Rattle.json_reader.specs.inner.Machine.{Part, Bracket, Square, Mode, Fresh, After, Number, Outcome, state, step, part_begun, is_complete, are_square}
use Rattle.json_reader.specs.inner.Writing.{Writer, between, stretch, writing_at, is_in_arrays, Fits, Ready}
use Rattle.json_reader.proofs.Numbers.{number-runs, number-extends}
use Rattle.json_reader.proofs.Outcomes.{stretch_more}
use Rattle.json_reader.proofs.SimpleValues.{begun-extends, number-begins as value-begins}
use Rattle.json_reader.proofs.Ready.{stretch-appended}
use Rattle.json_reader.proofs.Steps.{run, run-append}

-- ---- one more
pub items-more : {before mid after : Bool} (bytes : List ℕ) (at next end : ℕ) → at ≤ next → next ≤ end
    → AreItems before (stretch bytes at next) mid → IsItem (stretch bytes next end) after
    → AreItems before (stretch bytes at end) after
items-more {after = after} bytes at next end low up those one = record {
  items = record { number = one.number; opens = after } ∷ those.items;
  complete = (one.complete, those.complete);
  is = rw (stretch_more bytes at next low end up, those.is, one.is) refl;
  last = refl;
}

-- ---- the machine
-- what it waits for where an array was opened last, or behind a comma
abbrev pub awaiting : Bool → Mode
awaiting true = Fresh
awaiting false = Mode.Value

number-begins : (opened : Bool) (st : List Bracket) (b : ℕ) (part : Part) → part_begun b ≡ Some part
    → step 128 (awaiting opened) (Square ∷ st) b ≡ state (Number part) (Square ∷ st)
number-begins true st b part begins = grind (arith, nat_tests)
number-begins false st b part begins = value-begins b part (Square ∷ st) begins

comma-ends : (last : Part) (st : List Bracket) → is_complete last ≡ true
    → step 128 (Number last) (Square ∷ st) 44 ≡ state Mode.Value (Square ∷ st)
comma-ends last st ends = grind arith

bracket-ends : (last : Part) (st : List Bracket) → is_complete last ≡ true
    → step 128 (Number last) (Square ∷ st) 93 ≡ state After st
bracket-ends last st ends = grind arith

module _ (st : List Bracket) (few : length (Square ∷ Square ∷ st) ≤ 128) where
  abbrev from : Bool → Outcome
  from opened = state (awaiting opened) (Square ∷ Square ∷ st)

  abbrev within : Part → Outcome
  within part = state (Number part) (Square ∷ Square ∷ st)

  behind-runs : (last : Part) (opens : Bool) → is_complete last ≡ true
      → run 128 (within last) (behind opens) ≡ from opens
  behind-runs last false ends = comma-ends last (Square ∷ st) ends
  behind-runs last true ends =
      ap (λ o. run 128 o (44 ∷ 91 ∷ [])) (bracket-ends last (Square ∷ st) ends)
      ∙ rw (lt-ltb (length (Square ∷ st)) 128 (omega (arith, few))) refl

  item-runs : (opened : Bool) (item : Item) → IsComplete item.number
      → run 128 (from opened) (item_spelling item) ≡ from item.opens
  item-runs opened item number =
      let last = number.0 in
      let n = number.1 in
      let next = behind item.opens in
      ap (λ xs. run 128 (from opened) (xs ++ next)) n.is
      ∙ ap (λ o. run 128 o (n.others ++ next)) (number-begins opened (Square ∷ st) n.first n.begun n.begins)
      ∙ run-append 128 (within n.begun) n.others next
      ∙ ap (λ o. run 128 o next) (number-runs n.begun last _ n.others n.goes)
      ∙ behind-runs last item.opens n.ends

  all-run : (before : Bool) (items : List Item) → AllByRecursion (λ item. IsComplete item.number) items
      → run 128 (from before) (items_spelling items) ≡ from (opened_by before items)
  all-run before [] complete = refl
  all-run before (item ∷ items) complete =
      run-append 128 (from before) (items_spelling items) (item_spelling item)
      ∙ ap (λ o. run 128 o (item_spelling item)) (all-run before items complete.1)
      ∙ item-runs (opened_by before items) item complete.0

pub items-run : (before : Bool) (st : List Bracket) (items : List Item) → are_square st ≡ true → length st ≤ 128
    → AllByRecursion (λ item. IsComplete item.number) items
    → run 128 (state (awaiting before) st) (items_spelling items) ≡ state (awaiting (opened_by before items)) st
items-run before (Square ∷ Square ∷ st) items square few complete = all-run st few before items complete
items-run before st items square few complete = absurd (false≢true square)

-- ---- the writer
module _ (text : List ℕ) (ds : List Drafted) where
  abbrev Is : Drafted → List ℕ → Type 0
  Is d rest = Ready text (between d ds) rest

  number-passed : (number more : List ℕ) (d : Drafted) → IsComplete number → Is d (number ++ more)
      → Is (grown d number) more
  number-passed number more d (last, n) r =
      let extends = begun-extends n.first n.begun n.begins in
      let solid : is_space n.first ≡ false = grind (arith, nat_tests) in
      subst (λ xs. Is (grown d xs) more) (sym n.is) (stretch-appended text n.first n.others more d ds
      (inr (inl (extends, number-extends n.begun last n.others n.goes))) solid
      (subst (λ xs. Is d (xs ++ more)) n.is r))

  behind-passed : (opens : Bool) (more : List ℕ) (d : Drafted) → 2 ≤ d.level → Is d (behind opens ++ more)
      → Is (grown d (behind opens)) more
  behind-passed false more d deep r =
      (rw (ne_eqb d.level 0 (λ e. omega arith)) at r).1 (between (grown d (44 ∷ [])) ds) refl
  behind-passed true more d deep r =
      let risen : Drafted = record (grown d (93 ∷ [])) { level = d.level - 1 } in
      let comma : Drafted = grown risen (44 ∷ []) in
      let closed = r.1 (between risen ds) refl in
      let parted = (rw (ne_eqb (d.level - 1) 0 (λ e. omega arith)) at closed).1 (between comma ds) refl in
      let opened = parted.1 (between (record (grown comma (91 ∷ [])) { level = d.level - 1 + 1 }) ds) refl in
      let level : d.level - 1 + 1 ≡ d.level = omega arith in
      rw (level, append_assoc, append_assoc) at opened

  items-passed : (items : List Item) (more : List ℕ) (d : Drafted) → 2 ≤ d.level
      → AllByRecursion (λ item. IsComplete item.number) items → Is d (items_spelling items ++ more)
      → Is (grown d (items_spelling items)) more
  items-passed [] more d deep complete r = rw append-nil r
  items-passed (item ∷ items) more d deep complete r =
      let next = behind item.opens in
      let here = grown d (items_spelling items) in
      let there = items-passed items (item_spelling item ++ more) d deep complete.1 (rw append_assoc at r) in
      let number = number-passed item.number (next ++ more) here complete.0 (rw append_assoc at there) in
      rw (← append_assoc, ← append_assoc) (behind-passed item.opens more (grown here item.number) deep number)

module _ (bytes : List ℕ) (at end : ℕ) (w : Writer) (in_arrays : is_in_arrays w ≡ true) (fits : Fits at w)
    (up : at ≤ end) where
  apart : w.quoted ≡ false
  apart = grind arith

  low : w.from ≤ at
  low = rw apart at fits.from

  -- all of them is copied later
  pub items_fit : Fits end w
  items_fit = record { from = rw apart (omega (arith, low)); to = rw apart (omega arith) }

  pub items_later : {before after : Bool} → AreItems before (stretch bytes at end) after → (text more : List ℕ)
      → Ready text (writing_at bytes at w) (stretch bytes at end ++ more) → Ready text (writing_at bytes end w) more
  items_later those text more ready =
      let deep : 2 ≤ w.here.level = grind (arith, nat_tests) in
      rw (
        apart,
        stretch_more bytes w.from at low end up,
        those.is,
        ← append_assoc w.here.text (stretch bytes w.from at) (items_spelling those.items),
      )
      (items-passed text w.around.items those.items more (grown w.here (stretch bytes w.from at)) deep those.complete
      (rw (apart, those.is) at ready))
