-- Taking every row of a namer out, one place after another.
use Rattle.std.proofs.Common.{◌≡◌, ℕ, zero, suc, ◌+◌, ◌<◌, ◌≤◌, Bool, true, false, cond, not, ◌&&◌, ◌||◌, List, [], ◌∷◌, ◌++◌, length, get_or, take, filter, bytes_eq, refl, sym, ap, ap₂, ◌∙◌, subst, arith}
use Rattle.std.specs.List.{list_any, remove}
use Rattle.std.proofs.lemmas.Bool.{cond-true, cond-false}
use Rattle.std.proofs.lemmas.List.{take_more, take_all}
use Rattle.std.proofs.lemmas.List.Edits.{length-remove}
use Rattle.std.proofs.lemmas.List.Elements.{filter-append}
use Rattle.links.specs.declared.rows.LinkRow.{LinkRow}
use Rattle.links.specs.Rows.{same_row, has_row, is_namer, rows_at, AreRows}
use Rattle.links.proofs.RowEdits.{AreRows-remove, same_row-true}
use Rattle.links.proofs.RowPlaces.{length-rows, get-rows, rows-remove}
use Rattle.links.proofs.Tabled.{list_any-filter}

module _ {X : Type 0} (p : X → Bool) where
  filter-remove : (xs : List X) (i : ℕ) (d : X) → i < length xs → p (get_or xs i d) ≡ false
      → filter p (remove xs i) ≡ filter p xs
  filter-remove [] i d l h = absurd (omega (arith, l))
  filter-remove (x ∷ xs) zero d l h = sym (cond-false (p x) (x ∷ filter p xs) (filter p xs) h)
  filter-remove (x ∷ xs) (suc i) d l h = ap (λ ys. cond (p x) (x ∷ ys) ys) (filter-remove xs i d (omega (arith, l)) h)

  take-remove : (xs : List X) (i : ℕ) → take i (remove xs i) ≡ take i xs
  take-remove xs zero = refl
  take-remove [] (suc i) = refl
  take-remove (x ∷ xs) (suc i) = ap (λ ys. x ∷ ys) (take-remove xs i)

  filter-more : (xs : List X) (i : ℕ) (d : X) → i < length xs → p (get_or xs i d) ≡ true
      → filter p (take i xs) ≡ take i xs → filter p (take (i + 1) xs) ≡ take (i + 1) xs
  filter-more xs i d l h so_far =
      ap (filter p) (take_more xs i d l) ∙ filter-append p (take i xs) (get_or xs i d ∷ [])
      ∙ ap₂ (λ a b. a ++ b) so_far (cond-true (p (get_or xs i d)) (get_or xs i d ∷ []) [] h) ∙ sym (take_more xs i d l)

-- whether a row has another namer
abbrev pub is_kept : List ℕ → LinkRow → Bool
is_kept id row = not (is_namer id row)

-- the rows before a place are those that stay, and the others are as they were
pub record AreSwept (id : List ℕ) (old : List LinkRow) (named namers : List (List ℕ)) (i : ℕ) : Type 0 where
  pub are : AreRows named namers
  pub same : filter (is_kept id) (rows_at named namers) ≡ filter (is_kept id) old
  pub done : filter (is_kept id) (take i (rows_at named namers)) ≡ take i (rows_at named namers)
  pub in_range : i ≤ length namers

pub AreSwept-first : (id : List ℕ) (named namers : List (List ℕ)) → AreRows named namers
    → AreSwept id (rows_at named namers) named namers 0
AreSwept-first id named namers are = record { are = are; same = refl; done = refl; in_range = omega arith }

module _ (id : List ℕ) (old : List LinkRow) (named namers : List (List ℕ)) (i : ℕ)
    (so_far : AreSwept id old named namers i) where
  namer-at : (x : List ℕ) → x ≡ get_or namers i x
      → is_kept id (get_or (rows_at named namers) i (record { named = []; namer = x })) ≡ not (bytes_eq id x)
  namer-at x is = ap (is_kept id) (get-rows named namers so_far.are.full i (record { named = []; namer = x }))
      ∙ ap (λ y. not (bytes_eq id y)) (sym is)

  in-rows : i < length namers → i < length (rows_at named namers)
  in-rows l = omega (arith, l, length-rows named namers so_far.are.full, so_far.are.full)

  pub AreSwept-kept : i < length namers → (x : List ℕ) → x ≡ get_or namers i x → bytes_eq id x ≡ false
      → AreSwept id old named namers (i + 1)
  AreSwept-kept l x is other = record {
    are = so_far.are;
    same = so_far.same;
    done = filter-more (is_kept id) (rows_at named namers) i (record { named = []; namer = x }) (in-rows l)
        (namer-at x is ∙ ap not other) so_far.done;
    in_range = omega (arith, l);
  }

  pub AreSwept-removed : i < length namers → (x : List ℕ) → x ≡ get_or namers i x → bytes_eq id x ≡ true
      → AreSwept id old (remove named i) (remove namers i) i
  AreSwept-removed l x same own =
      let is = rows-remove named namers so_far.are.full i in
      let short : i < length named = omega (arith, l, so_far.are.full) in
      let are = AreRows-remove named namers so_far.are i short in
      record {
        are = are;
        same = ap (filter (is_kept id)) is
            ∙ filter-remove (is_kept id) (rows_at named namers) i (record { named = []; namer = x }) (in-rows l)
            (namer-at x same ∙ ap not own) ∙ so_far.same;
        done = ap (λ rs. filter (is_kept id) (take i rs)) is
            ∙ ap (filter (is_kept id)) (take-remove (is_kept id) (rows_at named namers) i) ∙ so_far.done
            ∙ sym (take-remove (is_kept id) (rows_at named namers) i) ∙ ap (take i) (sym is);
        in_range = omega (arith, are.full, so_far.are.full, length-remove namers i l, l);
      }

  pub AreSwept-all : length namers ≤ i → rows_at named namers ≡ filter (is_kept id) old
  AreSwept-all l =
      let all = take_all i (rows_at named namers) (omega (
        arith,
        l,
        length-rows named namers so_far.are.full,
        so_far.are.full,
      )) in
      sym (ap (filter (is_kept id)) (sym all) ∙ so_far.done ∙ all) ∙ so_far.same

-- what is left has the rows of other namers
pub has-swept : (id : List ℕ) (old : List LinkRow) (row : LinkRow)
    → has_row (filter (is_kept id) old) row ≡ (has_row old row && not (is_namer id row))
has-swept id old row = list_any-filter (is_kept id) (same_row row) old ∙ each old where
  each : (rows : List LinkRow) → list_any (λ r. is_kept id r && same_row row r) rows
      ≡ (has_row rows row && not (is_namer id row))
  each [] = refl
  each (r ∷ rows) =
      ap (λ b. (is_kept id r && same_row row r) || b) (each rows)
      ∙ parted (is_kept id r) (same_row row r) (has_row rows row) (is_kept id row)
      (λ h. ap (is_kept id) (sym (same_row-true row r h)))
    where
      both : (m a : Bool) → ((m && true) || (a && m)) ≡ m
      both true a = refl
      both false true = refl
      both false false = refl

      parted : (k s a m : Bool) → (s ≡ true → k ≡ m) → ((k && s) || (a && m)) ≡ ((s || a) && m)
      parted k true a m h = subst (λ n. ((n && true) || (a && m)) ≡ m) (sym (h refl)) (both m a)
      parted true false a m h = refl
      parted false false a m h = refl
