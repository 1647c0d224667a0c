-- A member has its row, or its place before the first row.
use Rattle.std.proofs.Common.{Bool, true, false, IfSome, refl, rules, ◌≡◌, ◌∷◌, map}
use Rattle.std.specs.Cmp.Lexicographic.{slice_cmp}
use Rattle.std.specs.Ordering.{nat_cmp}
use Rattle.std.specs.Bool.{then_some}
use Rattle.std.proofs.lemmas.List.{nil_from_length}
use Rattle.std.specs.declared.cmp.Ordering.TheVariants.{Less}
use Rattle.restore_table.specs.inner.Merged.{row_pair}
use Rattle.restore_table.proofs.Merging.{IsBeforeFirst, first_name, rise-before, whole-row, whole-member}
use Rattle.restore_table.proofs.restoring.rows_behind.Goals.{in-Some+else-eq+else-not-is_less, in_default}
use Rattle.restore_table.proofs.restoring.rows_behind.Goals as goal

if_some : {A : Type 0} (P : A → Type 0) (b : Bool) (x : A) → (b ≡ true → P x) → IfSome (then_some b x) P
if_some P true x h = h refl
if_some P false x h = tt

first : (c : goal.After-then_some) → c.args.rows.now ≡ c.in-Some.row.now ∷ c.in-Some.others.now
first c = search rules

named : (c : goal.After-then_some) → c.args.name.now ≡ c.in-Some.row.now.name.now
named c = search rules

pub returns-then-eq-clause-rise : goal.returns-then-eq-clause-rise
returns-then-eq-clause-rise c =
    rw c.then_some.ensures
    (if_some _ c.stays.result c.in-Some.others (λ held.
    rw (named c) (first_name c.args.last.now (row_pair c.in-Some.row.now)
    (map row_pair c.in-Some.others.now) (rw (first c) at c.requires))))

pub returns-then-eq-clause-whole : goal.returns-then-eq-clause-whole
returns-then-eq-clause-whole c =
    rw c.then_some.ensures
    (if_some _ c.stays.result c.in-Some.others (λ held others whole.
    rw (first c)
    (whole-row c.args.last.now (row_pair c.in-Some.row.now) (c.args.name.now, c.args.value.now)
    (map row_pair c.in-Some.others.now) others (rw (first c) at c.requires)
    (named c) (c.stays.ensures held c.args.name.now) whole)))

before : (c : goal.After-then_some-2) → IsBeforeFirst c.args.name.now (map row_pair c.args.rows.now)
before c = elim c.match-split_first.branch [
  | in-Some+else-eq+else-not-is_less w ↦
      let first : c.args.rows.now ≡ w.in-Some.row.now ∷ w.in-Some.others.now = search rules in
      let less : slice_cmp nat_cmp c.args.name.now w.in-Some.row.now.name.now ≡ Less = search rules in
      rw first less
  | in_default w ↦ rw (nil_from_length c.args.rows.now w.in_default.ensures.cases) tt
]

pub returns-clause-rise : goal.returns-clause-rise
returns-clause-rise c =
    rw c.then_some-2.ensures
    (if_some _ c.is_less-2.result c.args.rows (λ held. rise-before c.args.last.now
    c.args.name.now (map row_pair c.args.rows.now) c.requires (before c)))

behind : (c : goal.After-then_some-2) → c.is_less-2.result ≡ true
    → slice_cmp nat_cmp c.args.last.now c.args.name.now ≡ Less
behind c held = search rules

pub returns-clause-whole : goal.returns-clause-whole
returns-clause-whole c =
    rw c.then_some-2.ensures
    (if_some _ c.is_less-2.result c.args.rows (λ held others whole.
    whole-member c.args.last.now (c.args.name.now, c.args.value.now) (map row_pair c.args.rows.now) others
    (behind c held) (before c) whole))
