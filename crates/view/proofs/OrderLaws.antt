-- The order of a scene is a total one, in which elements with different ids aren't tied.
use Rattle.std.proofs.Common.{◌≡◌, ℕ, true, ◌&&◌, ◌||◌, List, Option, Some, None, Ordering, is_lt, nat_cmp, bytes_eq, refl, sym, ap, ◌∙◌, subst, subst₂}
use Rattle.std.specs.Cmp.{IsTotalOrder, IsStrictWeakOrder, on_total, back_total, then_total}
use Rattle.std.specs.Cmp.Lexicographic.{slice_cmp, nat_list_cmp_total, options_total, texts_ties}
use Rattle.std.specs.Option.{option_cmp}
use Rattle.std.specs.Ordering.{is_eq, ordering_then}
use Rattle.std.specs.declared.cmp.Ordering.TheVariants.{Less, Equal, Greater}
use Rattle.std.proofs.lemmas.List.Sorted.{ranks_by}
use Rattle.frac_keys.specs.Keys.{bytes_less}
use Rattle.elem.specs.ElementValue.{ElementValue}
use Rattle.index_repair.specs.Keyed.{index_of}
use Rattle.view.specs.Shown.{comes_before, place_less}

-- indices in order, none last
abbrev pub index_cmp : Option (List ℕ) → Option (List ℕ) → Ordering
index_cmp None None = Equal
index_cmp None (Some key) = Greater
index_cmp (Some key) None = Less
index_cmp (Some key) (Some other) = slice_cmp nat_cmp key other

abbrev pub place_cmp : ElementValue → ElementValue → Ordering
place_cmp e f = ordering_then (index_cmp e.index f.index) (slice_cmp nat_cmp e.id f.id)

-- none is last in the reverse of the order in which it is first
turned : (a b : Option (List ℕ)) → option_cmp (λ x y. slice_cmp nat_cmp y x) b a ≡ index_cmp a b
turned None None = refl
turned None (Some b) = refl
turned (Some a) None = refl
turned (Some a) (Some b) = refl

index_cmp-total : IsTotalOrder index_cmp
index_cmp-total =
    subst IsTotalOrder (λ i a b. turned a b i) (back_total (options_total (back_total nat_list_cmp_total)))

pub place_cmp-total : IsTotalOrder place_cmp
place_cmp-total =
    then_total (on_total index_of index_cmp-total) (on_total (λ (e : ElementValue). e.id) nat_list_cmp_total)

then_lt : (o p : Ordering) → (is_lt o || (is_eq o && is_lt p)) ≡ is_lt (ordering_then o p)
then_lt Less p = refl
then_lt Equal p = refl
then_lt Greater p = refl

by_place : (a : Option (List ℕ)) (id : List ℕ) (b : Option (List ℕ)) (other : List ℕ)
    → place_less a id b other ≡ is_lt (ordering_then (index_cmp a b) (slice_cmp nat_cmp id other))
by_place None id None other = refl
by_place None id (Some b) other = refl
by_place (Some a) id None other = refl
by_place (Some a) id (Some b) other =
    ap (λ same. bytes_less a b || (same && bytes_less id other)) (texts_ties a b)
    ∙ then_lt (slice_cmp nat_cmp a b) (slice_cmp nat_cmp id other)

pub comes_before-cmp : (e f : ElementValue) → comes_before e f ≡ is_lt (place_cmp e f)
comes_before-cmp e f = by_place e.index e.id f.index f.id

pub comes_before-order : IsStrictWeakOrder comes_before
comes_before-order = subst IsStrictWeakOrder (λ i e f. sym (comes_before-cmp e f) i) (ranks_by place_cmp-total (λ e. e))

-- elements that are tied have one id
then_eq : (o p : Ordering) → is_eq (ordering_then o p) ≡ true → is_eq p ≡ true
then_eq Less p h = cc
then_eq Equal p h = h
then_eq Greater p h = cc

pub tied-ids : (e f : ElementValue) → is_eq (place_cmp e f) ≡ true → bytes_eq e.id f.id ≡ true
tied-ids e f h = texts_ties e.id f.id ∙ then_eq (index_cmp e.index f.index) (slice_cmp nat_cmp e.id f.id) h

-- what the code compares where both have an index
pub by_keys_and_ids : {a b : Option (List ℕ)} (key other id other_id : List ℕ) → a ≡ Some key → b ≡ Some other
    → is_lt (ordering_then (slice_cmp nat_cmp key other) (slice_cmp nat_cmp id other_id)) ≡ place_less a id b other_id
by_keys_and_ids key other id other_id first second =
    subst₂ (λ a b. is_lt (ordering_then (slice_cmp nat_cmp key other) (slice_cmp nat_cmp id other_id))
    ≡ place_less a id b other_id) (sym first) (sym second)
    (sym (by_place (Some key) id (Some other) other_id))
