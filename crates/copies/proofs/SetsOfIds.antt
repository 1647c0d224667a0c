-- A set of ids after one more.
use Rattle.std.proofs.Common.{◌≡◌, ℕ, Bool, true, false, cond, ◌||◌, List, bytes_eq, nat_cmp, refl, sym, ap, ◌∙◌}
use Rattle.std.specs.BTreeSet.{BTreeSet, contains, Updates}
use Rattle.std.specs.Cmp.Lexicographic.{slice_cmp, nat_list_eq_equiv, texts_ties}

joined : (same among : Bool) → cond same true among ≡ (same || among)
joined true among = refl
joined false among = refl

pub seen-more : (ids new : BTreeSet (List ℕ)) (id own other : List ℕ) → Updates (slice_cmp nat_cmp) ids new id true
    → id ≡ own
    → contains (slice_cmp nat_cmp) new other ≡ (bytes_eq other own || contains (slice_cmp nat_cmp) ids other)
seen-more ids new id own other updates same =
    updates.0 other
    ∙ ap (λ b. cond b true (contains (slice_cmp nat_cmp) ids other)) (sym (texts_ties id other)
    ∙ nat_list_eq_equiv.symm id other ∙ ap (bytes_eq other) same)
    ∙ joined (bytes_eq other own) (contains (slice_cmp nat_cmp) ids other)
