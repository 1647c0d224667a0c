-- Sorted by their ids, the elements and the new ones are those with each new one at its place.
use Rattle.std.proofs.Common.{◌≡◌, ◌++◌, rules, subst}
use Rattle.std.specs.List.Sorted.{IsPermutation}
use Rattle.std.proofs.lemmas.List.Sorted.{answers_always, ranks_by}
use Rattle.std.specs.Cmp.Lexicographic.{nat_list_cmp_total}
use Rattle.elem.specs.ElementValue.{ElementValue}
use Rattle.effects.proofs.SortedLaws.{lower, with_created-sorted}
use Rattle.effects.proofs.changing.with_created.Goals as goal

pub returns : goal.returns
returns c =
    let all : c.append.new.self.items ≡ c.args.changed.items ++ c.args.new =
    search (rules, c.in_ok-append.ensures.items, c.into_vec-new.ensures) in
    with_created-sorted c.args.new c.args.changed.items c.sort_by.new.self.items c.requires.rise c.requires.distinct
    c.requires.apart
    (subst (λ es. IsPermutation es c.sort_by.new.self.items) all c.in_ok-sort_by.ensures.permutation)
    (c.in_ok-sort_by.ensures.sorted lower (ranks_by nat_list_cmp_total (λ (e : ElementValue). e.id))
    (answers_always _ _ _ (λ f a r g k. search rules)))
