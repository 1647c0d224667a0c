use Rattle.std.proofs.Common.{◌≡◌, ℕ, List, Option, true, length, sym, ap, ◌∙◌, subst}
use Rattle.std.specs.List.{list_all}
use Rattle.std.proofs.lemmas.List.{length-map}
use Rattle.frac_keys.specs.Rising.{is_key_or_none}
use Rattle.index_repair.specs.Repair.{repaired}
use Rattle.index_repair.specs.Keyed.{index_of, keyed, with_index}
use Rattle.index_repair.proofs.KeyedLaws.{keyed-rising, keyed-zip}
use Rattle.index_repair.proofs.keyed.with_repaired_keys.Goals as goal

pub change_each-requires-clause-one_each : goal.change_each-requires-clause-one_each
change_each-requires-clause-one_each c = ap length c.into_vec.ensures ∙ c.in_ok-keys.ensures.count
    ∙ ap length c.in_ok-indices_of.ensures ∙ length-map c.args.elements.items index_of

pub returns-then-have_rising_keys-clause-exact : goal.returns-then-have_rising_keys-clause-exact
returns-then-have_rising_keys-clause-exact c =
    sym (keyed-rising c.args.elements.items (c.have_rising_keys.ensures.rising c.if-have_rising_keys.true))

pub returns-clause-exact : goal.returns-clause-exact
returns-clause-exact c =
    let es = c.args.elements.items in
    let keys = c.into_vec.ensures ∙ (c.in_ok-keys.ensures.exact ∙ ap repaired c.in_ok-indices_of.ensures) in
    c.change_each.ensures with_index (λ e key new changed. changed)
    ∙ (keyed-zip es c.into_vec.result.items ∙ ap (keyed es) keys)

pub returns-clause-old_keys : goal.returns-clause-old_keys
returns-clause-old_keys c =
    let P : List (Option (List ℕ)) → Type 0 = λ indices. list_all is_key_or_none indices ≡ true in
    subst P c.in_ok-indices_of.ensures c.in_ok-keys.ensures.old_keys
