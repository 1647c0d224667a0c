-- The ids are walked in their order.
use Rattle.std.proofs.Common.{◌≡◌, ◌++◌, true, Some, find, sym, ap, ◌∙◌, append-nil, rules}
use Rattle.std.specs.List.{filter_map}
use Rattle.std.specs.Option.{option_map}
use Rattle.effects.specs.Changed.{OnFault, is_full, refusal_at}
use Rattle.effects.specs.inner.Concerning.{change_at, is_full_at}
use Rattle.effects.specs.inner.Prepared.{made_by}
use Rattle.effects.specs.declared.refusal.Refusal.{Refusal}
use Rattle.effects.specs.declared.refusal.Refusal.TheVariants.{VersionFull}
use Rattle.effects.proofs.ChosenLaws.{changes-walked, full-walked}
use Rattle.effects.proofs.CreatedLaws.{unmapped}
use Rattle.effects.proofs.FirstLaws.{OnFault-weaker}
use Rattle.effects.proofs.WalkingLaws.{walked-made, walked-free, walked-full}
use Rattle.effects.proofs.walking.changes_of.Goals as goal

pub returns-in_err-new-clause-full : goal.returns-in_err-new-clause-full
returns-in_err-new-clause-full c =
    let stored = c.args.store.now.elements in
    let makes = made_by c.args.effect.now in
    let p = is_full_at stored makes in
    let id = c.in-Some.id.now in
    let walked = full-walked makes c.args.stamp.time c.args.stamp.nonce stored c.args.ids.now c.requires.ordered
    c.into_iter-id-iterator.ensures.into_iter_gives.4 c.requires.others in
    let told : OnFault c.in_err-new.field-0.0 (λ refusal. option_map refusal_at (find (is_full makes) stored)
    ≡ Some refusal) =
    OnFault-weaker (λ (refusal : Refusal). (p id ≡ true) × (refusal ≡ VersionFull id))
    (λ refusal. option_map refusal_at (find (is_full makes) stored) ≡ Some refusal) c.in_err-new.field-0.0
    (λ refusal is.
    sym walked
    ∙ ap (option_map VersionFull) (walked-full (change_at stored makes c.args.stamp.time c.args.stamp.nonce) p
    c.loop-id.id-iterator c.next.new.self id c.in-Some.ensures.steps (find p c.args.ids.now.keys) is.0
    c.loop-id.invariant.free) ∙ ap Some (sym is.1))
    c.in_err-new.ensures.full in
    search (rules, told)

pub loop-id-preserved : goal.loop-id-preserved
loop-id-preserved c =
    let stored = c.args.store.now.elements in
    let makes = made_by c.args.effect.now in
    let f = change_at stored makes c.args.stamp.time c.args.stamp.nonce in
    let p = is_full_at stored makes in
    let id = c.in-Some.id.now in
    record {
      made =
          ap (λ es. es ++ filter_map f c.next.new.self) c.in_ok-note.ensures
          ∙ walked-made f p c.loop-id.id-iterator c.next.new.self id c.in-Some.ensures.steps c.loop-id.changed.items
          (filter_map f c.args.ids.now.keys) c.in_ok-new.new c.in_ok-new.ensures.changed c.loop-id.invariant.made;
      free = walked-free f p c.loop-id.id-iterator c.next.new.self id c.in-Some.ensures.steps
          (find p c.args.ids.now.keys) c.in_ok-new.ensures.free c.loop-id.invariant.free;
    }

pub returns-clause-changed : goal.returns-clause-changed
returns-clause-changed c =
    let stored = c.args.store.now.elements in
    let makes = made_by c.args.effect.now in
    let f = change_at stored makes c.args.stamp.time c.args.stamp.nonce in
    let walked = changes-walked makes c.args.stamp.time c.args.stamp.nonce stored c.args.ids.now c.requires.ordered
    c.into_iter-id-iterator.ensures.into_iter_gives.4 c.requires.others in
    sym (append-nil c.loop-id.changed.items)
    ∙ ap (λ ids. c.loop-id.changed.items ++ filter_map f ids) (sym c.in-None.ensures.steps.0)
    ∙ c.loop-id.invariant.made
    ∙ walked

pub returns-clause-none_full : goal.returns-clause-none_full
returns-clause-none_full c =
    let stored = c.args.store.now.elements in
    let makes = made_by c.args.effect.now in
    let p = is_full_at stored makes in
    let walked = full-walked makes c.args.stamp.time c.args.stamp.nonce stored c.args.ids.now c.requires.ordered
    c.into_iter-id-iterator.ensures.into_iter_gives.4 c.requires.others in
    unmapped refusal_at (find (is_full makes) stored)
    (sym walked ∙ ap (option_map VersionFull) (sym c.loop-id.invariant.free ∙ ap (find p) c.in-None.ensures.steps.0))
