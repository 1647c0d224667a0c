-- Each effect concerns its own ids.
use Rattle.std.proofs.Common.{◌≡◌, ℕ, List, ◌||◌, bytes_eq, is_some, nat_cmp, false, subst}
use Rattle.std.specs.BTreeMap.{get}
use Rattle.std.specs.Cmp.Lexicographic.{slice_cmp}
use Rattle.links.specs.Names.{is_id, target_of}
use Rattle.effects.specs.declared.effect.Effect.{Effect}
use Rattle.effects.specs.inner.Concerning.{DeletesLive, HasNamers, HaveLinked}
use Rattle.effects.proofs.ConcerningLaws.{Ids, has, leaves-from, both-ok, others-settle, others-place, others-set, others-link, others-label, others-unlabel, others-frame, others-group, others-ungroup, deleted-others}
use Rattle.effects.proofs.concerning.concerned.Goals as goal

pub returns-in-Settle : goal.returns-in-Settle
returns-in-Settle c =
    let stored = c.args.lookup.now.store.now.elements in
    leaves-from c.ids_with_keys.result (λ (ids : Ids). (id : List ℕ)
    → has ids id ≡ is_some (get (slice_cmp nat_cmp) c.in-Settle.keys id)) c.args.effect.now _ stored c.in-Settle.is
    (λ ids are. others-settle stored ids c.in-Settle.keys are) c.ids_with_keys.ensures

pub returns-in-Place : goal.returns-in-Place
returns-in-Place c =
    let stored = c.args.lookup.now.store.now.elements in
    leaves-from c.placed_ids.result (λ (ids : Ids). (other : List ℕ)
    → has ids other ≡ (bytes_eq other c.in-Place.id || is_some (get (slice_cmp nat_cmp) c.in-Place.keys other)))
    c.args.effect.now _ stored c.in-Place.is
    (λ ids are. others-place stored ids c.in-Place.keys c.in-Place.id _ are) c.placed_ids.ensures

pub returns-in-Set : goal.returns-in-Set
returns-in-Set c =
    let stored = c.args.lookup.now.store.now.elements in
    leaves-from c.id_alone.result (λ (ids : Ids). (other : List ℕ) → has ids other ≡ bytes_eq other c.in-Set.id)
    c.args.effect.now _ stored c.in-Set.is
    (λ ids are. others-set stored ids c.in-Set.id c.in-Set.member c.in-Set.value are) c.id_alone.ensures

pub returns-in-Delete : goal.returns-in-Delete
returns-in-Delete c =
    let lookup = c.args.lookup.now in
    let stored = lookup.store.now.elements in
    let gone = c.in-Delete.ids in
    let own =
    λ (all : Ids). (id : List ℕ) → has all id ≡ false → (has lookup.unsettled.now id || has gone id) ≡ false in
    let linked = λ (all : Ids). HaveLinked stored lookup.shown.now gone.keys all in
    leaves-from c.deleted_ids.result (λ (all : Ids). own all × linked all) c.args.effect.now _ stored c.in-Delete.is
    (λ all are. deleted-others lookup c.requires.lookup gone all
    (subst (λ (f : Effect). DeletesLive f stored) c.in-Delete.is c.requires.live) are.0 are.1)
    (both-ok c.deleted_ids.result own linked c.deleted_ids.ensures.own c.deleted_ids.ensures.linked)

pub returns-in-Link : goal.returns-in-Link
returns-in-Link c =
    let stored = c.args.lookup.now.store.now.elements in
    let link = c.in-Link.link in
    leaves-from c.linked_ids.result (λ (ids : Ids). (other : List ℕ)
    → has ids other ≡ (is_id other link.old || (is_id other (target_of link.binding) || bytes_eq other link.arrow)))
    c.args.effect.now _ stored c.in-Link.is
    (λ ids are. others-link stored ids link are) c.linked_ids.ensures

pub returns-in-Label : goal.returns-in-Label
returns-in-Label c =
    let stored = c.args.lookup.now.store.now.elements in
    let label = c.in-Label.label in
    let own = λ (ids : Ids). (other : List ℕ) → has ids other ≡ false
    → (is_id other label.old || (bytes_eq other label.container || bytes_eq other label.text)) ≡ false in
    leaves-from c.labelled_ids.result (λ (ids : Ids). own ids × HasNamers stored label.container ids) c.args.effect.now
    _ stored c.in-Label.is
    (λ ids are. others-label stored ids label are)
    (both-ok c.labelled_ids.result own (HasNamers stored label.container) c.labelled_ids.ensures.own
    c.labelled_ids.ensures.namers)

pub returns-in-Unlabel : goal.returns-in-Unlabel
returns-in-Unlabel c =
    let stored = c.args.lookup.now.store.now.elements in
    leaves-from c.unlabelled_ids.result (λ (ids : Ids). (other : List ℕ)
    → has ids other ≡ (is_id other c.in-Unlabel.old || bytes_eq other c.in-Unlabel.text)) c.args.effect.now _ stored
    c.in-Unlabel.is
    (λ ids are. others-unlabel stored ids c.in-Unlabel.text c.in-Unlabel.old _ are) c.unlabelled_ids.ensures

pub returns-in-Frame : goal.returns-in-Frame
returns-in-Frame c =
    let stored = c.args.lookup.now.store.now.elements in
    leaves-from c.copied.result (λ (ids : Ids). (id : List ℕ) → has ids id ≡ has c.in-Frame.ids id) c.args.effect.now _
    stored c.in-Frame.is
    (λ ids are. others-frame stored ids c.in-Frame.ids are _) c.copied.ensures

pub returns-in-Group : goal.returns-in-Group
returns-in-Group c =
    let stored = c.args.lookup.now.store.now.elements in
    leaves-from c.copied-in-Group.result (λ (ids : Ids). (id : List ℕ) → has ids id ≡ has c.in-Group.ids id)
    c.args.effect.now _ stored c.in-Group.is
    (λ ids are. others-group stored ids c.in-Group.ids are _) c.copied-in-Group.ensures

pub returns-in-Ungroup : goal.returns-in-Ungroup
returns-in-Ungroup c =
    let stored = c.args.lookup.now.store.now.elements in
    leaves-from c.copied-in-Ungroup.result (λ (ids : Ids). (id : List ℕ) → has ids id ≡ has c.in-Ungroup.ids id)
    c.args.effect.now _ stored c.in-Ungroup.is
    (λ ids are. others-ungroup stored ids c.in-Ungroup.ids are _) c.copied-in-Ungroup.ensures
