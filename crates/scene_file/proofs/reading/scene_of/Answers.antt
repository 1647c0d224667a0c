use Rattle.std.proofs.Common.{◌≡◌, List, None, codes, refl, sym, ap, subst, ◌∙◌}
use Rattle.std.proofs.lemmas.Bool.{both_ways}
use Rattle.std.proofs.lemmas.Option.{MatchOption-at_some, MatchOption-at_none}
use Rattle.json_text.specs.Characters.{quote}
use Rattle.json_text.specs.Compact.{Member as Pair}
use Rattle.json_text.specs.Members.{pairs}
use Rattle.scene_file.specs.Reading.{IsSceneFault, HasMembers, value_unless_null, loaded}
use Rattle.scene_file.specs.inner.Taken.{HaveCome, AreItemsRead}
use Rattle.scene_file.specs.declared.fault.SceneFault.TheVariants.{NotScene, Elements, AppState, Files, Element}
use Rattle.scene_file.proofs.Apart.{given-same, head-same}
use Rattle.scene_file.proofs.Forms.{is-scene}
use Rattle.scene_file.proofs.Values.{fault-same}
use Rattle.scene_file.proofs.reading.scene_of.Goals as goal

pub returns-then-not-has_value-clause-fault : goal.returns-then-not-has_value-clause-fault
unfolding quote
returns-then-not-has_value-clause-fault c = λ fault e.
    let t = rw c.in-Some.is at c.in_ok-found.ensures.taken in
    subst (IsSceneFault c.args.value.now) (fault-same _ NotScene fault e) (
      t.members,
      t.object,
      λ kind. both_ways _ refl (c.if-not-has_value.ensures.1 (t.others (codes "type") refl
          ∙ kind.1)),
    )

pub returns-in_default-given-clause-fault : goal.returns-in_default-given-clause-fault
unfolding quote
returns-in_default-given-clause-fault c = λ fault e.
    let t = rw c.in-Some.is at c.in_ok-found.ensures.taken in
    let kind = is-scene t.members (sym (t.others (codes "type") refl) ∙ c.if-not-has_value.ensures.0 refl) in
    let lacks =
    subst (AreItemsRead (value_unless_null (codes "elements") t.members)) c.in_default-given.is t.elements in
    subst (IsSceneFault c.args.value.now) (fault-same _ Elements fault e) (t.members, t.object, kind, lacks)

pub returns-in_default-2-clause-fault : goal.returns-in_default-2-clause-fault
unfolding quote
returns-in_default-2-clause-fault c = λ fault e.
    let t = rw c.in-Some.is at c.in_ok-found.ensures.taken in
    let kind = is-scene t.members (sym (t.others (codes "type") refl) ∙ c.if-not-has_value.ensures.0 refl) in
    let items = subst (AreItemsRead (value_unless_null (codes "elements") t.members)) c.in-Read.is t.elements in
    let none : c.in_ok-settings.field-0 ≡ None = cc in
    let lacks = MatchOption-at_none _ _ none c.in_ok-settings.ensures in
    let same = given-same (codes "appState") (pairs c.in-Some.found) t.members (t.others (codes "appState") refl) in
    subst (IsSceneFault c.args.value.now) (fault-same _ AppState fault e) (
      t.members,
      t.object,
      kind,
      (items.0, items.1),
      subst (λ given. (others : List Pair) → HasMembers given others
          → ⊥) same lacks,
    )

pub returns-in_default-3-clause-fault : goal.returns-in_default-3-clause-fault
unfolding quote
returns-in_default-3-clause-fault c = λ fault e.
    let t = rw c.in-Some.is at c.in_ok-found.ensures.taken in
    let kind = is-scene t.members (sym (t.others (codes "type") refl) ∙ c.if-not-has_value.ensures.0 refl) in
    let items = subst (AreItemsRead (value_unless_null (codes "elements") t.members)) c.in-Read.is t.elements in
    let settings = subst (λ given. HasMembers given (pairs c.in-Some-2.settings))
    (given-same (codes "appState") (pairs c.in-Some.found) t.members (t.others (codes "appState") refl))
    (MatchOption-at_some _ _ c.in-Some-2.settings c.in-Some-2.is c.in_ok-settings.ensures) in
    let none : c.in_ok-entries.field-0 ≡ None = cc in
    let lacks = MatchOption-at_none _ _ none c.in_ok-entries.ensures in
    let same = given-same (codes "files") (pairs c.in-Some.found) t.members (t.others (codes "files") refl) in
    subst (IsSceneFault c.args.value.now) (fault-same _ Files fault e) (
      t.members,
      t.object,
      kind,
      (items.0, items.1),
      (pairs c.in-Some-2.settings, settings),
      subst (λ given. (others : List Pair) → HasMembers given others → ⊥) same lacks,
    )

pub returns-in-Err-clause-fault : goal.returns-in-Err-clause-fault
unfolding quote
returns-in-Err-clause-fault c = λ fault e.
    let t = rw c.in-Some.is at c.in_ok-found.ensures.taken in
    let kind = is-scene t.members (sym (t.others (codes "type") refl) ∙ c.if-not-has_value.ensures.0 refl) in
    let items = subst (AreItemsRead (value_unless_null (codes "elements") t.members)) c.in-Read.is t.elements in
    let settings = subst (λ given. HasMembers given (pairs c.in-Some-2.settings))
    (given-same (codes "appState") (pairs c.in-Some.found) t.members (t.others (codes "appState") refl))
    (MatchOption-at_some _ _ c.in-Some-2.settings c.in-Some-2.is c.in_ok-settings.ensures) in
    let entries = subst (λ given. HasMembers given (pairs c.in-Some-3.entries))
    (given-same (codes "files") (pairs c.in-Some.found) t.members (t.others (codes "files") refl))
    (MatchOption-at_some _ _ c.in-Some-3.entries c.in-Some-3.is c.in_ok-entries.ensures) in
    let faulty = subst (HaveCome items.0) c.in-Err.is items.2 in
    subst (IsSceneFault c.args.value.now) (fault-same _ (Element c.in-Err.faulty.place c.in-Err.faulty.fault) fault e) (
      t.members,
      t.object,
      kind,
      (items.0, items.1, faulty),
      (pairs c.in-Some-2.settings, settings),
      (pairs c.in-Some-3.entries, entries),
    )

pub returns-clause-scene : goal.returns-clause-scene
unfolding quote
returns-clause-scene c =
    let t = rw c.in-Some.is at c.in_ok-found.ensures.taken in
    let items = subst (AreItemsRead (value_unless_null (codes "elements") t.members)) c.in-Read.is t.elements in
    record {
      members = t.members;
      object = t.object;
      kind = is-scene t.members (sym (t.others (codes "type") refl) ∙ c.if-not-has_value.ensures.0 refl);
      head = head-same (pairs c.in-Some.found) t.members _ t.others c.in_ok-head_of.ensures;
      values = items.0;
      items = items.1;
      elements = c.in-Ok.elements;
      read = subst (HaveCome items.0) c.in-Ok.is items.2;
      are_loaded = c.from_vec.ensures ∙ (c.in_ok-elements-in-Ok.ensures ∙ ap loaded c.into_vec.ensures);
    }
