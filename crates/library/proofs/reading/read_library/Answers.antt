use Rattle.std.proofs.Common.{◌≡◌, None, refl, sym, subst}
use Rattle.std.proofs.lemmas.Bool.{both_ways}
use Rattle.std.proofs.lemmas.Option.{MatchOption-at_some, MatchOption-at_none}
use Rattle.std.proofs.lemmas.Result.{IfOk-weaker}
use Rattle.json_text.specs.Characters.{quote}
use Rattle.json_text.specs.Members.{pairs}
use Rattle.library.specs.Reading.{IsLibFault}
use Rattle.library.specs.declared.fault.LibFault.TheVariants.{NotLibrary, Items}
use Rattle.library.proofs.ItemsReading.{is-library, lib_fault-same}
use Rattle.library.proofs.Whole.{items-whole}
use Rattle.library.proofs.reading.read_library.Goals as goal

pub returns-then-not-has_value-clause-fault : goal.returns-then-not-has_value-clause-fault
unfolding quote
returns-then-not-has_value-clause-fault c = λ fault e.
    let value = c.args.value.now in
    let members = pairs c.in-Some.found in
    let object = MatchOption-at_some _ _ c.in-Some.found c.in-Some.is c.in_ok-found.ensures in
    subst (IsLibFault value) (lib_fault-same _ NotLibrary fault e) (
      members,
      object,
      λ kind. both_ways _ refl (c.if-not-has_value.ensures.1 kind.1),
    )

pub returns-in_default-2-clause-fault : goal.returns-in_default-2-clause-fault
unfolding quote
returns-in_default-2-clause-fault c = λ fault e.
    let value = c.args.value.now in
    let members = pairs c.in-Some.found in
    let object = MatchOption-at_some _ _ c.in-Some.found c.in-Some.is c.in_ok-found.ensures in
    let kind = is-library members (c.if-not-has_value.ensures.0 refl) in
    let none : c.in_ok-values.field-0 ≡ None = cc in
    subst (IsLibFault value) (lib_fault-same _ Items fault e) (
      members,
      object,
      kind,
      MatchOption-at_none _ _ none c.in_ok-values.ensures,
    )

pub returns-clause-library : goal.returns-clause-library
unfolding quote
returns-clause-library c =
    let value = c.args.value.now in
    let members = pairs c.in-Some.found in
    let object = MatchOption-at_some _ _ c.in-Some.found c.in-Some.is c.in_ok-found.ensures in
    let kind = is-library members (c.if-not-has_value.ensures.0 refl) in
    let array = MatchOption-at_some _ _ c.in-Some-2.values c.in-Some-2.is c.in_ok-values.ensures in
    IfOk-weaker c.read_items.result _ _
    (λ items read. record {
      members = members;
      object = object;
      kind = kind;
      values = c.in-Some-2.values;
      array = array;
      read = read;
    }) c.read_items.ensures.read

pub returns-clause-fault : goal.returns-clause-fault
unfolding quote
returns-clause-fault c = λ fault e.
    let value = c.args.value.now in
    let members = pairs c.in-Some.found in
    let object = MatchOption-at_some _ _ c.in-Some.found c.in-Some.is c.in_ok-found.ensures in
    let kind = is-library members (c.if-not-has_value.ensures.0 refl) in
    let array = MatchOption-at_some _ _ c.in-Some-2.values c.in-Some-2.is c.in_ok-values.ensures in
    let faulty = c.read_items.ensures.fault fault e in
    subst (IsLibFault value) (sym faulty.2) (members, c.in-Some-2.values, object, kind, array, faulty.3)

pub returns-clause-whole : goal.returns-clause-whole
returns-clause-whole c = IfOk-weaker c.read_items.result _ _ (items-whole c.in-Some-2.values) c.read_items.ensures.read
