use Rattle.std.proofs.Common.{◌≡◌, None, Err, ap, sym, subst}
use Rattle.std.proofs.lemmas.Option.{MatchOption-at_some, MatchOption-at_none}
use Rattle.std.proofs.lemmas.Result.{err_from_is_err_and}
use Rattle.json_text.specs.Members.{pairs}
use Rattle.elem_read.proofs.CallerLemmas.{stop-same}
use Rattle.library.specs.Reading.{IsFirst}
use Rattle.library.specs.declared.fault.ItemFault.TheVariants.{Id, Status, Created, Elements}
use Rattle.library.proofs.ItemOnce.{first-among, first-created, first-elements, first-id, first-name, first-status}
use Rattle.library.proofs.ItemsReading.{item_fault-same}
use Rattle.library.proofs.reading.read_members.Goals as goal

pub returns-in_default-clause-fault : goal.returns-in_default-clause-fault
returns-in_default-clause-fault c = λ fault e.
    let ms = pairs c.args.members.now in
    let none : c.in_ok-id.field-0 ≡ None = cc in
    subst (IsFirst ms) (item_fault-same _ Id fault e) (first-id ms (MatchOption-at_none _ _ none c.in_ok-id.ensures))

pub returns-in_default-status_named-clause-fault : goal.returns-in_default-status_named-clause-fault
returns-in_default-status_named-clause-fault c = λ fault e.
    let ms = pairs c.args.members.now in
    let id = MatchOption-at_some _ _ c.in-Some.id c.in-Some.is c.in_ok-id.ensures in
    let none : c.status_named.result ≡ None = cc in
    subst (IsFirst ms) (item_fault-same _ Status fault e)
    (first-status ms c.in-Some.id id (MatchOption-at_none _ _ none c.status_named.ensures))

pub returns-in_default-time_named-clause-fault : goal.returns-in_default-time_named-clause-fault
returns-in_default-time_named-clause-fault c = λ fault e.
    let ms = pairs c.args.members.now in
    let id = MatchOption-at_some _ _ c.in-Some.id c.in-Some.is c.in_ok-id.ensures in
    let status =
    MatchOption-at_some _ _ c.in-Some-status_named.published c.in-Some-status_named.is c.status_named.ensures in
    let none : c.time_named.result ≡ None = cc in
    subst (IsFirst ms) (item_fault-same _ Created fault e)
    (first-created ms c.in-Some.id id c.in-Some-status_named.published status
    (MatchOption-at_none _ _ none c.time_named.ensures))

pub returns-in_err-name-clause-fault : goal.returns-in_err-name-clause-fault
returns-in_err-name-clause-fault c =
    let ms = pairs c.args.members.now in
    let id = MatchOption-at_some _ _ c.in-Some.id c.in-Some.is c.in_ok-id.ensures in
    let status =
    MatchOption-at_some _ _ c.in-Some-status_named.published c.in-Some-status_named.is c.status_named.ensures in
    let created = MatchOption-at_some _ _ c.in-Some-time_named.created c.in-Some-time_named.is c.time_named.ensures in
    let p = err_from_is_err_and c.from_residual-in_err-name.result c.from_residual-in_err-name.ensures.1 in
    rw (p.1, p.2) (λ fault e.
    let told = c.in_err-name.ensures.fault fault (ap Err (stop-same _ _ _ e)) in
    subst (IsFirst ms) (sym told.0)
    (first-name ms c.in-Some.id id c.in-Some-status_named.published status c.in-Some-time_named.created created
    told.1))

pub returns-in_default-2-clause-fault : goal.returns-in_default-2-clause-fault
returns-in_default-2-clause-fault c = λ fault e.
    let ms = pairs c.args.members.now in
    let id = MatchOption-at_some _ _ c.in-Some.id c.in-Some.is c.in_ok-id.ensures in
    let status =
    MatchOption-at_some _ _ c.in-Some-status_named.published c.in-Some-status_named.is c.status_named.ensures in
    let created = MatchOption-at_some _ _ c.in-Some-time_named.created c.in-Some-time_named.is c.time_named.ensures in
    let name = c.in_ok-name.ensures.read in
    let none : c.in_ok-values.field-0 ≡ None = cc in
    subst (IsFirst ms) (item_fault-same _ Elements fault e)
    (first-elements ms c.in-Some.id id c.in-Some-status_named.published status c.in-Some-time_named.created created
    c.in_ok-name.name name (MatchOption-at_none _ _ none c.in_ok-values.ensures))

pub returns-in_err-elements-clause-fault : goal.returns-in_err-elements-clause-fault
returns-in_err-elements-clause-fault c =
    let ms = pairs c.args.members.now in
    let id = MatchOption-at_some _ _ c.in-Some.id c.in-Some.is c.in_ok-id.ensures in
    let status =
    MatchOption-at_some _ _ c.in-Some-status_named.published c.in-Some-status_named.is c.status_named.ensures in
    let created = MatchOption-at_some _ _ c.in-Some-time_named.created c.in-Some-time_named.is c.time_named.ensures in
    let name = c.in_ok-name.ensures.read in
    let array = MatchOption-at_some _ _ c.in-Some-2.values c.in-Some-2.is c.in_ok-values.ensures in
    let p = err_from_is_err_and c.from_residual-in_err-elements.result c.from_residual-in_err-elements.ensures.1 in
    rw (p.1, p.2) (λ fault e.
    first-among ms c.in-Some.id id c.in-Some-status_named.published status c.in-Some-time_named.created created
    c.in_ok-name.name name c.in-Some-2.values array fault
    (c.in_err-elements.ensures.fault fault (ap Err (stop-same _ _ _ e))))

pub returns-clause-read : goal.returns-clause-read
returns-clause-read c = record {
  id = MatchOption-at_some _ _ c.in-Some.id c.in-Some.is c.in_ok-id.ensures;
  status = MatchOption-at_some _ _ c.in-Some-status_named.published c.in-Some-status_named.is c.status_named.ensures;
  created = MatchOption-at_some _ _ c.in-Some-time_named.created c.in-Some-time_named.is c.time_named.ensures;
  name = c.in_ok-name.ensures.read;
  values = c.in-Some-2.values;
  array = MatchOption-at_some _ _ c.in-Some-2.values c.in-Some-2.is c.in_ok-values.ensures;
  elements = c.in_ok-elements.ensures.read;
}
