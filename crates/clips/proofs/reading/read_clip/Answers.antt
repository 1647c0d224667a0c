use Rattle.std.proofs.Common.{◌≡◌, None, Err, All, codes, refl, ap, sym, subst, ◌∙◌}
use Rattle.std.proofs.lemmas.Bool.{both_ways}
use Rattle.std.proofs.lemmas.Option.{MatchOption-at_some, MatchOption-at_none}
use Rattle.std.proofs.lemmas.Result.{err_from_is_err_and}
use Rattle.json_text.specs.Characters.{quote}
use Rattle.json_text.specs.Members.{pairs}
use Rattle.elem.specs.Order.{HaveDistinctIds}
use Rattle.elem_read.specs.Reading.{IsWholeElement}
use Rattle.elem_read.proofs.CallerLemmas.{stop-same}
use Rattle.scene_file.proofs.CallerLemmas.{nests-value_unless_null}
use Rattle.clips.specs.Clips.{IsClipFault}
use Rattle.clips.specs.Placed.{elements_in, places_in}
use Rattle.clips.specs.declared.fault.ClipFault.TheVariants.{NotClip, Elements, Files}
use Rattle.clips.proofs.ClipTold.{is-clipboard, fault-same, elements-fault}
use Rattle.clips.proofs.RepeatLaws.{repeat-none}
use Rattle.clips.proofs.reading.read_clip.Goals as goal

pub returns-then-not-has_value-clause-fault : goal.returns-then-not-has_value-clause-fault
unfolding quote
returns-then-not-has_value-clause-fault c = λ fault e.
    let value = c.args.value.now in
    let members = pairs c.in-Some.found in
    let object = MatchOption-at_some _ _ c.in-Some.found c.in-Some.is c.in_ok-found.ensures in
    subst (IsClipFault value) (fault-same _ NotClip fault e) (
      members,
      object,
      λ kind. both_ways _ refl (c.if-not-has_value.ensures.1 kind.1),
    )

pub returns-in_default-2-clause-fault : goal.returns-in_default-2-clause-fault
unfolding quote
returns-in_default-2-clause-fault c = λ fault e.
    let value = c.args.value.now in
    let members = pairs c.in-Some.found in
    let object = MatchOption-at_some _ _ c.in-Some.found c.in-Some.is c.in_ok-found.ensures in
    let kind = is-clipboard members (c.if-not-has_value.ensures.0 refl) in
    let none : c.in_ok-values.field-0 ≡ None = cc in
    subst (IsClipFault value) (fault-same _ Elements fault e) (
      members,
      object,
      kind,
      MatchOption-at_none _ _ none c.in_ok-values.ensures,
    )

pub returns-in_default-3-clause-fault : goal.returns-in_default-3-clause-fault
unfolding quote
returns-in_default-3-clause-fault c = λ fault e.
    let value = c.args.value.now in
    let members = pairs c.in-Some.found in
    let object = MatchOption-at_some _ _ c.in-Some.found c.in-Some.is c.in_ok-found.ensures in
    let kind = is-clipboard members (c.if-not-has_value.ensures.0 refl) in
    let items = MatchOption-at_some _ _ c.in-Some-2.values c.in-Some-2.is c.in_ok-values.ensures in
    let none : c.in_ok-files.field-0 ≡ None = cc in
    subst (IsClipFault value) (fault-same _ Files fault e) (
      members,
      c.in-Some-2.values,
      record { object = object; kind = kind; items = items },
      MatchOption-at_none _ _ none c.in_ok-files.ensures,
    )

pub returns-in_err-placed-clause-fault : goal.returns-in_err-placed-clause-fault
unfolding quote
returns-in_err-placed-clause-fault c =
    let value = c.args.value.now in
    let members = pairs c.in-Some.found in
    let object = MatchOption-at_some _ _ c.in-Some.found c.in-Some.is c.in_ok-found.ensures in
    let kind = is-clipboard members (c.if-not-has_value.ensures.0 refl) in
    let items = MatchOption-at_some _ _ c.in-Some-2.values c.in-Some-2.is c.in_ok-values.ensures in
    let files = MatchOption-at_some _ _ c.in-Some-3.files c.in-Some-3.is c.in_ok-files.ensures in
    let p = err_from_is_err_and c.from_residual-in_err-placed.result c.from_residual-in_err-placed.ensures.1 in
    rw (p.1, p.2) (λ fault e. elements-fault value members c.in-Some-2.values (pairs c.in-Some-3.files) fault
    (record { object = object; kind = kind; items = items }) files
    (c.in_err-placed.ensures.fault fault (ap Err (stop-same _ _ _ e))))

pub returns-clause-clip : goal.returns-clause-clip
unfolding quote
returns-clause-clip c =
    let value = c.args.value.now in
    let members = pairs c.in-Some.found in
    let object = MatchOption-at_some _ _ c.in-Some.found c.in-Some.is c.in_ok-found.ensures in
    let live = c.in_ok-placed.ensures.read in
    record {
      members = members;
      object = object;
      kind = is-clipboard members (c.if-not-has_value.ensures.0 refl);
      values = c.in-Some-2.values;
      items = MatchOption-at_some _ _ c.in-Some-2.values c.in-Some-2.is c.in_ok-values.ensures;
      files = MatchOption-at_some _ _ c.in-Some-3.files c.in-Some-3.is c.in_ok-files.ensures;
      placed = live.placed;
      read = live.read;
      distinct = live.distinct;
      elements = c.in_ok-parts.ensures.0 ∙ ap elements_in live.live_is;
      places = c.in_ok-parts.ensures.1 ∙ ap places_in live.live_is;
    }

pub returns-clause-distinct : goal.returns-clause-distinct
returns-clause-distinct c =
    let live = c.in_ok-placed.ensures.read in
    subst HaveDistinctIds (sym (c.in_ok-parts.ensures.0 ∙ ap elements_in live.live_is))
    ((repeat-none _).0 live.distinct)

pub returns-clause-whole : goal.returns-clause-whole
returns-clause-whole c = subst (All IsWholeElement) (sym c.in_ok-parts.ensures.0) c.in_ok-placed.ensures.whole

pub returns-clause-files : goal.returns-clause-files
returns-clause-files c =
    let object = MatchOption-at_some _ _ c.in-Some.found c.in-Some.is c.in_ok-found.ensures in
    (nests-value_unless_null (codes "files") (pairs c.in-Some.found) (pairs c.in-Some-3.files) object.are_members
    (MatchOption-at_some _ _ c.in-Some-3.files c.in-Some-3.is c.in_ok-files.ensures)).valued
