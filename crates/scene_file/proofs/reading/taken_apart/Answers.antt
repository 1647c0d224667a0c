use Rattle.std.proofs.Common.{◌≡◌, ◌∷◌, ◌++◌, List, ℕ, Option, Some, None, Result, Ok, Err, Bor, is_some, option_copied, true, refl, sym, ap, subst, ◌∙◌}
use Rattle.std.proofs.lemmas.Result.{IfOk-at_ok}
use Rattle.json_text.specs.Compact.{array_text}
use Rattle.json_text.specs.Members.{pairs}
use Rattle.scene_json.specs.Walks.{AreLeft, AreTakenTo}
use Rattle.elem.specs.ElementValue.{ElementValue}
use Rattle.elem_read.specs.declared.fault.FaultyElement.{FaultyElement}
use Rattle.elem_read.proofs.CallerLemmas.{is-object}
use Rattle.scene_file.specs.Reading.{HasItems}
use Rattle.scene_file.specs.inner.Taken.{HaveCome}
use Rattle.scene_file.proofs.Apart.{elements, others-are, elements-there, others-there, array-given, none-given}
use Rattle.scene_file.proofs.reading.taken_apart.Goals as goal

given-some : {A : Type 0} (given : Option (Bor A)) (found : Option A) → option_copied given ≡ found
    → is_some given ≡ true → (value : A) × (found ≡ Some value)
given-some None found e some = absurd cc
given-some (Some value) found e some = (value.now, sym e)

pub returns-then-is_some-clause-taken : goal.returns-then-is_some-clause-taken
returns-then-is_some-clause-taken c =
    let value = c.args.value.now in
    let found : c.members_to.result ≡ Ok (c.in-Some.before, c.in-Some.walk) =
    c.shaped.ensures.found (c.in-Some.before, c.in-Some.walk) (c.in_ok-before.was ∙ ap Ok c.in-Some.is) in
    let t = subst (AreTakenTo elements value (pairs c.in-Some.before)) c.in_default-walk.is
    (IfOk-at_ok _ found c.members_to.ensures.taken) in
    let some = given-some c.given.result _ c.given.ensures (sym c.is_some.ensures ∙ c.if-is_some.true) in record {
      members = pairs c.in-Some.before;
      object = is-object value (pairs c.in-Some.before) t.1 t.0;
      are = t.0;
      others = λ name other. refl;
      elements = none-given (pairs c.in-Some.before) some.0 t.2 some.1;
    }

come : (c : goal.In_ok-found) (items : List (List ℕ)) → AreLeft c.in-Some-walk.objects items
    → (read : Result (List ElementValue) FaultyElement) → c.in_ok-read.read ≡ read → HaveCome items read
come c items left (Ok elements) e =
    IfOk-at_ok _ (c.kept_aside.ensures.read elements (c.in_ok-read.was ∙ ap Ok e)) c.read_array.ensures.read items left
come c items left (Err faulty) e =
    c.read_array.ensures.fault faulty (c.kept_aside.ensures.fault faulty (c.in_ok-read.was ∙ ap Ok e)) items left

pub returns-clause-taken : goal.returns-clause-taken
returns-clause-taken c =
    let value = c.args.value.now in
    let before = pairs c.in-Some.before in
    let taken : c.members_to.result ≡ Ok (c.in-Some.before, c.in-Some.walk) =
    c.shaped.ensures.found (c.in-Some.before, c.in-Some.walk) (c.in_ok-before.was ∙ ap Ok c.in-Some.is) in
    let t =
    subst (AreTakenTo elements value before) c.in-Some-walk.is (IfOk-at_ok _ taken c.members_to.ensures.taken) in
    let array = array_text t.0 in
    let members = before ++ (elements, array) ∷ t.1 in
    let found : pairs c.in_ok-found.found ≡ before ++ t.1 =
    c.in_ok-found.ensures t.1 (c.read_array.ensures.behind t.1 t.5) in record {
      members = members;
      object = is-object value members t.3 t.2;
      are = rw found (others-are array before t.1 t.2);
      others = λ name other. rw found (others-there array before t.1 t.2 name other);
      elements = (
        t.0,
        subst (λ given. HasItems given t.0) (sym (array-given t.0 members (elements-there array before t.1 t.2)))
            (t.4.1.compact, refl),
        come c t.0 t.4 c.in_ok-read.read refl,
      );
    }
