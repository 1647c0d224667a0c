-- The change is made where the name belongs.
use Rattle.std.proofs.Common.{◌≡◌, ℕ, ◌≤◌, ◌∷◌, ◌++◌, List, Option, length, take, drop, insert, Some, None, refl, sym, ap, ◌∙◌, length-take, arith}
use Rattle.std.proofs.Math.Seq.{take-append_seam, drop-append_seam}
use Rattle.json_text.specs.declared.text.Member.{Member}
use Rattle.delta.specs.Rest.{made, without_first, with_value}
use Rattle.delta.proofs.RestLaws.{with_value-at}
use Rattle.delta.proofs.rest.put_value.Goals as goal
use Rattle.delta.proofs.rest.put_value.Goals.{After-drop_named}

placed : (c : After-drop_named) → (value : Option (List ℕ)) → with_value c.args.name.now value c.args.members.now.items
    ≡ take c.place_of-place.result c.args.members.now.items
    ++ (made c.args.name.now value ++ without_first c.args.name.now
    (drop c.place_of-place.result c.args.members.now.items))
placed c value =
    let same = c.deref.ensures.value in
    with_value-at c.args.name.now value c.args.members.now.items c.place_of-place.result
    (rw same at c.place_of-place.ensures.before) (rw same at c.place_of-place.ensures.behind)

inserted : (xs ys : List Member) (place : ℕ) (m : Member) → length xs ≡ place → insert (xs ++ ys) place m ≡ xs ++ m ∷ ys
inserted xs ys place m e = rw (← e) (rw (take-append_seam xs ys, drop-append_seam xs ys) refl)

pub returns-in_ok-insert : goal.returns-in_ok-insert
returns-in_ok-insert c =
    let ms = c.args.members.now.items in
    let place = c.place_of-place.result in
    let rest = without_first c.args.name.now (drop place ms) in
    let within : place ≤ length ms = omega (arith, c.deref.ensures.len, c.place_of-place.ensures.bound) in
    let long : length (take place ms) ≡ place = omega (arith, length-take place ms) in
    let m : Member = record { name = c.in_ok-name.name; value = c.in-Some.value } in
    let named : m ≡ record { name = c.args.name.now; value = c.in-Some.value } =
    ap (λ name. record { name = name; value = c.in-Some.value }) c.in_ok-name.ensures in
    let done : c.insert.new.self.items ≡ take place ms ++ m ∷ rest = c.in_ok-insert.ensures.items
    ∙ ap (λ xs. insert xs place m) c.drop_named.ensures ∙ inserted (take place ms) rest place m long in
    done ∙ ap (λ m. take place ms ++ m ∷ rest) named ∙ sym (ap (λ v. with_value c.args.name.now v ms) c.in-Some.is
    ∙ placed (goal.at.returns-in_ok-insert c).After-drop_named (Some c.in-Some.value))

nothing : (o : Option (List ℕ)) → ((v : List ℕ) → o ≡ Some v → ⊥) → o ≡ None
nothing None h = refl
nothing (Some v) h = absurd (h v refl)

pub returns-in_default : goal.returns-in_default
returns-in_default c =
    c.drop_named.ensures
    ∙ sym (ap (λ v. with_value c.args.name.now v c.args.members.now.items)
    (nothing c.args.value c.in_default.not-Some) ∙ placed (goal.at.returns-in_default c).After-drop_named None)
