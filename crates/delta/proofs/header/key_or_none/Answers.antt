-- The text of the value is a key.
use Rattle.std.proofs.Common.{◌≡◌, ℕ, true, List, Option, Some, None, IfSome, IsTrue, if◌then◌else◌, sym, ap, ◌∙◌, subst}
use Rattle.std.proofs.lemmas.Result.{IfOk-weaker}
use Rattle.frac_keys.specs.Keys.{is_key}
use Rattle.elem.specs.Texts.{text_or_null}
use Rattle.delta.proofs.Injective.{text-same}
use Rattle.delta.proofs.header.key_or_none.Goals as goal

keyed : (key : Option (List ℕ)) (text : List ℕ) → IfSome key (λ k. IsTrue (is_key k)) → Some text ≡ key
    → is_key text ≡ true
keyed key text h e = let P : Option (List ℕ) → Type 0 = λ o. IfSome o (λ k. IsTrue (is_key k)) in subst P (sym e) h

pub returns-in-Some : goal.returns-in-Some
returns-in-Some c =
    let text = c.in-Some.text in
    let same = ap text_or_null (sym c.in-Some.is) ∙ c.in_ok-text_or_none.ensures in
    let key = keyed c.requires.0 text c.requires.1 (text-same (Some text) c.requires.0 (same ∙ c.requires.2)) in
    let here : is_key c.as_bytes.result.now ≡ true = ap is_key c.as_bytes.ensures.value ∙ key in
    IfOk-weaker _ _ (λ found. text_or_null found ≡ c.args.value.now)
    (λ found e. ap text_or_null (e ∙ ap (λ b. if b then Some c.as_bytes.result.now else None) here
    ∙ ap Some c.as_bytes.ensures.value) ∙ same)
    c.read.ensures.exact
