use Rattle.std.proofs.Common.{◌≡◌, ◌++◌, Option, Some, None, MatchOption, IsSome, ap₂, sym, subst, ◌∙◌, rules, IsUtf8}
use Rattle.std.proofs.lemmas.Str.{IsUtf8-append}
use Rattle.copies.proofs.copying.prefixed.Goals as goal

-- what can't be missing is there
is-there : {A : Type 0} (P : Type 0) (Q : A → Type 0) (found : Option A) → MatchOption found (P → ⊥) Q → P
    → IsSome found
is-there P Q None none is = absurd (none is)
is-there P Q (Some x) some is = search rules

pub unwrap-requires : goal.unwrap-requires
unwrap-requires c =
    let text = IsUtf8-append c.args.prefix.now c.args.text.now c.as_bytes.ensures.utf8 c.as_bytes-2.ensures.utf8 in
    let bytes : c.as_slice.result.now ≡ c.args.prefix.now ++ c.args.text.now =
    c.as_slice.ensures.value ∙ (c.in_ok-extend_from_slice.ensures.items
    ∙ ap₂ (λ a b. a ++ b) (c.in_ok-bytes.ensures.items ∙ c.as_bytes.ensures.value) c.as_bytes-2.ensures.value) in
    is-there (IsUtf8 c.as_slice.result.now) _ c.in_ok-read.field-0 c.in_ok-read.ensures (subst IsUtf8 (sym bytes) text)
