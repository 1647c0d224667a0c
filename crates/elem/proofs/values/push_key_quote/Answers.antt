use Rattle.std.proofs.Common.{[], ◌∷◌, ◌++◌, sym, ap, ◌∙◌, append_assoc}
use Rattle.json_text.proofs.CallerLemmas.{quote-compact}
use Rattle.elem.proofs.KeyTexts.{IsUtf8-key, quote-key}
use Rattle.elem.proofs.values.push_key_quote.Goals as goal

pub returns-clause-text : goal.returns-clause-text
returns-clause-text c =
    let out = c.args.out.now.items in
    let key = c.args.key.now in
    c.in_ok-push-2.ensures.items ∙ ap (λ o. o ++ 34 ∷ []) (c.in_ok-extend_from_slice.ensures.items
    ∙ ap (λ o. o ++ c.as_bytes.result.now) c.in_ok-push.ensures.items)
    ∙ ap (λ k. ((out ++ 34 ∷ []) ++ k) ++ 34 ∷ []) c.as_bytes.ensures.value
    ∙ append_assoc (out ++ 34 ∷ []) key (34 ∷ []) ∙ append_assoc out (34 ∷ []) (key ++ 34 ∷ [])
    ∙ ap (λ q. out ++ q) (sym (quote-key key (rw c.as_bytes.ensures.value at c.as_bytes.ensures.key)))

pub returns-clause-nests : goal.returns-clause-nests
returns-clause-nests c =
    quote-compact 0 c.args.key.now (IsUtf8-key _ (rw c.as_bytes.ensures.value at c.as_bytes.ensures.key))
