use Rattle.std.proofs.Common.{◌≡◌, ◌+◌, ◌<◌, [], ◌∷◌, ◌++◌, length, take, bytes_eq, sym, ap, ◌∙◌, arith}
use Rattle.std.proofs.lemmas.List.{take_more}
use Rattle.indexmap.specs.IndexSet.{insert_key}
use Rattle.json_text.specs.FirstOccurrences.{first_texts}
use Rattle.json_text.proofs.FirstLaws.{first_texts-inserted}
use Rattle.json_text.proofs.first.first_occurrences.Goals as goal

pub loop-text-preserved : goal.loop-text-preserved
loop-text-preserved c =
    let i = c.loop-text.text-index in
    let texts = take i c.args.texts.now in
    let text = c.in_ok-try_clone.field-0 in
    let within : i < length c.args.texts.now = omega arith in
    let own : text ≡ c.text-item.result = c.in_ok-try_clone.ensures in
    let more : take (i + 1) c.args.texts.now ≡ texts ++ text ∷ [] =
    take_more c.args.texts.now i c.text-item.result within ∙ ap (λ x. texts ++ x ∷ []) (sym c.text-item.is ∙ sym own) in
    c.in_ok-insert.ensures.keys
    ∙ ap (λ ks. insert_key bytes_eq ks text) c.loop-text.invariant
    ∙ first_texts-inserted texts text
    ∙ sym (ap first_texts more)
