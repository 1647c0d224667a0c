use Rattle.std.proofs.Common.{[], append-nil, refl, sym, ap, ◌∙◌}
use Rattle.json_text.specs.Characters.{quote}
use Rattle.json_text.proofs.CallerLemmas.{Value-Form, starts-same, quote-starts, form-quoted, quote-Quoted}
use Rattle.scene_json.proofs.parts.text_of.Goals as goal

pub returns-then-not-begins_with-clause-shape : goal.returns-then-not-begins_with-clause-shape
returns-then-not-begins_with-clause-shape c =
    λ _ other e. c.if-not-begins_with.ensures.no refl (quote-starts other).0 (c.as_bytes-bytes.ensures.value ∙ e
    ∙ (quote-starts other).1)

pub text_at-requires : goal.text_at-requires
text_at-requires c =
    let form = form-quoted 128 c.args.value.now (Value-Form c.as_bytes-bytes.ensures.compact)
    (starts-same 34 c.as_bytes-bytes.ensures.value (c.if-not-begins_with.ensures.yes refl)) in
    (form.0, [], quote-Quoted c.args.value.now form.0 [] form.1 (form.2 ∙ sym (append-nil (quote form.0))))

pub returns-clause-spelled : goal.returns-clause-spelled
returns-clause-spelled c =
    let form = form-quoted 128 c.args.value.now (Value-Form c.as_bytes-bytes.ensures.compact)
    (starts-same 34 c.as_bytes-bytes.ensures.value (c.if-not-begins_with.ensures.yes refl)) in
    let same = c.in_ok-text.ensures.found form.0 [] (quote-Quoted c.args.value.now form.0 [] form.1 (form.2
    ∙ sym (append-nil (quote form.0)))) in
    form.2 ∙ ap quote (sym same.0)

pub returns-clause-only : goal.returns-clause-only
returns-clause-only c =
    λ other utf8 e. (c.in_ok-text.ensures.found other [] (quote-Quoted c.args.value.now other [] utf8 (e
    ∙ sym (append-nil (quote other))))).0
