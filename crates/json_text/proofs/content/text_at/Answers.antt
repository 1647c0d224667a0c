use Rattle.std.proofs.Common.{◌∙◌}
use Rattle.json_text.proofs.Contents.{run-within, unescaped}
use Rattle.json_text.proofs.content.text_at.Goals as goal

pub bounds-bytes-end : goal.bounds-bytes-end
bounds-bytes-end c = run-within c.args.at c.as_bytes-bytes.ensures.value c.requires.2 c.run_end-end.ensures.value

pub cut_text-requires : goal.cut_text-requires
cut_text-requires c =
    let own = unescaped c.args.at c.as_bytes-bytes.ensures.value c.requires.2 c.run_end-end.ensures.value
    c.if-bytes-end-eq34.true in
    record { quoted = own.0; utf8 = own.1 }

pub returns-then-bytes-end-eq34-clause-found : goal.returns-then-bytes-end-eq34-clause-found
returns-then-bytes-end-eq34-clause-found c text rest quoted =
    let own = unescaped c.args.at c.as_bytes-bytes.ensures.value quoted c.run_end-end.ensures.value
    c.if-bytes-end-eq34.true in
    (c.in_ok-cut_text.ensures ∙ own.2, own.3)

pub returns-clause-found : goal.returns-clause-found
returns-clause-found c = rw (← c.as_bytes-bytes.ensures.value) c.content_of.ensures.found
