use Rattle.std.proofs.Common.{codes, refl}
use Rattle.json_text.proofs.CallerLemmas.{quote-compact}
use Rattle.elem.proofs.values.push_role.Goals as goal

pub returns-in-Arrow-clause-nests : goal.returns-in-Arrow-clause-nests
unfolding lib.Utf8.encode
returns-in-Arrow-clause-nests c = rw c.in-Arrow.is (quote-compact 0 _ (codes "arrow", (refl, refl)))

pub returns-in-Text-clause-nests : goal.returns-in-Text-clause-nests
unfolding lib.Utf8.encode
returns-in-Text-clause-nests c = rw c.in-Text.is (quote-compact 0 _ (codes "text", (refl, refl)))
