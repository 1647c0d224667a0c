use Rattle.std.proofs.Common.{◌++◌, ◌∙◌, sym, ap, append_assoc}
use Rattle.std.proofs.lemmas.List.{take_rest}
use Rattle.json_text.proofs.Appending.{extends_by, extends_then}
use Rattle.json_text.proofs.Strings.{quoted-Some}
use Rattle.json_text.proofs.quotes.push_escaped.Goals as goal

pub loop-plain-preserved : goal.loop-plain-preserved
loop-plain-preserved c = record {
  made =
      let all = (quoted-Some c.loop-plain.rest.now c.in-Some.plain c.in-Some.ensures).1 in
      rw (c.in_ok-push_quoted_byte.ensures.ok, c.in_ok-extend_from_slice.ensures.items, take_rest)
      (simp append_assoc (ap (λ s. c.loop-plain.out.items ++ s) (sym all) ∙ c.loop-plain.invariant.made));
  kept = extends_then _ _ _ c.loop-plain.invariant.kept
      (extends_then _ _ _ (extends_by _ _ _ c.in_ok-extend_from_slice.ensures.items)
      (extends_by _ _ _ c.in_ok-push_quoted_byte.ensures.ok));
}
