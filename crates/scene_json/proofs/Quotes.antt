-- Items that are the quotes of texts.
use Rattle.std.proofs.Common.{◌≡◌, ℕ, List, [], ◌∷◌, map, refl, sym, ap, ◌∙◌, arith, IsUtf8}
use Rattle.std.specs.List.{AllByRecursion}
use Rattle.json_text.specs.Characters.{quote}
use Rattle.json_text.specs.Compact.{content}
use Rattle.json_text.specs.Value.{IsCompact}
use Rattle.json_text.proofs.CallerLemmas.{quote-compact, tail-same, utf8-Quotes, pieces-once}

-- a quote is of one text alone
pub quote-once : (text other : List ℕ) → IsUtf8 text → IsUtf8 other → quote text ≡ quote other → text ≡ other
quote-once text other utf8 is e =
    let q = utf8-Quotes text utf8 in
    let p = utf8-Quotes other is in
    sym q.means
    ∙ ap content (pieces-once q.pieces p.pieces [] [] q.good p.good (tail-same (q.spells ∙ e ∙ sym p.spells))).0
    ∙ p.means

pub quotes-once : (texts others : List (List ℕ)) → AllByRecursion IsUtf8 texts → AllByRecursion IsUtf8 others
    → map quote texts ≡ map quote others → texts ≡ others
quotes-once [] [] each all e = refl
quotes-once (t ∷ ts) (o ∷ os) each all e = grind (arith, quote-once t o, quotes-once ts os)
quotes-once ts os each all e = cc

pub quotes-compact : (limit : ℕ) (texts : List (List ℕ)) → AllByRecursion IsUtf8 texts
    → AllByRecursion (IsCompact limit) (map quote texts)
quotes-compact limit [] each = tt
quotes-compact limit (t ∷ ts) each = (quote-compact limit t each.0, quotes-compact limit ts each.1)
