use Rattle.std.proofs.Common.{◌≡◌, ◌+◌, ◌<◌, ◌≤◌, Bool, List, ◌∷◌, length, None, not, true, false, IfSome, refl, sym, subst, ◌∙◌, arith}
use Rattle.std.proofs.lemmas.Bool.{false≢true}
use Rattle.checks.specs.Reading.{AreTexts}
use Rattle.checks.specs.inner.Behind.{AreBehind}
use Rattle.checks.specs.declared.judged.Judged.{Judged}
use Rattle.checks.proofs.Leads.{lead-end, lead-last, lead-more}
use Rattle.checks.proofs.reading.texts_of.Goals as goal

pub returns-in_default : goal.returns-in_default
returns-in_default c =
    let bytes = c.args.bytes.now in
    let texts = c.texts.texts.items in
    let none : c.in_ok-text.end ≡ None = cc in
    subst (AreTexts bytes 1 0) (sym c.from_vec.ensures)
    (lead-last bytes texts c.push.new.self.items c.in_ok-text.text c.texts.at c.texts.invariant.lead
    (subst (λ end. (more : List Judged) → AreBehind bytes (length texts + 1) end more
    → AreTexts bytes (length texts + 1) c.texts.at (c.in_ok-text.text ∷ more)) none
    (subst (λ n. (more : List Judged) → AreBehind bytes (n + 1) c.in_ok-text.end more
    → AreTexts bytes (n + 1) c.texts.at (c.in_ok-text.text ∷ more))
    (let e : c.len.result ≡ length texts = omega (arith, c.len.ensures, c.texts.texts.ok.0) in e)
    c.in_ok-text.ensures.text))
    c.in_ok-push.ensures.items)

pub texts-preserved : goal.texts-preserved
texts-preserved c =
    let bytes = c.args.bytes.now in
    let texts = c.texts.texts.items in
    let here = subst (λ end. (more : List Judged) → AreBehind bytes (length texts + 1) end more
    → AreTexts bytes (length texts + 1) c.texts.at (c.in_ok-text.text ∷ more)) c.in-Some.is
    (subst (λ n. (more : List Judged) → AreBehind bytes (n + 1) c.in_ok-text.end more
    → AreTexts bytes (n + 1) c.texts.at (c.in_ok-text.text ∷ more))
    (let e : c.len.result ≡ length texts = omega (arith, c.len.ensures, c.texts.texts.ok.0) in e)
    c.in_ok-text.ensures.text) in
    record {
      within = (subst (λ end. IfSome end (λ end. (c.texts.at < end) × (end ≤ length bytes))) c.in-Some.is
          c.in_ok-text.ensures.end).1;
      lead = lead-more bytes texts c.push.new.self.items c.in_ok-text.text c.texts.at c.in-Some.end
          c.texts.invariant.lead here c.in_ok-push.ensures.items;
    }

blank-left : (blank more : Bool) → more ≡ not blank → more ≡ false → blank ≡ true
blank-left true more is none = refl
blank-left false more is none = absurd (false≢true (sym none ∙ is))

pub returns : goal.returns
returns c =
    subst (AreTexts c.args.bytes.now 1 0) (sym c.from_vec-2.ensures)
    (lead-end c.args.bytes.now c.texts.texts.items c.texts.at c.texts.invariant.lead
    (blank-left _ _ c.has_more.ensures c.texts-test.false))
