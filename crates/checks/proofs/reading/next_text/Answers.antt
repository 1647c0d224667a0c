use Rattle.std.proofs.Common.{◌≡◌, ◌+◌, inl, inr, true, false, List, [], Option, Some, None, MatchBool, ℕ, Err, ap, sym, subst, ◌∙◌}
use Rattle.scene_file.proofs.CallerLemmas.{Stands-behind}
use Rattle.checks.specs.Reading.{is_broken, AreTexts}
use Rattle.checks.specs.inner.Behind.{AreBehind}
use Rattle.checks.specs.declared.judged.Judged.{Judged}
use Rattle.checks.proofs.reading.next_text.Goals as goal
use Rattle.checks.proofs.reading.next_text.Goals.{then-is_broken, else-is_broken}

pub returns-after-is_broken-clause-end : goal.returns-after-is_broken-clause-end
returns-after-is_broken-clause-end c =
    let end = c.in-Ok.end in
    let within = c.in-Ok.ensures.within.1 in
    elim c.if-is_broken.branch [
      | then-is_broken w ↦ rw w.end-is tt
      | else-is_broken w ↦ rw w.end-is
          (Stands-behind c.args.bytes.now c.in-Ok.value c.args.at end within c.in-Ok.ensures.found, within)
    ]

none-behind : (bytes : List ℕ) (number end : ℕ) (text : Judged) (next : Option ℕ) (more : List Judged)
    → is_broken text ≡ true → next ≡ None → AreBehind bytes number next more
    → MatchBool (is_broken text) (more ≡ []) (AreTexts bytes (number + 1) end more)
none-behind bytes number end text next more broken none behind =
    subst (λ b. MatchBool b (more ≡ []) (AreTexts bytes (number + 1) end more)) (sym broken)
    (subst (λ n. AreBehind bytes number n more) none behind)

some-behind : (bytes : List ℕ) (number end : ℕ) (text : Judged) (next : Option ℕ) (more : List Judged)
    → is_broken text ≡ false → next ≡ Some end → AreBehind bytes number next more
    → MatchBool (is_broken text) (more ≡ []) (AreTexts bytes (number + 1) end more)
some-behind bytes number end text next more whole some behind =
    subst (λ b. MatchBool b (more ≡ []) (AreTexts bytes (number + 1) end more)) (sym whole)
    (subst (λ n. AreBehind bytes number n more) some behind)

pub returns-after-is_broken-clause-text : goal.returns-after-is_broken-clause-text
returns-after-is_broken-clause-text c = λ more behind.
    let bytes = c.args.bytes.now in
    let end = c.in-Ok.end in
    let text = c.in_ok-text-in-Ok.text in (
      c.requires.more,
      inr (
        c.in-Ok.value,
        end,
        record {
          within = c.in-Ok.ensures.within.1;
          stands = c.in-Ok.ensures.found;
          reads = c.in_ok-text-in-Ok.ensures;
        },
        elim c.if-is_broken.branch [
          | then-is_broken w ↦ none-behind bytes c.args.number end text c.if-is_broken.end more
              (sym c.is_broken.ensures ∙ w.if-is_broken.true) w.end-is behind
          | else-is_broken w ↦ some-behind bytes c.args.number end text c.if-is_broken.end more
              (sym c.is_broken.ensures ∙ w.if-is_broken.false) w.end-is behind
        ],
      ),
    )

pub returns-in_ok-no_value-in-Err-clause-text : goal.returns-in_ok-no_value-in-Err-clause-text
returns-in_ok-no_value-in-Err-clause-text c = λ more behind.
    let why = c.in_ok-no_value-in-Err.ensures in
    (c.requires.more, inl ((why.0, c.in-Err.ensures.fault why.0 (ap Err why.1), why.2), behind))
