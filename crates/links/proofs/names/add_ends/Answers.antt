use Rattle.std.proofs.Common.{◌≡◌, true, ◌∷◌, ◌++◌, [], Some, refl, ap, sym, ◌∙◌}
use Rattle.std.proofs.lemmas.Bool.{not-false, not-true}
use Rattle.std.specs.Option.{option_copied}
use Rattle.links.specs.Names as words
use Rattle.links.specs.declared.table.Row.{Row}
use Rattle.links.proofs.Tabled.{Adds-one, Adds-two, has_end_at-both, has_end_at-same, bytes_eq-apart}
use Rattle.links.proofs.names.add_ends.Goals as goal

pub returns-in_ok-push-in-Some-Some-2 : goal.returns-in_ok-push-in-Some-Some-2
returns-in_ok-push-in-Some-Some-2 c =
    let e = c.args.element.now in
    let arrow : words.is_arrow e.kind ≡ true = cc in
    let start = c.of-key.ensures in
    let end = c.of-key-then-ne.ensures in
    let row : Row = record { key = c.of-key.result; element = c.args.element } in
    let other : Row = record { key = c.of-key-then-ne.result; element = c.args.element } in
    Adds-two words.has_end_at e c.args.rows.now.items _ row other refl refl
    (has_end_at-both e row.key other.key arrow (sym c.ends_of.ensures.start ∙ ap option_copied c.in-Some-Some.is-0
    ∙ ap Some (sym start)) (sym c.ends_of.ensures.end_ ∙ ap option_copied c.in-Some-Some.is-1 ∙ ap Some (sym end)))
    (bytes_eq-apart row.key other.key (rw (start, end) (not-true _ (sym c.ne.ensures ∙ c.if-ne.true))))
    (c.in_ok-push-in-Some-Some-2.ensures.items
    ∙ ap (λ rows. rows ++ other ∷ []) c.in_ok-push-in-Some-Some.ensures.items)

pub returns-else-ne : goal.returns-else-ne
returns-else-ne c =
    let e = c.args.element.now in
    let arrow : words.is_arrow e.kind ≡ true = cc in
    let start = c.of-key.ensures in
    let row : Row = record { key = c.of-key.result; element = c.args.element } in
    Adds-one words.has_end_at e c.args.rows.now.items _ row refl
    (has_end_at-same e row.key c.in-Some-Some.end.now arrow (sym c.ends_of.ensures.start
    ∙ ap option_copied c.in-Some-Some.is-0 ∙ ap Some (sym start)) (sym c.ends_of.ensures.end_
    ∙ ap option_copied c.in-Some-Some.is-1) (rw start (not-false _ (sym c.ne.ensures ∙ c.if-ne.false))))
    c.in_ok-push-in-Some-Some.ensures.items
