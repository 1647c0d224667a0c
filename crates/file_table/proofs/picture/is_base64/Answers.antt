use Rattle.std.proofs.Common.{◌≡◌, ◌-◌, ◌++◌, length, take, drop, codes, sym, ap, ◌∙◌}
use Rattle.std.proofs.lemmas.List.{take-append-drop}
use Rattle.std.proofs.lemmas.Slice.Eq.{bytes_eq-Decides}
use Rattle.file_table.proofs.picture.is_base64.Goals as goal

pub returns-clause-yes : goal.returns-clause-yes
returns-clause-yes c = λ ends.
    let head = c.args.head.now in
    let at = length head - 7 in
    let same : codes ";base64" ≡ drop at head =
    (bytes_eq-Decides (codes ";base64") (drop at head)).0 (sym c.ends_with.ensures.value ∙ ends) in
    (take at head, sym (take-append-drop at head) ∙ ap (λ x. take at head ++ x) (sym same))
