use Rattle.std.proofs.Common.{is_some, map, sym, ap, ◌∙◌}
use Rattle.std.specs.List.{list_all}
use Rattle.std.proofs.lemmas.Bool.{cond-true}
use Rattle.index_repair.specs.Repair.{repaired}
use Rattle.elem.specs.ElementValue.{ElementValue}
use Rattle.index_repair.specs.Keyed.{index_of, keyed}
use Rattle.scene_file.proofs.reading.loaded.Goals as goal

pub returns-then-have_keys : goal.returns-then-have_keys
returns-then-have_keys c =
    let es = c.args.elements.items in
    let all = ap (list_all (λ (e : ElementValue). is_some e.index)) (sym c.deref.ensures.value)
    ∙ sym c.if-have_keys.ensures in
    sym (cond-true (list_all (λ (e : ElementValue). is_some e.index) es) es (keyed es (repaired (map index_of es))) all)
