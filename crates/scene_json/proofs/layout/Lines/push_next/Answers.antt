use Rattle.std.proofs.Common.{◌++◌, sym, ap, ◌∙◌}
use Rattle.scene_json.specs.Lines.{layout_from}
use Rattle.scene_json.proofs.Spread.{run_from}
use Rattle.scene_json.proofs.layout.Lines.push_next.Goals as goal

pub returns-clause-appended : goal.returns-clause-appended
returns-clause-appended c more =
    c.in_ok-push_byte.ensures.appended (c.in-Some.others.now ++ more)
    ∙ ap (λ x. c.extend_from_slice.new.self.items ++ layout_from c.args.self.now (x ++ more))
    (sym c.in-Some.ensures.cases.0)
    ∙ run_from c.args.self.now c.run_length.result c.args.bytes.now _ more c.args.out.now.items _
    c.run_length.ensures.plain c.run_length.ensures.quoted c.split_at.ensures.back
    (c.in_ok-extend_from_slice.ensures.items ∙ ap (λ x. c.args.out.now.items ++ x) c.split_at.ensures.front)
