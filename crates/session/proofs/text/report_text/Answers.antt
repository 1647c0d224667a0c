use Rattle.std.proofs.Common.{◌∙◌}
use Rattle.session.proofs.TextLaws.{report-written}
use Rattle.session.proofs.text.report_text.Goals as goal

pub returns : goal.returns
returns c =
    c.from_vec.ensures
    ∙ report-written c.args.report.now c.new-out.result.items c.extend_from_slice.new.self.items
    c.push_replicas.new.out.items c.extend_from_slice-2.new.self.items
    c.push_whole.new.out.items c.extend_from_slice-3.new.self.items c.push_refused.new.out.items
    c.extend_from_slice-4.new.self.items c.push_whole-2.new.out.items
    c.push.new.self.items c.as_slice.result.now c.as_slice-2.result.now c.new-out.ensures.items
    c.in_ok-extend_from_slice.ensures.items c.in_ok-push_replicas.ensures c.as_slice.ensures
    c.in_ok-extend_from_slice-2.ensures.items c.in_ok-push_whole.ensures.ok c.in_ok-extend_from_slice-3.ensures.items
    c.in_ok-push_refused.ensures c.as_slice-2.ensures
    c.in_ok-extend_from_slice-4.ensures.items c.in_ok-push_whole-2.ensures.ok c.in_ok-push.ensures.items
