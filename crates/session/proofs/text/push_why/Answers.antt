use Rattle.session.proofs.TextLaws.{why-written}
use Rattle.session.proofs.text.push_why.Goals as goal

pub returns : goal.returns
returns c =
    why-written c.args.why.now c.args.out.now.items c.extend_from_slice.new.self.items c.push_quoted.new.out.items
    c.extend_from_slice-2.new.self.items c.push_name.new.out.items c.words_of.result.now
    c.in_ok-extend_from_slice.ensures.items c.in_ok-push_quoted.ensures.ok c.words_of.ensures
    c.in_ok-extend_from_slice-2.ensures.items c.in_ok-push_name.ensures
