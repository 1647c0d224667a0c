use Rattle.std.proofs.Common.{◌++◌, ap, ◌∙◌}
use Rattle.json_text.specs.Characters.{quote}
use Rattle.room_core.proofs.Printed.{invalid-written}
use Rattle.room_core.proofs.texts.invalid_text.Goals as goal

pub returns : goal.returns
returns c =
    c.from_vec.ensures
    ∙ invalid-written c.args.fault c.new-out.result.items c.extend_from_slice.new.self.items c.push_quoted.new.out.items
    c.extend_from_slice-2.new.self.items
    c.new-out.ensures.items c.in_ok-extend_from_slice.ensures.items
    (c.in_ok-push_quoted.ensures.ok ∙ ap (λ words. c.extend_from_slice.new.self.items ++ quote words)
    (c.as_str.ensures.value ∙ c.in_ok-words.ensures))
    c.in_ok-extend_from_slice-2.ensures.items
