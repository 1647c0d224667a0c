use Rattle.std.proofs.Common.{inl, refl}
use Rattle.json_reader.specs.inner.Machine.{Minus, Whole}
use Rattle.json_reader.proofs.Numbers.{byte-follows, digits-pass, takes-digits}
use Rattle.json_reader.proofs.number.part_end.Goals as goal

pub returns-in-Whole-clause-part : goal.returns-in-Whole-clause-part
returns-in-Whole-clause-part c =
    digits-pass c.args.part (takes-digits c.args.part c.in-Whole.is) _ _ _ c.digits_end.ensures.value

pub returns-in-Minus-clause-part : goal.returns-in-Minus-clause-part
returns-in-Minus-clause-part c =
    let whole = c.begins_whole.ensures c.if-begins_whole.true in
    let end = c.digits_end-in-Minus.ensures in
    rw c.in-Minus.is (byte-follows Minus Whole Whole c.args.bytes.now c.args.at _ _ whole.0 refl end.within.0 whole.1
    (digits-pass Whole (takes-digits Whole (inl refl)) _ _ _ end.value))
