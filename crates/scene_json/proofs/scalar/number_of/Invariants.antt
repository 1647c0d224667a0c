use Rattle.std.proofs.Common.{◌≡◌, ◌≤◌, take}
use Rattle.std.specs.Str.Parse.{AllDigits, digits_value}
use Rattle.scene_json.proofs.scalar.number_of.Given as goal

abbrev pub invariant-loop-digit : goal.invariant-loop-digit
invariant-loop-digit l = record {
  within : l.whole ≤ 9007199254740991;
  digits : AllDigits 10 (take l.digit-index l.digits);
  value : digits_value 10 (take l.digit-index l.digits) ≡ l.whole;
}
