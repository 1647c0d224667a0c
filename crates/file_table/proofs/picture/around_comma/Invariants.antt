use Rattle.std.proofs.Common.{◌≡◌, false, take}
use Rattle.file_table.proofs.Urls.{has_comma}
use Rattle.file_table.proofs.picture.around_comma.Given as goal

abbrev pub invariant-loop-i : goal.invariant-loop-i
invariant-loop-i l = has_comma (take l.i l.text) ≡ false
