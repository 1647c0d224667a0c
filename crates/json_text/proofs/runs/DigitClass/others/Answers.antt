use Rattle.std.proofs.Common.{bit_or, ltb, leb, refl}
use Rattle.std.proofs.lemmas.Simd.{zip2_splat, zip2_splat_left, zip2_of_maps}
use Rattle.json_text.proofs.Masks.{compared, masked}
use Rattle.json_text.proofs.runs.DigitClass.others.Goals as goal

pub returns : goal.returns
returns c =
    let v = c.args.bytes in
    let long = c.fits-bytes.0 in
    let below = zip2_splat (compared ltb) v 16 48 long in
    masked _ _ v _ c.fits-bytes (zip2_of_maps bit_or _ _ v below (zip2_splat_left (compared leb) 58 16 v long)) refl
