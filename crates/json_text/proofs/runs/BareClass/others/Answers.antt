use Rattle.std.proofs.Common.{bit_or, eqb, ltb, leb, refl}
use Rattle.std.proofs.lemmas.Simd.{zip2_splat, zip2_splat_left, zip2_of_maps}
use Rattle.json_text.proofs.Masks.{compared, marked, masked}
use Rattle.json_text.proofs.runs.BareClass.others.Goals as goal

pub returns : goal.returns
returns c =
    let v = c.args.bytes in
    let long = c.fits-bytes.0 in
    let marks = marked _ 92 v long (zip2_splat (compared eqb) v 16 34 long) in
    let below = zip2_of_maps bit_or _ _ v marks (zip2_splat (compared ltb) v 16 32 long) in
    masked _ _ v _ c.fits-bytes (zip2_of_maps bit_or _ _ v below (zip2_splat_left (compared leb) 128 16 v long)) refl
