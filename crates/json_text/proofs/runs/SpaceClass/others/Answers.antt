use Rattle.std.proofs.Common.{bit_and, eqb, not, refl}
use Rattle.std.proofs.lemmas.Simd.{zip2_splat, zip2_of_maps}
use Rattle.json_text.proofs.Masks.{compared, masked}
use Rattle.json_text.proofs.runs.SpaceClass.others.Goals as goal

pub returns : goal.returns
returns c =
    let v = c.args.bytes in
    let long = c.fits-bytes.0 in
    let differ = compared (λ a b. not (eqb a b)) in
    let no_blank = zip2_splat differ v 16 32 long in
    let no_line = zip2_of_maps bit_and _ _ v no_blank (zip2_splat differ v 16 10 long) in
    let no_return = zip2_of_maps bit_and _ _ v no_line (zip2_splat differ v 16 13 long) in
    masked _ _ v _ c.fits-bytes (zip2_of_maps bit_and _ _ v no_return (zip2_splat differ v 16 9 long)) refl
