use Rattle.std.proofs.Common.{eqb, refl}
use Rattle.std.proofs.lemmas.Simd.{zip2_splat}
use Rattle.json_text.proofs.Masks.{compared, marked, masked}
use Rattle.json_text.proofs.runs.QuietClass.others.Goals as goal

pub returns : goal.returns
returns c =
    let v = c.args.bytes in
    let long = c.fits-bytes.0 in
    let begins = marked _ 91 v long (zip2_splat (compared eqb) v 16 34 long) in
    masked _ _ v _ c.fits-bytes (marked _ 125 v long (marked _ 123 v long (marked _ 93 v long begins))) refl
