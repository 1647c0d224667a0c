use Rattle.std.proofs.Common.{eqb, refl}
use Rattle.std.proofs.lemmas.Simd.{zip2_splat}
use Rattle.json_text.proofs.Masks.{compared, marked, masked}
use Rattle.json_text.proofs.runs.PlainClass.others.Goals as goal

pub returns : goal.returns
returns c =
    masked _ _ _ _ c.fits-bytes (marked _ 92 _ c.fits-bytes.0
    (zip2_splat (compared eqb) c.args.bytes 16 34 c.fits-bytes.0)) refl
