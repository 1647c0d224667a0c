use Rattle.std.proofs.Common.{◌-◌, ◌++◌, length, take, drop, sym, ap, ◌∙◌, subst, arith, append_assoc, length-drop}
use Rattle.std.proofs.Math.Seq.{take-add}
use Rattle.std.proofs.lemmas.List.{take_rest}
use Rattle.room_disk.specs.inner.UnderWay.{StandsIn}
use Rattle.room_disk.proofs.recovering.take_piece.Goals as goal

pub stretches-preserved : goal.stretches-preserved
stretches-preserved c =
    let piece = c.args.piece.now in
    let at = c.stretches.at in
    let n = c.in_ok-at.field-0 in
    let long = ap length (take_rest piece at) ∙ length-drop at piece in
    record {
      within = omega (arith, long, c.in_ok-at.ensures.within, c.stretches.invariant.within);
      taken = λ stream stands.
          let both = ap (λ front. stream ++ (take at piece ++ take n front)) (take_rest piece at)
          ∙ ap (λ front. stream ++ front) (sym (take-add at n piece)) in
          subst (λ bytes. StandsIn bytes c.take_stretch.new.begun.items c.take_stretch.new.recovery)
          (append_assoc stream (take at piece) (take n (take (length piece - at) (drop at piece))) ∙ both)
          (c.in_ok-at.ensures.taken (stream ++ take at piece) (c.stretches.invariant.taken stream stands));
    }
