use Rattle.std.proofs.Common.{◌≡◌, ◌<◌, length, get_or, ap, arith}
use Rattle.commands.proofs.Lines.{lines-next}
use Rattle.commands.proofs.pictures.picture_lines.Goals as goal

pub loop-file-preserved : goal.loop-file-preserved
loop-file-preserved c =
    let file = c.file-item.result in
    let i = c.loop-file.file-index in
    let here : file ≡ get_or c.args.files.now i file = cc in
    let within : i < length c.args.files.now = omega (arith, ap length c.as_slice-file-items.ensures) in
    let line = c.in_ok-push_line.ensures in
    lines-next c.args.files.now i file c.loop-file.lines.items _ line.0 within here c.loop-file.invariant line.1 line.2
