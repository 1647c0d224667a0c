use Rattle.std.proofs.Common.{◌≡◌, ◌<◌, length, get_or, ap, arith}
use Rattle.file_table.specs.References.{references}
use Rattle.checks.specs.Lines.{file_line}
use Rattle.checks.proofs.Steps.{pairs-step}
use Rattle.checks.proofs.files.push_files.Goals as goal

pub loop-file-preserved : goal.loop-file-preserved
loop-file-preserved c =
    let files = c.args.files.now in
    let i = c.loop-file.file-index in
    let file = c.file-item.result in
    let at : file ≡ get_or files i file = cc in
    let within : i < length files = omega (arith, ap length c.as_slice-file-items.ensures) in
    pairs-step (file_line (references c.args.shown.now)) files i file c.args.out.now.items c.loop-file.out.items
    c.push_file.new.out.items within at c.loop-file.invariant
    (c.in_ok-push_file.ensures c.args.shown.now c.in_ok-named.ensures)
