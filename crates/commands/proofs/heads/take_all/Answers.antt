use Rattle.std.proofs.Common.{◌≡◌, ◌<◌, ◌++◌, length, get_or, take_all, sym, ap, subst, append-nil, arith}
use Rattle.json_text.specs.Members.{pairs}
use Rattle.json_text.specs.Value.{IsCompact}
use Rattle.json_text.specs.declared.text.Member.{Member}
use Rattle.file_table.specs.Table.{AreLeastEntries}
use Rattle.scene_file.proofs.CallerLemmas.{nests-at, table-more}
use Rattle.commands.proofs.heads.take_all.Goals as goal

pub loop-member-init : goal.loop-member-init
loop-member-init c = λ given are. subst (λ all. AreLeastEntries all c.args.table.now) (sym (append-nil given)) are

pub take-requires : goal.take-requires
take-requires c =
    let m = c.member-item.result in
    let i = c.loop-member.member-index in
    let here : m ≡ get_or c.args.members.now i m = cc in
    let within : i < length c.args.members.now = omega (arith, ap length c.as_slice-member-items.ensures) in
    subst (λ (copy : Member). IsCompact 126 copy.value) (sym c.in_ok-copy.ensures)
    (nests-at 126 c.args.members.now i m c.requires within here)

pub loop-member-preserved : goal.loop-member-preserved
loop-member-preserved c =
    let m = c.member-item.result in
    let i = c.loop-member.member-index in
    let here : m ≡ get_or c.args.members.now i m = cc in
    let within : i < length c.args.members.now = omega (arith, ap length c.as_slice-member-items.ensures) in
    λ given are. table-more given c.args.members.now i m c.in_ok-copy.copy _ _ within here c.in_ok-copy.ensures
    (c.loop-member.invariant given are) c.in_ok-take.ensures.taken

pub returns : goal.returns
returns c =
    let all = take_all c.loop-member.member-index c.args.members.now
    (omega (arith, ap length c.as_slice-member-items.ensures)) in
    λ given are. subst (λ ms. AreLeastEntries (given ++ pairs ms) c.loop-member.table) all
    (c.loop-member.invariant given are)
