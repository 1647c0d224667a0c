use Rattle.std.proofs.Common.{◌<◌, length, subst, arith}
use Rattle.std.specs.Str.{IsUtf8}
use Rattle.std.proofs.lemmas.List.Elements.{All-more}
use Rattle.json_text.specs.Compact.{member_text}
use Rattle.json_text.specs.Members.{pair_of}
use Rattle.json_text.specs.declared.text.Member.{Member}
use Rattle.scene_json.proofs.CallerLemmas.{mapped-step}
use Rattle.scene_file.proofs.SceneTexts.{object-closed, members-compact}
use Rattle.scene_file.proofs.printing.push_object.Goals as goal

pub loop-i-preserved : goal.loop-i-preserved
loop-i-preserved c =
    let ms = c.as_slice-member-items.result.now in
    let inside : c.loop-i.i < length ms = omega arith in
    record {
      made = mapped-step (λ (m : Member). member_text (pair_of m)) c.push.new.self.items ms c.member-item.result
          c.loop-i.i c.loop-i.out.items c.push_comma.new.out.items
          c.push_member.new.out.items inside c.member-item.is c.loop-i.invariant.made c.in_ok-push_comma.ensures.ok
          c.in_ok-push_member.ensures.ok;
      named =
          All-more (λ (m : Member). IsUtf8 m.name) ms c.loop-i.i c.member-item.result inside c.loop-i.invariant.named
          (subst (λ (m : Member). IsUtf8 m.name) c.member-item.is c.in_ok-push_member.ensures.utf8);
    }

pub returns-clause-text : goal.returns-clause-text
returns-clause-text c =
    rw (← c.as_slice-member-items.ensures)
    (object-closed c.args.out.now.items c.push.new.self.items c.as_slice-member-items.result.now c.loop-i.i
    c.loop-i.out.items c.push-2.new.self.items (omega arith)
    c.in_ok-push.ensures.items c.loop-i.invariant.made c.in_ok-push-2.ensures.items)

pub returns-clause-nests : goal.returns-clause-nests
returns-clause-nests c =
    rw (← c.as_slice-member-items.ensures)
    (members-compact c.as_slice-member-items.result.now c.loop-i.i (omega arith) c.loop-i.invariant.named
    (rw c.as_slice-member-items.ensures c.requires.nest) (rw c.as_slice-member-items.ensures c.requires.distinct))
