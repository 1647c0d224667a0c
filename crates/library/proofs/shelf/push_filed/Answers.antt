use Rattle.std.proofs.Common.{◌≡◌, ◌++◌, drop, map, take, sym, ap, ◌∙◌, append-nil}
use Rattle.std.specs.List.{join_with_byte}
use Rattle.library.specs.inner.Filed.{items_in}
use Rattle.library.specs.Items.{item_text}
use Rattle.library.proofs.ItemTexts.{item-turn, items-through}
use Rattle.library.proofs.shelf.push_filed.Goals as goal

pub loop-i-init : goal.loop-i-init
loop-i-init c =
    let items = items_in c.args.items.now.entries in
    let out = c.args.out.now.items in
    let given = c.into_iter-i-iterator.ensures.into_iter_gives in
    let none : c.into_iter-i-iterator.result.count ≡ 0 = ap (λ s. s.count) given ∙ c.enumerate-i-items.ensures.count in
    let all : c.into_iter-i-iterator.result.iter ≡ items =
    ap (λ s. s.iter) given ∙ c.enumerate-i-items.ensures.source ∙ c.values.ensures.rest in
    record {
      made = sym (ap (λ n. out ++ join_with_byte 44 (map item_text (take n items))) none ∙ append-nil out);
      left = all ∙ sym (ap (λ n. drop n items) none);
    }

pub loop-i-preserved : goal.loop-i-preserved
loop-i-preserved c =
    let items = items_in c.args.items.now.entries in
    let n = c.loop-i.i-iterator.count in
    let steps = c.in-Some.ensures.steps in
    let turn = item-turn items c.in-Some.item.now n c.in-Some.i c.loop-i.i-iterator.iter c.next.new.self.iter
    c.args.out.now.items c.loop-i.out.items c.push_comma.new.out.items c.push_item.new.out.items
    c.loop-i.invariant.left steps.0 steps.1 c.loop-i.invariant.made c.in_ok-push_comma.ensures.ok
    c.in_ok-push_item.ensures in
    record {
      made = turn.0 ∙ ap (λ m. c.args.out.now.items ++ join_with_byte 44 (map item_text (take m items))) (sym steps.2);
      left = turn.1 ∙ ap (λ m. drop m items) (sym steps.2);
    }

pub returns : goal.returns
returns c =
    items-through (items_in c.args.items.now.entries) c.loop-i.i-iterator.count c.loop-i.i-iterator.iter
    c.args.out.now.items c.loop-i.out.items
    c.loop-i.invariant.left c.in-None.ensures.steps.0.0 c.loop-i.invariant.made
