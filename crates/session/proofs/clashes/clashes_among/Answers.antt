use Rattle.std.proofs.Common.{◌≡◌, ◌<◌, List, [], ◌++◌, length, get_or, take, take_all, subst, sym, ap, ◌∙◌, append-nil, arith}
use Rattle.elem.specs.ElementValue.{ElementValue}
use Rattle.clash.specs.Firsts.{firsts_of}
use Rattle.session.specs.Clashes.{HaveClashes}
use Rattle.session.proofs.ClashLaws.{flat, message-more, message-counted}
use Rattle.session.proofs.clashes.clashes_among.Goals as goal

pub loop-message-init : goal.loop-message-init
loop-message-init c = record {
  counted = subst (λ es. HaveClashes [] es c.in_ok-count.count) (sym (append-nil c.args.opening.now))
      (c.in_ok-count.ensures.count [] c.new-clash.ensures);
  noted = c.in_ok-count.ensures.noted [] c.new-clash.ensures ∙ ap firsts_of (sym (append-nil c.args.opening.now));
}

pub loop-message-preserved : goal.loop-message-preserved
loop-message-preserved c =
    let ms : List (List ElementValue) = c.args.messages.now.items in
    let inside : c.loop-message.message-index < length ms =
    omega (arith, ap length c.deref-message-items.ensures.value) in
    let before = c.args.opening.now ++ flat (take c.loop-message.message-index ms) in
    let here : c.message-item.result ≡ get_or ms c.loop-message.message-index c.message-item.result =
    c.message-item.is
    ∙ ap (λ (xs : List (List ElementValue)). get_or xs c.loop-message.message-index c.message-item.result)
    c.deref-message-items.ensures.value in
    record {
      counted = message-counted c.args.opening.now ms c.loop-message.message-index c.message-item.result inside here
          c.loop-message.count c.in_ok-more.more c.in_ok-count-2.count
          c.loop-message.invariant.counted
          (subst (λ es. HaveClashes before es c.in_ok-more.more) c.as_slice.ensures
          (c.in_ok-more.ensures.count before c.loop-message.invariant.noted)) c.in_ok-count-2.ensures;
      noted = c.in_ok-more.ensures.noted before c.loop-message.invariant.noted
          ∙ ap (λ es. firsts_of (before ++ es)) c.as_slice.ensures
          ∙ ap firsts_of (sym (message-more c.args.opening.now ms c.loop-message.message-index c.message-item.result
          inside here));
    }

pub returns : goal.returns
returns c =
    subst (λ (ms : List (List ElementValue)). HaveClashes [] (c.args.opening.now ++ flat ms) c.loop-message.count)
    (take_all c.loop-message.message-index c.args.messages.now.items
    (omega (arith, ap length c.deref-message-items.ensures.value))) c.loop-message.invariant.counted
