use Rattle.std.proofs.Common.{◌≡◌, ◌++◌, None, length, ap, sym, subst, ◌∙◌}
use Rattle.frac_keys.specs.Between.{keys_between}
use Rattle.index_repair.specs.Keyed.{keyed}
use Rattle.elem_store.specs.Updates.{AreStored}
use Rattle.view.specs.Shown.{live_elements, shown}
use Rattle.copies.specs.Copies.{copies_of}
use Rattle.board_paste.specs.Pasting.{last_key, pasted}
use Rattle.board_paste.proofs.pasting.paste.Goals as goal

pub returns-clause-stored : goal.returns-clause-stored
unfolding pasted
returns-clause-stored c = λ updates before.
    let stored = c.args.store.now.elements in
    let copies : c.in_ok-copied.copied ≡ copies_of c.args.clip.now.elements c.args.prefix.now =
    c.in_ok-copied.ensures.exact ∙ ap (λ list. copies_of list c.args.prefix.now) c.as_slice.ensures in
    let all : c.in_ok-pasted.pasted ≡ pasted stored c.args.clip.now.elements c.args.prefix.now =
    c.in_ok-pasted.ensures
    ∙ ap (λ list. keyed list (keys_between (last_key (shown (live_elements stored))) None (length list))) copies in
    subst (λ more. AreStored (updates ++ more) c.take_all.new.self.elements) all
    (c.take_all.ensures updates (subst (AreStored updates) (sym c.in_ok-reserve.ensures.elements) before))

pub returns-clause-head : goal.returns-clause-head
returns-clause-head c =
    record { clip = c.in_ok-own.own; own = c.in_ok-own.ensures; joined = c.in_ok-join.ensures.joined }
