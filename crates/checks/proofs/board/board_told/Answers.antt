use Rattle.std.proofs.Common.{length, nat_cmp, ap, sym, subst, ◌∙◌}
use Rattle.std.specs.BTreeMap.{get}
use Rattle.std.specs.Cmp.Lexicographic.{slice_cmp}
use Rattle.std.proofs.lemmas.List.Elements.{All-filter}
use Rattle.elem.specs.ElementValue.{ElementValue}
use Rattle.elem.specs.Facts.{IsElement}
use Rattle.elem.specs.Said.{AreElements, HasValidTexts}
use Rattle.elem_store.specs.Updates.{AreStored}
use Rattle.view.specs.Shown.{is_live, live_elements, shown}
use Rattle.scene_file.specs.Heads.{Heading}
use Rattle.checks.specs.Lines.{kept_of, spots_of, updates_of}
use Rattle.checks.proofs.Told.{behind-none, told-same}
use Rattle.checks.proofs.board.board_told.Goals as goal

pub push_board-requires : goal.push_board-requires
push_board-requires c =
    let stored = c.in_ok-store.store.elements in
    let sure : AreElements stored =
    c.stored_were_given.ensures.elements c.in_ok-head.field-0.updates.items stored c.in_ok-store.ensures.elements
    c.in_ok-store.ensures.stored in
    let live : AreElements (live_elements stored) =
    All-filter is_live (λ (e : ElementValue). IsElement e × HasValidTexts e) stored sure in
    subst AreElements (sym c.in_ok-shown_elements.ensures.exact)
    (c.shown_elements_are_elements.ensures (live_elements stored) live)

pub returns : goal.returns
returns c =
    let all = c.in_ok-head.ensures in
    let stored = c.in_ok-store.store.elements in
    let us = all.elements in
    let ss = all.each_spot in
    record {
      head = c.in_ok-head.field-0.head;
      stored = stored;
      joined = all.joined;
      stores = subst (λ us. AreStored us stored) us c.in_ok-store.ensures.stored;
      told = c.from_vec.ensures
          ∙ (behind-none _ _ _ c.in_ok-push_board.ensures c.new-out.ensures.items
          ∙ (told-same (get (slice_cmp nat_cmp) c.in_ok-kept_of.field-0) (kept_of stored (updates_of c.args.texts))
          _ (length c.args.texts) _ (updates_of c.args.texts) _ (spots_of c.args.texts) _ (shown (live_elements stored))
          _ c.in_ok-head.field-0.head.files
          ((λ i id. c.in_ok-kept_of.ensures id i) ∙ ap (kept_of stored) (c.as_slice.ensures.value ∙ us))
          (ap length c.as_slice-count.ensures) (c.as_slice-2.ensures.value ∙ us) (c.as_slice-3.ensures.value ∙ ss)
          c.in_ok-shown_elements.ensures.exact
          (c.in_ok-by_id.ensures.exact ∙ ap (λ (h : Heading). h.files) c.head.view_is)));
    }
