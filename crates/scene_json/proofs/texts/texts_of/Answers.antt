use Rattle.std.proofs.Common.{◌≡◌, [], ◌∷◌, Ok, IsUtf8, get_or, map, take_all, sym, ap, ◌∙◌, arith, rules}
use Rattle.std.proofs.lemmas.List.{take_more, map-append, length-map, get_or-map}
use Rattle.std.proofs.lemmas.List.Elements.{All-push, recursion_from_All}
use Rattle.json_text.specs.Characters.{quote}
use Rattle.json_text.specs.Compact.{array_text}
use Rattle.scene_json.proofs.Quotes.{quotes-once, quotes-compact}
use Rattle.scene_json.proofs.texts.texts_of.Goals as goal

pub returns-in-None : goal.returns-in-None
returns-in-None c = λ others h.
    let only = rw (c.in_ok-items.ensures.found c.in-Some.items (ap Ok c.in-Some.is)) at c.items.ensures.only in
    let listed : c.as_slice-item-items.result.now ≡ map quote others =
    c.as_slice-item-items.ensures ∙ only (map quote others) (quotes-compact 127 others h.0) h.1 in
    c.text_of.ensures.shape (c.in_ok-text.ensures.none (ap Ok c.in-None.is)) (get_or others c.loop-item.item-index [])
    (grind (
      arith,
      c.item-item.is,
      listed,
      length-map others quote,
      get_or-map quote others c.loop-item.item-index [] c.item-item.result,
    ))

pub loop-item-preserved : goal.loop-item-preserved
loop-item-preserved c =
    let found = c.in_ok-text.ensures.found c.in-Some-2.text (ap Ok c.in-Some-2.is) in
    let quoted = rw found at c.text_of.ensures.spelled in
    let texts = c.loop-item.texts.items in
    rw c.in_ok-push-in-Some-2.ensures.items (record {
      utf8 = All-push IsUtf8 texts c.in-Some-2.text c.loop-item.invariant.utf8 (search rules);
      quoted = grind (
        arith,
        take_more c.as_slice-item-items.result.now c.loop-item.item-index c.item-item.result,
        c.item-item.is,
        quoted,
        c.loop-item.invariant.quoted,
        map-append quote texts (c.in-Some-2.text ∷ []),
      );
    })

pub returns : goal.returns
returns c =
    let found = c.in_ok-items.ensures.found c.in-Some.items (ap Ok c.in-Some.is) in
    let spelled = rw found at c.items.ensures.spelled in
    let only = rw found at c.items.ensures.only in
    let utf8 = recursion_from_All IsUtf8 c.loop-item.texts.items c.loop-item.invariant.utf8 in
    let all = sym c.as_slice-item-items.ensures
    ∙ (rw (← take_all c.loop-item.item-index c.as_slice-item-items.result.now (omega arith))
    c.loop-item.invariant.quoted) in
    rw c.from_vec.ensures (
      (utf8, spelled ∙ ap array_text all),
      λ others h. sym (quotes-once c.loop-item.texts.items others utf8 h.0 (sym all
          ∙ only (map quote others) (quotes-compact 127 others h.0) h.1)),
    )
