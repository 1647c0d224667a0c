use Rattle.std.proofs.Common.{◌≡◌, ◌++◌, [], ◌∷◌, true, false, not, take, take_all, sym, ap, ◌∙◌}
use Rattle.clips.specs.Placed.{elements_in, places_in}
use Rattle.library.specs.Inserting.{live_of}
use Rattle.library.proofs.ClipParts.{live-dropped, live-kept}
use Rattle.library.proofs.inserting.clip_of.Goals as goal
use Rattle.library.proofs.inserting.clip_of.Goals.{then-is_live+in_ok-try_clone+in_ok-push+in_ok-push-2, else-is_live}

pub loop-place-preserved : goal.loop-place-preserved
loop-place-preserved c =
    let es = c.args.elements.now in
    let i = c.loop-place.place in
    let e = c.index-elements-place.result in
    let so_far = c.loop-place.invariant in
    elim c.if-is_live.branch [
      | then-is_live+in_ok-try_clone+in_ok-push+in_ok-push-2 w ↦
          let kept : not e.deleted ≡ true = sym c.is_live.ensures ∙ w.if-is_live.true in
          let parts = live-kept es i e c.loop-place-test.true c.index-elements-place.is c.loop-place.live.items
          c.loop-place.places.items kept so_far.live so_far.places in
          record {
            live = ap (λ v. v.items) w.live-is
                ∙ (w.in_ok-push.ensures.items ∙ ap (λ x. c.loop-place.live.items ++ x ∷ []) w.in_ok-try_clone.ensures
                ∙ parts.0);
            places = ap (λ v. v.items) w.places-is ∙ (w.in_ok-push-2.ensures.items ∙ parts.1);
          }
      | else-is_live w ↦
          let dropped : not e.deleted ≡ false = sym c.is_live.ensures ∙ w.if-is_live.false in
          let same = sym (live-dropped es i e c.loop-place-test.true c.index-elements-place.is dropped) in
          record {
            live = ap (λ v. v.items) w.live-is ∙ (so_far.live ∙ ap elements_in same);
            places = ap (λ v. v.items) w.places-is ∙ (so_far.places ∙ ap places_in same);
          }
    ]

pub returns : goal.returns
returns c =
    let es = c.args.elements.now in
    let all : take c.loop-place.place es ≡ es = take_all c.loop-place.place es c.loop-place-test.false in
    let elements : c.from_vec.result ≡ elements_in (live_of es) =
    c.from_vec.ensures ∙ (c.loop-place.invariant.live ∙ ap (λ xs. elements_in (live_of xs)) all) in
    let places : c.from_vec-2.result ≡ places_in (live_of es) =
    c.from_vec-2.ensures ∙ (c.loop-place.invariant.places ∙ ap (λ xs. places_in (live_of xs)) all) in
    let files = c.new.ensures in
    λ i. record { elements = elements i; places = places i; files = files i }
