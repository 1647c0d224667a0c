-- What links tell, call after call.
use Rattle.std.proofs.Common.{◌≡◌, ℕ, zero, suc, ◌+◌, ◌<◌, Bool, true, false, not, List, [], ◌∷◌, ◌++◌, Option, Some, None, option_map, IfSome, length, map, filter, drop, get_or, refl, sym, ap, ap₂, subst, ◌∙◌, append_assoc, append-nil, length-append, arith}
use Rattle.std.proofs.lemmas.List.{get_or-map, length-map, map-append}
use Rattle.std.proofs.lemmas.List.Elements.{filter-append}
use Rattle.board_ends.specs.Events.{with_last, with_lost}
use Rattle.board_ends.specs.declared.links.LinkEvent.{LinkEvent}
use Rattle.board_ends.specs.Ends.{LinksEnd}
use Rattle.room_core.specs.Rooms.{text_for_each}
use Rattle.room_core.specs.Told.{Try, Tells, HaveTried, texts_tried, texts_sent, links_gone, texts_lost}

map-twice : {X : Type 0} (told : Option (List X)) (xs ys : List X)
    → option_map (λ t. t ++ ys) (option_map (λ t. t ++ xs) told) ≡ option_map (λ t. t ++ (xs ++ ys)) told
map-twice None xs ys = refl
map-twice (Some t) xs ys = ap Some (append_assoc t xs ys)

map-none : {X : Type 0} (told : Option (List X)) → told ≡ option_map (λ t. t ++ []) told
map-none None = refl
map-none (Some t) = ap Some (sym (append-nil t))

texts_sent-append : (ts us : List Try) → texts_sent (ts ++ us) ≡ texts_sent ts ++ texts_sent us
texts_sent-append ts us = ap texts_tried (filter-append (λ (try : Try). try.is_sent) ts us)
    ∙ map-append _ (filter (λ (try : Try). try.is_sent) ts) (filter (λ (try : Try). try.is_sent) us)

pub links_gone-append : (ts us : List Try) → links_gone (ts ++ us) ≡ links_gone ts ++ links_gone us
links_gone-append ts us =
    ap (map (λ (try : Try). try.link)) (filter-append (λ (try : Try). not try.is_sent) ts us)
    ∙ map-append _ (filter (λ (try : Try). not try.is_sent) ts) (filter (λ (try : Try). not try.is_sent) us)

-- the texts lost with one more before them
lost-more : (n : ℕ) (t : Try) (ts us : List Try)
    → ((m : ℕ) → texts_lost m ts ++ texts_lost (m + length (texts_sent ts)) us ≡ texts_lost m (ts ++ us))
    → (b : Bool) → t.is_sent ≡ b → texts_lost n (t ∷ ts) ++ texts_lost (n + length (texts_sent (t ∷ ts))) us
    ≡ texts_lost n ((t ∷ ts) ++ us)
lost-more n t ts us others true is =
    rw is (let same : n + length ((t.link, t.text) ∷ texts_sent ts) ≡ n + 1 + length (texts_sent ts) = omega arith in
    ap (λ m. texts_lost (n + 1) ts ++ texts_lost m us) same ∙ others (n + 1))
lost-more n t ts us others false is = rw is (ap (λ lost. (n, t.link) ∷ lost) (others n))

texts_lost-append : (n : ℕ) (ts us : List Try) → texts_lost n ts ++ texts_lost (n + length (texts_sent ts)) us
    ≡ texts_lost n (ts ++ us)
texts_lost-append n [] us = let same : n + 0 ≡ n = omega arith in ap (λ m. texts_lost m us) same
texts_lost-append n (t ∷ ts) us = lost-more n t ts us (λ m. texts_lost-append m ts us) t.is_sent refl

-- the texts lost in two stretches
lost-twice : (xs bs : Option (List (ℕ × List ℕ))) (al bl cl : Option (List (ℕ × ℕ))) (ts us : List Try)
    → bs ≡ option_map (λ t. t ++ texts_sent ts) xs
    → IfSome xs (λ x. bl ≡ option_map (λ t. t ++ texts_lost (length x) ts) al)
    → IfSome bs (λ x. cl ≡ option_map (λ t. t ++ texts_lost (length x) us) bl)
    → IfSome xs (λ x. cl ≡ option_map (λ t. t ++ texts_lost (length x) (ts ++ us)) al)
lost-twice None bs al bl cl ts us sent first second = tt
lost-twice (Some x) bs al bl cl ts us sent first second =
    let then : cl ≡ option_map (λ t. t ++ texts_lost (length (x ++ texts_sent ts)) us) bl =
    subst (λ o. IfSome o (λ y. cl ≡ option_map (λ t. t ++ texts_lost (length y) us) bl)) sent second in
    let long : length (x ++ texts_sent ts) ≡ length x + length (texts_sent ts) = length-append x (texts_sent ts) in
    then ∙ ap₂ (λ n l. option_map (λ t. t ++ texts_lost n us) l) long first
    ∙ map-twice al (texts_lost (length x) ts) (texts_lost (length x + length (texts_sent ts)) us)
    ∙ ap (λ lost. option_map (λ t. t ++ lost) al) (texts_lost-append (length x) ts us)

-- what is told in two stretches is told in one
pub tells-twice : (a b c : LinksEnd) (es fs : List LinkEvent) (ts us : List Try) → Tells a b es ts → Tells b c fs us
    → Tells a c (es ++ fs) (ts ++ us)
tells-twice a b c es fs ts us first second = record {
  given = second.given ∙ ap (option_map (λ t. t ++ fs)) first.given ∙ map-twice a.given es fs;
  sent = second.sent ∙ ap (option_map (λ t. t ++ texts_sent us)) first.sent
      ∙ map-twice a.sent (texts_sent ts) (texts_sent us)
      ∙ ap (λ sent. option_map (λ t. t ++ sent) a.sent) (sym (texts_sent-append ts us));
  lost = lost-twice a.sent b.sent a.lost b.lost c.lost ts us first.sent first.lost second.lost;
}

none_lost : (sent : Option (List (ℕ × List ℕ))) (before after : Option (List (ℕ × ℕ))) → after ≡ before
    → IfSome sent (λ texts. after ≡ option_map (λ told. told ++ []) before)
none_lost None before after same = tt
none_lost (Some texts) before after same = same ∙ map-none before

pub tells-nothing : (a b : LinksEnd) → b.given ≡ a.given → b.sent ≡ a.sent → b.lost ≡ a.lost → Tells a b [] []
tells-nothing a b given sent lost = record {
  given = given ∙ map-none a.given;
  sent = sent ∙ map-none a.sent;
  lost =
      none_lost a.sent a.lost b.lost lost;
}

-- an event was given
pub tells-event : (a b : LinksEnd) (event : LinkEvent) → b.given ≡ with_last a.given event → b.sent ≡ a.sent
    → b.lost ≡ a.lost → Tells a b (event ∷ []) []
tells-event a b event given sent lost =
    record { given = given; sent = sent ∙ map-none a.sent; lost = none_lost a.sent a.lost b.lost lost }

-- a text was sent
pub tells-sent : (a b : LinksEnd) (link : ℕ) (text : List ℕ) → b.given ≡ a.given
    → b.sent ≡ with_last a.sent (link, text) → b.lost ≡ a.lost
    → Tells a b [] (record { link = link; text = text; is_sent = true } ∷ [])
tells-sent a b link text given sent lost =
    record { given = given ∙ map-none a.given; sent = sent; lost = none_lost a.sent a.lost b.lost lost }

one_lost : (sent : Option (List (ℕ × List ℕ))) (before after : Option (List (ℕ × ℕ))) (link : ℕ)
    → after ≡ with_lost sent before link
    → IfSome sent (λ texts. after ≡ option_map (λ told. told ++ (length texts, link) ∷ []) before)
one_lost None before after link lost = tt
one_lost (Some texts) before after link lost = lost

-- a text's link was gone
pub tells-lost : (a b : LinksEnd) (link : ℕ) (text : List ℕ) → b.given ≡ a.given → b.sent ≡ a.sent
    → b.lost ≡ with_lost a.sent a.lost link
    → Tells a b [] (record { link = link; text = text; is_sent = false } ∷ [])
tells-lost a b link text given sent lost =
    record {
      given = given ∙ map-none a.given;
      sent = sent ∙ map-none a.sent;
      lost =
          one_lost a.sent a.lost b.lost link lost;
    }

-- one more text was tried
next_rest : (texts : List (ℕ × List ℕ)) (i : ℕ) (d : ℕ × List ℕ) → i < length texts
    → drop i texts ≡ get_or texts i d ∷ drop (suc i) texts
next_rest [] i d l = absurd (omega arith)
next_rest (x ∷ texts) zero d l = refl
next_rest (x ∷ texts) (suc i) d l = next_rest texts i d (omega arith)

pub tried-next : (a b c : LinksEnd) (texts : List (ℕ × List ℕ)) (gone : List ℕ) (i : ℕ) (try : Try) → i < length texts
    → get_or texts i (try.link, try.text) ≡ (try.link, try.text)
    → HaveTried a b texts gone (drop i texts) → Tells b c [] (try ∷ [])
    → HaveTried a c texts (gone ++ links_gone (try ∷ [])) (drop (i + 1) texts)
tried-next a b c texts gone i try l at tried told = let more : suc i ≡ i + 1 = omega arith in record {
  tries = tried.tries ++ try ∷ [];
  tried = tried.tried ∙ ap (λ rest. texts_tried tried.tries ++ rest) (next_rest texts i (try.link, try.text) l
      ∙ ap₂ (λ x j. x ∷ drop j texts) at more)
      ∙ sym (append_assoc (texts_tried tried.tries) ((try.link, try.text) ∷ []) (drop (i + 1) texts))
      ∙ ap (λ front. front ++ drop (i + 1) texts)
      (sym (map-append (λ (t : Try). (t.link, t.text)) tried.tries (try ∷ [])));
  gone_links = links_gone-append tried.tries (try ∷ []) ∙ ap (λ links. links ++ links_gone (try ∷ [])) tried.gone_links;
  told = tells-twice a b c [] [] tried.tries (try ∷ []) tried.told told;
}

-- one more link was tried for a text
pub told-next : (a b c : LinksEnd) (links text gone : List ℕ) (i : ℕ) (try : Try) → i < length links
    → get_or links i 0 ≡ try.link → text ≡ try.text
    → HaveTried a b (text_for_each links text) gone (drop i (text_for_each links text)) → Tells b c [] (try ∷ [])
    → HaveTried a c (text_for_each links text) (gone ++ links_gone (try ∷ [])) (drop (i + 1) (text_for_each links text))
told-next a b c links text gone i try l at is tried told =
    let within : i < length (text_for_each links text) =
    omega (arith, l, length-map {B = ℕ × List ℕ} links (λ (link : ℕ). (link, text))) in
    let here : get_or (text_for_each links text) i (try.link, try.text) ≡ (try.link, try.text) =
    get_or-map (λ (link : ℕ). (link, text)) links i 0 (try.link, try.text) l
    ∙ ap₂ (λ (link : ℕ) (words : List ℕ). (link, words)) at is in
    tried-next a b c (text_for_each links text) gone i try within here tried told

pub tried-none : (a b : LinksEnd) (texts : List (ℕ × List ℕ)) → b ≡ a → HaveTried a b texts [] texts
tried-none a b texts same =
    record { tries = []; tried = refl; gone_links = refl; told = rw same (tells-nothing a a refl refl refl) }
