-- What links tell of a call: the events given, the texts sent, and those that found their link
-- gone. This project's own.
use Rattle.std.specs.Prelude.{◌≡◌, ℕ, ◌+◌, List, [], ◌∷◌, ◌++◌, length, map, filter, Bool, not, if◌then◌else◌, IfSome, option_map}
use Rattle.board_ends.specs.Ends.{LinksEnd}
use Rattle.board_ends.specs.declared.links.LinkEvent.{LinkEvent}

-- A text that was tried: its link, and whether it was sent; where it wasn't, the link was gone.
pub record Try : Type 0 where
  pub link : ℕ
  pub text : List ℕ
  pub is_sent : Bool

-- the texts that were tried, with their links
abbrev pub texts_tried : List Try → List (ℕ × List ℕ)
texts_tried tries = map (λ (try : Try). (try.link, try.text)) tries

-- those that were sent
abbrev pub texts_sent : List Try → List (ℕ × List ℕ)
texts_sent tries = texts_tried (filter (λ (try : Try). try.is_sent) tries)

-- the links that were gone
abbrev pub links_gone : List Try → List ℕ
links_gone tries = map (λ (try : Try). try.link) (filter (λ (try : Try). not try.is_sent) tries)

-- for each text that was not sent how many were sent before it, of which so many before the first,
-- and its link
abbrev pub texts_lost : ℕ → List Try → List (ℕ × ℕ)
texts_lost count [] = []
texts_lost count (try ∷ tries) =
    if try.is_sent then texts_lost (count + 1) tries else (count, try.link) ∷ texts_lost count tries

-- Between the two the links told just these events, and of these texts just those that were sent
-- and those that were lost.
pub record Tells (before after : LinksEnd) (events : List LinkEvent)
    (tries : List Try) : Type 0 where
  pub given : after.given ≡ option_map (λ told. told ++ events) before.given
  pub sent : after.sent ≡ option_map (λ told. told ++ texts_sent tries) before.sent
  pub lost : IfSome before.sent
      (λ texts. after.lost ≡ option_map (λ told. told ++ texts_lost (length texts) tries)
      before.lost)

-- Of these texts all but the rest were tried, in their order, and these links were gone.
pub record HaveTried (before after : LinksEnd) (texts : List (ℕ
    × List ℕ)) (gone : List ℕ) (rest : List (ℕ × List ℕ)) : Type 0 where
  pub tries : List Try
  pub tried : texts ≡ texts_tried tries ++ rest
  pub gone_links : links_gone tries ≡ gone
  pub told : Tells before after [] tries
