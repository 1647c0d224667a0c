-- What the program holds stands for a world after each event.
use Rattle.std.proofs.Common.{◌≡◌, ℕ, zero, suc, ◌+◌, ◌<◌, ◌≤◌, List, [], ◌∷◌, ◌++◌, length, take, take_all, get_or, set, refl, sym, ap, ◌∙◌, subst, append-nil, vec_items, vec_len, arith}
use Rattle.std.specs.Vec.{with_item}
use Rattle.std.proofs.lemmas.Grind.{flat_map-append}
use Rattle.std.proofs.lemmas.List.{take_more}
use Rattle.elem.specs.ElementValue.{ElementValue}
use Rattle.std.specs.List.{AllByRecursion, AllZip}
use Rattle.std.proofs.lemmas.List.Elements.{All-from_recursion}
use Rattle.session_text.specs.declared.event.Event.{Event}
use Rattle.session_text.specs.declared.event.Pick.{Pick}
use Rattle.session_text.specs.declared.session.Session.{Session}
use Rattle.session.specs.declared.seat.Seat.{Seat as KeptSeat}
use Rattle.session.specs.declared.world.World.{World as Played}
use Rattle.session.specs.declared.outcome.Outcome.{Outcome}
use Rattle.session.specs.inner.Standing.{SeatStandsFor, SeatsStandFor, WorldStandsFor, IsActed, IsWorldAfter}
use Rattle.session_random.specs.Words.{next_generator}
use Rattle.session.specs.Worlds.{Seat, World, Act, fresh, acted, seat_at, after_act, after_seat, after_event, after_events, all_picked, picked, given_of, last_world, opened, with_refused, world_after}

-- ---- two lists, place by place
module _ {A B : Type 0} (R : A → B → Type 0) where
  pub zip-push : (xs : List A) (ys : List B) (x : A) (y : B) → AllZip R xs ys → R x y
      → AllZip R (xs ++ x ∷ []) (ys ++ y ∷ [])
  zip-push [] [] x y all r = (r, tt)
  zip-push [] (b ∷ ys) x y all r = absurd all
  zip-push (a ∷ xs) [] x y all r = absurd all
  zip-push (a ∷ xs) (b ∷ ys) x y all r = (all.0, zip-push xs ys x y all.1 r)

  pub zip-set : (xs : List A) (ys : List B) (i : ℕ) (x : A) (y : B) → AllZip R xs ys → R x y
      → AllZip R (set xs i x) (set ys i y)
  zip-set [] [] i x y all r = all
  zip-set [] (b ∷ ys) i x y all r = absurd all
  zip-set (a ∷ xs) [] i x y all r = absurd all
  zip-set (a ∷ xs) (b ∷ ys) zero x y all r = (r, all.1)
  zip-set (a ∷ xs) (b ∷ ys) (suc i) x y all r = (all.0, zip-set xs ys i x y all.1 r)

  pub zip-at : (xs : List A) (ys : List B) (i : ℕ) (d : A) (e : B) → AllZip R xs ys → i < length xs
      → R (get_or xs i d) (get_or ys i e)
  zip-at [] ys i d e all l = absurd (omega arith)
  zip-at (a ∷ xs) [] i d e all l = absurd all
  zip-at (a ∷ xs) (b ∷ ys) zero d e all l = all.0
  zip-at (a ∷ xs) (b ∷ ys) (suc i) d e all l = zip-at xs ys i d e all.1 (omega arith)

  -- the other list has a last element too
  pub record IsSplit (xs : List A) (x : A) (ys : List B) : Type 0 where
    pub front : List B
    pub last : B
    pub is : ys ≡ front ++ last ∷ []
    pub all : AllZip R xs front
    pub own : R x last

  pub zip-split : (xs : List A) (x : A) (ys : List B) → AllZip R (xs ++ x ∷ []) ys → IsSplit xs x ys
  zip-split [] x [] all = absurd all
  zip-split [] x (y ∷ []) all = record { front = []; last = y; is = refl; all = tt; own = all.0 }
  zip-split [] x (y ∷ z ∷ ys) all = absurd all.1
  zip-split (a ∷ xs) x [] all = absurd all
  zip-split (a ∷ xs) x (y ∷ ys) all =
      let rest = zip-split xs x ys all.1 in
      record {
        front = y ∷ rest.front;
        last = rest.last;
        is = ap (λ zs. y ∷ zs) rest.is;
        all = (all.0, rest.all);
        own =
            rest.own;
      }

-- ---- events
-- a replica made a change, an undo or a redo
pub act-after : (old new : Played) (at : ℕ) (held : KeptSeat) (outcome : Outcome) (act : World → Act)
    → new.seats ≡ with_item old.seats at held → new.generator ≡ next_generator old.generator
    → new.messages.items ≡ old.messages.items ++ given_of outcome ∷ []
    → new.refused.items ≡ with_refused old.events outcome old.refused.items → new.events ≡ old.events + 1
    → ((w : World) → WorldStandsFor old w → IsActed (act w) (seat_at w at) outcome held)
    → IsWorldAfter old (λ w. after_act at (act w) w) new
act-after old new at held outcome act seats generator messages refused events each = record {
  world = λ w stands.
      let own = each w stands in
      record {
        seats =
            subst (λ hs. SeatsStandFor hs (set w.seats at (acted (act w) (seat_at w at)))) (sym (ap vec_items seats))
            (zip-set SeatStandsFor old.seats.items w.seats at held (acted (act w) (seat_at w at)) stands.seats
            own.after);
        messages = messages ∙ (λ i. stands.messages i ++ given_of (own.told i) ∷ []);
        generator = generator ∙ ap next_generator stands.generator;
        events = events ∙ ap (λ n. n + 1) stands.events;
        refused = refused ∙ (λ i. with_refused (stands.events i) (own.told i) (stands.refused i));
      };
  seats = ap vec_len seats;
  events = events;
}

-- a replica took a delivery, or holds an id, or doesn't hold one any more
pub seat-after : (old new : Played) (at : ℕ) (held : KeptSeat) (comes : World → Seat)
    → new.seats ≡ with_item old.seats at held → new.generator ≡ old.generator → new.messages.items ≡ old.messages.items
    → new.refused.items ≡ old.refused.items → new.events ≡ old.events + 1
    → ((w : World) → WorldStandsFor old w → SeatStandsFor held (comes w))
    → IsWorldAfter old (λ w. after_seat at (comes w) w) new
seat-after old new at held comes seats generator messages refused events each = record {
  world = λ w stands. record {
    seats = subst (λ hs. SeatsStandFor hs (set w.seats at (comes w))) (sym (ap vec_items seats))
        (zip-set SeatStandsFor old.seats.items w.seats at held (comes w) stands.seats (each w stands));
    messages = messages ∙ stands.messages;
    generator = generator ∙ stands.generator;
    events = events ∙ ap (λ n. n + 1) stands.events;
    refused = refused ∙ stands.refused;
  };
  seats = ap vec_len seats;
  events = events;
}

pub seat-stands : (old : Played) (w : World) (at : ℕ) (held : KeptSeat) → WorldStandsFor old w → at < vec_len old.seats
    → held ≡ get_or old.seats.items at held → SeatStandsFor held (seat_at w at)
seat-stands old w at held stands l is =
    let within : at < length old.seats.items = omega (arith, old.seats.ok.0) in
    subst (λ (h : KeptSeat). SeatStandsFor h (seat_at w at)) (sym is)
    (zip-at SeatStandsFor old.seats.items w.seats at held fresh stands.seats within)

-- ---- several events
pub events-append : (events more : List Event) (w : World)
    → after_events (events ++ more) w ≡ after_events more (after_events events w)
events-append [] more w = refl
events-append (event ∷ events) more w = events-append events more (after_event event w)

pub world-step : (session : Session) (i : ℕ) (event : Event) → i < length session.events
    → event ≡ get_or session.events i event → after_event event (world_after session i) ≡ world_after session (i + 1)
world-step session i event l here =
    ap (λ (e : Event). after_event e (world_after session i)) here
    ∙ sym (ap (λ es. after_events es (opened session)) (take_more session.events i event l)
    ∙ events-append (take i session.events) (get_or session.events i event ∷ []) (opened session))

pub world-last : (session : Session) (i : ℕ) → length session.events ≤ i → world_after session i ≡ last_world session
world-last session i l = ap (λ es. after_events es (opened session)) (take_all i session.events l)

-- what holds of each event holds of the one at an index
pub each-event : (P : Event → Type 0) (events : List Event) (i : ℕ) (event : Event) → i < length events
    → event ≡ get_or events i event → AllByRecursion P events → P event
each-event P events i event l here all = subst P (sym here) (All-from_recursion P events all i event l)

-- ---- picks
pub picked-step : (messages : List (List ElementValue)) (picks : List Pick) (i : ℕ) (other : Pick)
    (old new : List ElementValue) → i < length picks
    → old ≡ all_picked messages (take i picks) → new ≡ old ++ picked messages (get_or picks i other)
    → new ≡ all_picked messages (take (i + 1) picks)
picked-step messages picks i other old new l was is =
    is ∙ ap (λ es. es ++ picked messages (get_or picks i other)) was
    ∙ sym (ap (all_picked messages) (take_more picks i other l)
    ∙ flat_map-append (picked messages) (take i picks) (get_or picks i other ∷ [])
    ∙ ap (λ es. all_picked messages (take i picks) ++ es) (append-nil (picked messages (get_or picks i other))))
