-- What replicas of a session store and show.
use Rattle.std.proofs.Common.{◌≡◌, ℕ, Contains, ap}
use Rattle.std.proofs.ByRecursion.{All-weaker}
use Rattle.std.proofs.lemmas.List.Elements.{recursion_from_All}
use Rattle.elem.specs.Facts.{IsElement}
use Rattle.elem.specs.Said.{HasValidTexts}
use Rattle.elem_store.specs.Updates.{HaveSameUpdates}
use Rattle.scene_file.specs.Scenes.{scene_text}
use Rattle.view.specs.Settled.{AreSettled}
use Rattle.index_repair.specs.Keyed.{HaveRisingKeys}
use Rattle.view.specs.Shown.{live_elements, shown}
use Rattle.elem.proofs.CallerLemmas.{IsKept, AreKept}
use Rattle.index_repair.proofs.CallerLemmas.{kept-keys}
use Rattle.view.proofs.CallerLemmas.{live-kept, HaveDistinctIds-rising, live_elements-rise, shown-settled, shown-keys}
use Rattle.session_text.specs.Facts.{IsSession}
use Rattle.session_text.specs.declared.session.Session.{Session}
use Rattle.session.specs.Reports.{shown_at}
use Rattle.session.specs.Worlds.{Seat, head_of, world_after}
use Rattle.session.proofs.CallerLemmas.{same-stored}
use Rattle.session_laws.proofs.SoundWorlds.{states-sound, taken-elements}

module _ (session : Session) (is : IsSession session) (count : ℕ) where
  pub stores-same : (s other : Seat) → Contains (world_after session count).seats s
      → Contains (world_after session count).seats other
      → HaveSameUpdates s.taken other.taken → s.state.stored ≡ other.state.stored
  stores-same s other among also same =
      same-stored session count s other among also (taken-elements session is count s among) same

  pub shows-same : (s other : Seat) → Contains (world_after session count).seats s
      → Contains (world_after session count).seats other
      → HaveSameUpdates s.taken other.taken → scene_text (head_of session) (shown_at s)
      ≡ scene_text (head_of session) (shown_at other)
  shows-same s other among also same =
      ap (λ stored. scene_text (head_of session) (shown (live_elements stored))) (stores-same s other among also same)

  module _ (s : Seat) (among : Contains (world_after session count).seats s) where
    live-are : AreKept (live_elements s.state.stored)
    live-are =
        live-kept s.state.stored
        (All-weaker (λ e. IsElement e × HasValidTexts e) IsKept (λ e h. record { element = h.0; written = h.1 })
        s.state.stored
        (recursion_from_All (λ e. IsElement e × HasValidTexts e) s.state.stored
        (states-sound session is count s among).stored_elements))

    pub shows-rising : HaveRisingKeys (shown_at s)
    shows-rising = shown-keys (live_elements s.state.stored) (kept-keys (live_elements s.state.stored) live-are)

    pub shows-settled : AreSettled (shown_at s)
    shows-settled =
        shown-settled (live_elements s.state.stored)
        (HaveDistinctIds-rising (live_elements s.state.stored)
        (live_elements-rise s.state.stored (states-sound session is count s among).stored_rise))
        (kept-keys (live_elements s.state.stored) live-are)
