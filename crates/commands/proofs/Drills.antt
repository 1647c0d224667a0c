-- What a drill tells of its session, and how its replicas come to agree.
use Rattle.std.proofs.Common.{◌≡◌, ℕ, zero, suc, ◌<◌, Bool, ◌&&◌, List, [], ◌∷◌, true, None, Contains, length, map, refl, sym, ap, ap₂, subst, ◌∙◌, bytes_eq, lit≤, arith}
use Rattle.std.specs.List.{AllByRecursion, AllZip, list_all}
use Rattle.std.specs.Option.{option_map_or}
use Rattle.std.proofs.lemmas.Bool.{and_from}
use Rattle.json_text.proofs.CallerLemmas.{bytes_eq-same}
use Rattle.elem_store.proofs.CallerLemmas.{Contains-head, Contains-cons}
use Rattle.scene_file.specs.Heads.{Heading}
use Rattle.scene_file.specs.Scenes.{scene_text}
use Rattle.scene_file.specs.declared.scene.Scene.{Scene}
use Rattle.session.specs.Reports.{shown_at, IsReplicaReport, IsReportOf}
use Rattle.session.specs.Clashes.{HaveClashes}
use Rattle.session.specs.Worlds.{Seat, World, all_elements, head_of, last_world, opening_elements}
use Rattle.session.specs.declared.report.Report.{Report}
use Rattle.session.specs.declared.report.ReplicaReport.{ReplicaReport}
use Rattle.session.proofs.CallerLemmas.{clashes-same, report-exists}
use Rattle.session_text.specs.Sessions.{IsSessionOf}
use Rattle.session_text.specs.declared.event.Event.{Event}
use Rattle.session_text.specs.declared.event.Event.TheVariants.{Change, Update, Deliver, Hold, Release, Undo, Redo}
use Rattle.session_text.specs.declared.event.Pick.TheVariants.{All}
use Rattle.session_text.specs.declared.session.Session.{Session}
use Rattle.session_text.proofs.CallerLemmas.{session-once}
use Rattle.session_laws.specs.Own.{IsOwnEvent, HasOwnUpdates}
use Rattle.session_laws.specs.Told.{IsNoHold, HasNoHolds, IsDelivered, IsToldAll}
use Rattle.workload.specs.Drills.{last_events}
use Rattle.workload.specs.Facts.{IsDrill, IsOfReplicas, PicksAll}
use Rattle.view.specs.Shown.{live_elements}
use Rattle.workload.specs.Texts.{drill_text, rising, falling}
use Rattle.commands.specs.Drills.{IsDrilled, of_first, of_world, show_one_scene, summary_text}
use Rattle.commands.specs.inner.Drills.{of_report}
use Rattle.commands.specs.declared.words.Drill.{Drill}

-- ---- what is told of a report is told of its world
stored-told : (head : Heading) (seats : List Seat) (reports : List ReplicaReport)
    → AllZip (IsReplicaReport head) seats reports
    → (of_first (λ (report : ReplicaReport). report.stored) reports
    ≡ of_first (λ (s : Seat). length s.state.stored) seats)
    × (of_first (λ (report : ReplicaReport). report.live) reports
    ≡ of_first (λ (s : Seat). length (live_elements s.state.stored)) seats)
stored-told head [] [] told = (refl, refl)
stored-told head [] (report ∷ reports) told = absurd told
stored-told head (s ∷ seats) [] told = absurd told
stored-told head (s ∷ seats) (report ∷ reports) told = (told.0.stored, told.0.live)

count-told : (head : Heading) (seats : List Seat) (reports : List ReplicaReport)
    → AllZip (IsReplicaReport head) seats reports → length reports ≡ length seats
count-told head [] [] told = refl
count-told head [] (report ∷ reports) told = absurd told
count-told head (s ∷ seats) [] told = absurd told
count-told head (s ∷ seats) (report ∷ reports) told = ap suc (count-told head seats reports told.1)

all-told : (head : Heading) (first text : List ℕ) → first ≡ text → (seats : List Seat) (reports : List ReplicaReport)
    → AllZip (IsReplicaReport head) seats reports
    → list_all (λ (report : ReplicaReport). bytes_eq report.scene first) reports
    ≡ list_all (λ (s : Seat). bytes_eq (scene_text head (shown_at s)) text) seats
all-told head first text same [] [] told = refl
all-told head first text same [] (report ∷ reports) told = absurd told
all-told head first text same (s ∷ seats) [] told = absurd told
all-told head first text same (s ∷ seats) (report ∷ reports) told =
    ap₂ (λ (one more : Bool). one && more) (ap₂ bytes_eq told.0.scene same)
    (all-told head first text same seats reports told.1)

scenes-told : (head : Heading) (seats : List Seat) (reports : List ReplicaReport)
    → AllZip (IsReplicaReport head) seats reports
    → show_one_scene (λ (report : ReplicaReport). report.scene) reports
    ≡ show_one_scene (λ (s : Seat). scene_text head (shown_at s)) seats
scenes-told head [] [] told = refl
scenes-told head [] (report ∷ reports) told = absurd told
scenes-told head (s ∷ seats) [] told = absurd told
scenes-told head (s ∷ seats) (report ∷ reports) told =
    all-told head report.scene (scene_text head (shown_at s)) told.0.scene seats reports told.1

pub report-summed : (session : Session) (w : World) (report : Report) → IsReportOf session w report
    → of_report report ≡ of_world session w report.clashes
report-summed session w report is =
    let head = head_of session in
    let first = stored-told head w.seats report.replicas is.replicas in
    λ i. record {
      replicas = count-told head w.seats report.replicas is.replicas i;
      messages = is.messages i;
      refused = ap length is.refused i;
      stored = first.0 i;
      live = first.1 i;
      clashes = report.clashes;
      same = scenes-told head w.seats report.replicas is.replicas i;
    }

-- where all replicas show the same, it is told so
all-show : (f : Seat → List ℕ) (text : List ℕ) (seats : List Seat) → ((s : Seat) → Contains seats s → f s ≡ text)
    → list_all (λ s. bytes_eq (f s) text) seats ≡ true
all-show f text [] same = refl
all-show f text (s ∷ seats) same =
    and_from (bytes_eq (f s) text) (list_all (λ other. bytes_eq (f other) text) seats)
    (subst (λ other. bytes_eq other text ≡ true) (sym (same s (Contains-head s seats))) (bytes_eq-same text))
    (all-show f text seats (λ other among. same other (Contains-cons s seats other among)))

pub one-shown : (f : Seat → List ℕ) (seats : List Seat)
    → ((s other : Seat) → Contains seats s → Contains seats other → f s ≡ f other) → show_one_scene f seats ≡ true
one-shown f [] same = refl
one-shown f (s ∷ seats) same =
    all-show f (f s) seats (λ other among. same other s (Contains-cons s seats other among) (Contains-head s seats))

-- ---- a drill tells one text
pub drilled-once : (drill : Drill) (text other : List ℕ) → IsDrilled drill text → IsDrilled drill other → text ≡ other
drilled-once drill text other a b =
    let same = session-once (drill_text drill.seed drill.events) a.session b.session a.read b.read in
    let counted : HaveClashes [] (all_elements b.session (last_world b.session)) a.clashes =
    subst (λ (session : Session). HaveClashes [] (all_elements session (last_world session)) a.clashes) same
    a.counted in
    let clashes =
    clashes-same [] (all_elements b.session (last_world b.session)) a.clashes b.clashes counted b.counted in
    a.told ∙ (ap₂ (λ (session : Session) (count : ℕ). summary_text drill (of_world session (last_world session) count))
    same clashes ∙ sym b.told)

pub drilled-exists : (drill : Drill) (session : Session) → IsSessionOf (drill_text drill.seed drill.events) session
    → (text : List ℕ) × IsDrilled drill text
drilled-exists drill session read =
    let counted = (report-exists session).1 in (
      summary_text drill (of_world session (last_world session) counted.clashes),
      record { session = session; read = read; clashes = counted.clashes; counted = counted.counted; told = refl },
    )

-- ---- a drill's session
-- it has no elements to begin with
pub unopened : (session : Session) → session.scene ≡ None → HaveClashes [] (opening_elements session) 0
unopened session none =
    let empty : opening_elements session ≡ [] =
    ap (λ found. option_map_or (λ (scene : Scene). scene.elements) found []) none in
    subst (λ elements. HaveClashes [] elements 0) (sym empty) refl

-- no event of it brings updates from elsewhere, and none holds any off
own : (event : Event) → IsOfReplicas event → IsOwnEvent event
own (Change at time capture command) is = tt
own (Update elements) is = is
own (Deliver to picks) is = tt
own (Hold at id) is = tt
own (Release at id) is = tt
own (Undo at time) is = tt
own (Redo at time) is = tt

unheld : (event : Event) → IsOfReplicas event → IsNoHold event
unheld (Change at time capture command) is = tt
unheld (Update elements) is = tt
unheld (Deliver to picks) is = tt
unheld (Hold at id) is = is
unheld (Release at id) is = tt
unheld (Undo at time) is = tt
unheld (Redo at time) is = tt

-- each replica is told of each message by one of the last four events
told-last : (replicas made at message : ℕ) → replicas ≡ 4 → at < replicas → message < made → PicksAll made
    → IsDelivered (last_events made) at message
told-last replicas made zero message four within some picks =
    record { picks = map All (rising made); delivery = (0, lit≤ tt, refl); whole = picks.up message some }
told-last replicas made (suc zero) message four within some picks =
    record { picks = map All (falling made); delivery = (1, lit≤ tt, refl); whole = picks.down message some }
told-last replicas made (suc (suc zero)) message four within some picks =
    record { picks = map All (rising made); delivery = (2, lit≤ tt, refl); whole = picks.up message some }
told-last replicas made (suc (suc (suc zero))) message four within some picks =
    record { picks = map All (falling made); delivery = (3, lit≤ tt, refl); whole = picks.down message some }
told-last replicas made (suc (suc (suc (suc at)))) message four within some picks = absurd (grind (arith))

each : {P Q : Event → Type 0} → ((event : Event) → P event → Q event) → (events : List Event) → AllByRecursion P events
    → AllByRecursion Q events
each turn [] are = tt
each turn (event ∷ events) are = (turn event are.0, each turn events are.1)

pub drill-own : (seed events : ℕ) (session : Session) → IsDrill seed events session → HasOwnUpdates session
drill-own seed events session is = each own session.events is.own

pub drill-unheld : (seed events : ℕ) (session : Session) → IsDrill seed events session → HasNoHolds session
drill-unheld seed events session is = each unheld session.events is.own

pub drill-told : (seed events : ℕ) (session : Session) → IsDrill seed events session → ((made : ℕ) → PicksAll made)
    → IsToldAll session
drill-told seed events session is picks = record {
  first = is.drawn;
  last = last_events is.made;
  events = is.events;
  deliveries = (tt, (tt, (tt, (tt, tt))));
  told = λ at message within some. told-last session.replicas is.made at message is.replicas within
      (subst (λ n. message < n) (sym is.messages) some) (picks is.made);
}
