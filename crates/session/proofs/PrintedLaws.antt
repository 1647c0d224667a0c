-- The text of a report is that of its world; each session has one.
use Rattle.std.proofs.Common.{◌≡◌, ◌⊎◌, inl, inr, ℕ, ◌+◌, List, [], ◌∷◌, ◌++◌, Option, Some, None, map, length, codes, decimal, refl, sym, ap, ap₂, ◌∙◌}
use Rattle.json_text.specs.Compact.{object_text, array_text}
use Rattle.elem.specs.ElementValue.{ElementValue}
use Rattle.clash.specs.Firsts.{first_tied, HasClash, IsLikeFirst}
use Rattle.scene_file.specs.Heads.{Heading}
use Rattle.scene_file.specs.Scenes.{scene_text}
use Rattle.view.specs.Shown.{live_elements}
use Rattle.session_text.specs.declared.session.Session.{Session}
use Rattle.session.specs.declared.report.Report.{Report}
use Rattle.session.specs.declared.report.ReplicaReport.{ReplicaReport}
use Rattle.session.specs.Clashes.{HaveClashes}
use Rattle.session.specs.Printed.{seat_text, world_text, IsReportText}
use Rattle.session.specs.Reports.{shown_at, IsReplicaReport, AreReplicaReports, IsReportOf}
use Rattle.session.specs.Texts.{replica_text, refused_text, report_text}
use Rattle.session.specs.Worlds.{Seat, World, all_elements, head_of, last_world}
use Rattle.session.proofs.ClashLaws.{clashes-same}
use Rattle.session.proofs.Deciding.{elements-decided}

abbrev told-of : List ℕ → ℕ → ℕ → ℕ → ℕ → ℕ → List ℕ
told-of scene taken stored live undo redo =
    object_text ((codes "scene", scene) ∷ (codes "taken", decimal taken) ∷ (codes "stored", decimal stored)
    ∷ (codes "live", decimal live) ∷ (codes "undo", decimal undo) ∷ (codes "redo", decimal redo) ∷ [])

replica-same : (head : Heading) (s : Seat) (report : ReplicaReport) → IsReplicaReport head s report
    → replica_text report ≡ seat_text head s
unfolding replica_text
replica-same head s report is =
    let scene = scene_text head (shown_at s) in
    let taken = length s.taken in
    let stored = length s.state.stored in
    let live = length (live_elements s.state.stored) in
    let undo = length s.state.undo in
    ap (λ x. told-of x report.taken report.stored report.live report.undo report.redo) is.scene
    ∙ (ap (λ x. told-of scene x report.stored report.live report.undo report.redo) is.taken
    ∙ (ap (λ x. told-of scene taken x report.live report.undo report.redo) is.stored
    ∙ (ap (λ x. told-of scene taken stored x report.undo report.redo) is.live
    ∙ (ap (λ x. told-of scene taken stored live x report.redo) is.undo
    ∙ ap (λ x. told-of scene taken stored live undo x) is.redo))))

replicas-same : (head : Heading) (seats : List Seat) (reports : List ReplicaReport)
    → AreReplicaReports head seats reports
    → map replica_text reports ≡ map (seat_text head) seats
replicas-same head [] [] are = refl
replicas-same head [] (report ∷ reports) are = absurd are
replicas-same head (s ∷ seats) [] are = absurd are
replicas-same head (s ∷ seats) (report ∷ reports) are =
    ap₂ (λ (t : List ℕ) (ts : List (List ℕ)). t ∷ ts) (replica-same head s report are.0)
    (replicas-same head seats reports are.1)

abbrev world-of : List (List ℕ) → ℕ → List (List ℕ) → ℕ → List ℕ
world-of replicas messages refused clashes =
    object_text ((codes "replicas", array_text replicas) ∷ (codes "messages", decimal messages)
    ∷ (codes "refused", array_text refused) ∷ (codes "clashes", decimal clashes) ∷ [])

pub report-told : (session : Session) (w : World) (report : Report) → IsReportOf session w report
    → report_text report ≡ world_text session w report.clashes
unfolding report_text
report-told session w report is =
    let replicas = map (seat_text (head_of session)) w.seats in
    ap (λ x. world-of x report.messages (map refused_text report.refused) report.clashes)
    (replicas-same (head_of session) w.seats report.replicas is.replicas)
    ∙ (ap (λ x. world-of replicas x (map refused_text report.refused) report.clashes) is.messages
    ∙ ap (λ x. world-of replicas (length w.messages) (map refused_text x) report.clashes) is.refused)

pub report-is_text : (session : Session) (report : Report) (text : List ℕ)
    → IsReportOf session (last_world session) report
    → text ≡ report_text report → IsReportText session text
report-is_text session report text is made = record {
  clashes = report.clashes;
  counted = is.clashes;
  told = made ∙ report-told session (last_world session) report is;
}

pub report-once : (session : Session) (text other : List ℕ) → IsReportText session text → IsReportText session other
    → text ≡ other
report-once session text other a b =
    a.told
    ∙ (ap (world_text session (last_world session)) (clashes-same [] (all_elements session (last_world session))
    a.clashes b.clashes a.counted b.counted) ∙ sym b.told)

-- ---- each list of elements has a number of clashes
some-same : (a b : ElementValue) → Some a ≡ Some b → a ≡ b
some-same a b e = cc

clash-decided : (before : List ElementValue) (e : ElementValue) → IsLikeFirst before e ⊎ HasClash before e
clash-decided before e = by (first_tied before e) refl
  where
    by : (found : Option ElementValue) → first_tied before e ≡ found → IsLikeFirst before e ⊎ HasClash before e
    by None is = inl (λ first found. absurd (none-some first (sym is ∙ found)))
      where
        none-some : (first : ElementValue) → None ≡ Some first → ⊥
        none-some first e = cc
    by (Some first) is = elim (elements-decided first e) [
      | inl same ↦ inl (λ other found. sym (some-same first other (sym is ∙ found)) ∙ same)
      | inr other ↦ inr (first, is, other)
    ]

clashes-exist : (before elements : List ElementValue) → (count : ℕ) × HaveClashes before elements count
clashes-exist before [] = (0, refl)
clashes-exist before (e ∷ elements) =
    let more = clashes-exist (before ++ e ∷ []) elements in
    elim (clash-decided before e) [
      | inl like ↦ (more.0, inl (like, more.1))
      | inr clash ↦ (more.0 + 1, inr (more.0, clash, refl, more.1))
    ]

pub report-exists : (session : Session) → (text : List ℕ) × IsReportText session text
report-exists session =
    let found = clashes-exist [] (all_elements session (last_world session)) in
    (world_text session (last_world session) found.0, record { clashes = found.0; counted = found.1; told = refl })
