-- Whatever happens, a sweep goes on to cover what it comes to.
use Rattle.std.proofs.Common.{◌≡◌, ◌⊎◌, ℕ, ◌+◌, ◌≤◌, Bool, List, [], ◌∷◌, ◌++◌, append_assoc, append-nil, refl, sym, ap, ◌∙◌, subst, arith}
use Rattle.std.proofs.lemmas.Bool.{cond_both}
use Rattle.std.proofs.lemmas.List.Concat.{flat_map-append}
use Rattle.std.proofs.lemmas.List.Elements.{All-head, All-tail}
use Rattle.std.specs.Prelude.{Option, Some, None, Result, Ok, Err, All, find, slice_get, flat_map, ◌==◌}
use Rattle.std.specs.List.{AllByRecursion}
use Rattle.fabric_model.specs.declared.cable.NodePort.{NodePort}
use Rattle.fabric_model.specs.Cables.{is_same_port}
use Rattle.reply_facts.specs.declared.report.Report.{Report}
use Rattle.reply_facts.specs.Report.{Sightings, sightings_of}
use Rattle.fabric_sim.specs.Simulation.{Simulation, AreCables, fabric_of, port_count}
use Rattle.fabric_sim.proofs.Courses.{IsForManager}
use Rattle.sweep.specs.declared.answer.Answer.{Answer}
use Rattle.sweep.specs.declared.answer.Answer.TheVariants.{Facts, Seen}
use Rattle.sweep.specs.declared.fault.SweepFault.{SweepFault}
use Rattle.sweep.specs.declared.request.Request.{Request}
use Rattle.sweep.specs.declared.question.Question.{Question}
use Rattle.sweep.specs.declared.question.Question.TheVariants as ask
use Rattle.sweep.specs.Sweep.{Sweep, AreRising, first_question, managers_asked, request_with, transaction_of, without_number}
use Rattle.sweep.specs.Sweep.{after_next_request, after_next_request_of, after_timeout, after_timeout_of}
use Rattle.sweep.specs.Images.{images_with}
use Rattle.sweep.specs.Replies.{belongs, judged, after_reply, after_reply_to, sightings_by}
use Rattle.manager_laws.specs.Scene.{Handed}
use Rattle.manager_laws.specs.Sweeping.{Sweeping, SweepEvent, Around, Ask, Send, Hear, TimeOut, CanBe, sending, reports_of}
use Rattle.manager_laws.specs.Sweeping.{with_answer, hearing, after_sweep_event, after_sweep_events}
use Rattle.manager_laws.proofs.Answers.{was_there}
use Rattle.manager_laws.proofs.Sound.{CanBeSwept, IsSoundSweep}
use Rattle.manager_laws.proofs.Swept as swept
use Rattle.manager_laws.proofs.Swept.{Goes, at_seat, goes_on}
use Rattle.manager_laws.proofs.TrueFacts.{IsCabled}
use Rattle.manager_laws.proofs.Asked.{IsPending}
use Rattle.manager_laws.proofs.Covered.{Covered, Covers, IsJoinedSighting, IsOrigin, IsRooted, covered_with_images}
use Rattle.manager_laws.proofs.Lists.{Has}
use Rattle.manager_laws.proofs.PortReplies.{manager_covered}
use Rattle.manager_laws.proofs.Replies.{by_question}

-- the sightings of all reports
abbrev pub told_in : List Report → Sightings
told_in reports = flat_map sightings_of reports

pub told_more : (reports : List Report) (answer : Answer) → told_in (reports ++ reports_of answer) ≡ told_in reports ++ sightings_by answer
told_more reports (Facts report) = flat_map-append sightings_of reports (report ∷ []) ∙ ap (λ l. told_in reports ++ l) (append-nil (sightings_of report))
told_more reports (Seen guid port info) = flat_map-append sightings_of reports []

module _ {start : Simulation} {seat : NodePort} (cables : AreCables start) (counts : (id : ℕ) → port_count start id ≤ 254)
    (can : CanBeSwept (fabric_of start) seat) (cabled : IsCabled (fabric_of start)) where
  -- as long as managers alone are silent and nothing is too far
  abbrev pub CoversSoFar : Sweep → Sightings → Type 0
  CoversSoFar s told =
      (s.silent_managers ≤ s.unanswered) × (s.unanswered ≡ s.silent_managers → s.too_far ≡ 0 → Covered (fabric_of start) seat s told)

  -- the first of the queue waits then
  pub sent_covers : (s : Sweep) (told : Sightings) → CoversSoFar s told → CoversSoFar (after_next_request s).sweep told
  sent_covers s told h = by_queue s.queued refl
    where
      by_queue : (queue : List Request) → s.queued ≡ queue → CoversSoFar (after_next_request_of s queue).sweep told
      by_queue [] e = h
      by_queue (r ∷ queue) e = (
        h.0,
        λ answered near.
            let c = h.1 answered near in
            let same : s.outstanding ++ s.queued ≡ (s.outstanding ++ r ∷ []) ++ queue =
            ap (λ l. s.outstanding ++ l) e ∙ sym (append_assoc s.outstanding (r ∷ []) queue) in
            record {
              rising = subst (λ rs. AreRising 0 rs s.next) same c.rising;
              rooted = subst (λ rs. AllByRecursion (λ (x : Request). IsRooted (fabric_of start) seat s.reached x.context) rs) same c.rooted;
              vertices = subst (λ rs. AllByRecursion (Covers (fabric_of start) seat (record { requests = rs; reached = s.reached; told = told })) s.reached)
                  same c.vertices;
              joined = c.joined;
              start = subst (λ rs. (IsPending rs first_question × (s.reached ≡ [])) ⊎ Has (IsOrigin (fabric_of start) seat) s.reached) same c.start;
            },
      )

  -- a request that has timed out waits no more
  abbrev given_up : Sweep → Request → ℕ → Sweep
  given_up s r managers =
      record s {
        outstanding = without_number r.number s.outstanding;
        unanswered = s.unanswered + 1;
        silent_managers = s.silent_managers + managers;
      }

  -- of one for SMInfo nothing is missed
  silent_covers : (s : Sweep) (told : Sightings) (c : Covered (fabric_of start) seat s told) → IsSoundSweep (fabric_of start) seat s
      → (r : Request) (t : Request → Bool) → find t s.outstanding ≡ Some r → (guid port : ℕ) → r.question ≡ ask.Manager guid port
      → Covered (fabric_of start) seat (given_up s r 1) told
  silent_covers s told c sound r t found guid port question =
      let then = manager_covered can s told c sound r t found s.generation guid port question s.states s.too_far in
      let queue : s.queued ++ [] ≡ s.queued = append-nil s.queued in
      let kept : told ++ [] ≡ told = append-nil told in
      let requests : without_number r.number s.outstanding ++ (s.queued ++ []) ≡ without_number r.number s.outstanding ++ s.queued =
      ap (λ l. without_number r.number s.outstanding ++ l) queue in
      let next : s.next + 0 ≡ s.next = omega arith in
      record {
        rising = subst (λ rs. AreRising 0 rs s.next) requests
            (subst (AreRising 0 (without_number r.number s.outstanding ++ (s.queued ++ []))) next then.rising);
        rooted = subst (λ rs. AllByRecursion (λ (x : Request). IsRooted (fabric_of start) seat s.reached x.context) rs) requests then.rooted;
        vertices = subst (λ told. AllByRecursion (Covers (fabric_of start) seat (record {
          requests = without_number r.number s.outstanding ++ s.queued;
          reached = s.reached;
          told = told;
        })) s.reached) kept
            (subst (λ rs. AllByRecursion (Covers (fabric_of start) seat (record { requests = rs; reached = s.reached; told = told ++ [] })) s.reached)
            requests then.vertices);
        joined = subst (λ told. AllByRecursion (IsJoinedSighting (fabric_of start) seat) told) kept then.joined;
        start = subst (λ rs. (IsPending rs first_question × (s.reached ≡ [])) ⊎ Has (IsOrigin (fabric_of start) seat) s.reached) requests then.start;
      }

  -- a request that times out counts as unanswered, and one for SMInfo as of a silent manager too
  pub timeout_covers : (s : Sweep) (told : Sightings) (transaction : ℕ) → IsSoundSweep (fabric_of start) seat s → CoversSoFar s told
      → CoversSoFar (after_timeout s transaction) told
  timeout_covers s told transaction sound h = by_request (request_with s.generation transaction s.outstanding) refl
    where
      by_question : (r : Request) → request_with s.generation transaction s.outstanding ≡ Some r → (q : Question) → r.question ≡ q
          → CoversSoFar (given_up s r (managers_asked q)) told
      by_question r found (ask.Manager guid port) e =
          let few = h.0 in (
            omega (arith, few),
            λ answered near. silent_covers s told (h.1 (omega (arith, answered)) near) sound r
                (λ (x : Request). transaction_of s.generation x.number == transaction) found guid port e,
          )
      by_question r found question e = let few = h.0 in (omega (arith, few), λ answered near. absurd (omega (arith, few, answered)))

      by_request : (m : Option Request) → request_with s.generation transaction s.outstanding ≡ m → CoversSoFar (after_timeout_of s m) told
      by_request None e = h
      by_request (Some r) e = by_question r e r.question refl

  -- a reply is taken
  pub reply_covers : (s : Sweep) (told : Sightings) → IsSoundSweep (fabric_of start) seat s → (bytes : List ℕ) → IsForManager start seat bytes
      → (answer : Answer)
      → judged s bytes ≡ Ok answer → CoversSoFar s told → CoversSoFar (after_reply s bytes) (told ++ sightings_by answer)
  reply_covers s told sound bytes is answer taken h =
      let a = swept.accepted_as cables counts can cabled s sound bytes is answer taken in
      subst (λ m. CoversSoFar (after_reply_to s bytes m) (told ++ sightings_by answer)) (sym a.belongs) (
        h.0,
        λ answered near.
            let c = h.1 answered (omega (arith, near)) in
            let found = swept.found cables counts can cabled s sound bytes is answer taken in
            subst (Covered (fabric_of start) seat (after_reply_to s bytes (Some a.request))) (ap (λ x. told ++ sightings_by x) (sym a.answer_is))
            (covered_with_images (fabric_of start) seat (images_with s.images a.request bytes) (by_question can s told c sound a.request (belongs s.generation bytes) a.belongs cabled bytes
            (swept.told cables counts can cabled s sound bytes is answer taken).end
            (swept.leads cables counts can cabled s sound bytes is answer taken)
            (swept.says cables counts can cabled s sound bytes is answer taken)
            (swept.for cables counts can cabled s sound bytes is answer taken)
            (swept.node_good cables counts can cabled s sound bytes is answer taken)
            a.request.question refl a.request.context refl found.sound.sound near)),
      )

  -- events ------------------------------------------------------------------------------------------------------

  abbrev pub GoesWell : Sweeping → Type 0
  GoesWell w = CoversSoFar w.sweep (told_in w.reports)

  sending_covers : (w : Sweeping) (m : Option (List ℕ)) → GoesWell w → GoesWell (sending w m)
  sending_covers w None h = h
  sending_covers w (Some packet) h = h

  hearing_covers : (w : Sweeping) (m : Option Handed) → Goes cables counts can cabled w
      → ((h : Handed) → m ≡ Some h → IsForManager start h.at h.packet.bytes) → GoesWell w → GoesWell (hearing w m)
  hearing_covers w None g were c = c
  hearing_covers w (Some h) g were c =
      cond_both (is_same_port h.at w.seat) _ _ GoesWell
      (λ same. judged_covers (at_seat cables counts can cabled w h g same (were h refl)) (judged w.sweep h.packet.bytes) refl) (λ _. c)
    where
      judged_covers : IsForManager start seat h.packet.bytes → (r : Result Answer SweepFault) → judged w.sweep h.packet.bytes ≡ r
          → GoesWell (with_answer w h.packet.bytes r)
      judged_covers is (Ok answer) e =
          subst (CoversSoFar (after_reply w.sweep h.packet.bytes)) (sym (told_more w.reports answer))
          (reply_covers w.sweep (told_in w.reports) g.sound h.packet.bytes is answer e c)
      judged_covers is (Err why) e = c

  -- any event -----------------------------------------------------------------------------------------------

  covers_next : (w : Sweeping) (event : SweepEvent) → Goes cables counts can cabled w → CanBe event → GoesWell w → GoesWell (after_sweep_event w event)
  covers_next w (Around event) g can_be c = c
  covers_next w Ask g can_be c = sent_covers w.sweep (told_in w.reports) c
  covers_next w (Send which) g can_be c = sending_covers w (slice_get w.asked which) c
  covers_next w (Hear which) g can_be c =
      hearing_covers w (slice_get w.scene.handed which) g (λ h e. was_there start w.scene.handed which h g.scene.handed e) c
  covers_next w (TimeOut transaction) g can_be c = timeout_covers w.sweep (told_in w.reports) transaction g.sound c

  pub all_covered : (events : List SweepEvent) (w : Sweeping) → Goes cables counts can cabled w → All CanBe events → GoesWell w
      → GoesWell (after_sweep_events events w)
  all_covered [] w g all c = c
  all_covered (event ∷ events) w g all c =
      all_covered events (after_sweep_event w event) (goes_on cables counts can cabled w event g (All-head CanBe event events all))
      (All-tail CanBe event events all) (covers_next w event g (All-head CanBe event events all) c)
