-- Once one of several managers has written its plan, all that is joined to their seats holds it.
use Rattle.std.proofs.Common.{◌≡◌, ◌⊎◌, inl, inr, ℕ, true, List, [], ◌∷◌, ◌++◌, refl, sym, ap, ◌∙◌, subst}
use Rattle.std.proofs.lemmas.Option.{same_Some}
use Rattle.std.specs.Prelude.{Option, Some, None, All}
use Rattle.fabric_model.specs.declared.cable.NodePort.{NodePort}
use Rattle.fabric_model.specs.Fabric as fabrics
use Rattle.fabric_model.specs.Fabric.{Fabric, Node}
use Rattle.fabric_model.specs.FabricWalks.{IsJoinedTo}
use Rattle.fabric_model.proofs.FabricWalks.{same_port}
use Rattle.fact_store.specs.View.{Facts, cells_of}
use Rattle.fabric_sim.specs.Simulation.{fabric_of}
use Rattle.subnet_view.specs.FabricAgreement.{AgreesOn, HasEndPort, Part}
use Rattle.subnet_view.specs.Reading.{Cells}
use Rattle.lft_blocks.specs.InForce.{HoldsPlan, HoldsPlanAt}
use Rattle.lft_blocks.specs.Plan.{PlanValue}
use Rattle.lft_blocks.specs.Planning.{Planning}
use Rattle.sweep.specs.Sweep.{Sweep}
use Rattle.sm_manager.specs.Manager.{begin_fault}
use Rattle.sm_manager.specs.PlanFaults.{writing_fault}
use Rattle.sm_manager.specs.Writing.{is_written}
use Rattle.manager_laws.specs.Complete.{IsWhole}
use Rattle.manager_laws.specs.Scene.{Event, Deliver, Lose, Repeat, Send as SendFrom, Emit}
use Rattle.manager_laws.specs.Managing as one
use Rattle.manager_laws.specs.Managing.{Managing, ManagerEvent, after_manager_event, after_manager_events}
use Rattle.manager_laws.specs.Sets.{KeepsPlan, OwnSets}
use Rattle.manager_laws.specs.Truth.{AreGuidsDistinct}
use Rattle.manager_laws.specs.Written.{AllKeep, BeginsNoWriting, IsWritingRun, Keeps, at_end, at_first_steps, at_writing, own_sets, plan_at}
use Rattle.manager_laws.specs.WritingPings.{AreNoSweeps, BeginsNoSweep}
use Rattle.manager_laws.proofs.Alike.{agrees_along}
use Rattle.manager_laws.proofs.Arrive.{holds_it}
use Rattle.manager_laws.proofs.WritingTaken.{nodes_stay}
use Rattle.manager_laws.specs.Takeover.{no_sets, plan_by_it}
use Rattle.manager_laws.proofs.takeover.Seeing.{is_end}
use Rattle.manager_laws.specs.Masters.{AllAlong, AllCanBe, Around, At, CanBe, IsAt, IsWholeSweep, Masters, MastersEvent, Seated, after_masters_event}
use Rattle.manager_laws.specs.Masters.{after_masters_events, seen_by}
use Rattle.manager_laws.specs.StaysInForce.{AllHold, AllSweepWhole, HasWritten, ShareLids, SweepsWhole, WriteNothing, WrittenByOneIsHeld, WritesNothing}
use Rattle.manager_laws.specs.Known.{LearnNothingElse, LearnsNothingElse, LearntFromOne}
use Rattle.manager_laws.specs.OwnRuns.{AllSweepBefore, OwnRun, SweepsBefore}
use Rattle.manager_laws.proofs.masters.Side.{swept_if}
use Rattle.manager_laws.proofs.masters.Deliveries.{taken_carries}
use Rattle.manager_laws.proofs.masters.Known.{after_both, knows_one_sweep_means}
use Rattle.manager_laws.proofs.masters.Runs.{all_run, first_run}
use Rattle.manager_laws.proofs.masters.Segments.{IsAround, OwnStep, Segment, own_step, segment}
use Rattle.manager_laws.proofs.masters.Together.{AllStand, IsSeat, after_all, cables, counts, ends, first_stand, known, is_seat, next, plans_the_same}

-- of all managers from that of one ------------------------------------------------------------------------------------

module _ (f : Fabric) (plan : PlanValue) (cells : Cells) (part other : Part) (distinct : AreGuidsDistinct f) (one_agrees : AgreesOn part cells f)
    (other_agrees : AgreesOn other cells f) where
  -- each end port of the other part is one of the first, as the same facts tell it
  pub holds_there : HoldsPlan part plan f → HoldsPlan other plan f
  holds_there holds port node end =
      let named : HasEndPort other f node.guid port.port = record {
        port = port;
        named = record { node = node; node_there = end.node_there; guid_is = refl; port_is = refl };
        end_port = end.end_port;
        in_part = end.in_part;
      } in
      let has = one_agrees.end_ports_exist node.guid port.port (is_end other f node.guid port.port named cells other_agrees) in
      let id : has.port.node ≡ port.node =
      distinct has.port.node port.node has.named.node node has.named.node_there end.node_there has.named.guid_is in
      let same : has.port ≡ port = same_port has.port port id has.named.port_is in
      let node_is : has.named.node ≡ node =
      same_Some _ _ (sym has.named.node_there ∙ subst (λ k. fabrics.IsNodeAt f k node) (sym id) end.node_there) in
      subst (λ (p : NodePort). HoldsPlanAt plan f p node) same
      (subst (λ (n : Node). HoldsPlanAt plan f has.port n) node_is
      (holds has.port has.named.node (record { node_there = has.named.node_there; end_port = has.end_port; in_part = has.in_part })))

-- runs of one manager --------------------------------------------------------------------------------------------------

-- where each Set carries the plan's values, it does so beside any own ones
keeps_any : (plan : PlanValue) (own : OwnSets) (w : Managing) (e : ManagerEvent) → Keeps plan no_sets w e → Keeps plan own w e
keeps_any plan own w (one.Around (Deliver n)) keeps = λ at a packet takes. elim (keeps at a packet takes) [ inl none ↦ absurd none | inr it ↦ inr it ]
keeps_any plan own w (one.Around (Lose n)) keeps = tt
keeps_any plan own w (one.Around (Repeat n)) keeps = tt
keeps_any plan own w (one.Around (SendFrom seat sending)) keeps = tt
keeps_any plan own w (one.Around (Emit at sending)) keeps = tt
keeps_any plan own w event keeps = keeps

all_keep_along : (plan : PlanValue) (own : OwnSets) (events : List ManagerEvent) (w : Managing) → one.AllAlong (Keeps plan no_sets) events w
    → AllKeep plan own events w
all_keep_along plan own [] w along = tt
all_keep_along plan own (e ∷ events) w along =
    (keeps_any plan own w e along.0, all_keep_along plan own events (after_manager_event w e) along.1)

-- an own event that begins no writing, where nothing but Sets that carry the plan's values happens around
keeps_own : (plan : PlanValue) (w : Managing) (e : ManagerEvent) → BeginsNoWriting w e
    → ((event : Event) → e ≡ one.Around event → KeepsPlan plan no_sets w.scene.fabric event) → Keeps plan no_sets w e
keeps_own plan w (one.Around event) quiet around = around event refl
keeps_own plan w event quiet around = quiet

-- events of several managers, one after the other ------------------------------------------------------------------------

parts : (is_so : Masters → MastersEvent → Type 0) (es fs : List MastersEvent) (t : Masters) → AllAlong is_so (es ++ fs) t
    → AllAlong is_so es t × AllAlong is_so fs (after_masters_events es t)
parts is_so [] fs t all = (tt, all)
parts is_so (e ∷ es) fs t all = let rest = parts is_so es fs (after_masters_event t e) all.1 in ((all.0, rest.0), rest.1)

module _ (facts : Facts) (planning : Planning) (t0 : Masters) (h : ShareLids facts planning t0) where
  -- no writing begins before a sweep
  sweeps_before : (t : Masters) (event : MastersEvent) → AllStand facts planning t0 h t → SweepsWhole t event → SweepsBefore t event
  sweeps_before t (Around event) all whole = tt
  sweeps_before t (At which e) all whole = λ m there. swept_if m e (all.sides which m there).swept (whole m there)

  all_sweep_before : (events : List MastersEvent) (t : Masters) → AllStand facts planning t0 h t → AllCanBe events t → AllSweepWhole events t
      → AllSweepBefore events t
  all_sweep_before [] t all can_be whole = tt
  all_sweep_before (event ∷ events) t all can_be whole = (
    sweeps_before t event all whole.0,
    all_sweep_before events (after_masters_event t event) (next facts planning t0 h t event all can_be.0 whole.0) can_be.1 whole.1,
  )

  -- each Set that an agent takes carries the plan's values
  around_keeps : (t : Masters) → AllStand facts planning t0 h t → (event : Event) → KeepsPlan (plan_by_it planning facts) no_sets t.scene.fabric event
  around_keeps t all (Deliver n) = λ at a packet takes. inr (taken_carries t0.scene.fabric (plan_by_it planning facts) (IsSeat facts planning t0 h)
      (cables facts planning t0 h) (counts facts planning t0 h) all.stands.traces.continues.fabric.along all.stands.traces.continues.fabric.is
      all.stands.traces.flights all.stands.traces.harmless n at a packet takes)
  around_keeps t all event = tt

  module _ (which : ℕ) where
    -- until the writing it learns of nothing else
    quiet : (t : Masters) (event : MastersEvent) → AllStand facts planning t0 h t → LearnsNothingElse which t event → (m : Seated) → IsAt t which m
        → (e : ManagerEvent) → IsAround e ⊎ (event ≡ At which e) → BeginsNoSweep (seen_by t.scene m) e
    quiet t event all its m there e (inl (event_is, same)) = subst (BeginsNoSweep (seen_by t.scene m)) (sym same) tt
    quiet t event all its m there e (inr same) = subst (LearnsNothingElse which t) same its refl m there

    -- and from then on it writes nothing else
    keeping : (t : Masters) (event : MastersEvent) → AllStand facts planning t0 h t → WritesNothing which t event → (m : Seated) → IsAt t which m
        → (e : ManagerEvent) → IsAround e ⊎ (event ≡ At which e) → Keeps (plan_by_it planning facts) no_sets (seen_by t.scene m) e
    keeping t event all its m there e (inl (event_is, same)) =
        subst (Keeps (plan_by_it planning facts) no_sets (seen_by t.scene m)) (sym same) (around_keeps t all event_is)
    keeping t event all its m there e (inr same) =
        keeps_own (plan_by_it planning facts) (seen_by t.scene m) e (subst (WritesNothing which t) same its refl m there) (λ x is. around_keeps t all x)

  -- a sweep, some time later the writing, and what came behind it
  module _ (which : ℕ) (m0 : Seated) (at_first : IsAt t0 which m0) (before between after : List MastersEvent) where
    abbrev t1 : Masters
    t1 = after_masters_events before t0

    abbrev t2 : Masters
    t2 = after_masters_event (after_masters_events before t0) (At which one.Begin)

    abbrev t3 : Masters
    t3 = after_masters_events between (after_masters_event (after_masters_events before t0) (At which one.Begin))

    abbrev t4 : Masters
    t4 = after_masters_event (after_masters_events between (after_masters_event (after_masters_events before t0) (At which one.Begin))) (At which one.Write)

    abbrev t5 : Masters
    t5 = after_masters_events after (after_masters_event (after_masters_events between
        (after_masters_event (after_masters_events before t0) (At which one.Begin))) (At which one.Write))

    pub record Writes : Type 0 where
      pub can_before : AllCanBe before t0
      pub whole_before : AllSweepWhole before t0
      pub sweeper : Seated
      pub sweeper_there : IsAt t1 which sweeper
      pub sweeps : begin_fault sweeper.manager ≡ None
      pub nothing : cells_of sweeper.manager.store ≡ []
      pub can_begin : CanBe t1 (At which one.Begin)
      pub can_between : AllCanBe between t2
      pub whole_between : AllSweepWhole between t2
      pub alone : LearnNothingElse which between t2
      pub writer : Seated
      pub writer_there : IsAt t3 which writer
      pub writes : writing_fault writer.manager ≡ None
      pub can_write : CanBe t3 (At which one.Write)
      pub whole_write : SweepsWhole t3 (At which one.Write)
      pub can_after : AllCanBe after t4
      pub whole_after : AllSweepWhole after t4
      pub no_other : WriteNothing which after t4
      pub later : Seated
      pub later_there : IsAt t5 which later
      pub written : is_written later.manager ≡ true

    module _ (x : Writes) where
      abbrev plan : PlanValue
      plan = plan_by_it planning facts

      abbrev w0 : Managing
      w0 = seen_by t0.scene m0

      all1 : AllStand facts planning t0 h t1
      all1 = after_all facts planning t0 h before t0 (first_stand facts planning t0 h) x.can_before x.whole_before

      all2 : AllStand facts planning t0 h t2
      all2 = next facts planning t0 h t1 (At which one.Begin) all1 x.can_begin (λ m there. tt)

      all3 : AllStand facts planning t0 h t3
      all3 = after_all facts planning t0 h between t2 all2 x.can_between x.whole_between

      all4 : AllStand facts planning t0 h t4
      all4 = next facts planning t0 h t3 (At which one.Write) all3 x.can_write x.whole_write

      all5 : AllStand facts planning t0 h t5
      all5 = after_all facts planning t0 h after t4 all4 x.can_after x.whole_after

      -- its own run
      s1 : OwnRun t0 m0 t1 which
      s1 =
          ((all_run t0 h.starts plan before t0 (first_run t0 h.starts plan) x.can_before
          (all_sweep_before before t0 (first_stand facts planning t0 h) x.can_before x.whole_before)).each which m0 at_first).run

      o2 : OwnStep t1 which x.sweeper one.Begin
      o2 = own_step t1 which x.sweeper one.Begin x.sweeper_there

      s2 : Segment BeginsNoSweep t2 t3 which o2.next
      s2 =
          segment facts planning t0 h which BeginsNoSweep (λ event t. LearnsNothingElse which t event) (λ events t. LearnNothingElse which events t)
          (λ event events t all. all) (quiet which) between t2 all2 x.can_between x.whole_between x.alone o2.next o2.there

      o4 : OwnStep t3 which x.writer one.Write
      o4 = own_step t3 which x.writer one.Write x.writer_there

      s3 : Segment (Keeps plan no_sets) t4 t5 which o4.next
      s3 =
          segment facts planning t0 h which (Keeps plan no_sets) (λ event t. WritesNothing which t event) (λ events t. WriteNothing which events t)
          (λ event events t all. all) (keeping which) after t4 all4 x.can_after x.whole_after x.no_other o4.next o4.there

      -- the same manager
      e1 : after_manager_events s1.events w0 ≡ seen_by t1.scene x.sweeper
      e1 = s1.is ∙ ap (seen_by t1.scene) (same_Some _ _ (sym s1.there ∙ x.sweeper_there))

      e2 : after_manager_event (after_manager_events s1.events w0) one.Begin ≡ seen_by t2.scene o2.next
      e2 = ap (λ w. after_manager_event w one.Begin) e1 ∙ o2.is

      e3 : at_writing w0 s1.events s2.events ≡ seen_by t3.scene x.writer
      e3 = ap (after_manager_events s2.events) e2 ∙ s2.is ∙ ap (seen_by t3.scene) (same_Some _ _ (sym s2.there ∙ x.writer_there))

      e4 : at_first_steps w0 s1.events s2.events ≡ seen_by t4.scene o4.next
      e4 = ap (λ w. after_manager_event w one.Write) e3 ∙ o4.is

      e5 : at_end w0 s1.events s2.events s3.events ≡ seen_by t5.scene x.later
      e5 = ap (after_manager_events s3.events) e4 ∙ s3.is ∙ ap (seen_by t5.scene) (same_Some _ _ (sym s3.there ∙ x.later_there))

      -- at one seat
      seat_of : (t : Masters) → AllStand facts planning t0 h t → (m : Seated) → IsAt t which m → m.seat ≡ m0.seat
      seat_of t all m there =
          let old = all.seats.was which m there in
          sym old.2 ∙ ap (λ (y : Seated). y.seat) (same_Some _ _ (sym old.1 ∙ at_first))

      answered : (x.writer.knows_one_sweep ≡ true) × IsWholeSweep x.writer.manager.sweep
      answered = x.whole_write x.writer x.writer_there x.writes

      plan_is : plan_at (at_writing w0 s1.events s2.events) ≡ plan
      plan_is = ap plan_at e3 ∙ plans_the_same facts planning t0 h t3 all3 which x.writer x.writer_there answered.0 answered.1

      run : IsWritingRun w0 s1.events s2.events s3.events
      run =
          record {
            starts = h.starts.each which m0 at_first;
            before_can = s1.can_be;
            between_can = subst (λ p. All (one.CanBe p) s2.events) (seat_of t2 all2 o2.next o2.there) s2.can_be;
            after_can = subst (λ p. All (one.CanBe p) s3.events) (seat_of t4 all4 o4.next o4.there) s3.can_be;
            sweeps_first = s1.sweeps_first;
            sweep_begins = subst (λ (w : Managing). begin_fault w.manager ≡ None) (sym e1) x.sweeps;
            writing_begins = subst (λ (w : Managing). writing_fault w.manager ≡ None) (sym e3) x.writes;
            keep = subst (λ p. AllKeep p (own_sets w0 (at_writing w0 s1.events s2.events)) s3.events (at_first_steps w0 s1.events s2.events)) (sym plan_is)
                (subst (AllKeep plan (own_sets w0 (at_writing w0 s1.events s2.events)) s3.events) (sym e4)
                (all_keep_along plan (own_sets w0 (at_writing w0 s1.events s2.events)) s3.events (seen_by t4.scene o4.next) s3.along));
          }

      its_sweep : (o : Option Sweep) → IsWholeSweep o → (s : Sweep) × (o ≡ Some s) × IsWhole s
      its_sweep None whole = absurd whole
      its_sweep (Some s) whole = (s, refl, whole)

      -- what is joined to its seat holds the plan
      own_holds : HoldsPlan (IsJoinedTo (fabric_of t5.scene.fabric) m0.seat) plan (fabric_of t5.scene.fabric)
      own_holds =
          let (s, is, whole) = its_sweep x.writer.manager.sweep answered.1 in
          subst (λ p. HoldsPlan (IsJoinedTo (fabric_of t5.scene.fabric) m0.seat) p (fabric_of t5.scene.fabric)) plan_is
          (subst (λ (w : Managing). HoldsPlan (IsJoinedTo (fabric_of w.scene.fabric) m0.seat) (plan_at (at_writing w0 s1.events s2.events))
          (fabric_of w.scene.fabric)) e5
          (holds_it w0 s1.events s2.events s3.events
          (record {
            writes = record {
              run = run;
              knew_nothing = subst (λ (w : Managing). cells_of w.manager.store ≡ []) (sym e1) x.nothing;
              alone = subst (AreNoSweeps s2.events) (sym e2) s2.along;
            };
            sweep = s;
            is_last = ap (λ (w : Managing). w.manager.sweep) e3 ∙ is;
            whole = whole;
          })
          (subst (λ (w : Managing). is_written w.manager ≡ true) (sym e5) x.written)))

      pub all_hold : AllHold facts planning t5
      all_hold k n there =
          let start = t0.scene.fabric in
          let now = t5.scene.fabric in
          let along = all5.stands.traces.continues.fabric.along in
          let distinct = (h.starts.each which m0 at_first).distinct in
          holds_there (fabric_of now) plan (cells_of facts) (IsJoinedTo (fabric_of now) m0.seat) (IsJoinedTo (fabric_of now) n.seat)
          (λ i j a b one two same. distinct i j a b (nodes_stay start now along i a one) (nodes_stay start now along j b two) same)
          (agrees_along start now along m0.seat (cells_of facts) (h.agrees which m0 at_first))
          (agrees_along start now along n.seat (cells_of facts) (known facts planning t0 h n.seat (is_seat facts planning t0 h t5 all5 k n there)).agrees)
          own_holds

-- the law ----------------------------------------------------------------------------------------------------------------

module _ (facts : Facts) (planning : Planning) (t : Masters) (h : ShareLids facts planning t) (which : ℕ) (m0 : Seated) (at_first : IsAt t which m0)
    (after : List MastersEvent) where
  abbrev Held : List MastersEvent → Type 0
  Held before = AllCanBe (before ++ At which one.Write ∷ after) t → AllSweepWhole (before ++ At which one.Write ∷ after) t → HasWritten t before after which
      → AllHold facts planning (after_masters_events (before ++ At which one.Write ∷ after) t)

  -- where the manager's last sweep began
  by_sweep : (before : List MastersEvent) → (l : LearntFromOne t before which) → Held (l.swept.before ++ At which one.Begin ∷ l.swept.between)
  by_sweep some l can_be whole hw =
      let b = l.swept in
      let es = b.before ++ At which one.Begin ∷ b.between in
      let can_es = parts CanBe es (At which one.Write ∷ after) t can_be in
      let whole_es = parts SweepsWhole es (At which one.Write ∷ after) t whole in
      let can_b = parts CanBe b.before (At which one.Begin ∷ b.between) t can_es.0 in
      let whole_b = parts SweepsWhole b.before (At which one.Begin ∷ b.between) t whole_es.0 in
      let q = after_both b.before (At which one.Begin ∷ b.between) t in
      let end = after_both es (At which one.Write ∷ after) t ∙ ap (λ x. after_masters_events after (after_masters_event x (At which one.Write))) q in
      subst (AllHold facts planning) (sym end)
      (all_hold facts planning t h which m0 at_first b.before b.between after
      (record {
        can_before = can_b.0;
        whole_before = whole_b.0;
        sweeper = b.then;
        sweeper_there = b.there;
        sweeps = b.begins;
        nothing = l.knew_nothing;
        can_begin = can_b.1.0;
        can_between = can_b.1.1;
        whole_between = whole_b.1.1;
        alone = subst (LearnNothingElse which b.between) (after_both b.before (At which one.Begin ∷ []) t) l.alone;
        writer = hw.writer;
        writer_there = subst (λ x. IsAt x which hw.writer) q hw.there;
        writes = hw.begins;
        can_write = subst (λ x. CanBe x (At which one.Write)) q can_es.1.0;
        whole_write = subst (λ x. SweepsWhole x (At which one.Write)) q whole_es.1.0;
        can_after = subst (λ x. AllCanBe after (after_masters_event x (At which one.Write))) q can_es.1.1;
        whole_after = subst (λ x. AllSweepWhole after (after_masters_event x (At which one.Write))) q whole_es.1.1;
        no_other = subst (WriteNothing which after)
            (after_both es (At which one.Write ∷ []) t ∙ ap (λ x. after_masters_event x (At which one.Write)) q) hw.no_other;
        later = hw.later;
        later_there = subst (λ x. IsAt x which hw.later) end hw.there_later;
        written = hw.written;
      }))

  held_by : (before : List MastersEvent) → LearntFromOne t before which → Held before
  held_by before l = subst Held (sym l.swept.events_are) (by_sweep before l)

pub written_by_one_is_held : WrittenByOneIsHeld
written_by_one_is_held facts planning t before after which h can_be whole hw =
    let can_es = parts CanBe before (At which one.Write ∷ after) t can_be in
    let whole_es = parts SweepsWhole before (At which one.Write ∷ after) t whole in
    let (m0, at_first, seat) = (ends facts planning t h before can_es.0 whole_es.0).seats.was which hw.writer hw.there in
    let knows = (whole_es.1.0 hw.writer hw.there hw.begins).0 in
    held_by facts planning t h which m0 at_first after before
    ((knows_one_sweep_means t before which m0 hw.writer at_first (h.starts.none_swept which m0 at_first).1 hw.there).0 knows) can_be whole hw
