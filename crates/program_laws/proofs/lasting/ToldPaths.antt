-- The fabric holds the paths that a manager tells at its seat.
use Rattle.std.proofs.Common.{◌≡◌, ◌∙◌, Bool, true, false, cond, ◌&&◌, not, List, [], ◌∷◌, refl, sym, ap, subst}
use Rattle.std.proofs.lemmas.Bool.{and_parts, both_ways}
use Rattle.std.proofs.lemmas.List.Elements.{All-from_recursion}
use Rattle.std.proofs.lemmas.Option.{same_Some}
use Rattle.std.specs.Prelude.{ℕ, Contains, Option, Some, None, is_none}
use Rattle.smp_bytes.specs.Field.{bytes_in, number_in}
use Rattle.fabric_model.specs.Fabric.{Fabric, IsEndPort, IsFabric}
use Rattle.fabric_model.specs.FabricWalks.{IsJoinedTo}
use Rattle.fabric_sim.specs.Simulation.{fabric_of}
use Rattle.fact_store.specs.View.{cells_of}
use Rattle.subnet_view.specs.declared.end_port.EndPort.{EndPort}
use Rattle.subnet_view.specs.FabricAgreement.{AgreesOn, HasEndPort}
use Rattle.subnet_view.proofs.Apart.{contains_map}
use Rattle.subnet_view.proofs.EndPortList.{end_ports_law}
use Rattle.subnet_view.proofs.Covered.{covers}
use Rattle.lid_assign.specs.Lids.{lids, owner_of}
use Rattle.lid_assign.proofs.LidLaws.{lids_law}
use Rattle.lid_assign.proofs.Owners.{given-from_owner}
use Rattle.lft_blocks.specs.InForce.{HoldsPlan, IsInForceWithin}
use Rattle.lft_blocks.specs.Plan.{PlanValue, plan_of}
use Rattle.sweep.specs.Sweep.{Sweep}
use Rattle.sm_state.specs.Standing.{is_in}
use Rattle.sm_state.specs.declared.state.SmState.TheVariants.{Master}
use Rattle.sm_manager.specs.Manager.{Manager, swept_of}
use Rattle.sm_manager.specs.PlanFaults.{plan_fault}
use Rattle.sm_manager.specs.Writing.{is_written}
use Rattle.sa_bytes.specs.PathRecord.{path_record_in}
use Rattle.sa_bytes.specs.SaPacket.{component_mask, path_data}
use Rattle.sa_bytes.specs.declared.path_record.PathRecord.{PathRecord}
use Rattle.sa_answers.specs.PathReply.{source_said}
use Rattle.sa_answers.specs.Told.{Told}
use Rattle.sa_answers.proofs.Asked.{asked_owns, told_between}
use Rattle.sa_answers.proofs.HeldPaths.{paths_held}
use Rattle.sa_answers.proofs.ToldPaths.{paths_told}
use Rattle.acting_manager.specs.Acting.{Acting}
use Rattle.acting_manager.specs.Administration.{told_by, told_of}
use Rattle.acting_manager.specs.Planned.{planned}
use Rattle.acting_manager.specs.Working.{is_writing}
use Rattle.manager_laws.specs.KnownPart.{after_sweep}
use Rattle.manager_laws.specs.Managing.{CanBe, Managing}
use Rattle.manager_laws.specs.Scene.{Scene}
use Rattle.manager_laws.specs.Written.{at_end, at_writing}
use Rattle.manager_laws.proofs.Arrive.{IsServed}
use Rattle.manager_laws.proofs.KnownPart.{knows_its_part}
use Rattle.manager_laws.proofs.Rests.{new_managers_sweep_first}
use Rattle.manager_laws.specs.Sets.{OwnSets}
use Rattle.program_laws.specs.AnsweredPings.{WritesManaged}
use Rattle.program_laws.specs.Deciding.{Deciding, DecidingEvent, StandsFor, after_deciding_event, after_deciding_events}
use Rattle.program_laws.specs.ManagedPings.{AllKeepManaged, managed_at_end, managed_at_writing}
use Rattle.program_laws.specs.ManagedWritings.{NoneBegins, WritesOneSweep, managing_of}
use Rattle.program_laws.specs.SweepTime.{line_by}
use Rattle.program_laws.specs.ToldPaths.{PathsAreToldAtSeats, TellsManaged, ToldPathsArrive}
use Rattle.program_laws.specs.Wakes.{Line, after_line, after_lines, before_deciding}
use Rattle.program_laws.proofs.lasting.AnsweredWritings.{begun_manager}
use Rattle.program_laws.proofs.lasting.EventLines.{some_line}
use Rattle.program_laws.proofs.lasting.KeptPlans.{begun_kept, events_kept}
use Rattle.program_laws.proofs.lasting.StandingPings.{strict_whole}
use Rattle.program_laws.proofs.managed.Keeping.{begins_none}
use Rattle.program_laws.proofs.managed.OneSweeps.{Known, OneSweep, begins_known, runs_known}
use Rattle.program_laws.proofs.managed.Pinged.{ends, given, its_part, third, x}
use Rattle.program_laws.proofs.wakes.AtSeats.{event_acting}

-- what is told of ---------------------------------------------------------------------------------------------------------------

-- who tells of something keeps a plan, which stands, and is written
record Tells (a : Acting) (told : Told) : Type 0 where
  plan : PlanValue
  is_kept : a.kept ≡ Some plan
  stands : a.policy.written.stands ≡ true
  written : is_written a.manager ≡ true
  cells : told.cells ≡ cells_of a.manager.store
  is_plan : told.plan ≡ plan

tells : (a : Acting) (told : Told) → told_of a ≡ Some told → Tells a told
tells a told e = by_test (is_in Master a.manager.standing && (a.policy.written.stands && is_written a.manager)) refl e
  where
    by_parts : a.policy.written.stands ≡ true → is_written a.manager ≡ true → (s : Option Sweep) (kept : Option PlanValue) → a.kept ≡ kept
        → told_by a.manager s kept ≡ Some told → Tells a told
    by_parts stands written None kept is h = absurd (cc)
    by_parts stands written (Some s) None is h = absurd (cc)
    by_parts stands written (Some s) (Some plan) is h =
        let same = same_Some _ _ h in
        record {
          plan = plan;
          is_kept = is;
          stands = stands;
          written = written;
          cells = ap (λ (t : Told). t.cells) (sym same);
          is_plan = ap (λ (t : Told). t.plan) (sym same);
        }

    by_test : (b : Bool) → (is_in Master a.manager.standing && (a.policy.written.stands && is_written a.manager)) ≡ b
        → cond b (told_by a.manager (swept_of a.manager.sweep) a.kept) None ≡ Some told → Tells a told
    by_test false is h = absurd (cc)
    by_test true is h =
        let parts = and_parts (is_in Master a.manager.standing) (a.policy.written.stands && is_written a.manager) is in
        let rest = and_parts a.policy.written.stands (is_written a.manager) parts.1 in
        by_parts rest.0 rest.1 (swept_of a.manager.sweep) a.kept refl h

-- the plan of a manager's facts, if it has one
planned_is : (m : Manager) (plan : PlanValue) → planned m ≡ Some plan → plan ≡ plan_of m.planning.rule m.planning.lmc (cells_of m.store)
planned_is m plan e = by (is_none (plan_fault m.planning.lmc (cells_of m.store))) e
  where
    by : (b : Bool) → cond b (Some (plan_of m.planning.rule m.planning.lmc (cells_of m.store))) None ≡ Some plan
        → plan ≡ plan_of m.planning.rule m.planning.lmc (cells_of m.store)
    by true h = sym (same_Some _ _ h)
    by false h = absurd (cc)

-- the run ----------------------------------------------------------------------------------------------------------------------

all_none : (plan : PlanValue) (own : OwnSets) (events : List DecidingEvent) (d : Deciding) → AllKeepManaged plan own events d → NoneBegins events d
all_none plan own [] d keep = tt
all_none plan own (event ∷ events) d keep = (begins_none plan own d event keep.0, all_none plan own events (after_deciding_event d event) keep.1)

module _ (d : Deciding) (before : List DecidingEvent) (begins : DecidingEvent) (after : List DecidingEvent) (told : Told)
    (t : TellsManaged d before begins after told) where
  abbrev b : WritesManaged d before begins after
  b = t.writes

  abbrev now : Deciding
  now = managed_at_writing d before begins

  abbrev end : Deciding
  end = managed_at_end d before begins after

  abbrev f : Fabric
  f = fabric_of end.scene.fabric

  its : Tells end.acting told
  its = tells end.acting told t.tells

  abbrev one : WritesOneSweep (managing_of d) now
  one = x d before begins after b

  -- the writing ---------------------------------------------------------------------------------------------------------------

  part : IsServed (managing_of d) one.before one.between (third d before begins after b)
  part = its_part d before begins after b one.sweep one.is_last (strict_whole now.acting.policy one.sweep t.strict one.may) its.written

  stands : StandsFor (at_end (managing_of d) one.before one.between (third d before begins after b)) end
  stands = ends d before begins after b

  -- the manager as it began to write
  abbrev m : Manager
  m = (at_writing (managing_of d) one.before one.between).manager

  -- it keeps the plan of its facts then
  abbrev first : Deciding
  first = after_deciding_events before d

  parts : (not (is_writing first.acting.policy.activity) ≡ true) × (is_writing now.acting.policy.activity ≡ true)
  parts = and_parts (not (is_writing first.acting.policy.activity)) (is_writing now.acting.policy.activity) b.writes

  quiet : is_writing first.acting.policy.activity ≡ false
  quiet = by (is_writing first.acting.policy.activity) parts.0
    where
      by : (c : Bool) → not c ≡ true → c ≡ false
      by false e = refl
      by true e = absurd (cc)

  line : (l : Line) × (line_by first begins ≡ l ∷ [])
  line =
      some_line first begins
      (λ same. both_ways (is_writing first.acting.policy.activity) quiet (ap (λ (a : Acting). is_writing a.policy.activity) (sym same) ∙ parts.1))

  line_is : after_line line.0 first.acting ≡ now.acting
  line_is = sym (event_acting first begins ∙ ap (λ ls. after_lines ls first.acting) line.1)

  abbrev y : Acting
  y = before_deciding line.0 first.acting

  begins_then : is_writing (after_line line.0 first.acting).policy.activity ≡ true
  begins_then = ap (λ (a : Acting). is_writing a.policy.activity) line_is ∙ parts.1

  kept_is : planned y.manager ≡ Some its.plan
  kept_is =
      sym (begun_kept line.0 first.acting quiet begins_then) ∙ ap (λ (a : Acting). a.kept) line_is
      ∙ sym (events_kept after now (all_none _ _ after now b.keep)) ∙ its.is_kept

  abbrev plan_by : Manager → PlanValue
  plan_by n = plan_of n.planning.rule n.planning.lmc (cells_of n.store)

  plan_is : told.plan ≡ plan_by m
  plan_is =
      its.is_plan ∙ planned_is y.manager its.plan kept_is
      ∙ ap plan_by (sym (begun_manager line.0 first.acting quiet begins_then) ∙ ap (λ (a : Acting). a.manager) line_is ∙ given d before begins after b)

  -- the last sweep ----------------------------------------------------------------------------------------------------------------

  known : Known (managing_of d) end
  known =
      runs_known (managing_of d) first (begins ∷ after) (b.begins_can, b.after_can)
      (runs_known (managing_of d) d before b.before_can (begins_known d b.new))

  swept : OneSweep (managing_of d) known.at
  swept = known.stood its.stands

  abbrev at : Managing
  at = after_sweep (managing_of d) swept.before swept.between

  agrees : AgreesOn (IsJoinedTo f d.seat) told.cells f
  agrees =
      subst (λ cells. AgreesOn (IsJoinedTo f d.seat) cells f) (sym its.cells)
      (subst (λ (n : Manager). AgreesOn (IsJoinedTo f d.seat) (cells_of n.store) f) (ap (λ (v : Managing). v.manager) swept.leads ∙ known.stands.manager)
      (subst (λ (scene : Scene). AgreesOn (IsJoinedTo (fabric_of scene.fabric) d.seat) (cells_of at.manager.store) (fabric_of scene.fabric))
      (ap (λ (v : Managing). v.scene) swept.leads ∙ known.stands.scene)
      (knows_its_part (managing_of d) swept.before swept.between (record {
        starts = b.starts;
        before_can = All-from_recursion (CanBe d.seat) swept.before swept.before_can;
        between_can = All-from_recursion (CanBe d.seat) swept.between swept.between_can;
        sweeps_first = new_managers_sweep_first b.new.port_guid b.new.port b.new.priority b.new.conduct b.new.planning (managing_of d) swept.before
            (ap (λ (a : Acting). a.manager) b.new.acting);
        sweep_begins = swept.sweep_begins;
        knew_nothing = swept.knew_nothing;
        alone = swept.alone;
        sweep = t.sweep;
        is_last = ap (λ (v : Managing). v.manager.sweep) swept.leads ∙ ap (λ (n : Manager). n.sweep) known.stands.manager ∙ t.is_last;
        whole = t.whole;
      }))))

  -- the plan is in force -------------------------------------------------------------------------------------------------------------

  abbrev last : Managing
  last = at_end (managing_of d) one.before one.between (third d before begins after b)

  fabric_is : fabric_of last.scene.fabric ≡ f
  fabric_is = ap (λ (scene : Scene). fabric_of scene.fabric) stands.scene

  in_force : IsInForceWithin (IsJoinedTo f d.seat) told.cells told.plan f
  in_force =
      record {
        is_fabric = subst IsFabric fabric_is part.is_fabric;
        covers = covers agrees;
        holds = subst (λ (plan : PlanValue). HoldsPlan (IsJoinedTo f d.seat) plan f) (sym plan_is)
            (subst (λ (g : Fabric). HoldsPlan (IsJoinedTo g d.seat) (plan_by m) g) fabric_is part.holds);
      }

  origin : IsEndPort f d.seat
  origin = subst (λ (g : Fabric). IsEndPort g d.seat) fabric_is part.origin

  planned_agrees : AgreesOn (IsJoinedTo f d.seat) (cells_of m.store) f
  planned_agrees = subst (λ (g : Fabric). AgreesOn (IsJoinedTo g d.seat) (cells_of m.store) g) fabric_is part.agrees

  -- an end port that has a LID of the plan is one of the part
  owner_there : (lid : ℕ) (e : EndPort) → owner_of told.plan.given lid ≡ Some e → HasEndPort (IsJoinedTo f d.seat) f e.node e.port
  owner_there lid e owned =
      let given = lids m.planning.lmc (cells_of m.store) in
      let owned_then : owner_of given lid ≡ Some e = ap (λ (p : PlanValue). owner_of p.given lid) (sym plan_is) ∙ owned in
      let its = given-from_owner given e lid owned_then in
      let mapped = contains_map (λ (z : EndPort × ℕ). z.0) given.ports (e, its.0) its.1 in
      let listed = subst (λ (es : List EndPort). Contains es e) (lids_law m.planning.lmc m.store part.has_room).end_ports_in_order mapped in
      planned_agrees.end_ports_exist e.node e.port (((end_ports_law m.store).0 e).0 listed)

pub told_paths_arrive : ToldPathsArrive
told_paths_arrive d before begins after told t request path e =
    let n = m d before begins after told t in
    let mask = number_in component_mask request in
    let asked = path_record_in (bytes_in path_data request) in
    let between = told_between told request path e in
    let room = (part d before begins after told t).has_room in
    let given = ap (λ (p : PlanValue). p.given) (plan_is d before begins after told t) in
    let owned : owner_of told.plan.given between.slid ≡ Some between.source =
    asked_owns told n.planning.lmc n.store room given (source_said mask asked) between.source between.slid between.source_is in
    let owned_then : owner_of told.plan.given path.slid ≡ Some between.source =
    ap (λ (p : PathRecord). owner_of told.plan.given p.slid) between.made.path_is ∙ owned in
    paths_held told n.planning.rule n.planning.lmc n.store room (plan_is d before begins after told t) (f d before begins after told t) d.seat
    (origin d before begins after told t) (in_force d before begins after told t) request path e between.source owned_then
    (owner_there d before begins after told t between.slid between.source owned)

pub paths_are_told_at_seats : PathsAreToldAtSeats
paths_are_told_at_seats d before begins after told t request source target slid dlid asks =
    let n = m d before begins after told t in
    paths_told (record {
      told = told;
      rule = n.planning.rule;
      lmc = n.planning.lmc;
      planned = n.store;
      has_room = (part d before begins after told t).has_room;
      plan_is = plan_is d before begins after told t;
      fabric = f d before begins after told t;
      origin = d.seat;
      is_origin = origin d before begins after told t;
      covers = covers (planned_agrees d before begins after told t);
      in_force = in_force d before begins after told t;
      source = source;
      target = target;
      from = owner_there d before begins after told t slid source asks.from.owned;
      to = owner_there d before begins after told t dlid target asks.to.owned;
      slid = slid;
      dlid = dlid;
      request = request;
      asks = asks;
    })
