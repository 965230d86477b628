-- Two managers that sweep and write at once: each at an adapter, on a switch to which both are wired, and each silent to the other.
use Rattle.std.proofs.Common.{◌≡◌, ◌≢◌, ℕ, zero, suc, ◌+◌, ◌*◌, ◌^◌, Bool, true, false, List, [], ◌∷◌, ◌++◌, length, append_assoc}
use Rattle.std.proofs.Common.{refl, sym, ap, ◌∙◌, subst, arith}
use Rattle.std.proofs.lemmas.Bool.{and_parts}
use Rattle.std.proofs.lemmas.Option.{same_Some}
use Rattle.std.specs.Prelude.{if◌then◌else◌, Option, Some, None, is_none, max, slice_get, slice_index_or, slice_set, ◌==◌, ◌&&◌}
use Rattle.fabric_model.specs.declared.cable.NodePort.{NodePort}
use Rattle.smp_bytes.specs.Field.{with_bytes}
use Rattle.node_agents.specs.Agent.{fresh_agent}
use Rattle.node_agents.specs.Answers.{after_answer, get_of, set_of}
use Rattle.node_agents.specs.PortInfo.{changed_port}
use Rattle.smp_bytes.specs.declared.node_type.NodeType.TheVariants.{ChannelAdapter, Switch}
use Rattle.reply_facts.specs.declared.key.Key.TheVariants.{Node as NodeKey, PortGuid, Link, Port as PortKey, Claim, Cap}
use Rattle.reply_facts.specs.declared.value.Value.TheVariants.{Kind, Guid, Peer, Up, Lid, Count}
use Rattle.reply_facts.specs.Report.{Sightings}
use Rattle.fact_store.specs.View.{cells_of, no_facts}
use Rattle.subnet_view.specs.FabricAgreement.{AgreesOn, Part}
use Rattle.subnet_view.specs.Reading.{Cells}
use Rattle.lft_blocks.specs.InForce.{HoldsPlan}
use Rattle.plan_steps.specs.Phase.{Phase}
use Rattle.sm_manager.specs.Writing.{begun_with, is_written}
use Rattle.lft_blocks.specs.Plan.{plan_of}
use Rattle.lft_blocks.specs.Rule.{up_and_down}
use Rattle.fabric_model.specs.FabricWalks.{IsJoinedTo}
use Rattle.fabric_sim.specs.Simulation.{fabric_of}
use Rattle.fabric_sim.specs.Delivery.{after_deliver}
use Rattle.fabric_sim.specs.PacketOutcome.{outcome_of}
use Rattle.fabric_sim.specs.Changes.{after_inject, after_lose, cabled_at}
use Rattle.sm_manager.specs.declared.fault.ManagerFault.{ManagerFault}
use Rattle.sm_manager.specs.PlanFaults.{writing_fault}
use Rattle.sm_manager.specs.Manager.{Manager, begin_fault, newest_held}
use Rattle.manager_laws.specs.Scene.{Deliver, Lose, Repeat}
use Rattle.manager_laws.specs.Managing as one
use Rattle.manager_laws.specs.Managing.{Managing, Starts, after_manager_event}
use Rattle.manager_laws.proofs.Computed.{one as told}
use Rattle.manager_laws.proofs.NewManagers as managers
use Rattle.manager_laws.proofs.BringUpEvents.{there_and_back}
use Rattle.manager_laws.proofs.NewManagers.{HasSwept}
use Rattle.manager_laws.proofs.ExampleFabric.{port}
use Rattle.manager_laws.proofs.Generations.{nothing_found, nothing_newest}
use Rattle.manager_laws.proofs.takeover.Example as alone
use Rattle.manager_laws.proofs.takeover.Example.{its_planning}
use Rattle.manager_laws.specs.Takeover.{plan_by_it}
use Rattle.manager_laws.proofs.takeover.ExampleFabric.{distinct, is_network, network}
use Rattle.manager_laws.specs.Masters.{AllCanBe, Around, At, CanBe, IsAt, IsItsOwn, IsWholeSweep, Masters, MastersEvent, Seated, StartTogether}
use Rattle.manager_laws.specs.Masters.{WritesWhole, acting, after_masters_event, after_masters_events, seated_after, seen_by}
use Rattle.manager_laws.specs.StaysInForce.{AllHold, AllSweepWhole, HasWritten, ShareLids, MastersWriteAtOnce, SomeMastersWriteAtOnce, SweepsWhole, WriteNothing, WritesNothing}
use Rattle.manager_laws.proofs.masters.Known.{after_both}
use Rattle.manager_laws.proofs.masters.SameParts.{IsAtSwitch, agrees_too, joined_too}
use Rattle.manager_laws.proofs.masters.Together.{set_elsewhere}
use Rattle.sm_state.specs.declared.conduct.Conduct.TheVariants.{Plain, Live}
use Rattle.sm_state.specs.declared.conduct.Conduct.{Conduct}

-- a manager of a port GUID at port 1 of a node
abbrev pub seated : ℕ → Manager → Bool → Seated
seated node m swept = record { seat = port node 1; manager = m; out = []; has_swept = swept; knows_one_sweep = swept }

-- what happens ---------------------------------------------------------------------------------------------------------

-- a request of a manager, and its answer
abbrev trip : ℕ → ℕ → ℕ → ℕ → ℕ → List MastersEvent
trip which number hops serial heard =
    At which one.Take ∷ At which (one.Send number) ∷ there_and_back Around hops serial (At which (one.Hear heard) ∷ [])

-- first of the one and then of the other
abbrev trips : ℕ → ℕ → List MastersEvent
trips number hops = trip 0 number hops (4 * number) (2 * number) ++ trip 1 number hops (4 * number + 2) (2 * number + 1)

-- the last request of each goes to the other; it is lost, and given up
abbrev gives_up : ℕ → ℕ → List MastersEvent
gives_up which serial = At which one.Take ∷ At which (one.Send 9) ∷ Around (Lose serial) ∷ At which (one.TimeOut (2 ^ 32 + 10)) ∷ []

abbrev pub answering : List MastersEvent
answering =
    trips 0 0 ++ (trips 1 0 ++ (trips 2 1 ++ (trips 3 1 ++ (trips 4 1 ++ (trips 5 1 ++ (trips 6 1 ++ (trips 7 2 ++ (trips 8 2
    ++ (gives_up 0 36 ++ gives_up 1 37)))))))))

abbrev pub begins : List MastersEvent
begins = At 0 one.Begin ∷ At 1 one.Begin ∷ []

abbrev pub sweeping : List MastersEvent
sweeping = At 0 one.Begin ∷ At 1 one.Begin ∷ answering

-- each sends a step, of the one and then of the other
abbrev steps : ℕ → ℕ → ℕ → ℕ → ℕ → List MastersEvent
steps number hops other_hops serial heard = trip 0 number hops serial heard ++ trip 1 number other_hops (serial + 2) (heard + 1)

-- the LIDs of three ports, the switch's block, and its top
abbrev pub writing : List MastersEvent
writing = steps 10 0 2 38 18 ++ (steps 11 1 1 42 20 ++ (steps 12 2 0 46 22 ++ (steps 13 1 1 50 24 ++ steps 14 1 1 54 26)))

-- what their sweeps end with -------------------------------------------------------------------------------------------

record HasAnswers (replies : List Sightings) (m : Seated) : Type 0 where
  pub swept : HasSwept its_planning replies m.manager
  pub knows : m.knows_one_sweep ≡ true

-- the other one from its side
abbrev replies : List Sightings
replies =
    (told (NodeKey 48) (Kind ChannelAdapter 1) ∷ told (PortGuid 48 1) (Guid 49) ∷ [])
    ∷ (told (PortKey 48 1) (Up true) ∷ told (Claim 48 1) (Lid 7) ∷ [])
    ∷ (told (NodeKey 32) (Kind Switch 2) ∷ told (PortGuid 32 0) (Guid 32) ∷ told (Link 32 2) (Peer 48 1) ∷ told (Link 48 1) (Peer 32 2) ∷ [])
    ∷ (told (Cap 32) (Count 64) ∷ [])
    ∷ (told (PortKey 32 0) (Up true) ∷ told (Claim 32 0) (Lid 5) ∷ [])
    ∷ (told (PortKey 32 1) (Up true) ∷ told (Claim 32 1) (Lid 0) ∷ [])
    ∷ (told (PortKey 32 2) (Up true) ∷ told (Claim 32 2) (Lid 0) ∷ [])
    ∷ (told (NodeKey 16) (Kind ChannelAdapter 1) ∷ told (PortGuid 16 1) (Guid 17) ∷ told (Link 16 1) (Peer 32 1) ∷ told (Link 32 1) (Peer 16 1) ∷ [])
    ∷ (told (PortKey 16 1) (Up true) ∷ told (Claim 16 1) (Lid 2) ∷ []) ∷ []

-- what may happen ------------------------------------------------------------------------------------------------------

-- nobody else sends, and a manager does nothing but begin a sweep, send and hear, and give requests up
abbrev is_plain : MastersEvent → Bool
is_plain (Around (Deliver n)) = true
is_plain (Around (Lose n)) = true
is_plain (Around (Repeat n)) = true
is_plain (At which one.Begin) = true
is_plain (At which one.Take) = true
is_plain (At which (one.Send number)) = true
is_plain (At which (one.Hear number)) = true
is_plain (At which (one.TimeOut transaction)) = true
is_plain event = false

abbrev are_plain : List MastersEvent → Bool
are_plain [] = true
are_plain (event ∷ events) = is_plain event && are_plain events

abbrev May : Masters → MastersEvent → Type 0
May t event = CanBe t event × SweepsWhole t event

abbrev AllMay : List MastersEvent → Masters → Type 0
AllMay events t = AllCanBe events t × AllSweepWhole events t

plain_may : (t : Masters) (event : MastersEvent) → is_plain event ≡ true → May t event
plain_may t (Around (Deliver n)) e = ((tt, λ which m there. tt), tt)
plain_may t (Around (Lose n)) e = ((tt, λ which m there. tt), tt)
plain_may t (Around (Repeat n)) e = ((tt, λ which m there. tt), tt)
plain_may t (At which one.Begin) e = (λ m there. (tt, tt), λ m there. tt)
plain_may t (At which one.Take) e = (λ m there. (tt, tt), λ m there. tt)
plain_may t (At which (one.Send number)) e = (λ m there. (tt, tt), λ m there. tt)
plain_may t (At which (one.Hear number)) e = (λ m there. (tt, tt), λ m there. tt)
plain_may t (At which (one.TimeOut transaction)) e = (λ m there. (tt, tt), λ m there. tt)
plain_may t event e = absurd (cc)

all_plain_may : (events : List MastersEvent) (t : Masters) → are_plain events ≡ true → AllMay events t
all_plain_may [] t e = (tt, tt)
all_plain_may (event ∷ events) t e =
    let parts = and_parts (is_plain event) (are_plain events) e in
    let now = plain_may t event parts.0 in
    let later = all_plain_may events (after_masters_event t event) parts.1 in
    ((now.0, later.0), (now.1, later.1))

-- and so begins no writing
plain_writes_nothing : (which : ℕ) (events : List MastersEvent) (t : Masters) → are_plain events ≡ true → WriteNothing which events t
plain_writes_nothing which [] t e = tt
plain_writes_nothing which (event ∷ events) t e =
    let parts = and_parts (is_plain event) (are_plain events) e in
    (by_event event parts.0, plain_writes_nothing which events (after_masters_event t event) parts.1)
  where
    by_event : (event : MastersEvent) → is_plain event ≡ true → WritesNothing which t event
    by_event (Around event) e = tt
    by_event (At other one.Begin) e = λ same m there. tt
    by_event (At other one.Take) e = λ same m there. tt
    by_event (At other (one.Send number)) e = λ same m there. tt
    by_event (At other (one.Hear number)) e = λ same m there. tt
    by_event (At other (one.TimeOut transaction)) e = λ same m there. tt
    by_event event e = absurd (cc)

may_append : (es fs : List MastersEvent) (t : Masters) → AllMay es t → AllMay fs (after_masters_events es t) → AllMay (es ++ fs) t
may_append [] fs t now later = later
may_append (e ∷ es) fs t now later =
    let rest = may_append es fs (after_masters_event t e) (now.0.1, now.1.1) later in
    ((now.0.0, rest.0), (now.1.0, rest.1))

-- a manager writes whose sweep has every answer
answers_may : (t : Masters) (which : ℕ) (m : Seated) (replies : List Sightings) → IsAt t which m → HasAnswers replies m → May t (At which one.Write)
answers_may t which m replies there has = (
  λ n at. subst (λ (x : Seated). IsItsOwn one.Write × one.CanBe x.seat one.Write) (same_Some _ _ (sym there ∙ at))
      (tt, tt),
  λ n at. subst (λ (x : Seated). WritesWhole x one.Write) (same_Some _ _ (sym there ∙ at))
      (λ none. (has.knows, subst IsWholeSweep (sym (managers.sweep_is its_planning replies m.manager has.swept)) has.swept.whole)),
)

-- how they write -------------------------------------------------------------------------------------------------------

-- a manager whose writing by these phases has begun
abbrev writer : Seated → List Phase → Seated
writer m phases = record m { manager = begun_with m.manager phases }

-- as it writes
writes_at : (t : Masters) (which : ℕ) (m : Seated) (phases : List Phase) → IsAt t which m
    → after_manager_event (seen_by t.scene m) one.Write ≡ record (seen_by t.scene m) { manager = begun_with m.manager phases }
    → after_masters_event t (At which one.Write) ≡ record { scene = t.scene; managers = slice_set t.managers which (writer m phases) }
writes_at t which m phases there is =
    ap (acting t which one.Write) there
    ∙ ap (λ (w : Managing). record { scene = w.scene; managers = slice_set t.managers which (seated_after m one.Write w) }) is

-- both are there
two_there : (xs : List Seated) (a b c d : Seated) → slice_get xs 0 ≡ Some a → slice_get xs 1 ≡ Some b → length xs ≡ 2
    → slice_set (slice_set xs 0 c) 1 d ≡ c ∷ d ∷ []
two_there [] a b c d first second two = absurd (cc)
two_there (x ∷ []) a b c d first second two = absurd (omega (arith, two))
two_there (x ∷ (y ∷ [])) a b c d first second two = refl
two_there (x ∷ (y ∷ (z ∷ xs))) a b c d first second two = absurd (omega (arith, two))

-- where they are -------------------------------------------------------------------------------------------------------

-- ports of two nodes
two_nodes : (i j p q : ℕ) → i ≢ j → port i p ≢ port j q
two_nodes i j p q other same = other (ap (λ (x : NodePort). x.node) same)

first_at_switch : IsAtSwitch (fabric_of network) (port 0 1) (port 1 0)
unfolding cabled_at fresh_agent
first_at_switch =
    record { adapter = refl; into = port 1 1; cable = refl; back = refl; vertex = refl; different = two_nodes 0 1 1 1 (λ e. omega (arith, e)); is_switch = refl }

second_at_switch : IsAtSwitch (fabric_of network) (port 2 1) (port 1 0)
unfolding cabled_at fresh_agent
second_at_switch =
    record { adapter = refl; into = port 1 2; cable = refl; back = refl; vertex = refl; different = two_nodes 2 1 1 2 (λ e. omega (arith, e)); is_switch = refl }

agrees_second : AgreesOn (IsJoinedTo (fabric_of network) (port 2 1)) (cells_of alone.swept.manager.store) (fabric_of network)
agrees_second =
    agrees_too (fabric_of network) (IsJoinedTo (fabric_of network) (port 0 1)) (IsJoinedTo (fabric_of network) (port 2 1))
    (joined_too (fabric_of network) (port 0 1) (port 2 1) (port 1 0) first_at_switch second_at_switch)
    (joined_too (fabric_of network) (port 2 1) (port 0 1) (port 1 0) second_at_switch first_at_switch)
    (cells_of alone.swept.manager.store) alone.agrees

-- each end port that there is holds it
holds_by : (part : Part) → HoldsPlan part (plan_by_it its_planning alone.swept.manager.store) (fabric_of network)
holds_by part =
    subst (λ c. HoldsPlan part (plan_of up_and_down 0 c) (fabric_of network)) (sym alone.known_is)
    (alone.holds_in part)

-- two managers of a conduct --------------------------------------------------------------------------------------------

module _ (conduct : Conduct) where
  abbrev pub fresh : ℕ → Manager
  fresh guid = managers.fresh guid conduct its_planning

  abbrev pub beginning : Masters
  beginning = record { scene = record { fabric = network; handed = [] }; managers = seated 0 (fresh 17) false ∷ seated 2 (fresh 49) false ∷ [] }

  -- as it is when its first sweep has begun
  abbrev pub sweeper : ℕ → ℕ → Manager
  sweeper guid generation = managers.sweeper guid conduct its_planning generation

  abbrev pub sweeping_both : Masters
  sweeping_both =
      record { scene = record { fabric = network; handed = [] }; managers = seated 0 (sweeper 17 1) true ∷ seated 2 (sweeper 49 1) true ∷ [] }

  abbrev pub swept : Masters
  swept = after_masters_events answering sweeping_both

  abbrev pub seated_at : ℕ → Seated
  seated_at which = slice_index_or swept.managers which (seated 0 (fresh 17) false)

  may_begin : (guid : ℕ) → begin_fault (fresh guid) ≡ None
  may_begin guid = managers.may_begin guid conduct its_planning

  -- by what forbids their sweeps, and what is known at first
  abbrev begun_at : ℕ → Manager → Manager → Option ManagerFault → Cells → Seated
  begun_at node before after o known =
      record {
        seat = port node 1;
        manager = if is_none o then after else before;
        out = [];
        has_swept = if is_none o then true else false;
        knows_one_sweep = if is_none o then length known == 0 else false;
      }

  abbrev begun_by : Option ManagerFault → Option ManagerFault → Cells → ℕ → Masters
  begun_by o q known newest =
      record {
        scene = record { fabric = network; handed = [] };
        managers = begun_at 0 (fresh 17) (sweeper 17 (max (newest + 1) 1)) o known
            ∷ begun_at 2 (fresh 49) (sweeper 49 (max (newest + 1) 1)) q known
            ∷ [];
      }

  begun : after_masters_events (At 0 one.Begin ∷ At 1 one.Begin ∷ []) beginning ≡ sweeping_both
  begun =
      (λ j. begun_by (may_begin 17 j) (may_begin 49 j) (cells_of no_facts) (newest_held no_facts))
      ∙ (λ j. begun_by None None (nothing_found j) (nothing_newest j))

  -- each by the phases of its plan
  abbrev first_phases : List Phase
  first_phases = managers.phases_then its_planning alone.replies (seated_at 0).manager

  abbrev second_phases : List Phase
  second_phases = managers.phases_then its_planning replies (seated_at 1).manager

  abbrev both_writing : Masters
  both_writing = record { scene = swept.scene; managers = writer (seated_at 0) first_phases ∷ writer (seated_at 1) second_phases ∷ [] }

  abbrev pub ended : Masters
  ended = after_masters_events writing both_writing

  abbrev ended_at : ℕ → Seated
  ended_at which = slice_index_or ended.managers which (seated 0 (fresh 17) false)

  record HasEnded (which : ℕ) : Type 0 where
    pub there : IsAt ended which (ended_at which)
    pub written : is_written (ended_at which).manager ≡ true

  -- what is computed of the run
  record Computed : Type 0 where
    pub first_answers : HasAnswers alone.replies (seated_at 0)
    pub second_answers : HasAnswers replies (seated_at 1)
    pub first_at : IsAt swept 0 (seated_at 0)
    pub second_at : IsAt swept 1 (seated_at 1)
    pub two_managers : length swept.managers ≡ 2
    pub first_ends : HasEnded 0
    pub second_ends : HasEnded 1

  starts_first : Starts (seen_by beginning.scene (seated 0 (fresh 17) false))
  unfolding cabled_at fresh_agent
  starts_first = managers.new_starts 17 conduct its_planning network 0 is_network refl distinct refl (omega arith)

  starts_second : Starts (seen_by beginning.scene (seated 2 (fresh 49) false))
  unfolding cabled_at fresh_agent
  starts_second = managers.new_starts 49 conduct its_planning network 2 is_network refl distinct refl (omega arith)

  -- of one of two
  by_two : (P : ℕ → Seated → Type 0) → P 0 (seated 0 (fresh 17) false) → P 1 (seated 2 (fresh 49) false) → (which : ℕ) (m : Seated)
      → IsAt beginning which m → P which m
  by_two P one two zero m there = subst (P 0) (same_Some _ _ there) one
  by_two P one two (suc zero) m there = subst (P 1) (same_Some _ _ there) two
  by_two P one two (suc (suc which)) m there = absurd (cc)

  start : StartTogether beginning
  start =
      record {
        quiet = starts_second.quiet;
        each = by_two (λ which m. Starts (seen_by beginning.scene m)) starts_first starts_second;
        none_swept = by_two (λ which m. (m.has_swept ≡ false) × (m.knows_one_sweep ≡ false)) (refl, refl) (refl, refl);
        apart = λ which other m n one two same.
            by_two (λ k x. (j : ℕ) (y : Seated) → IsAt beginning j y → x.seat ≡ y.seat → k ≡ j)
            (by_two (λ j y. port 0 1 ≡ y.seat → 0 ≡ j) (λ e. refl) (λ e. absurd (two_nodes 0 2 1 1 (λ k. omega (arith, k)) e)))
            (by_two (λ j y. port 2 1 ≡ y.seat → 1 ≡ j) (λ e. absurd (two_nodes 2 0 1 1 (λ k. omega (arith, k)) e)) (λ e. refl)) which m one other n two same;
      }

  hold : AllHold alone.swept.manager.store its_planning beginning
  hold =
      by_two (λ which m. HoldsPlan (IsJoinedTo (fabric_of network) m.seat) (plan_by_it its_planning alone.swept.manager.store) (fabric_of network))
      (holds_by (IsJoinedTo (fabric_of network) (port 0 1))) (holds_by (IsJoinedTo (fabric_of network) (port 2 1)))

  pub share : ShareLids alone.swept.manager.store its_planning beginning
  share =
      record {
        starts = start;
        has_room = alone.has_room;
        plans = by_two (λ which m. m.manager.planning ≡ its_planning) refl refl;
        agrees = by_two (λ which m. AgreesOn (IsJoinedTo (fabric_of network) m.seat) (cells_of alone.swept.manager.store) (fabric_of network))
            alone.agrees agrees_second;
        lids = λ which m there q node is. (hold which m there q node is).lids;
      }

  module _ (computed : Computed) where
    first_writes : writing_fault (seated_at 0).manager ≡ None
    first_writes = managers.may_write its_planning alone.replies (seated_at 0).manager computed.first_answers.swept

    second_writes : writing_fault (seated_at 1).manager ≡ None
    second_writes = managers.may_write its_planning replies (seated_at 1).manager computed.second_answers.swept

    swept_is : after_masters_events sweeping beginning ≡ swept
    swept_is = ap (after_masters_events answering) begun

    -- the one writes, and the other one is as it was
    abbrev first_writing : Masters
    first_writing = after_masters_event swept (At 0 one.Write)

    second_still : IsAt first_writing 1 (seated_at 1)
    second_still = by_first (slice_get swept.managers 0)
      where
        by_first : (o : Option Seated) → IsAt (acting swept 0 one.Write o) 1 (seated_at 1)
        by_first None = computed.second_at
        by_first (Some m) =
            set_elsewhere swept.managers 0 1 (seated_after m one.Write (after_manager_event (seen_by swept.scene m) one.Write)) (λ e. cc) ∙ computed.second_at

    both_write : after_masters_event (after_masters_event swept (At 0 one.Write)) (At 1 one.Write)
        ≡ record { scene = swept.scene; managers = slice_set (slice_set swept.managers 0 (writer (seated_at 0) first_phases)) 1 (writer (seated_at 1) second_phases) }
    both_write =
        ap (λ t. after_masters_event t (At 1 one.Write))
        (writes_at swept 0 (seated_at 0) first_phases computed.first_at
        (managers.writes its_planning alone.replies (seen_by swept.scene (seated_at 0)) computed.first_answers.swept))
        ∙ writes_at (record { scene = swept.scene; managers = slice_set swept.managers 0 (writer (seated_at 0) first_phases) }) 1 (seated_at 1) second_phases
        (set_elsewhere swept.managers 0 1 (writer (seated_at 0) first_phases) (λ e. absurd (omega (arith, e))) ∙ computed.second_at)
        (managers.writes its_planning replies (seen_by swept.scene (seated_at 1)) computed.second_answers.swept)

    writing_is : after_masters_events (At 0 one.Write ∷ At 1 one.Write ∷ []) swept ≡ both_writing
    writing_is =
        both_write
        ∙ ap (λ ms. record { scene = swept.scene; managers = ms })
        (two_there swept.managers (seated_at 0) (seated_at 1) (writer (seated_at 0) first_phases) (writer (seated_at 1) second_phases) computed.first_at computed.second_at
        computed.two_managers)

    all_may : AllMay (sweeping ++ At 0 one.Write ∷ At 1 one.Write ∷ writing) beginning
    all_may =
        may_append sweeping (At 0 one.Write ∷ At 1 one.Write ∷ writing) beginning (all_plain_may sweeping beginning refl)
        (subst (AllMay (At 0 one.Write ∷ At 1 one.Write ∷ writing)) (sym swept_is) writes)
      where
        writes : AllMay (At 0 one.Write ∷ At 1 one.Write ∷ writing) swept
        writes =
            let first = answers_may swept 0 (seated_at 0) alone.replies computed.first_at computed.first_answers in
            let second = answers_may first_writing 1 (seated_at 1) replies second_still computed.second_answers in
            let later = all_plain_may writing (after_masters_event first_writing (At 1 one.Write)) refl in
            ((first.0, (second.0, later.0)), (first.1, (second.1, later.1)))

    ended_is : after_masters_events (sweeping ++ At 0 one.Write ∷ At 1 one.Write ∷ writing) beginning ≡ ended
    ended_is =
        after_both sweeping (At 0 one.Write ∷ At 1 one.Write ∷ writing) beginning
        ∙ ap (after_masters_events (At 0 one.Write ∷ At 1 one.Write ∷ writing)) swept_is
        ∙ ap (after_masters_events writing) writing_is

    after_first : after_masters_events (sweeping ++ At 0 one.Write ∷ []) beginning ≡ first_writing
    after_first = after_both sweeping (At 0 one.Write ∷ []) beginning ∙ ap (λ t. after_masters_event t (At 0 one.Write)) swept_is

    first_written : HasWritten beginning sweeping (At 1 one.Write ∷ writing) 0
    first_written =
        record {
          writer = seated_at 0;
          there = subst (λ t. IsAt t 0 (seated_at 0)) (sym swept_is) computed.first_at;
          begins = first_writes;
          no_other = (
            λ same. absurd (omega (arith, same)),
            plain_writes_nothing 0 writing
                (after_masters_event (after_masters_events (sweeping ++ At 0 one.Write ∷ []) beginning) (At 1 one.Write)) refl,
          );
          later = ended_at 0;
          there_later = subst (λ t. IsAt t 0 (ended_at 0)) (sym ended_is) computed.first_ends.there;
          written = computed.first_ends.written;
        }

    second_written : HasWritten beginning (sweeping ++ At 0 one.Write ∷ []) writing 1
    second_written =
        record {
          writer = seated_at 1;
          there = subst (λ t. IsAt t 1 (seated_at 1)) (sym after_first) second_still;
          begins = second_writes;
          no_other = plain_writes_nothing 1 writing
              (after_masters_events ((sweeping ++ At 0 one.Write ∷ []) ++ At 1 one.Write ∷ []) beginning) refl;
          later = ended_at 1;
          there_later = subst (λ es. IsAt (after_masters_events es beginning) 1 (ended_at 1))
              (sym (append_assoc sweeping (At 0 one.Write ∷ []) (At 1 one.Write ∷ writing)))
              (subst (λ t. IsAt t 1 (ended_at 1)) (sym ended_is) computed.second_ends.there);
          written = computed.second_ends.written;
        }

    their_run : MastersWriteAtOnce conduct
    their_run =
        record {
          masters = beginning;
          held = alone.swept.manager.store;
          planning = its_planning;
          share = share;
          hold = hold;
          seat = port 0 1;
          guid = 17;
          other_seat = port 2 1;
          other_guid = 49;
          are_new = refl;
          sweeping = sweeping;
          writing = writing;
          can_be = all_may.0;
          whole = all_may.1;
          first = first_written;
          second = second_written;
        }

-- the run is the same under either conduct
computed : (conduct : Conduct) → Computed conduct
unfolding cabled_at fresh_agent after_inject after_deliver after_lose outcome_of after_answer get_of set_of changed_port with_bytes
computed Plain =
    record {
      first_answers = record {
        swept = record { whole = record { done = refl; answered = refl; near = refl }; swept = refl; planning_is = refl; store_is = refl; no_fault = refl };
        knows = refl;
      };
      second_answers = record {
        swept = record { whole = record { done = refl; answered = refl; near = refl }; swept = refl; planning_is = refl; store_is = refl; no_fault = refl };
        knows = refl;
      };
      first_at = refl;
      second_at = refl;
      two_managers = refl;
      first_ends = record { there = refl; written = refl };
      second_ends = record { there = refl; written = refl };
    }
computed (Live key) =
    record {
      first_answers = record {
        swept = record { whole = record { done = refl; answered = refl; near = refl }; swept = refl; planning_is = refl; store_is = refl; no_fault = refl };
        knows = refl;
      };
      second_answers = record {
        swept = record { whole = record { done = refl; answered = refl; near = refl }; swept = refl; planning_is = refl; store_is = refl; no_fault = refl };
        knows = refl;
      };
      first_at = refl;
      second_at = refl;
      two_managers = refl;
      first_ends = record { there = refl; written = refl };
      second_ends = record { there = refl; written = refl };
    }

pub some_masters_write_at_once : SomeMastersWriteAtOnce
some_masters_write_at_once conduct = their_run conduct (computed conduct)
