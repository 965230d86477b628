-- A scene on which managers keep a plan in force: what is so of it at first is so whatever happens there.
use Rattle.std.proofs.Common.{◌≡◌, ℕ, ◌≤◌, List, refl, sym, ap, ◌∙◌}
use Rattle.std.specs.Prelude.{Option, Some, None, slice_get}
use Rattle.std.specs.Option.{option_map_or}
use Rattle.fabric_model.specs.declared.cable.NodePort.{NodePort}
use Rattle.fabric_model.specs.FabricWalks.{IsJoinedTo}
use Rattle.node_agents.specs.Agent.{Agent, base_lid_at}
use Rattle.fabric_sim.specs.Simulation.{AreCables, agent_at, fabric_of, port_count}
use Rattle.fabric_sim.specs.Delivery.{after_deliver}
use Rattle.lft_blocks.specs.Plan.{PlanValue}
use Rattle.manager_laws.specs.Scene.{Scene, Event, Deliver, Lose, Repeat, Send, Emit, CanHappen}
use Rattle.manager_laws.specs.Scene.{after_event}
use Rattle.manager_laws.proofs.Followed.{SeenBySweeps, one_seen, seen_further}
use Rattle.manager_laws.proofs.Sound.{CanBeSwept}
use Rattle.manager_laws.specs.Claims.{HasLidsOf}
use Rattle.manager_laws.proofs.takeover.HeldOn.{AgentsKeep, AreListed, HasLids, HeldOn, KeepsHeld, held_later, lids_later, same_keep}
use Rattle.manager_laws.proofs.masters.Deliveries.{agents_keep, none_comes}
use Rattle.manager_laws.proofs.masters.KeptLids.{KeepsLids}
use Rattle.manager_laws.proofs.masters.Traces.{SentSo, StaysOn, Traces, delivered_traces, emitting_on, lost_on, repeated_on, sending_on, still_traces}

module _ (from : Scene) (plan : PlanValue) (IsSeat : NodePort → Type 0) where
  -- what is so at each moment: what is joined to each seat holds the plan's LIDs, and each port has its own
  pub record Stands (w : Scene) : Type 0 where
    pub traces : Traces from plan IsSeat w
    pub seen : SeenBySweeps (HasLidsOf (fabric_of from.fabric)) from w
    pub lids : HasLidsOf (fabric_of from.fabric) w
    pub has_lids : (seat : NodePort) → IsSeat seat → HasLids from.fabric plan (IsJoinedTo (fabric_of from.fabric) seat) w.fabric

  module _ (cables : AreCables from.fabric) (counts : (id : ℕ) → port_count from.fabric id ≤ 254)
      (can : (seat : NodePort) → IsSeat seat → CanBeSwept (fabric_of from.fabric) seat)
      (listed : (seat : NodePort) → IsSeat seat → AreListed from.fabric plan (IsJoinedTo (fabric_of from.fabric) seat)) where
    same_lids : (w after : Scene) → after.fabric.agents ≡ w.fabric.agents → HasLidsOf (fabric_of from.fabric) w
        → HasLidsOf (fabric_of from.fabric) after
    same_lids w after same lids p = ap (λ (xs : List Agent). option_map_or (λ a. base_lid_at a p.port) (slice_get xs p.node) 0) same ∙ lids p

    stays_on : (w : Scene) (event : Event) → Stands w → CanHappen event → StaysOn from plan IsSeat cables counts w (after_event w event)
        → Stands (after_event w event)
    stays_on w event st can_happen so =
        let lids = same_lids w (after_event w event) so.agents st.lids in
        record {
          traces = still_traces from plan IsSeat cables counts w event st.traces can_happen so;
          seen = seen_further (HasLidsOf (fabric_of from.fabric)) from w (after_event w event) st.seen (one_seen (HasLidsOf (fabric_of from.fabric)) w event can_happen lids);
          lids = lids;
          has_lids = λ seat is. lids_later from.fabric plan (IsJoinedTo (fabric_of from.fabric) seat) w.fabric (after_event w event).fabric
              st.traces.continues.fabric.along
              (same_keep from.fabric plan (IsJoinedTo (fabric_of from.fabric) seat) w.fabric (after_event w event).fabric so.agents) (st.has_lids seat is);
        }

    -- whatever happens ---------------------------------------------------------------------------------

    keep : (w : Scene) (n : ℕ) → Stands w → (id : ℕ) (a : Agent) → agent_at w.fabric id ≡ Some a
        → (b : Agent) × (agent_at (after_deliver w.fabric n).fabric id ≡ Some b) × (KeepsHeld plan a b × KeepsLids a b)
    keep w n st id a there =
        let fabric = st.traces.continues.fabric in
        agents_keep from.fabric plan IsSeat cables counts fabric.along fabric.is st.traces.flights st.traces.harmless can st.has_lids n id a there

    delivered_stands : (w : Scene) (n : ℕ) → Stands w → Stands (after_event w (Deliver n))
    delivered_stands w n st =
        let after = after_event w (Deliver n) in
        record {
          traces = delivered_traces from plan IsSeat cables counts w n st.traces;
          seen = seen_further (HasLidsOf (fabric_of from.fabric)) from w after st.seen (one_seen (HasLidsOf (fabric_of from.fabric)) w (Deliver n) tt lids);
          lids = lids;
          has_lids = λ seat is. lids_later from.fabric plan (IsJoinedTo (fabric_of from.fabric) seat) w.fabric (after_deliver w.fabric n).fabric
              st.traces.continues.fabric.along (λ id a there. let (b, now, keeps) = keep w n st id a there in (b, now, keeps.0)) (st.has_lids seat is);
        }
      where
        lids : HasLidsOf (fabric_of from.fabric) (after_event w (Deliver n))
        lids p = by_agent (agent_at w.fabric p.node) refl
          where
            by_agent : (m : Option Agent) → agent_at w.fabric p.node ≡ m
                → (fabric_of (after_deliver w.fabric n).fabric).base_lid p ≡ (fabric_of from.fabric).base_lid p
            by_agent None none =
                let fabric = st.traces.continues.fabric in
                ap (λ o. option_map_or (λ a. base_lid_at a p.port) o 0)
                (none_comes from.fabric plan IsSeat cables counts fabric.along fabric.is st.traces.flights st.traces.harmless can st.has_lids n p.node none
                ∙ sym none)
                ∙ st.lids p
            by_agent (Some a) there =
                let (b, now, keeps) = keep w n st p.node a there in
                ap (λ o. option_map_or (λ y. base_lid_at y p.port) o 0) now ∙ keeps.1 p.port
                ∙ sym (ap (λ o. option_map_or (λ y. base_lid_at y p.port) o 0) there)
                ∙ st.lids p

    pub stands_on : (w : Scene) (event : Event) → Stands w → CanHappen event → SentSo from plan IsSeat event → Stands (after_event w event)
    stands_on w (Deliver n) st can_happen so = delivered_stands w n st
    stands_on w (Lose n) st can_happen so = stays_on w (Lose n) st tt (lost_on from plan IsSeat cables counts w n st.traces)
    stands_on w (Repeat n) st can_happen so = stays_on w (Repeat n) st tt (repeated_on from plan IsSeat cables counts w n st.traces)
    stands_on w (Send seat sending) st can_happen so =
        stays_on w (Send seat sending) st can_happen (sending_on from plan IsSeat cables counts w st.traces seat sending can_happen so)
    stands_on w (Emit at sending) st can_happen so =
        stays_on w (Emit at sending) st can_happen (emitting_on from plan IsSeat cables counts w st.traces at sending can_happen so)

    -- what is joined to a seat goes on holding the plan
    pub held_on : (w : Scene) (event : Event) → Stands w → CanHappen event → SentSo from plan IsSeat event → (seat : NodePort) → IsSeat seat
        → HeldOn from.fabric plan (IsJoinedTo (fabric_of from.fabric) seat) w.fabric
        → HeldOn from.fabric plan (IsJoinedTo (fabric_of from.fabric) seat) (after_event w event).fabric
    held_on w event st can_happen so seat is h =
        held_later from.fabric plan (IsJoinedTo (fabric_of from.fabric) seat) (listed seat is) w.fabric (after_event w event).fabric
        st.traces.continues.fabric.along (by_event event can_happen so) h
      where
        still_kept : (event : Event) → (after_event w event).fabric.agents ≡ w.fabric.agents
            → AgentsKeep from.fabric plan (IsJoinedTo (fabric_of from.fabric) seat) w.fabric (after_event w event).fabric
        still_kept event same = same_keep from.fabric plan (IsJoinedTo (fabric_of from.fabric) seat) w.fabric (after_event w event).fabric same

        by_event : (event : Event) → CanHappen event → SentSo from plan IsSeat event
            → AgentsKeep from.fabric plan (IsJoinedTo (fabric_of from.fabric) seat) w.fabric (after_event w event).fabric
        by_event (Deliver n) can_happen so = λ id a there. let (b, now, keeps) = keep w n st id a there in (b, now, keeps.0)
        by_event (Lose n) can_happen so = still_kept (Lose n) (lost_on from plan IsSeat cables counts w n st.traces).agents
        by_event (Repeat n) can_happen so = still_kept (Repeat n) (repeated_on from plan IsSeat cables counts w n st.traces).agents
        by_event (Send from_seat sending) can_happen so =
            still_kept (Send from_seat sending) (sending_on from plan IsSeat cables counts w st.traces from_seat sending can_happen so).agents
        by_event (Emit at sending) can_happen so = still_kept (Emit at sending) (emitting_on from plan IsSeat cables counts w st.traces at sending can_happen so).agents
