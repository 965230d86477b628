-- In a fabric whose switches go over to the next tables meanwhile, packets that the held tables deliver arrive.
use Rattle.std.proofs.Common.{◌≡◌, ℕ, ◌+◌, ◌*◌, ◌≤◌, List, length, ap, ◌∙◌, subst, arith}
use Rattle.fabric_model.specs.Fabric.{Fabric}
use Rattle.fabric_model.specs.FabricWalks.{IsJoinedTo}
use Rattle.fact_store.specs.View.{Facts, cells_of}
use Rattle.subnet_view.specs.Reading.{switches}
use Rattle.subnet_view.specs.FabricAgreement.{Part}
use Rattle.held_tables.specs.declared.held.HeldLid.{HeldLid}
use Rattle.held_tables.specs.Held.{HeldPlan}
use Rattle.held_tables.specs.Tables.{owners_of}
use Rattle.packet_walks.specs.declared.next_hop.NextHop.{NextHop}
use Rattle.packet_walks.specs.declared.next_hop.NextHop.TheVariants.{To}
use Rattle.packet_walks.specs.Fabrics.{IsSeenIn}
use Rattle.packet_walks.specs.HopsByTables.{next_hops_of}
use Rattle.packet_walks.proofs.Told.{IsClosed, joined_closed}
use Rattle.next_tables.specs.SettledRule.{IsNext}
use Rattle.next_tables.specs.NextTables.{next_tables, settled_first}
use Rattle.next_tables.specs.ChangingFabric.{PacketsArriveWhileTablesChange}
use Rattle.next_tables.proofs.Changing.{in_time, held_arrives}
use Rattle.next_tables.proofs.Entries.{planned, by, by_agreed, by_mending, agree, choose, mend, steps_long, agreed_long, mending_long}
use Rattle.next_tables.proofs.InChange.{Arrives, arrives_in, step}
use Rattle.next_tables.proofs.Mixtures.{Comes}
use Rattle.next_tables.proofs.Plain.{plain, plain_after}
use Rattle.next_tables.proofs.Whole.{is_next, kept_owners}

module _ (part : Part) (facts : Facts) (held plan next : HeldPlan) (line : HeldLid) (f : Fabric) (seen : IsSeenIn part (cells_of facts) held f)
    (closed : IsClosed part f) (some : 1 ≤ line.lid) (same : owners_of plan line.lid ≡ owners_of held line.lid)
    (is : IsNext (cells_of facts) held plan line next) where
  abbrev count : ℕ
  count = length (switches (cells_of facts))

  abbrev H : List NextHop
  H = by (cells_of facts) held plan next line same is held

  from_switch_on : (i : ℕ) → Comes line.port (next_hops_of (cells_of facts) held line.lid) (To i)
      → Arrives part facts held next line f seen closed some is.owners (2 * count) i
  from_switch_on i comes =
      let all : length H + count ≡ 2 * count = omega (arith, steps_long (cells_of facts) held plan next line same is held) in
      let there = plain_after comes.0 (next_hops_of (cells_of facts) held line.lid) (To i) ∙ ap plain comes.1 in
      subst (λ (m : ℕ). Arrives part facts held next line f seen closed some is.owners m i) all
      (held_arrives line.port count H (by (cells_of facts) held plan next line same is plan)
      (by_agreed (cells_of facts) held plan next line same is) (by_mending (cells_of facts) held plan next line same is)
      (by (cells_of facts) held plan next line same is next) (planned (cells_of facts) held plan next line same is)
      (steps_long (cells_of facts) held plan next line same is held) (agreed_long (cells_of facts) held plan next line same is)
      (mending_long (cells_of facts) held plan next line same is)
      (agree (cells_of facts) held plan next line same is) (choose (cells_of facts) held plan next line same is)
      (mend (cells_of facts) held plan next line same is)
      (Arrives part facts held next line f seen closed some is.owners) (step part facts held next line f seen closed some is.owners)
      (length H) i (in_time line.port H (To i) (comes.0, there)))

pub packets_arrive_while_tables_change : PacketsArriveWhileTablesChange
packets_arrive_while_tables_change facts held plan line before origin is_end seen some kept =
    let closed = joined_closed before seen.is_fabric origin in
    let same = kept_owners (cells_of facts) held plan line kept in
    let is = is_next (cells_of facts) held plan line kept in
    arrives_in (IsJoinedTo before origin) facts held (next_tables (cells_of facts) settled_first held plan) line before seen closed some is.owners
    (from_switch_on (IsJoinedTo before origin) facts held plan (next_tables (cells_of facts) settled_first held plan) line before seen closed some same
    is)
