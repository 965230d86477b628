-- In a fabric whose switches go over to next tables by an order, packets that the held tables deliver arrive.
use Rattle.std.proofs.Common.{ℕ, zero, suc, ◌+◌, ◌-◌, ◌*◌, ◌<◌, ◌≤◌, List, length, sym, ap, subst, arith, inl, inr}
use Rattle.std.proofs.lemmas.List.{length-map}
use Rattle.fabric_model.specs.Fabric.{Fabric}
use Rattle.fabric_model.specs.FabricWalks.{IsJoinedTo}
use Rattle.fact_store.specs.View.{Facts, cells_of}
use Rattle.subnet_view.specs.Reading.{switches}
use Rattle.subnet_view.specs.FabricAgreement.{Part}
use Rattle.held_tables.specs.declared.held.HeldLid.{HeldLid}
use Rattle.held_tables.specs.Held.{HeldPlan}
use Rattle.packet_walks.specs.declared.packet_end.End.TheVariants.{Taken}
use Rattle.packet_walks.specs.declared.next_hop.NextHop.{NextHop}
use Rattle.packet_walks.specs.declared.next_hop.NextHop.TheVariants.{To}
use Rattle.packet_walks.specs.Fabrics.{IsSeenIn}
use Rattle.packet_walks.specs.HopsByTables.{next_hops_of}
use Rattle.packet_walks.proofs.Told.{IsClosed, joined_closed}
use Rattle.next_tables.specs.OrderRule.{channel_number}
use Rattle.next_tables.specs.SwitchPositions.{switch_at}
use Rattle.next_tables.specs.SettledRule.{step_at}
use Rattle.next_tables.proofs.Changing.{MayDo, IsOnItsWay}
use Rattle.next_tables.proofs.InChange.{arrives_in, by_at}
use Rattle.next_tables.proofs.InChange as changing
use Rattle.next_tables.proofs.Mixtures.{at, Comes, in_range}
use Rattle.next_tables.proofs.Plain.{dropped, plain}
use Rattle.next_tables.specs.OrderedStepLaws.{IsLineStep, PacketsArriveByOrder}
use Rattle.next_tables.proofs.by_order.Arrivals.{Brings}
use Rattle.next_tables.proofs.by_order.Lost.{D, M, N, held_brings, next_brings, rise, small}

at_least : (n a b : ℕ) → a < n → 2 ≤ channel_number n a b
at_least n a b h = grind arith

module _ (part : Part) (facts : Facts) (q : ℕ → ℕ) (held goal next : HeldPlan) (line : HeldLid) (f : Fabric) (seen : IsSeenIn part (cells_of facts) held f)
    (closed : IsClosed part f) (some : 1 ≤ line.lid) (is : IsLineStep (cells_of facts) q held goal line next) where
  abbrev count : ℕ
  count = length (switches (cells_of facts))

  abbrev by : HeldPlan → List NextHop
  by tables = changing.by part facts held next line f seen closed some is.is_next.owners tables

  abbrev Arrives : ℕ → ℕ → Type 0
  Arrives most i = changing.Arrives part facts held next line f seen closed some is.is_next.owners most i

  step : (most i : ℕ) → 1 ≤ most → i < count → ((s : NextHop) → MayDo (by held) (by next) i s → IsOnItsWay line.port Arrives most s) → Arrives most i
  step = changing.step part facts held next line f seen closed some is.is_next.owners

  abbrev Good : ℕ → Type 0
  Good i = D (cells_of facts) q held goal next line is i

  abbrev Led : ℕ → ℕ → Type 0
  Led i j = M (cells_of facts) q held goal next line is i j

  abbrev Number : ℕ → ℕ → ℕ
  Number i j = N (cells_of facts) q held goal next line is i j

  abbrev Brought : NextHop → ℕ → Type 0
  Brought s i = Brings line.port Good Led s i

  plainly : (s : NextHop) (i : ℕ) → Brought s i → Brought (plain s) i
  plainly s i (inl e) = inl (ap plain e)
  plainly s i (inr t) = inr (t.0, ap plain t.1, t.2, t.3)

  held_plain : (i : ℕ) → Good i → Brought (at (by held) i) i
  held_plain i d =
      subst (λ (s : NextHop). Brought s i) (sym (by_at part facts held next line f seen closed some is.is_next.owners held i d.0))
      (plainly (step_at (cells_of facts) held line.lid (switch_at (cells_of facts) i)) i (held_brings (cells_of facts) q held goal next line is i d))

  next_plain : (i : ℕ) → Good i → Brought (at (by next) i) i
  next_plain i d =
      subst (λ (s : NextHop). Brought s i) (sym (by_at part facts held next line f seen closed some is.is_next.owners next i d.0))
      (plainly (step_at (cells_of facts) next line.lid (switch_at (cells_of facts) i)) i (next_brings (cells_of facts) q held goal next line is i d))

  not_dropped : (g i : ℕ) → Brought (dropped g) i → ⊥
  not_dropped g i (inl e) = absurd (cc)
  not_dropped g i (inr t) = let e = t.1 in absurd (cc)

  may_bring : (i : ℕ) → Good i → (s : NextHop) → MayDo (by held) (by next) i s → Brought s i
  may_bring i d s (inl e) = subst (λ (x : NextHop). Brought x i) (sym e) (held_plain i d)
  may_bring i d s (inr (inl e)) = subst (λ (x : NextHop). Brought x i) (sym e) (next_plain i d)
  may_bring i d s (inr (inr l)) = absurd (not_dropped l.0 i (subst (λ (x : NextHop). Brought x i) l.1 (held_plain i d)))

  -- numbers rise on the way
  on_way : (fuel x i : ℕ) → Led x i → Good i → 2 * count + 1 ≤ Number x i + fuel → Arrives fuel i
  on_way zero x i m d h = let s = small (cells_of facts) q held goal next line is x i m d in absurd (omega arith)
  on_way (suc fuel) x i m d h =
      step (suc fuel) i (omega arith) d.0 (λ s may. elim (may_bring i d s may) [
        | inl e ↦ inl e
        | inr t ↦
            let r = rise (cells_of facts) q held goal next line is x i t.0 m t.3 in
            inr (t.0, fuel, omega arith, t.1, on_way fuel i t.0 t.3 t.2 (omega arith))
      ])

  from_switch_on : (i : ℕ) → Good i → Arrives (2 * count) i
  from_switch_on i d =
      let some_switch = d.0 in
      step (2 * count) i (omega arith) d.0 (λ s may. elim (may_bring i d s may) [
        | inl e ↦ inl e
        | inr t ↦
            let low = at_least count (q i) (q t.0) (is.order i d.0) in
            inr (t.0, 2 * count - 1, omega arith, t.1, on_way (2 * count - 1) i t.0 t.3 t.2 (omega arith))
      ])

  good : (i : ℕ) → Comes line.port (next_hops_of (cells_of facts) held line.lid) (To i) → Good i
  good i c =
      let less = in_range (next_hops_of (cells_of facts) held line.lid) c.0 i (Taken line.port) c.1 in
      (omega (arith, less, length-map (switches (cells_of facts)) (step_at (cells_of facts) held line.lid)), c)

  comes_on : (i : ℕ) → Comes line.port (next_hops_of (cells_of facts) held line.lid) (To i) → Arrives (2 * count) i
  comes_on i c = from_switch_on i (good i c)

pub packets_arrive_by_order : PacketsArriveByOrder
packets_arrive_by_order facts q held goal next line before origin is_end seen some is =
    let closed = joined_closed before seen.is_fabric origin in
    arrives_in (IsJoinedTo before origin) facts held next line before seen closed some is.is_next.owners
    (comes_on (IsJoinedTo before origin) facts q held goal next line before seen closed some is)
