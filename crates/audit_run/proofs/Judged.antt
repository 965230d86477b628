-- When tables pass, on one lane and by lane.
use Rattle.std.proofs.Common.{◌≡◌, ℕ, List, [], ◌∷◌, Option, None, Some, refl, sym, ap, ◌∙◌, arith, Bool, false, length, subst}
use Rattle.std.specs.Prelude.{◌↔◌, IsTrue}
use Rattle.fact_store.specs.View.{Facts, cells_of}
use Rattle.held_tables.specs.Held.{HeldPlan}
use Rattle.audit_counts.specs.FirstFew.{Listed}
use Rattle.audit_channels.specs.ChannelOrders.{CanRise, IsCycleIfAny}
use Rattle.audit_channels.specs.Waiting.{WaitsFor}
use Rattle.audit_channels.proofs.Orders.{no_cycle_at_all, rise_if_none}
use Rattle.lanes_file.specs.Carried.{CarriesAll}
use Rattle.lanes_file.specs.Lanes.{LanesSaid}
use Rattle.lane_channels.specs.declared.dropped.Dropped.{Dropped}
use Rattle.lane_channels.specs.declared.loops_by_lane.LaneOrder.{LaneOrder}
use Rattle.lane_channels.specs.LaneNetwork.{SeenByLane}
use Rattle.lane_channels.specs.Waiting.{IsDroppedByLane, IsSomeDrop, WaitsByLane}
use Rattle.lane_channels.proofs.LaneLaws.{all_carried, one_lane_suffices}
use Rattle.audit_run.specs.declared.lane_findings.LaneFindings.{LaneFindings}
use Rattle.audit_run.specs.declared.levels_missing.PacketPair.{PacketPair}
use Rattle.audit_run.specs.declared.flaw.Flaw.{Flaw}
use Rattle.audit_run.specs.declared.flaw.Flaw.TheVariants.{Missed, Tableless, Unusable, Lidless, Overloaded, Unleveled}
use Rattle.audit_run.specs.declared.flaw.Flaw.TheVariants.{LaneDrop, CreditLoop}
use Rattle.audit_run.specs.AuditRun.{AreCarried, AreFlaws, AreFoundByLane, AreLeveled, IsFoundByLane, IsFoundCarried, IsFoundFree, IsFoundLeveled}
use Rattle.audit_run.specs.AuditRun.{IsFoundToRise, IsFree, IsLaneOrder, NumbersRise, PassesAudit, seen_of}
use Rattle.audit_run.specs.LevelsMissing.{missing_levels}
use Rattle.audit_run.proofs.Flawless.{flawless}

none_of : {X : Type 0} (xs : List X) → length xs ≡ 0 → xs ≡ []
none_of [] e = refl
none_of (x ∷ xs) e = absurd (omega arith)

module _ (s : SeenByLane) (answers : Bool) where
  -- none is dropped if none was found
  none_dropped : (dropped : Option Dropped) → IsSomeDrop s answers dropped → dropped ≡ None → (d : Dropped) → IsDroppedByLane s answers d → ⊥
  none_dropped None h e = h
  none_dropped (Some d) h e = absurd (cc)

  none_found : (dropped : Option Dropped) → IsSomeDrop s answers dropped → ((d : Dropped) → IsDroppedByLane s answers d → ⊥) → dropped ≡ None
  none_found None h never = refl
  none_found (Some d) h never = absurd (never d h)

-- nothing is found by lane if numbers rise on one lane, and each packet with a level has a lane below 15
pub nothing_by_lane : (s : SeenByLane) (answers : Bool) (order : LaneOrder) → CanRise (WaitsFor (cells_of s.seen.facts) s.seen.held) → CarriesAll s.said
    → order.cycle.items ≡ [] → order.dropped ≡ None → IsLaneOrder s answers order
nothing_by_lane s answers order rise carried no_cycle no_drop = record {
  drop = subst (IsSomeDrop s answers) (sym no_drop) (all_carried s [] answers carried);
  waits = subst (IsCycleIfAny (WaitsByLane s answers)) (sym no_cycle) (one_lane_suffices s answers rise);
  shortest = λ other waiting. omega (arith, ap length no_cycle);
}

module _ (s : SeenByLane) (most : ℕ) (f : LaneFindings) (found : IsFoundByLane most s f) where
  abbrev levels : List PacketPair
  levels = missing_levels s.said (cells_of s.seen.facts) s.seen.held

  count_is : f.missing.count ≡ length levels
  count_is = ap (λ (few : Listed PacketPair). few.count) found.missing_are

  leveled : (f.missing.count ≡ 0) ↔ (levels ≡ [])
  leveled = (λ none. none_of levels (sym count_is ∙ none), λ e. count_is ∙ ap length e)

-- what was found by lane says exactly if the tables have a flaw
module _ (most : ℕ) (facts : Facts) (held : HeldPlan) where
  leveled_is : (lanes : Option LanesSaid) (found : Option LaneFindings) → AreFoundByLane most facts held lanes found
      → IsFoundLeveled found ↔ AreLeveled facts held lanes
  leveled_is None None are = (λ h. h, λ h. h)
  leveled_is None (Some f) are = absurd (cc)
  leveled_is (Some said) None are = absurd are
  leveled_is (Some said) (Some f) are = leveled (seen_of facts held said) most f are

  carried_is : (lanes : Option LanesSaid) (found : Option LaneFindings) → AreFoundByLane most facts held lanes found
      → IsFoundCarried found ↔ AreCarried facts held lanes
  carried_is None None are = (λ h. h, λ h. h)
  carried_is None (Some f) are = absurd (cc)
  carried_is (Some said) None are = absurd are
  carried_is (Some said) (Some f) are =
      let s = seen_of facts held said in
      (none_dropped s false f.order.dropped are.order.drop, none_found s false f.order.dropped are.order.drop)

  rise_is : (lanes : Option LanesSaid) (found : Option LaneFindings) → AreFoundByLane most facts held lanes found
      → IsFoundToRise facts held found ↔ NumbersRise facts held lanes
  rise_is None None are = (λ h. h, λ h. h)
  rise_is None (Some f) are = absurd (cc)
  rise_is (Some said) None are = absurd are
  rise_is (Some said) (Some f) are =
      let s = seen_of facts held said in
      let F = WaitsByLane s false in
      let cycle = f.order.cycle.items in
      (rise_if_none F cycle are.order.waits, λ rise. no_cycle_at_all F rise cycle are.order.waits)

  free_is : (bound : Option ℕ) (lanes : Option LanesSaid) (found : Option LaneFindings) → AreFoundByLane most facts held lanes found → (flaw : Flaw)
      → IsFoundFree bound facts held found flaw ↔ IsFree bound facts held lanes flaw
  free_is bound lanes found are Missed = (λ h. h, λ h. h)
  free_is bound lanes found are Tableless = (λ h. h, λ h. h)
  free_is bound lanes found are Unusable = (λ h. h, λ h. h)
  free_is bound lanes found are Lidless = (λ h. h, λ h. h)
  free_is bound lanes found are Overloaded = (λ h. h, λ h. h)
  free_is bound lanes found are Unleveled = leveled_is lanes found are
  free_is bound lanes found are LaneDrop = carried_is lanes found are
  free_is bound lanes found are CreditLoop = rise_is lanes found are

-- the flaws that were found are those that the tables have
pub flaws_are : (bound : Option ℕ) (most : ℕ) (facts : Facts) (held : HeldPlan) (lanes : Option LanesSaid) (found : Option LaneFindings) (flaws : List Flaw)
    → AreFoundByLane most facts held lanes found → AreFlaws (IsFoundFree bound facts held found) flaws → AreFlaws (IsFree bound facts held lanes) flaws
flaws_are bound most facts held lanes found flaws are h = record {
  has = h.has;
  each = λ flaw.
      let is = free_is most facts held bound lanes found are flaw in
      (λ e. is.0 ((h.each flaw).0 e), λ free. (h.each flaw).1 (is.1 free));
  listed = h.listed;
}

-- the tables pass exactly if no flaw was found
pub judged : (bound : Option ℕ) (facts : Facts) (held : HeldPlan) (lanes : Option LanesSaid) (flaws : List Flaw) (passed : Bool)
    → AreFlaws (IsFree bound facts held lanes) flaws → IsTrue passed ↔ (flaws ≡ []) → IsTrue passed ↔ PassesAudit bound facts held lanes
judged bound facts held lanes flaws passed are is =
    let passes = flawless bound facts held lanes flaws are in
    (λ t. passes.0 (is.0 t), λ p. is.1 (passes.1 p))
