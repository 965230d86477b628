-- Steps by an order end in tables that are right by each order by which the goal is right.
use Rattle.std.proofs.Common.{◌≡◌, ℕ, zero, suc, ◌<◌, ◌≤◌, ◌*◌, Bool, true, false, cond, length, refl, sym, ap, ◌∙◌, arith, inl, inr}
use Rattle.std.proofs.lemmas.List.FromFn.{get_or-map-range_with_len}
use Rattle.subnet_view.specs.Reading.{Cells, switches}
use Rattle.held_tables.specs.declared.held.HeldLid.{HeldLid}
use Rattle.held_tables.specs.Held.{HeldPlan}
use Rattle.packet_walks.specs.declared.packet_end.End.TheVariants.{Taken}
use Rattle.packet_walks.specs.declared.next_hop.NextHop.{NextHop}
use Rattle.packet_walks.specs.declared.next_hop.NextHop.TheVariants.{To, Ends}
use Rattle.held_tables.specs.Tables.{owners_of, entry_for}
use Rattle.packet_walks.specs.EndsBySwitch.{after}
use Rattle.packet_walks.specs.HopsByTables.{next_hops_of}
use Rattle.packet_walks.proofs.Ended.{after_ended}
use Rattle.next_tables.specs.SettledRule.{step_at, comes_to}
use Rattle.next_tables.proofs.Entries.{at_mapped}
use Rattle.next_tables.proofs.Mixtures.{at}
use Rattle.next_tables.specs.OrderRule.{IsNextByOrder, may_change, tried_entry, tried_at, tried}
use Rattle.next_tables.specs.SwitchPositions.{Leads, switch_at}
use Rattle.next_tables.specs.OrderedStepLaws.{AreStepsByOrder, DeliverFrom, EndRightByAny}
use Rattle.next_tables.proofs.Hops.{leads_from, leads_same_at, leads_within, leads_at, none_taken, none_to, placed, taken_same, to_within}
use Rattle.next_tables.proofs.by_order.Lost.{comes_made, comes_true, tried_is_choice}
use Rattle.next_tables.proofs.by_order.Goal.{covers, end_in_twice_as_many, goal_on, owned}
use Rattle.next_tables.proofs.by_order.Turns.{not_true}

module _ (cells : Cells) (q : ℕ → ℕ) (goal : HeldPlan) (line : HeldLid) (tables : ℕ → HeldPlan) (are : AreStepsByOrder cells q goal line tables)
    (rule : (n : ℕ) → IsNextByOrder cells q (tables n) goal line (tables (suc n)))
    (taken : (i : ℕ) → i < length (switches cells) → step_at cells (tables 0) line.lid (switch_at cells i) ≡ Ends (Taken line.port)
    → DeliverFrom cells goal line i) where
  -- the goal delivers from a switch that sends the packet straight to the port by it
  at_once : (i : ℕ) → i < length (switches cells) → step_at cells goal line.lid (switch_at cells i) ≡ Ends (Taken line.port) → DeliverFrom cells goal line i
  at_once i less h = (1, at_mapped (step_at cells goal line.lid) (switches cells) i (To i) less ∙ h)

  -- so it is of all tables on the way
  taken_so : (n i : ℕ) → i < length (switches cells) → step_at cells (tables n) line.lid (switch_at cells i) ≡ Ends (Taken line.port)
      → DeliverFrom cells goal line i
  taken_so zero i less h = taken i less h
  taken_so (suc n) i less h =
      let g = switch_at cells i in
      let now = are.steps n in
      let own : owners_of (tables (suc n)) line.lid ≡ owners_of (tables n) line.lid = now.owners in
      elim (tried_is_choice cells q (tables n) goal (tables (suc n)) line now i g (placed (switches cells) i less)) [
        | inl e ↦ taken_so n i less (taken_same cells (tables (suc n)) (tables n) line.lid g line.port own e h)
        | inr (inl e) ↦ absurd (none_taken cells (tables (suc n)) line.lid g line.port e h)
        | inr (inr c) ↦
            at_once i less (taken_same cells (tables (suc n)) goal line.lid g line.port (own ∙ sym (owned cells q goal line tables are n)) c.0 h)
      ]

  -- the tried entries deliver only from switches from which the goal does
  tried_so : (m n i : ℕ) → i < length (switches cells) → after n (tried cells q (tables m) goal line) (To i) ≡ Ends (Taken line.port)
      → DeliverFrom cells goal line i
  tried_so m zero i less h = absurd (cc)
  tried_so m (suc n) i less h =
      let U = tried cells q (tables m) goal line in
      let here : at U i ≡ tried_at cells q (tables m) goal line i =
      get_or-map-range_with_len (tried_at cells q (tables m) goal line) 0 (length (switches cells)) i i (To i) less (omega arith) in
      by (λ j. tried_so m n j) (may_change cells q (tables m) goal line i (switch_at cells i))
      (sym (ap (after n U) here) ∙ h)
    where
      of_goal : ((j : ℕ) → j < length (switches cells) → after n (tried cells q (tables m) goal line) (To j) ≡ Ends (Taken line.port)
          → DeliverFrom cells goal line j) → (s : NextHop) → step_at cells goal line.lid (switch_at cells i) ≡ s
          → after n (tried cells q (tables m) goal line) s ≡ Ends (Taken line.port) → DeliverFrom cells goal line i
      of_goal later (Ends e) is_s k = at_once i less (is_s ∙ sym (after_ended n (tried cells q (tables m) goal line) e) ∙ k)
      of_goal later (To j) is_s k =
          goal_on cells q goal line tables are i j (leads_from cells goal line.lid i j less is_s)
          (later j (to_within cells goal line.lid (switch_at cells i) j is_s) k)

      of_held : ((j : ℕ) → j < length (switches cells) → after n (tried cells q (tables m) goal line) (To j) ≡ Ends (Taken line.port)
          → DeliverFrom cells goal line j) → (s : NextHop) → step_at cells (tables m) line.lid (switch_at cells i) ≡ s
          → after n (tried cells q (tables m) goal line) s ≡ Ends (Taken line.port) → DeliverFrom cells goal line i
      of_held later (Ends e) is_s k = taken_so m i less (is_s ∙ sym (after_ended n (tried cells q (tables m) goal line) e) ∙ k)
      of_held later (To j) is_s k =
          covers cells q goal line tables are m i j (leads_from cells (tables m) line.lid i j less is_s)
          (later j (to_within cells (tables m) line.lid (switch_at cells i) j is_s) k)

      by : ((j : ℕ) → j < length (switches cells) → after n (tried cells q (tables m) goal line) (To j) ≡ Ends (Taken line.port)
          → DeliverFrom cells goal line j) → (b : Bool)
          → after n (tried cells q (tables m) goal line) (cond b (step_at cells goal line.lid (switch_at cells i)) (step_at cells (tables m) line.lid (switch_at cells i)))
          ≡ Ends (Taken line.port) → DeliverFrom cells goal line i
      by later true k = of_goal later (step_at cells goal line.lid (switch_at cells i)) refl k
      by later false k = of_held later (step_at cells (tables m) line.lid (switch_at cells i)) refl k

  -- so any other has no entry after a step
  emptied : (m i : ℕ) → i < length (switches cells) → (DeliverFrom cells goal line i → ⊥) → entry_for (tables (suc m)) line.lid (switch_at cells i) ≡ 255
  emptied m i less no_way =
      let now = rule m in
      let U = tried cells q (tables m) goal line in
      let fails : comes_to line.port U (To i) ≡ false =
      not_true (comes_to line.port U (To i)) (λ h. let c = comes_true line.port U (To i) h in no_way (tried_so m c.0 i less c.1)) in
      now.entries i (switch_at cells i) (placed (switches cells) i less)
      ∙ ap (λ t. cond t (tried_entry cells q (tables m) goal line i (switch_at cells i)) 255) fails

  by_goal : (m i j : ℕ) → 1 ≤ m → 2 * length (switches cells) ≤ m → Leads cells (tables m) line.lid i j → Leads cells goal line.lid i j
  by_goal zero i j one most l = absurd (omega arith)
  by_goal (suc m) i j one most l =
      let less = leads_within cells (tables (suc m)) line.lid i j l in
      let P = next_hops_of cells goal line.lid in
      (elim (comes_to line.port P (To i)) as (λ t. comes_to line.port P (To i) ≡ t → Leads cells goal line.lid i j) [
        | true ↦ λ h.
            let d = comes_true line.port P (To i) h in
            let e = end_in_twice_as_many cells q goal line tables are i (switch_at cells i) (suc m) (placed (switches cells) i less) d most in
            leads_same_at cells (tables (suc m)) goal line.lid i j l e.0
        | false ↦ λ h.
            let empty = emptied m i less (λ d. let is = comes_made line.port P (To i) d in absurd (cc)) in
            absurd (none_to cells (tables (suc m)) line.lid (switch_at cells i) j empty (leads_at cells (tables (suc m)) line.lid i j l))
      ]) refl

pub end_right_by_any : EndRightByAny
end_right_by_any cells q goal line tables are rule taken other right m one most i j k a b =
    right i j k (by_goal cells q goal line tables are rule taken m i j one most a) (by_goal cells q goal line tables are rule taken m j k one most b)
