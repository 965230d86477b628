-- A LID for which the held tables have the plan's entries, by which packets arrive from each switch.
use Rattle.std.proofs.Common.{◌≡◌, ◌<◌, ◌&&◌, ◌||◌, ℕ, zero, suc, Bool, true, false, cond, List, [], ◌∷◌, length, None, Some, refl, sym, ap, ◌∙◌, arith}
use Rattle.std.proofs.Common.{inl, inr, not}
use Rattle.std.specs.Prelude.{map, slice_index_or}
use Rattle.std.proofs.lemmas.Bool.{cases_lt, eq-eqb}
use Rattle.std.proofs.lemmas.List.{get_or_past, length-map}
use Rattle.std.proofs.lemmas.List.FromFn.{get_or-map-range_with_len, length-map-range_with_len}
use Rattle.std.proofs.lemmas.Option.{same_Some}
use Rattle.fact_store.specs.View.{Facts, cells_of}
use Rattle.plan_tables.proofs.AttachmentTables.{switches_rise}
use Rattle.subnet_view.specs.declared.end_port.EndPort.{EndPort}
use Rattle.subnet_view.specs.Reading.{Cells, switches}
use Rattle.held_tables.specs.declared.held.HeldLid.{HeldLid}
use Rattle.held_tables.specs.Held.{HeldPlan}
use Rattle.packet_walks.specs.declared.packet_end.End.TheVariants.{Taken}
use Rattle.packet_walks.specs.declared.next_hop.NextHop.{NextHop}
use Rattle.packet_walks.specs.declared.next_hop.NextHop.TheVariants.{To, Ends}
use Rattle.packet_walks.specs.Deliveries.{ComeToOwner}
use Rattle.packet_walks.specs.HopsByTables.{is_at, next_hops_of}
use Rattle.held_tables.specs.Tables.{entry_for, is_same_end, owners_of}
use Rattle.packet_walks.specs.EndsBySwitch.{after, end_of, onward}
use Rattle.packet_walks.proofs.Ended.{after_ended}
use Rattle.packet_walks.proofs.InTime.{ends_in_time, one_end}
use Rattle.packet_walks.proofs.Judged.{same_itself}
use Rattle.next_tables.specs.SettledRule.{agreed, agreed_at, comes_to, delivers, leads_on, mends, next_entry, patch_entry, step_at}
use Rattle.next_tables.specs.OrderRule.{leads_in, may_change, next_by_order, tried, tried_at, tried_entry, turns_well}
use Rattle.next_tables.specs.SwitchPositions.{position_at, switch_at}
use Rattle.next_tables.specs.NextTables.{index_at, keeper, kept_by, ordered_for}
use Rattle.next_tables.proofs.Entries.{at_mapped}
use Rattle.next_tables.proofs.Hops.{to_same}
use Rattle.next_tables.proofs.Ordered.{index_own}
use Rattle.next_tables.proofs.Plain.{dropped}

-- from the step of a switch on a walk comes where it does from the switch
comes_on : (hops : List NextHop) (port : EndPort) (v n : ℕ) (s : NextHop) → after n hops (To v) ≡ Ends (Taken port) → onward hops (To v) ≡ s
    → comes_to port hops s ≡ true
comes_on hops port v zero s e on = absurd (cc)
comes_on hops port v (suc n) s e on =
    let there : after n hops s ≡ Ends (Taken port) = sym (ap (after n hops) on) ∙ e in
    let end : end_of (after (length hops) hops s) ≡ Some (Taken port) =
    one_end hops s (end_of (after (length hops) hops s)) (Some (Taken port)) (ends_in_time hops s) (n, there) in
    ap (is_at port) end ∙ same_itself port

-- the one end port that the plan has is the one that keeps the LID
kept_is : (e port : EndPort) (owners : List EndPort) → kept_by e owners ≡ Some port → e ≡ port
kept_is e port [] h = absurd (cc)
kept_is e port (x ∷ []) h =
    elim (is_same_end e x) as (λ t. cond t (Some e) None ≡ Some port → e ≡ port) [ true ↦ λ q. same_Some e port q | false ↦ λ q. absurd (cc) ] h
kept_is e port (x ∷ y ∷ owners) h = absurd (cc)

mapped_same : (f h : ℕ → ℕ) (xs : List ℕ) → ((k : ℕ) → k < length xs → f (slice_index_or xs k 0) ≡ h (slice_index_or xs k 0)) → map f xs ≡ map h xs
mapped_same f h [] same = refl
mapped_same f h (x ∷ xs) same = λ i. same 0 (omega arith) i ∷ mapped_same f h xs (λ k less. same (suc k) (omega arith)) i

module _ (cells : Cells) (held plan : HeldPlan) (lid : ℕ) where
  agreed_same : (xs : List ℕ) → map (entry_for held lid) xs ≡ map (entry_for plan lid) xs
      → map (agreed_at cells held plan lid) xs ≡ map (step_at cells plan lid) xs
  agreed_same [] e = refl
  agreed_same (g ∷ xs) e =
      let head : entry_for held lid g ≡ entry_for plan lid g = cc in
      let tail : map (entry_for held lid) xs ≡ map (entry_for plan lid) xs = cc in
      let here : agreed_at cells held plan lid g ≡ step_at cells plan lid g =
      ap (λ t. cond t (step_at cells plan lid g) (dropped g)) (eq-eqb (entry_for held lid g) (entry_for plan lid g) head) in
      λ i. here i ∷ agreed_same xs tail i

  -- so the next entries are the plan's
  pub settled_entries : (port : EndPort) (planned owners : List EndPort) → planned ≡ owners_of plan lid → keeper planned owners ≡ Some port
      → map (entry_for held lid) (switches cells) ≡ map (entry_for plan lid) (switches cells) → ComeToOwner cells plan lid
      → map (entry_for plan lid) (switches cells) ≡ map (next_entry cells held plan (record { lid = lid; port = port })) (switches cells)
  settled_entries port planned owners p k same come =
      let line : HeldLid = record { lid = lid; port = port } in
      let own : come.port ≡ port = kept_is come.port port owners (sym (ap (λ (es : List EndPort). keeper es owners) (p ∙ come.owner_is)) ∙ k) in
      let hops : agreed cells held plan lid ≡ next_hops_of cells plan lid = agreed_same (switches cells) same in
      mapped_same (entry_for plan lid) (next_entry cells held plan line) (switches cells)
      (λ v less. (
      let g = slice_index_or (switches cells) v 0 in
      let ends = come.each v less in
      let leads : comes_to port (next_hops_of cells plan lid) (step_at cells plan lid g) ≡ true =
      comes_on (next_hops_of cells plan lid) port v ends.0 (step_at cells plan lid g) (ends.1 ∙ ap (λ (e : EndPort). Ends (Taken e)) own)
      (at_mapped (step_at cells plan lid) (switches cells) v (To v) less) in
      let led : leads_on cells held plan line g ≡ true =
      ap (λ (steps : List NextHop). comes_to port steps (step_at cells plan lid g)) hops ∙ leads in
      sym (ap (λ t. cond t (entry_for plan lid g)
      (cond (delivers cells held line g) (entry_for held lid g) (cond (mends cells held plan line g) (patch_entry cells held plan lid g) 255))) led)))

-- equal lists have equal elements
mapped_at : (f h : ℕ → ℕ) (xs : List ℕ) → map f xs ≡ map h xs → (k : ℕ) → k < length xs → f (slice_index_or xs k 0) ≡ h (slice_index_or xs k 0)
mapped_at f h xs e k less = sym (at_mapped f xs k 0 less) ∙ ap (λ ys. slice_index_or ys k 0) e ∙ at_mapped h xs k 0 less

-- a walk that ends at the port comes there
comes_there : (hops : List NextHop) (port : EndPort) (n : ℕ) (s : NextHop) → after n hops s ≡ Ends (Taken port) → comes_to port hops s ≡ true
comes_there hops port n s e =
    let end : end_of (after (length hops) hops s) ≡ Some (Taken port) =
    one_end hops s (end_of (after (length hops) hops s)) (Some (Taken port)) (ends_in_time hops s) (n, e) in
    ap (is_at port) end ∙ same_itself port

-- by an order
module _ (facts : Facts) (positions : List ℕ) (held plan : HeldPlan) (lid : ℕ) (port : EndPort)
    (same : map (entry_for held lid) (switches (cells_of facts)) ≡ map (entry_for plan lid) (switches (cells_of facts))) where
  abbrev cells : Cells
  cells = cells_of facts

  abbrev gs : List ℕ
  gs = switches (cells_of facts)

  abbrev q : ℕ → ℕ
  q = position_at positions

  abbrev line : HeldLid
  line = record { lid = lid; port = port }

  abbrev hops : List NextHop
  hops = next_hops_of (cells_of facts) plan lid

  abbrev tries : List NextHop
  tries = tried (cells_of facts) (position_at positions) held plan (record { lid = lid; port = port })

  abbrev step : ℕ → NextHop
  step i = step_at (cells_of facts) plan lid (switch_at (cells_of facts) i)

  abbrev chosen : ℕ → Bool → NextHop
  chosen i t = cond t (step_at (cells_of facts) plan lid (switch_at (cells_of facts) i)) (step_at (cells_of facts) held lid (switch_at (cells_of facts) i))

  same_at : (i : ℕ) → i < length gs → entry_for held lid (switch_at cells i) ≡ entry_for plan lid (switch_at cells i)
  same_at i less = mapped_at (entry_for held lid) (entry_for plan lid) gs same i less

  plan_at : (i : ℕ) → i < length gs → onward hops (To i) ≡ step i
  plan_at i less = at_mapped (step_at cells plan lid) gs i (To i) less

  tries_at : (i : ℕ) → i < length gs → onward tries (To i) ≡ chosen i (may_change cells q held plan line i (switch_at cells i))
  tries_at i less = get_or-map-range_with_len (tried_at cells q held plan line) 0 (length gs) i i (To i) less (omega arith)

  -- if the plan leads on, the held entry leads to the same switch
  to_there : (i j : ℕ) → i < length gs → step i ≡ To j → (t : Bool) → chosen i t ≡ To j
  to_there i j less e true = e
  to_there i j less e false = to_same cells plan held lid (switch_at cells i) j (sym (same_at i less)) e

  either : (a : Bool) → (not a || true) ≡ true
  either true = refl
  either false = refl

  -- if the plan leads to the port, the switch may change to its entry
  may_end : (i : ℕ) → step i ≡ Ends (Taken port) → may_change cells q held plan line i (switch_at cells i) ≡ true
  may_end i e =
      let leads : leads_in cells held line (step i) ≡ true = ap (leads_in cells held line) e ∙ same_itself port in
      (λ k. turns_well cells q held plan lid i (e k) && (not (delivers cells held line (switch_at cells i)) || leads k))
      ∙ either (delivers cells held line (switch_at cells i))

  -- so a walk by the plan to the port is one by what is tried
  tries_so : (n : ℕ) (s : NextHop) → after n hops s ≡ Ends (Taken port) → after n tries s ≡ Ends (Taken port)
  tries_so zero s h = h
  tries_so (suc n) (Ends e) h = after_ended n tries e ∙ sym (after_ended n hops e) ∙ h
  tries_so (suc n) (To i) h =
      elim (cases_lt i (length gs)) [
        | inl less ↦ by (tries_so n) less (step i) refl
        | inr past ↦
            let own : onward hops (To i) ≡ To i = get_or_past hops i (To i) (omega (arith, past, hops_long)) in
            let other : onward tries (To i) ≡ To i = get_or_past tries i (To i) (omega (arith, past, tries_long)) in
            ap (after n tries) other ∙ tries_so n (To i) (sym (ap (after n hops) own) ∙ h)
      ]
    where
      hops_long : length hops ≡ length gs
      hops_long = length-map gs (step_at cells plan lid)

      tries_long : length tries ≡ length gs
      tries_long = length-map-range_with_len (tried_at cells q held plan line) 0 (length gs)

      by : ((s : NextHop) → after n hops s ≡ Ends (Taken port) → after n tries s ≡ Ends (Taken port)) → i < length gs → (s : NextHop) → step i ≡ s
          → after n tries (onward tries (To i)) ≡ Ends (Taken port)
      by rest less (To j) e =
          let there : onward tries (To i) ≡ To j = tries_at i less ∙ to_there i j less e (may_change cells q held plan line i (switch_at cells i)) in
          ap (after n tries) there ∙ rest (To j) (sym (ap (after n hops) (plan_at i less ∙ e)) ∙ h)
      by rest less (Ends end) e =
          let its : Ends end ≡ Ends (Taken port) = sym (after_ended n hops end) ∙ sym (ap (after n hops) (plan_at i less ∙ e)) ∙ h in
          let there : onward tries (To i) ≡ Ends (Taken port) = tries_at i less ∙ ap (chosen i) (may_end i (e ∙ its)) ∙ e ∙ its in
          ap (after n tries) there ∙ after_ended n tries (Taken port)

  either_entry : (i : ℕ) → i < length gs → (t : Bool)
      → cond t (entry_for plan lid (switch_at cells i)) (entry_for held lid (switch_at cells i)) ≡ entry_for plan lid (switch_at cells i)
  either_entry i less true = refl
  either_entry i less false = same_at i less

  -- and the next entries are the plan's
  pub ordered_settled_entries : (later : List EndPort) → owners_of plan lid ≡ port ∷ later → ComeToOwner cells plan lid
      → map (entry_for plan lid) gs ≡ map (λ g. ordered_for cells q held plan lid (port ∷ later) (index_at cells g) g) gs
  ordered_settled_entries later owners come =
      let own : come.port ≡ port = first_same (sym come.owner_is ∙ owners) in
      mapped_same (entry_for plan lid) (λ g. next_by_order cells q held plan line (index_at cells g) g) gs
      (λ v less. (
      let g = switch_at cells v in
      let ends = come.each v less in
      let walk : after ends.0 hops (To v) ≡ Ends (Taken port) = ends.1 ∙ ap (λ (e : EndPort). Ends (Taken e)) own in
      let comes : comes_to port tries (To v) ≡ true = comes_there tries port ends.0 (To v) (tries_so ends.0 (To v) walk) in
      let index : index_at cells g ≡ v = index_own gs v (switches_rise facts gs refl) less in
      sym (either_entry v less (may_change cells q held plan line v g))
      ∙ sym (ap (λ t. cond t (tried_entry cells q held plan line v g) 255) comes)
      ∙ ap (λ (i : ℕ). next_by_order cells q held plan line i g) (sym index)))
    where
      first_same : {x y : EndPort} {xs ys : List EndPort} → x ∷ xs ≡ y ∷ ys → x ≡ y
      first_same e = cc
