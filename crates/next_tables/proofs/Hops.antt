-- What switches do by their entries.
use Rattle.std.proofs.Common.{◌≡◌, ℕ, zero, suc, ◌<◌, true, false, ◌+◌, ◌*◌, cond, List, [], ◌∷◌, length, Option, None, Some, refl, sym, ap, ◌∙◌, subst, arith, inl, inr}
use Rattle.std.specs.Option.{option_map_or}
use Rattle.std.specs.Prelude.{slice_get, slice_index_or, ◌==◌, ◌/◌, ◌%◌}
use Rattle.std.proofs.lemmas.Bool.{cases_lt}
use Rattle.std.proofs.lemmas.List.{get_or_past}
use Rattle.std.proofs.lemmas.List.FromFn.{get_or-map-range_with_len, length-map-range_with_len}
use Rattle.std.proofs.lemmas.List.Quantifiers.{position-Some}
use Rattle.std.proofs.lemmas.Option.{same_Some}
use Rattle.port_graph.specs.declared.edge.Edge.{Edge}
use Rattle.subnet_view.specs.declared.end_port.EndPort.{EndPort}
use Rattle.subnet_view.specs.Reading.{Cells, switches}
use Rattle.subnet_view.specs.Wires.{across}
use Rattle.held_tables.specs.Held.{HeldPlan}
use Rattle.packet_walks.specs.declared.cause.Cause.{Cause}
use Rattle.packet_walks.specs.declared.next_hop.NextHop.TheVariants.{To, Ends}
use Rattle.packet_walks.specs.declared.packet_end.End.TheVariants.{Taken}
use Rattle.held_tables.specs.declared.far_end.Far.{Far}
use Rattle.held_tables.specs.declared.far_end.Far.TheVariants.{Nothing, Switch, Port}
use Rattle.held_tables.specs.Switches.{far_at, far_by, far_of, far_to, index_in, row_of}
use Rattle.held_tables.specs.Tables.{owners_of, entry_for}
use Rattle.packet_walks.specs.HopsByTables.{by_entry, over, cause_of}
use Rattle.packet_walks.specs.Edges.{edge_by, edge_to, edges_of}
use Rattle.audit_channels.specs.Column.{number_of}
use Rattle.plan_tables.proofs.HeldTables.{within_length}
use Rattle.next_tables.specs.SettledRule.{step_at}
use Rattle.next_tables.proofs.Entries.{at_mapped, past_mapped}
use Rattle.next_tables.proofs.Steps.{at_index}
use Rattle.packet_walks.proofs.FarRows.{far_within}
use Rattle.next_tables.specs.SwitchPositions.{Leads, switch_at}

-- to a switch an entry leads whoever owns the LID
over_to : (owners others : List EndPort) (g : ℕ) (cause other : Cause) (far : Far) (j : ℕ) → over owners g cause far ≡ To j → over others g other far ≡ To j
over_to owners others g cause other Nothing j h = absurd (cc)
over_to owners others g cause other (Switch index) j h = h
over_to owners others g cause other (Port e) j h = absurd (cc)

by_entry_to : (owners others : List EndPort) (g : ℕ) (cause other : Cause) (row : List Far) (entry : ℕ) (j : ℕ) → by_entry owners g cause row entry ≡ To j
    → by_entry others g other row entry ≡ To j
by_entry_to owners others g cause other row entry j =
    elim (entry == 0) as (λ t. cond t (Ends (Taken (record { node = g; port = 0 }))) (over owners g cause (slice_index_or row entry Nothing)) ≡ To j
    → cond t (Ends (Taken (record { node = g; port = 0 }))) (over others g other (slice_index_or row entry Nothing)) ≡ To j) [
      | true ↦ λ h. absurd (cc)
      | false ↦ λ h. over_to owners others g cause other (slice_index_or row entry Nothing) j h
    ]

pub to_same : (cells : Cells) (a b : HeldPlan) (lid g j : ℕ) → entry_for a lid g ≡ entry_for b lid g → step_at cells a lid g ≡ To j
    → step_at cells b lid g ≡ To j
to_same cells a b lid g j e h =
    by_entry_to (owners_of a lid) (owners_of b lid) g (cause_of cells a lid g) (cause_of cells b lid g) (row_of cells g) (entry_for b lid g) j
    (subst (λ (x : ℕ). by_entry (owners_of a lid) g (cause_of cells a lid g) (row_of cells g) x ≡ To j) e h)

-- 255 leads nowhere
past_row : (cells : Cells) (g : ℕ) → slice_index_or (row_of cells g) 255 Nothing ≡ Nothing
past_row cells g = get_or_past (row_of cells g) 255 Nothing (omega (arith, length-map-range_with_len (far_of cells g) 0 255))

pub none_to : (cells : Cells) (tables : HeldPlan) (lid g j : ℕ) → entry_for tables lid g ≡ 255 → step_at cells tables lid g ≡ To j → ⊥
none_to cells tables lid g j e h =
    let owners = owners_of tables lid in
    let cause = cause_of cells tables lid g in
    let at255 : over owners g cause (slice_index_or (row_of cells g) 255 Nothing) ≡ To j =
    subst (λ (x : ℕ). by_entry owners g cause (row_of cells g) x ≡ To j) e h in
    let there : over owners g cause Nothing ≡ To j = subst (λ (far : Far). over owners g cause far ≡ To j) (past_row cells g) at255 in
    absurd (cc)

-- an edge leads on
edge_over : (owners : List EndPort) (g : ℕ) (cause : Cause) (entry : ℕ) (far : Far) (edge : Edge) → edge_to entry far ≡ Some edge
    → over owners g cause far ≡ To edge.to
edge_over owners g cause entry Nothing edge h = absurd (cc)
edge_over owners g cause entry (Switch index) edge h =
    let e = same_Some (record { port = entry; to = index }) edge h in ap (λ (x : Edge). To x.to) e
edge_over owners g cause entry (Port e) edge h = absurd (cc)

edge_leads : (owners : List EndPort) (g : ℕ) (cause : Cause) (row : List Far) (entry : ℕ) (edge : Edge) → edge_by row entry ≡ Some edge
    → by_entry owners g cause row entry ≡ To edge.to
edge_leads owners g cause row entry edge =
    elim (entry == 0) as (λ t. cond t None (edge_to entry (slice_index_or row entry Nothing)) ≡ Some edge
    → cond t (Ends (Taken (record { node = g; port = 0 }))) (over owners g cause (slice_index_or row entry Nothing)) ≡ To edge.to) [
      | true ↦ λ h. absurd (cc)
      | false ↦ λ h. edge_over owners g cause entry (slice_index_or row entry Nothing) edge h
    ]

-- what stands at an index within
pub placed : (gs : List ℕ) (i : ℕ) → i < length gs → slice_get gs i ≡ Some (slice_index_or gs i 0)
placed [] i h = absurd (omega arith)
placed (g ∷ gs) zero h = refl
placed (g ∷ gs) (suc i) h = placed gs i (omega arith)

pub edge_here : (cells : Cells) (tables : HeldPlan) (lid i : ℕ) (edge : Edge) → slice_index_or (edges_of cells tables lid) i None ≡ Some edge
    → (i < length (switches cells)) × (edge_by (row_of cells (switch_at cells i)) (entry_for tables lid (switch_at cells i)) ≡ Some edge)
edge_here cells tables lid i edge h =
    let gs = switches cells in
    let by : ℕ → Option Edge = λ g. edge_by (row_of cells g) (entry_for tables lid g) in
    elim (cases_lt i (length gs)) [
      | inl less ↦ (less, sym (at_mapped by gs i None less) ∙ h)
      | inr more ↦ let none : slice_index_or (edges_of cells tables lid) i None ≡ None = past_mapped by gs i None more in absurd (cc)
    ]

pub edge_is : (cells : Cells) (tables : HeldPlan) (lid i : ℕ) (edge : Edge) → slice_index_or (edges_of cells tables lid) i None ≡ Some edge
    → Leads cells tables lid i edge.to
edge_is cells tables lid i edge h =
    let here = edge_here cells tables lid i edge h in
    let g = switch_at cells i in
    record {
      switch = g;
      is_there = placed (switches cells) i here.0;
      goes = edge_leads (owners_of tables lid) g (cause_of cells tables lid g) (row_of cells g) (entry_for tables lid g) edge here.1;
    }

-- an edge is that of its port, which has a number below 255
pub edge_port : (row : List Far) (entry : ℕ) (edge : Edge) → edge_by row entry ≡ Some edge
    → (edge.port ≡ entry) × (slice_index_or row entry Nothing ≡ Switch edge.to)
edge_port row entry edge =
    elim (entry == 0) as (λ t. cond t None (edge_to entry (slice_index_or row entry Nothing)) ≡ Some edge
    → (edge.port ≡ entry) × (slice_index_or row entry Nothing ≡ Switch edge.to)) [
      | true ↦ λ h. absurd (cc)
      | false ↦ λ h. far_is entry (slice_index_or row entry Nothing) edge h
    ]
  where
    far_is : (entry : ℕ) (far : Far) (edge : Edge) → edge_to entry far ≡ Some edge → (edge.port ≡ entry) × (far ≡ Switch edge.to)
    far_is entry Nothing edge h = absurd (cc)
    far_is entry (Switch index) edge h =
        let e = same_Some (record { port = entry; to = index }) edge h in
        (sym (ap (λ (x : Edge). x.port) e), ap (λ (x : Edge). Switch x.to) e)
    far_is entry (Port e) edge h = absurd (cc)

-- the channel of an edge: whose it is, and where it leads
pub channel_leads : (cells : Cells) (tables : HeldPlan) (lid i : ℕ) (edge : Edge) → slice_index_or (edges_of cells tables lid) i None ≡ Some edge
    → (number_of i edge / 256 ≡ i) × (far_by cells (number_of i edge) ≡ Switch edge.to) × (number_of i edge < 256 * length (switches cells))
channel_leads cells tables lid i edge h =
    let here = edge_here cells tables lid i edge h in
    let g = switch_at cells i in
    let row = row_of cells g in
    let is = edge_port row (entry_for tables lid g) edge here.1 in
    let far : slice_index_or row edge.port Nothing ≡ Switch edge.to = ap (λ p. slice_index_or row p Nothing) is.0 ∙ is.1 in
    let small : edge.port < 255 =
    (elim (cases_lt edge.port 255) [
      | inl less ↦ less
      | inr more ↦ let past : slice_index_or row edge.port Nothing ≡ Nothing =
          get_or_past row edge.port Nothing (omega (arith, length-map-range_with_len (far_of cells g) 0 255)) in absurd (cc)
    ]) in
    let c : ℕ = 256 * i + edge.port in
    let over : c / 256 ≡ i = omega arith in
    let rest : c % 256 ≡ edge.port = omega arith in
    let less : i < length (switches cells) = here.0 in
    let at : slice_get (switches cells) (c / 256) ≡ Some g = ap (slice_get (switches cells)) over ∙ placed (switches cells) i less in (
      over,
      ap (λ o. option_map_or (λ x. slice_index_or (row_of cells x) (c % 256) Nothing) o Nothing) at
          ∙ ap (λ p. slice_index_or row p Nothing) rest ∙ far,
      omega arith,
    )

-- one leads so by another's entry
pub leads_same : (cells : Cells) (a b : HeldPlan) (lid i j : ℕ) (l : Leads cells a lid i j) → entry_for a lid l.switch ≡ entry_for b lid l.switch
    → Leads cells b lid i j
leads_same cells a b lid i j l e = record { switch = l.switch; is_there = l.is_there; goes = to_same cells a b lid l.switch j e l.goes }

-- from one of the usable switches
pub leads_within : (cells : Cells) (tables : HeldPlan) (lid i j : ℕ) → Leads cells tables lid i j → i < length (switches cells)
leads_within cells tables lid i j l = within_length (switches cells) i l.switch l.is_there

pub leads_at : (cells : Cells) (tables : HeldPlan) (lid i j : ℕ) → Leads cells tables lid i j → step_at cells tables lid (switch_at cells i) ≡ To j
leads_at cells tables lid i j l =
    subst (λ (g : ℕ). step_at cells tables lid g ≡ To j) (sym (at_index (switches cells) i l.switch 0 l.is_there)) l.goes

pub leads_from : (cells : Cells) (tables : HeldPlan) (lid i j : ℕ) → i < length (switches cells)
    → step_at cells tables lid (switch_at cells i) ≡ To j → Leads cells tables lid i j
leads_from cells tables lid i j less h = record { switch = switch_at cells i; is_there = placed (switches cells) i less; goes = h }

pub leads_same_at : (cells : Cells) (a b : HeldPlan) (lid i j : ℕ) → Leads cells a lid i j
    → entry_for a lid (switch_at cells i) ≡ entry_for b lid (switch_at cells i) → Leads cells b lid i j
leads_same_at cells a b lid i j l e =
    leads_from cells b lid i j (leads_within cells a lid i j l) (to_same cells a b lid (switch_at cells i) j e (leads_at cells a lid i j l))

row_within : (cells : Cells) (g p j : ℕ) → slice_index_or (row_of cells g) p Nothing ≡ Switch j → j < length (switches cells)
row_within cells g p j h =
    elim (cases_lt p 255) [
      | inl less ↦ far_within cells g p j (sym (get_or-map-range_with_len (far_of cells g) 0 255 p p Nothing less (omega arith)) ∙ h)
      | inr more ↦
          let past : slice_index_or (row_of cells g) p Nothing ≡ Nothing =
          get_or_past (row_of cells g) p Nothing (omega (arith, length-map-range_with_len (far_of cells g) 0 255)) in absurd (cc)
    ]

pub over_switch : (owners : List EndPort) (g : ℕ) (cause : Cause) (far : Far) (j : ℕ) → over owners g cause far ≡ To j → far ≡ Switch j
over_switch owners g cause Nothing j h = absurd (cc)
over_switch owners g cause (Switch index) j h = let same : index ≡ j = cc in ap (λ i. Switch i) same
over_switch owners g cause (Port e) j h = absurd (cc)

pub to_within : (cells : Cells) (tables : HeldPlan) (lid g j : ℕ) → step_at cells tables lid g ≡ To j → j < length (switches cells)
to_within cells tables lid g j h = by (entry_for tables lid g) h
  where
    owners : List EndPort
    owners = owners_of tables lid

    cause : Cause
    cause = cause_of cells tables lid g

    by : (entry : ℕ) → by_entry (owners_of tables lid) g (cause_of cells tables lid g) (row_of cells g) entry ≡ To j → j < length (switches cells)
    by entry =
        elim (entry == 0) as (λ t. cond t (Ends (Taken (record { node = g; port = 0 }))) (over (owners_of tables lid) g (cause_of cells tables lid g) (slice_index_or (row_of cells g) entry Nothing)) ≡ To j
        → j < length (switches cells)) [
          | true ↦ λ e. absurd (cc)
          | false ↦ λ e. row_within cells g entry j
              (over_switch (owners_of tables lid) g (cause_of cells tables lid g) (slice_index_or (row_of cells g) entry Nothing) j e)
        ]

-- an end port takes the packet by an entry, whatever the cause of a loss would be
over_taken : (owners : List EndPort) (g : ℕ) (cause other : Cause) (far : Far) (port : EndPort) → over owners g cause far ≡ Ends (Taken port)
    → over owners g other far ≡ Ends (Taken port)
over_taken owners g cause other Nothing port h = absurd (cc)
over_taken owners g cause other (Switch index) port h = absurd (cc)
over_taken owners g cause other (Port e) port h = h

by_entry_taken : (owners : List EndPort) (g : ℕ) (cause other : Cause) (row : List Far) (entry : ℕ) (port : EndPort)
    → by_entry owners g cause row entry ≡ Ends (Taken port) → by_entry owners g other row entry ≡ Ends (Taken port)
by_entry_taken owners g cause other row entry port =
    elim (entry == 0) as (λ t. cond t (Ends (Taken (record { node = g; port = 0 }))) (over owners g cause (slice_index_or row entry Nothing)) ≡ Ends (Taken port)
    → cond t (Ends (Taken (record { node = g; port = 0 }))) (over owners g other (slice_index_or row entry Nothing)) ≡ Ends (Taken port)) [
      | true ↦ λ h. h
      | false ↦ λ h. over_taken owners g cause other (slice_index_or row entry Nothing) port h
    ]

pub taken_same : (cells : Cells) (a b : HeldPlan) (lid g : ℕ) (port : EndPort) → owners_of a lid ≡ owners_of b lid
    → entry_for a lid g ≡ entry_for b lid g → step_at cells a lid g ≡ Ends (Taken port) → step_at cells b lid g ≡ Ends (Taken port)
taken_same cells a b lid g port owners e h =
    let one : by_entry (owners_of b lid) g (cause_of cells a lid g) (row_of cells g) (entry_for b lid g) ≡ Ends (Taken port) =
    subst (λ (es : List EndPort). by_entry es g (cause_of cells a lid g) (row_of cells g) (entry_for b lid g) ≡ Ends (Taken port)) owners
    (subst (λ (x : ℕ). by_entry (owners_of a lid) g (cause_of cells a lid g) (row_of cells g) x ≡ Ends (Taken port)) e h) in
    by_entry_taken (owners_of b lid) g (cause_of cells a lid g) (cause_of cells b lid g) (row_of cells g) (entry_for b lid g) port one

-- an entry that leads on does so over a wire
pub to_wired : (cells : Cells) (tables : HeldPlan) (lid g j : ℕ) → step_at cells tables lid g ≡ To j
    → (p : ℕ) × (slice_index_or (row_of cells g) p Nothing ≡ Switch j)
to_wired cells tables lid g j h = by (entry_for tables lid g) h
  where
    by : (entry : ℕ) → by_entry (owners_of tables lid) g (cause_of cells tables lid g) (row_of cells g) entry ≡ To j
        → (p : ℕ) × (slice_index_or (row_of cells g) p Nothing ≡ Switch j)
    by entry =
        elim (entry == 0) as (λ t. cond t (Ends (Taken (record { node = g; port = 0 }))) (over (owners_of tables lid) g (cause_of cells tables lid g) (slice_index_or (row_of cells g) entry Nothing)) ≡ To j
        → (p : ℕ) × (slice_index_or (row_of cells g) p Nothing ≡ Switch j)) [
          | true ↦ λ e. absurd (cc)
          | false ↦ λ e. (
            entry,
            over_switch (owners_of tables lid) g (cause_of cells tables lid g) (slice_index_or (row_of cells g) entry Nothing) j e,
          )
        ]

pub none_taken : (cells : Cells) (tables : HeldPlan) (lid g : ℕ) (port : EndPort) → entry_for tables lid g ≡ 255
    → step_at cells tables lid g ≡ Ends (Taken port) → ⊥
none_taken cells tables lid g port e h =
    let owners = owners_of tables lid in
    let cause = cause_of cells tables lid g in
    let at255 : over owners g cause (slice_index_or (row_of cells g) 255 Nothing) ≡ Ends (Taken port) =
    subst (λ (x : ℕ). by_entry owners g cause (row_of cells g) x ≡ Ends (Taken port)) e h in
    let there : over owners g cause Nothing ≡ Ends (Taken port) =
    subst (λ (far : Far). over owners g cause far ≡ Ends (Taken port)) (past_row cells g) at255 in
    absurd (cc)

-- one that leads on has an edge
edge_made : (owners : List EndPort) (g : ℕ) (cause : Cause) (row : List Far) (entry j : ℕ) → by_entry owners g cause row entry ≡ To j
    → edge_by row entry ≡ Some (record { port = entry; to = j })
edge_made owners g cause row entry j =
    elim (entry == 0) as (λ t. cond t (Ends (Taken (record { node = g; port = 0 }))) (over owners g cause (slice_index_or row entry Nothing)) ≡ To j
    → cond t None (edge_to entry (slice_index_or row entry Nothing)) ≡ Some (record { port = entry; to = j })) [
      | true ↦ λ h. absurd (cc)
      | false ↦ λ h. ap (edge_to entry) (over_switch owners g cause (slice_index_or row entry Nothing) j h)
    ]

module _ (cells : Cells) (tables : HeldPlan) (lid : ℕ) where
  abbrev entry : ℕ → ℕ
  entry i = entry_for tables lid (switch_at cells i)

  pub edge_at : (i j : ℕ) → Leads cells tables lid i j → edge_by (row_of cells (switch_at cells i)) (entry i) ≡ Some (record { port = entry i; to = j })
  edge_at i j l =
      edge_made (owners_of tables lid) (switch_at cells i) (cause_of cells tables lid (switch_at cells i)) (row_of cells (switch_at cells i)) (entry i) j
      (leads_at cells tables lid i j l)

  pub column_at : (i j : ℕ) → Leads cells tables lid i j → slice_index_or (edges_of cells tables lid) i None ≡ Some (record { port = entry i; to = j })
  column_at i j l =
      at_mapped (λ g. edge_by (row_of cells g) (entry_for tables lid g)) (switches cells) i None (leads_within cells tables lid i j l) ∙ edge_at i j l
