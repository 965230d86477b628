-- The ends that are found are those of the walks by the held tables.
use Rattle.std.proofs.Common.{◌≡◌, ℕ, zero, suc, ◌/◌, ◌%◌, List, [], ◌∷◌, length, Option, None, Some, Result, Ok, Err, refl, sym, ap, ◌∙◌, subst, arith}
use Rattle.std.specs.Prelude.{map, slice_get, IfOk, ◌==◌}
use Rattle.std.proofs.lemmas.List.Quantifiers.{position-Some}
use Rattle.subnet_view.specs.declared.end_port.EndPort.{EndPort}
use Rattle.subnet_view.specs.Reading.{Cells, switches}
use Rattle.subnet_view.specs.EndPort.{end_ports}
use Rattle.held_tables.specs.declared.held.HeldSwitch.{HeldSwitch}
use Rattle.held_tables.specs.Held.{HeldPlan}
use Rattle.packet_walks.specs.declared.packet_end.End.{End}
use Rattle.held_tables.specs.declared.senders.Sender.{Sender}
use Rattle.held_tables.specs.declared.audited_switch.AuditedSwitch.{AuditedSwitch}
use Rattle.packet_walks.specs.declared.next_hop.NextHop.{NextHop}
use Rattle.packet_walks.specs.Edges.{edge_by, edge_of}
use Rattle.held_tables.specs.Switches.{row_of, node_of, sender_of}
use Rattle.held_tables.specs.Blocks.{AreBlocks}
use Rattle.packet_walks.specs.HopsByTables.{by_entry, cause_of, next_hops_of, entry_among, next_hop_by, next_hop_of, node_entry, first_hop, switch_step, switch_step_by, switch_step_of, AreBrought}
use Rattle.held_tables.specs.Tables.{owners_of, index_of, top_of, block_at, entry_in, entry_at, entry_for, counted}
use Rattle.packet_walks.specs.EndsBySwitch.{onward, end_of, IsEndOf, HaveEnded}

pub if_ok : {T E : Type 0} (P Q : T → Type 0) (r : Result T E) → IfOk r P → ((x : T) → P x → Q x) → IfOk r Q
if_ok P Q (Ok x) h f = f x h
if_ok P Q (Err e) h f = tt

module _ (cells : Cells) (held : HeldPlan) (lid number : ℕ) (rows : List (List ℕ)) (blocks : AreBlocks held number rows) (is : number ≡ lid / 64) where
  entry_is : (g : ℕ) (o : Option ℕ) → index_of held g ≡ o → entry_among rows o lid ≡ entry_at held o lid
  entry_is g None e = refl
  entry_is g (Some index) e =
      let unknown : HeldSwitch = record { guid = 0; top = 0 } in
      let within = (position-Some (λ (s : HeldSwitch). s.guid == g) held.switches index unknown e).0 in
      let as_many = blocks.as_many in
      blocks.entry index (lid % 64) (omega arith) ∙ ap (λ n. entry_in (block_at held index n) (lid % 64)) is

  step_is : (g : ℕ) → next_hop_of (owners_of held lid) rows lid (node_of cells held g)
      ≡ by_entry (owners_of held lid) g (cause_of cells held lid g) (row_of cells g) (counted lid (top_of held g) (entry_at held (index_of held g) lid))
  step_is g = ap (λ e. next_hop_by (owners_of held lid) lid (node_of cells held g) (counted lid (top_of held g) e)) (entry_is g (index_of held g) refl)

  pub steps_are : (guids : List ℕ) → map (next_hop_of (owners_of held lid) rows lid) (map (node_of cells held) guids)
      ≡ map (λ g. by_entry (owners_of held lid) g (cause_of cells held lid g) (row_of cells g)
      (counted lid (top_of held g) (entry_at held (index_of held g) lid))) guids
  steps_are [] = refl
  steps_are (g ∷ guids) = λ i. step_is g i ∷ steps_are guids i

  -- the end of the packet of a source
  abbrev end_by : List NextHop → Sender → Option End
  end_by ends source = end_of (onward ends (first_hop (owners_of held lid) source))

  long : (f : Sender → Option End) (ports : List EndPort) → length (map f (map (sender_of cells) ports)) ≡ length ports
  long f [] = refl
  long f (e ∷ ports) = ap suc (long f ports)

  each : (f : Sender → Option End) (ports : List EndPort) (k : ℕ) (e : EndPort) (end : Option End) → slice_get ports k ≡ Some e
      → slice_get (map f (map (sender_of cells) ports)) k ≡ Some end → f (sender_of cells e) ≡ end
  each f [] k e end at there = cc
  each f (x ∷ ports) zero e end at there = let same : x ≡ e = cc in let that : f (sender_of cells x) ≡ end =
      cc in sym (ap (λ y. f (sender_of cells y)) same) ∙ that
  each f (x ∷ ports) (suc k) e end at there = each f ports k e end at there

  are_brought : (ends : List NextHop) → HaveEnded (next_hops_of cells held lid) ends
      → AreBrought cells held lid (map (end_by ends) (map (sender_of cells) (end_ports cells)))
  are_brought ends h = record {
    as_many = long (end_by ends) (end_ports cells);
    brought = λ k e end at there.
        let Is : Option End → Type 0 = IsEndOf (next_hops_of cells held lid) (first_hop (owners_of held lid) (sender_of cells e)) in
        subst Is (each (end_by ends) (end_ports cells) k e end at there) (h.ended (first_hop (owners_of held lid) (sender_of cells e)));
  }

  pub brought_is : (nodes : List AuditedSwitch) (sources : List Sender) (owners : List EndPort) (steps ends : List NextHop) (result : List (Option End))
      → nodes ≡ map (node_of cells held) (switches cells) → sources ≡ map (sender_of cells) (end_ports cells)
      → owners ≡ owners_of held lid → steps ≡ map (next_hop_of owners rows lid) nodes → HaveEnded steps ends
      → result ≡ map (λ source. end_of (onward ends (first_hop owners source))) sources → AreBrought cells held lid result
  brought_is nodes sources owners steps ends result nodes_are sources_are own are ended result_is =
      let all : steps ≡ next_hops_of cells held lid =
      are ∙ ap (λ o. map (next_hop_of o rows lid) nodes) own ∙ ap (map (next_hop_of (owners_of held lid) rows lid)) nodes_are
      ∙ steps_are (switches cells) in
      let found : result ≡ map (end_by ends) (map (sender_of cells) (end_ports cells)) =
      result_is ∙ ap (λ o. map (λ source. end_of (onward ends (first_hop o source))) sources) own ∙ ap (map (end_by ends)) sources_are in
      subst (AreBrought cells held lid) (sym found) (are_brought ends (subst (λ (xs : List NextHop). HaveEnded xs ends) all ended))

  -- the edges that are found are those of the tables
  pub edges_are : (nodes : List AuditedSwitch) (guids : List ℕ) → nodes ≡ map (node_of cells held) guids
      → map (edge_of rows lid) nodes ≡ map (λ g. edge_by (row_of cells g) (entry_for held lid g)) guids
  edges_are nodes guids e = ap (map (edge_of rows lid)) e ∙ each_edge guids
    where
      each_edge : (gs : List ℕ) → map (edge_of rows lid) (map (node_of cells held) gs) ≡ map (λ g. edge_by (row_of cells g) (entry_for held lid g)) gs
      each_edge [] = refl
      each_edge (g ∷ gs) = λ i. edge_by (row_of cells g) (counted lid (top_of held g) (entry_is g (index_of held g) refl i)) ∷ each_edge gs i

  -- the entries that are found are those of the tables
  pub entries_are : (nodes : List AuditedSwitch) (guids : List ℕ) → nodes ≡ map (node_of cells held) guids
      → map (node_entry rows lid) nodes ≡ map (entry_for held lid) guids
  entries_are nodes guids e = ap (map (node_entry rows lid)) e ∙ each_entry guids
    where
      each_entry : (gs : List ℕ) → map (node_entry rows lid) (map (node_of cells held) gs) ≡ map (entry_for held lid) gs
      each_entry [] = refl
      each_entry (g ∷ gs) = λ i. counted lid (top_of held g) (entry_is g (index_of held g) refl i) ∷ each_entry gs i

  -- what the switches do by their entries is what the tables say
  pub switch_steps_are : (nodes : List AuditedSwitch) (guids : List ℕ) → nodes ≡ map (node_of cells held) guids
      → map (switch_step_of (owners_of held lid) rows lid) nodes ≡ map (switch_step cells held lid) guids
  switch_steps_are nodes guids e = ap (map (switch_step_of (owners_of held lid) rows lid)) e ∙ each_switch guids
    where
      each_switch : (gs : List ℕ) → map (switch_step_of (owners_of held lid) rows lid) (map (node_of cells held) gs) ≡ map (switch_step cells held lid) gs
      each_switch [] = refl
      each_switch (g ∷ gs) = λ i.
          switch_step_by (owners_of held lid) lid (node_of cells held g) (counted lid (top_of held g) (entry_is g (index_of held g) refl i)) ∷ each_switch gs i
