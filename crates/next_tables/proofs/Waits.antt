-- Which channels wait for which while switches go over to the next tables.
use Rattle.std.proofs.Common.{◌≡◌, ℕ, ◌<◌, List, [], ◌∷◌, length, Option, None, Some, sym, ap, ◌∙◌, arith, inl, inr, ◌⊎◌}
use Rattle.std.specs.Prelude.{slice_index_or}
use Rattle.std.proofs.lemmas.Bool.{cases_lt}
use Rattle.port_graph.specs.declared.edge.Edge.{Edge}
use Rattle.subnet_view.specs.Reading.{Cells, switches}
use Rattle.held_tables.specs.Held.{HeldPlan}
use Rattle.packet_walks.specs.Edges.{edge_by, edges_of}
use Rattle.held_tables.specs.Switches.{row_of}
use Rattle.held_tables.specs.Tables.{entry_for}
use Rattle.audit_channels.proofs.Orders.{no_cycle}
use Rattle.next_tables.specs.Mixtures.{IsMixed, WaitsAcross, MixturesWaitSo, WaitsMixed, NoCycleInStep}
use Rattle.next_tables.proofs.Entries.{at_mapped, past_mapped, member}

-- an edge by a mixture is one by either
leaves_by : (cells : Cells) (held next mixed : HeldPlan) (lid : ℕ) → IsMixed cells held next lid mixed → (i : ℕ) (edge : Edge)
    → slice_index_or (edges_of cells mixed lid) i None ≡ Some edge
    → (slice_index_or (edges_of cells held lid) i None ≡ Some edge) ⊎ (slice_index_or (edges_of cells next lid) i None ≡ Some edge)
leaves_by cells held next mixed lid is i edge h =
    let gs = switches cells in
    let by : HeldPlan → ℕ → Option Edge = λ tables g. edge_by (row_of cells g) (entry_for tables lid g) in
    elim (cases_lt i (length gs)) [
      | inl less ↦
          let g : ℕ = slice_index_or gs i 0 in
          let here : (tables : HeldPlan) → slice_index_or (edges_of cells tables lid) i None ≡ by tables g = λ tables. at_mapped (by tables) gs i None less in
          elim (is.entries g (member gs i less)) [
            | inl e ↦ inl (here held ∙ sym (ap (edge_by (row_of cells g)) e) ∙ sym (here mixed) ∙ h)
            | inr e ↦ inr (here next ∙ sym (ap (edge_by (row_of cells g)) e) ∙ sym (here mixed) ∙ h)
          ]
      | inr more ↦ let none : slice_index_or (edges_of cells mixed lid) i None ≡ None = past_mapped (by mixed) gs i None more in absurd (cc)
    ]

pub mixtures_wait_so : MixturesWaitSo
mixtures_wait_so cells held next before now lid b_is n_is a b w =
    let t = w.1 in
    let across : (x y : HeldPlan) → slice_index_or (edges_of cells x lid) w.0 None ≡ Some t.first → slice_index_or (edges_of cells y lid) t.first.to None
    ≡ Some t.second
    → WaitsAcross cells x y lid a b =
    λ x y e k. (w.0, record { first = t.first; second = t.second; leaves = e; leaves_there = k; channel_is = t.channel_is; next_is = t.next_is }) in
    elim (leaves_by cells held next before lid b_is w.0 t.first t.leaves) [
      | inl e ↦ elim (leaves_by cells held next now lid n_is t.first.to t.second t.leaves_there) [
        | inl k ↦ inl (across held held e k)
        | inr k ↦ inr (inl (across held next e k))
      ]
      | inr e ↦ elim (leaves_by cells held next now lid n_is t.first.to t.second t.leaves_there) [
        | inl k ↦ inr (inr (inl (across next held e k)))
        | inr k ↦ inr (inr (inr (across next next e k)))
      ]
    ]

pub no_cycle_in_step : NoCycleInStep
no_cycle_in_step cells held next numbers rise = no_cycle (WaitsMixed cells held next) (record {
  number = λ c. slice_index_or numbers c 0;
  rises = λ a b w.
      rise w.lid a b w.is_lid (mixtures_wait_so cells held next w.before w.now w.lid w.before_is w.now_is a b w.waits);
})
