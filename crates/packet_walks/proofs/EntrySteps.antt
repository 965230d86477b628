-- A packet leaves a switch by an entry of its table.
use Rattle.std.proofs.Common.{◌≡◌, ℕ, zero, suc, ◌<◌, true, false, List, [], ◌∷◌, get_or, Option, None, Some}
use Rattle.std.proofs.Common.{refl, sym, ap, ◌∙◌, subst, arith, inl, inr, cond, ◌==◌}
use Rattle.std.specs.Prelude.{slice_get, slice_index_or, map, Contains}
use Rattle.std.proofs.lemmas.Bool.{cases_lt, eqb-true}
use Rattle.std.proofs.lemmas.List.{get_or_past}
use Rattle.std.proofs.lemmas.List.FromFn.{length-map-range_with_len, get_or-map-range_with_len}
use Rattle.std.proofs.lemmas.List.Quantifiers.{position-Some}
use Rattle.std.proofs.lemmas.Option.{same_Some, slice_get-get_or}
use Rattle.subnet_view.specs.Reading.{Cells, switches}
use Rattle.subnet_view.specs.Wires.{across}
use Rattle.subnet_view.proofs.Members.{contains_here, contains_later}
use Rattle.subnet_view.proofs.WireEnds.{linked}
use Rattle.port_graph.specs.declared.edge.Edge.{Edge}
use Rattle.subnet_view.proofs.Graphs.{wire_end}
use Rattle.packet_walks.specs.Edges.{edge_to, edge_by}
use Rattle.held_tables.specs.Switches.{far_at, far_to, far_of, row_of, index_in}
use Rattle.held_tables.specs.declared.far_end.Far.{Far}
use Rattle.held_tables.specs.declared.far_end.Far.TheVariants.{Nothing, Switch, Port}

pub contains_at : {X : Type 0} (xs : List X) (i : ℕ) (x : X) → slice_get xs i ≡ Some x → Contains xs x
contains_at [] i x e = cc
contains_at (y ∷ xs) zero x e = subst (λ z. Contains (y ∷ xs) z) (same_Some y x e) (contains_here y xs)
contains_at (y ∷ xs) (suc i) x e = contains_later y x xs (contains_at xs i x e)

-- what stands at the index of a number
pub index_is : (guids : List ℕ) (g i : ℕ) → index_in guids g ≡ Some i → slice_get guids i ≡ Some g
index_is guids g i e =
    let found = position-Some (λ x. x == g) guids i g e in
    slice_get-get_or guids i g found.0 ∙ ap (λ x. Some x) (eqb-true (get_or guids i g) g found.1)

-- an edge of a column is that of the switch there
pub of_column : (F : ℕ → Option Edge) (guids : List ℕ) (i : ℕ) (x : Edge) → slice_index_or (map F guids) i None ≡ Some x
    → (g : ℕ) × (slice_get guids i ≡ Some g) × (F g ≡ Some x)
of_column F [] i x e = cc
of_column F (g ∷ guids) zero x e = (g, refl, e)
of_column F (g ∷ guids) (suc i) x e = of_column F guids i x e

-- a packet leaves a switch by its entry, over a wire to the usable switch at an index
pub record LeavesBy (cells : Cells) (g entry : ℕ) (x : Edge) : Type 0 where
  pub port_is : x.port ≡ entry
  pub below : entry < 255
  pub end : ℕ × ℕ
  pub wire : across cells g entry ≡ Some end
  pub index : slice_get (switches cells) x.to ≡ Some end.0

module _ (cells : Cells) where
  far_leads : (far : Option (ℕ × ℕ)) (i : ℕ) → far_to (switches cells) far ≡ Switch i
      → (q : ℕ × ℕ) × (far ≡ Some q) × (slice_get (switches cells) i ≡ Some q.0)
  far_leads None i h = absurd (cc)
  far_leads (Some q) i h =
      elim (index_in (switches cells) q.0) as (λ o. index_in (switches cells) q.0 ≡ o → far_at q o ≡ Switch i
      → (p : ℕ × ℕ) × (Some q ≡ Some p) × (slice_get (switches cells) i ≡ Some p.0)) [
        | None ↦ λ e k. absurd (cc)
        | Some j ↦ λ e k. (q, refl, at j e k)
      ] refl h
    where
      at : (j : ℕ) → index_in (switches cells) q.0 ≡ Some j → Switch j ≡ Switch i → slice_get (switches cells) i ≡ Some q.0
      at j e k = let same : j ≡ i = cc in ap (slice_get (switches cells)) (sym same) ∙ index_is (switches cells) q.0 j e

  in_row : (g entry i : ℕ) → slice_index_or (row_of cells g) entry Nothing ≡ Switch i → (entry < 255) × (far_of cells g entry ≡ Switch i)
  in_row g entry i h =
      elim (cases_lt entry 255) [
        | inl less ↦ (less, sym (get_or-map-range_with_len (far_of cells g) 0 255 entry entry Nothing less (omega arith)) ∙ h)
        | inr past ↦
            let none : slice_index_or (row_of cells g) entry Nothing ≡ Nothing =
            get_or_past (row_of cells g) entry Nothing (omega (arith, length-map-range_with_len (far_of cells g) 0 255, past)) in
            absurd (cc)
      ]

  by_far : (g entry : ℕ) (x : Edge) (far : Far) → slice_index_or (row_of cells g) entry Nothing ≡ far → edge_to entry far ≡ Some x → LeavesBy cells g entry x
  by_far g entry x Nothing e h = absurd (cc)
  by_far g entry x (Port p) e h = absurd (cc)
  by_far g entry x (Switch i) e h =
      let made : Edge = record { port = entry; to = i } in
      let same : made ≡ x = same_Some made x h in
      let (below, is) = in_row g entry i e in
      let (end, wire, index) = far_leads (across cells g entry) i is in
      record {
        port_is = ap (λ (y : Edge). y.port) (sym same);
        below = below;
        end = end;
        wire = wire;
        index = ap (λ (y : Edge). slice_get (switches cells) y.to) (sym same) ∙ index;
      }

  pub leaves : (g entry : ℕ) (x : Edge) → edge_by (row_of cells g) entry ≡ Some x → LeavesBy cells g entry x
  leaves g entry x h =
      elim (entry == 0) as (λ t. cond t None (edge_to entry (slice_index_or (row_of cells g) entry Nothing)) ≡ Some x → LeavesBy cells g entry x) [
        | true ↦ λ k. absurd (cc)
        | false ↦ λ k. by_far g entry x (slice_index_or (row_of cells g) entry Nothing) refl k
      ] h

-- no wire is in a port 0
pub no_wire_at_0 : (cells : Cells) (g : ℕ) (q : ℕ × ℕ) → across cells g 0 ≡ Some q → ⊥
no_wire_at_0 cells g q e = let from = (wire_end cells g 0 (linked cells g 0 q e).here).is_port.0 in omega arith
