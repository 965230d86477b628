-- The greatest top of the switches: above it no switch has an edge.
use Rattle.std.proofs.Common.{◌≡◌, ◌<◌, ◌+◌, ◌||◌, ℕ, zero, suc, List, [], ◌∷◌, ◌++◌, length, map, take, get_or, refl, sym, ap, ◌∙◌, arith, max, true, false, cond}
use Rattle.std.specs.Prelude.{None, slice_index_or, ◌==◌, nat_lt, nat_eq}
use Rattle.std.specs.Ordering.{is_lt, nat_cmp}
use Rattle.std.specs.declared.cmp.Ordering.TheVariants.{Less, Equal, Greater}
use Rattle.std.proofs.lemmas.Bool.{lt-ltb}
use Rattle.std.proofs.lemmas.List.{get_or_past}
use Rattle.std.proofs.lemmas.List.FromFn.{length-map-range_with_len}
use Rattle.std.proofs.lemmas.List.Recursion.{max_push}
use Rattle.std.proofs.Math.Nat.{le-max_left, le-max_right}
use Rattle.subnet_view.specs.Reading.{Cells, switches}
use Rattle.lid_assign.specs.Lids.{greatest}
use Rattle.held_tables.specs.Held.{HeldPlan}
use Rattle.held_tables.specs.declared.far_end.Far.TheVariants.{Nothing}
use Rattle.held_tables.specs.declared.audited_switch.AuditedSwitch.{AuditedSwitch}
use Rattle.packet_walks.specs.Edges.{edge_by, edge_to, edges_of, greatest_top}
use Rattle.held_tables.specs.Switches.{far_of, node_of, row_of}
use Rattle.held_tables.specs.Tables.{counted, entry_for, entry_of, top_of}
use Rattle.held_tables.proofs.Mapped.{mapped_more}

-- the order of LIDs is that of their numbers
pub less_is : (a b : ℕ) → is_lt (nat_cmp a b) ≡ nat_lt a b
less_is a b =
    elim (nat_lt a b) as (λ t. is_lt (cond t Less (cond (nat_eq a b) Equal Greater)) ≡ t) [
      | true ↦ refl
      | false ↦ (elim (nat_eq a b) as (λ t. is_lt (cond t Equal Greater) ≡ false) [ true ↦ refl | false ↦ refl ])
    ]

-- a switch more
pub greatest_more : (nodes : List AuditedSwitch) (i : ℕ) (node : AuditedSwitch) → i < length nodes → node ≡ get_or nodes i node
    → greatest (map (λ (n : AuditedSwitch). n.top) (take (i + 1) nodes)) ≡ max (greatest (map (λ (n : AuditedSwitch). n.top) (take i nodes))) node.top
greatest_more nodes i node less is =
    ap greatest (mapped_more (λ (n : AuditedSwitch). n.top) nodes i node less
    ∙ ap (λ (n : AuditedSwitch). map (λ (n : AuditedSwitch). n.top) (take i nodes) ++ n.top ∷ []) (sym is))
    ∙ max_push greatest (λ (x : ℕ). x) refl (λ x xs. refl) (map (λ (n : AuditedSwitch). n.top) (take i nodes)) node.top

-- the tops of the network's switches are those that are held
tops : (cells : Cells) (held : HeldPlan) (gs : List ℕ) → map (λ (n : AuditedSwitch). n.top) (map (node_of cells held) gs) ≡ map (top_of held) gs
tops cells held [] = refl
tops cells held (g ∷ gs) = ap (λ ts. top_of held g ∷ ts) (tops cells held gs)

pub greatest_is : (cells : Cells) (held : HeldPlan) (nodes : List AuditedSwitch) → nodes ≡ map (node_of cells held) (switches cells)
    → greatest (map (λ (n : AuditedSwitch). n.top) nodes) ≡ greatest_top cells held
greatest_is cells held nodes e = ap (λ ns. greatest (map (λ (n : AuditedSwitch). n.top) ns)) e ∙ ap greatest (tops cells held (switches cells))

-- 255 is no port
pub no_edge_by : (cells : Cells) (g entry : ℕ) → entry ≡ 255 → edge_by (row_of cells g) entry ≡ None
no_edge_by cells g entry e =
    ap (edge_by (row_of cells g)) e
    ∙ ap (edge_to 255) (get_or_past (row_of cells g) 255 Nothing (omega (arith, length-map-range_with_len (far_of cells g) 0 255)))

-- whether it counts or not
pub uncounted : (lid top : ℕ) → ◌≡◌ {A = ℕ} (counted lid top 255) 255
uncounted lid top = elim (lid == 0 || nat_lt top lid) as (λ t. ◌≡◌ {A = ℕ} (cond t 255 255) 255) [ true ↦ refl | false ↦ refl ]

module _ (cells : Cells) (held : HeldPlan) (lid : ℕ) where
  -- above its top a switch has no entry
  pub entry_above : (g : ℕ) → top_of held g < lid → entry_for held lid g ≡ 255
  entry_above g above =
      elim (lid == 0) as (λ t. cond (t || nat_lt (top_of held g) lid) 255 (entry_of held g lid) ≡ 255) [
        | true ↦ refl
        | false ↦ ap (λ t. cond t 255 (entry_of held g lid)) (lt-ltb (top_of held g) lid above)
      ]

  no_edge : (g : ℕ) → top_of held g < lid → edge_by (row_of cells g) (entry_for held lid g) ≡ None
  no_edge g above = no_edge_by cells g (entry_for held lid g) (entry_above g above)

  none_of : (gs : List ℕ) → greatest (map (top_of held) gs) < lid → (i : ℕ)
      → slice_index_or (map (λ g. edge_by (row_of cells g) (entry_for held lid g)) gs) i None ≡ None
  none_of [] above i = refl
  none_of (g ∷ gs) above zero = let most = le-max_left (top_of held g) (greatest (map (top_of held) gs)) in no_edge g (omega arith)
  none_of (g ∷ gs) above (suc i) = let most = le-max_right (top_of held g) (greatest (map (top_of held) gs)) in none_of gs (omega arith) i

  pub none_above : greatest_top cells held < lid → (i : ℕ) → slice_index_or (edges_of cells held lid) i None ≡ None
  none_above above i = none_of (switches cells) above i
