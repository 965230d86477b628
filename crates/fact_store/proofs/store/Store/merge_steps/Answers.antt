-- The walk gives the merge, in as many steps as there are cells at most.
use Rattle.std.proofs.Common.{◌≡◌, ℕ, length, sym, ap, ◌∙◌, subst, arith, refl, Bool, true, false, not}
use Rattle.std.proofs.lemmas.Bool.{eqb-true}
use Rattle.fact_store.specs.Cells.{AreHeld}
use Rattle.fact_store.specs.Comparisons.{compared_by_walk}
use Rattle.fact_store.specs.Merge.{merge}
use Rattle.fact_store.specs.Seen.{seen}
use Rattle.fact_store.specs.View.{cells_of, view_at}
use Rattle.fact_store.proofs.Held.{AllKept, entries_are, held_kept, is_merge, kept_held, merged_held, merged_view, view-kept}
use Rattle.fact_store.proofs.store.Store.merge_steps.Goals as goal
use Rattle.fact_store.proofs.store.Store.merge_steps.Goals.{then-ne, else-ne}

-- a test that is not false is true
not_false : (t : Bool) → false ≡ not t → t ≡ true
not_false true e = refl
not_false false e = absurd (cc)

pub invariant_of-self : goal.invariant_of-self
invariant_of-self c =
    elim c.if-ne.branch [
      | then-ne w ↦
          subst (AreHeld c.newer-floor.result) (sym (ap (λ l. l.items) w.cells-is ∙ w.drop_below.ensures))
          (kept_held c.newer-floor.result c.in_ok-cells.cells.items (omega (arith, c.newer-floor.ensures, c.other.invariant.from_one))
          c.in_ok-cells.ensures.cells)
      | else-ne w ↦
          let same : c.self.inside.floor ≡ c.other.inside.floor = eqb-true c.self.inside.floor c.other.inside.floor (not_false _ w.if-ne.ensures) in
          let first : c.newer-floor.result ≡ c.self.inside.floor = omega (arith, c.newer-floor.ensures, same) in
          subst (AreHeld c.newer-floor.result) (sym (ap (λ l. l.items) w.cells-is))
          (merged_held c.newer-floor.result (seen c.self.inside.cells.items) (seen c.other.inside.cells.items) c.in_ok-cells.cells.items
          (omega (arith, c.newer-floor.ensures, c.other.invariant.from_one))
          (subst (λ (f : ℕ). AllKept f (seen c.self.inside.cells.items)) (sym first) (held_kept c.self.inside.floor c.self.inside.cells.items c.self.invariant))
          (subst (λ (f : ℕ). AllKept f (seen c.other.inside.cells.items)) (sym (first
          ∙ same)) (held_kept c.other.inside.floor c.other.inside.cells.items c.other.invariant))
          c.in_ok-cells.ensures.cells c.in_ok-cells.ensures.merged)
    ]

pub returns-clause-ok : goal.returns-clause-ok
returns-clause-ok c =
    let walked : view_at c.newer-floor.result c.in_ok-cells.cells.items ≡ merge c.args.self.now c.args.other.now =
    ap (λ (f : ℕ). view_at f c.in_ok-cells.cells.items) c.newer-floor.ensures
    ∙ merged_view c.self.inside.floor c.other.inside.floor c.self.inside.cells.items c.other.inside.cells.items c.in_ok-cells.cells.items c.args.self.now
    c.args.other.now c.self.view_is c.other.view_is c.in_ok-cells.ensures.merged in
    elim c.if-ne.branch [
      | then-ne w ↦ ap (view_at c.newer-floor.result) (ap (λ l. l.items) w.cells-is ∙ w.drop_below.ensures)
          ∙ view-kept c.newer-floor.result c.in_ok-cells.cells.items ∙ walked
      | else-ne w ↦ ap (view_at c.newer-floor.result) (ap (λ l. l.items) w.cells-is) ∙ walked
    ]

pub returns-clause-least : goal.returns-clause-least
returns-clause-least c = is_merge c.args.self.now c.args.other.now (view_at c.newer-floor.result c.if-ne.cells.items) (returns-clause-ok c)

pub returns-clause-counted : goal.returns-clause-counted
returns-clause-counted c =
    c.in_ok-cells.ensures.counted
    ∙ ap (λ s. compared_by_walk s c.other.inside.cells.items)
    (sym (entries_are c.self.inside.floor c.self.inside.cells.items c.self.invariant c.args.self.now c.self.view_is))
    ∙ ap (compared_by_walk (cells_of c.args.self.now))
    (sym (entries_are c.other.inside.floor c.other.inside.cells.items c.other.invariant c.args.other.now c.other.view_is))

pub returns-clause-steps : goal.returns-clause-steps
returns-clause-steps c =
    let first : length (cells_of c.args.self.now) ≡ length c.self.inside.cells.items =
    ap length (entries_are c.self.inside.floor c.self.inside.cells.items c.self.invariant c.args.self.now c.self.view_is) in
    let second : length (cells_of c.args.other.now) ≡ length c.other.inside.cells.items =
    ap length (entries_are c.other.inside.floor c.other.inside.cells.items c.other.invariant c.args.other.now c.other.view_is) in
    omega (arith, c.merge_cells.ensures.fewer, first, second)
