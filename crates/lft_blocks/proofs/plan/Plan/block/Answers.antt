use Rattle.std.proofs.Common.{◌≡◌, ◌<◌, List, ℕ, sym, ap, ◌∙◌, subst, length}
use Rattle.std.specs.Prelude.{Contains, slice_index}
use Rattle.std.specs.Option.{option_copied}
use Rattle.lft_blocks.specs.Plan.{PlanValue, block_at}
use Rattle.lft_blocks.proofs.TableLookups.{block_found, no_block}
use Rattle.lft_blocks.proofs.plan.Plan.block.Goals as goal

pub returns-in_err-index : goal.returns-in_err-index
returns-in_err-index c =
    let a = c.args in
    let inside = c.self.inside in
    let plan : PlanValue = record { given = inside.lids; tables = inside.tables.items } in
    let none = subst (λ (guids : List ℕ). Contains guids a.guid → ⊥) c.deref.ensures.value c.in_err-index.ensures in
    ap option_copied c.from_residual.ensures ∙ sym (no_block plan inside.switches.items a.guid a.b c.self.invariant none)
    ∙ ap (λ (p : PlanValue). block_at p a.guid a.b) c.self.view_is

pub returns : goal.returns
returns c =
    let a = c.args in
    let inside = c.self.inside in
    let plan : PlanValue = record { given = inside.lids; tables = inside.tables.items } in
    let index = c.in_ok-index.index in
    let found = subst (λ (guids : List ℕ). (index < length guids) × (slice_index guids index ≡ a.guid)) c.deref.ensures.value c.in_ok-index.ensures in
    c.block.ensures ∙ sym (block_found plan inside.switches.items a.guid a.b index c.index.result.now c.self.invariant found.0 found.1 c.index.ensures)
    ∙ ap (λ (p : PlanValue). block_at p a.guid a.b) c.self.view_is
