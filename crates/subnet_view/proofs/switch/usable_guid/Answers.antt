-- The cell says whether the node is a switch.
use Rattle.std.proofs.Common.{◌≡◌, ℕ, Bool, sym, ap, ◌∙◌}
use Rattle.std.specs.Prelude.{Option, None, Some, is_some, if◌then◌else◌}
use Rattle.fact_store.specs.View.{cells_of}
use Rattle.reply_facts.specs.Known.{kind_in, value_in, cap_of}
use Rattle.subnet_view.specs.Reading.{usable_guid}
use Rattle.subnet_view.proofs.Walks.{usable_at, usable_said}
use Rattle.subnet_view.proofs.switch.usable_guid.Goals as goal

-- a node that was asked
abbrev asked : ℕ → Bool → Option ℕ
asked g b = if b then Some g else None

pub returns-then-is_usable_said : goal.returns-then-is_usable_said
returns-then-is_usable_said c =
    let said : usable_guid (cells_of c.args.store.now) c.args.sighting.now
    ≡ usable_said c.in-Node.node (kind_in (value_in (Some c.args.sighting.now.1))) (is_some (cap_of (cells_of c.args.store.now) c.in-Node.node)) =
    usable_at c.args.store.now c.args.sighting.now c.in-Node.node c.requires (sym c.key.ensures.value ∙ c.in-Node.is) in
    sym (said ∙ ap (asked c.in-Node.node) (sym c.is_usable_said.ensures ∙ c.if-is_usable_said.true))

pub returns-else-is_usable_said : goal.returns-else-is_usable_said
returns-else-is_usable_said c =
    let said : usable_guid (cells_of c.args.store.now) c.args.sighting.now
    ≡ usable_said c.in-Node.node (kind_in (value_in (Some c.args.sighting.now.1))) (is_some (cap_of (cells_of c.args.store.now) c.in-Node.node)) =
    usable_at c.args.store.now c.args.sighting.now c.in-Node.node c.requires (sym c.key.ensures.value ∙ c.in-Node.is) in
    sym (said ∙ ap (asked c.in-Node.node) (sym c.is_usable_said.ensures ∙ c.if-is_usable_said.false))
