use Rattle.std.proofs.Common.{◌≡◌, ◌∙◌, ◌≤◌, length, sym, ap, arith, rules, of_calls}
use Rattle.std.proofs.lemmas.Fn.{always_returns_same}
use Rattle.std.specs.List.{flat_map, slice_get}
use Rattle.std.specs.Option.{option_copied}
use Rattle.std.specs.Ordering.{is_lt}
use Rattle.std.proofs.lemmas.List.{take_all}
use Rattle.schedule_lines.specs.Tables.{held_by, held_cmp, in_order}
use Rattle.schedule_lines.proofs.Held.{held_ranks, key_of, more_held}
use Rattle.schedule_lines.proofs.Order.{sorted_is_in_order}
use Rattle.schedule_lines.proofs.Present.{is_present}
use Rattle.schedule_lines.proofs.tables.held_lids.Goals as goal

pub loop-number-preserved : goal.loop-number-preserved
loop-number-preserved c =
    more_held c.args.fabric.now.agents c.loop-number.number c.unwrap.result.now c.loop-number.held.items c.hold_lids.new.held.items
    (ap (slice_get c.args.fabric.now.agents) (sym c.new.ensures) ∙ sym c.agent.ensures
    ∙ ap option_copied c.unwrap.ensures) c.loop-number.invariant c.in_ok-hold_lids.ensures

pub returns : goal.returns
returns c =
    let agents = c.args.fabric.now.agents in
    let all : length agents ≤ c.loop-number.number = omega (arith, c.node_count-number-end.ensures) in
    let tells = always_returns_same _ (λ a r. r ≡ key_of a.0.now) _ (λ a r f h. search (rules, of_calls)) in
    sorted_is_in_order (λ x y. is_lt (held_cmp x y)) held_ranks c.loop-number.held.items c.sort_by_key.new.self.items
    (c.in_ok-sort_by_key.ensures.sorted key_of tells) (c.in_ok-sort_by_key.ensures.stable key_of tells)
    ∙ ap (in_order (λ x y. is_lt (held_cmp x y))) (c.loop-number.invariant ∙ ap (flat_map held_by) (take_all c.loop-number.number agents all))

pub unwrap-requires : goal.unwrap-requires
unwrap-requires c =
    let agents = c.args.fabric.now.agents in
    is_present agents c.agent.result c.loop-number.number (c.agent.ensures ∙ ap (slice_get agents) c.new.ensures)
    (omega (arith, c.loop-number-test.true, c.node_count-number-end.ensures))
