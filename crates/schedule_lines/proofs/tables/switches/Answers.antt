use Rattle.std.proofs.Common.{◌≡◌, ◌∙◌, ◌≤◌, ◌++◌, ◌∷◌, [], cond, length, map, sym, ap, arith, rules, of_calls}
use Rattle.std.specs.Borrow.{Bor}
use Rattle.std.specs.List.{filter, slice_get}
use Rattle.std.specs.Option.{option_copied}
use Rattle.std.specs.Ordering.{is_lt, nat_cmp}
use Rattle.std.proofs.lemmas.Fn.{always_returns_same}
use Rattle.std.proofs.lemmas.List.{append-nil, map-append, take_all}
use Rattle.node_agents.specs.Agent.{Agent, is_switch}
use Rattle.schedule_lines.specs.Tables.{in_order}
use Rattle.schedule_lines.proofs.Held.{guid_of, guid_ranks, map_in_order, more_switches}
use Rattle.schedule_lines.proofs.Order.{sorted_is_in_order}
use Rattle.schedule_lines.proofs.Present.{is_present}
use Rattle.schedule_lines.proofs.tables.switches.Goals.{then-is_switch+in_ok-push, else-is_switch}
use Rattle.schedule_lines.proofs.tables.switches.Goals as goal

abbrev here : Bor Agent → Agent
here r = r.now

pub loop-number-preserved : goal.loop-number-preserved
loop-number-preserved c =
    let a = c.unwrap-agent.result in
    let old = map here c.loop-number.switches.items in
    more_switches c.args.fabric.now.agents c.loop-number.number a.now old _
    (ap (slice_get c.args.fabric.now.agents) (sym c.new.ensures) ∙ sym c.agent.ensures ∙ ap option_copied c.unwrap-agent.ensures) c.loop-number.invariant
    (elim c.if-is_switch.branch [
      | then-is_switch+in_ok-push w ↦ ap (λ v. map here v.items) w.switches-is ∙ ap (map here) w.in_ok-push.ensures.items
          ∙ map-append here c.loop-number.switches.items (a ∷ []) ∙ ap (λ b. old ++ cond b (a.now ∷ []) []) (sym w.if-is_switch.true ∙ c.is_switch.ensures)
      | else-is_switch w ↦ ap (λ v. map here v.items) w.switches-is ∙ sym (append-nil old)
          ∙ ap (λ b. old ++ cond b (a.now ∷ []) []) (sym w.if-is_switch.false ∙ c.is_switch.ensures)
    ])

pub returns : goal.returns
returns c =
    let agents = c.args.fabric.now.agents in
    let all : length agents ≤ c.loop-number.number = omega (arith, c.node_count-number-end.ensures) in
    let tells = always_returns_same _ (λ a r. r ≡ guid_of a.0.now) _ (λ a r f h. search (rules, of_calls)) in
    ap (map here) (sorted_is_in_order (λ x y. is_lt (nat_cmp (guid_of x) (guid_of y))) guid_ranks c.loop-number.switches.items c.sort_by_key.new.self.items
    (c.in_ok-sort_by_key.ensures.sorted guid_of tells) (c.in_ok-sort_by_key.ensures.stable guid_of tells))
    ∙ map_in_order here (λ x y. is_lt (nat_cmp x.node.guid y.node.guid)) c.loop-number.switches.items
    ∙ ap (in_order (λ x y. is_lt (nat_cmp x.node.guid y.node.guid))) (c.loop-number.invariant
    ∙ ap (filter is_switch) (take_all c.loop-number.number agents all))

pub unwrap-agent-requires : goal.unwrap-agent-requires
unwrap-agent-requires c =
    let agents = c.args.fabric.now.agents in
    is_present agents c.agent.result c.loop-number.number (c.agent.ensures ∙ ap (slice_get agents) c.new.ensures)
    (omega (arith, c.loop-number-test.true, c.node_count-number-end.ensures))
