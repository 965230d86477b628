-- A channel more, or the cycle.
use Rattle.std.proofs.Common.{◌≡◌, ◌-◌, ℕ, List, [], length, take, drop, true, false, ap, sym, ◌∙◌, subst}
use Rattle.std.specs.Prelude.{slice_index_or, ◌==◌, unwrap_or, position}
use Rattle.std.specs.List.{find, list_any}
use Rattle.audit_channels.specs.ChannelOrders.{Follows, IsCycle}
use Rattle.audit_channels.specs.Numbers.{has_none}
use Rattle.audit_channels.proofs.ChannelWays.{at_first, cycle_there, further_on, longer, rest_is}
use Rattle.audit_channels.proofs.cycle.cycle_from.Goals as goal

pub loop-way-init : goal.loop-way-init
loop-way-init c = at_first c.args.waits.now c.args.numbers.now c.new-way.result.items c.args.first c.new-way.ensures.items c.requires.first

pub loop-way-smaller : goal.loop-way-smaller
loop-way-smaller c =
    let way = c.loop-way.way.items in
    let at = c.loop-way.at in
    let absent : list_any (λ (x : ℕ). at == x) way ≡ false =
    ap (list_any (λ (x : ℕ). at == x)) (sym c.deref.ensures.value) ∙ sym c.is_on.ensures ∙ c.loop-way-test.true in
    let next_is : c.unwrap_or-at.result ≡ unwrap_or (find (has_none c.args.numbers.now) (slice_index_or c.args.waits.now at [])) at =
    c.unwrap_or-at.ensures ∙ ap (λ o. unwrap_or o at) (c.first_held_up.ensures ∙ ap (find (has_none c.args.numbers.now)) c.at.ensures) in
    longer c.args.waits.now c.args.numbers.now way at c.requires.given c.loop-way.invariant c.push.new.self.items c.unwrap_or-at.result
    absent c.in_ok-push.ensures.items next_is

pub loop-way-preserved : goal.loop-way-preserved
loop-way-preserved c =
    let way = c.loop-way.way.items in
    let at = c.loop-way.at in
    let absent : list_any (λ (x : ℕ). at == x) way ≡ false =
    ap (list_any (λ (x : ℕ). at == x)) (sym c.deref.ensures.value) ∙ sym c.is_on.ensures ∙ c.loop-way-test.true in
    let next_is : c.unwrap_or-at.result ≡ unwrap_or (find (has_none c.args.numbers.now) (slice_index_or c.args.waits.now at [])) at =
    c.unwrap_or-at.ensures ∙ ap (λ o. unwrap_or o at) (c.first_held_up.ensures ∙ ap (find (has_none c.args.numbers.now)) c.at.ensures) in
    further_on c.args.waits.now c.args.numbers.now way at c.requires.given c.loop-way.invariant c.push.new.self.items c.unwrap_or-at.result
    absent c.in_ok-push.ensures.items next_is

pub returns : goal.returns
returns c =
    let way = c.loop-way.way.items in
    let at = c.loop-way.at in
    let index = c.unwrap_or-index.result in
    let is_on : list_any (λ (x : ℕ). at == x) way ≡ true =
    ap (list_any (λ (x : ℕ). at == x)) (sym c.deref.ensures.value) ∙ sym c.is_on.ensures ∙ c.loop-way-test.false in
    let index_is : index ≡ unwrap_or (position (λ (x : ℕ). at == x) way) 0 =
    c.unwrap_or-index.ensures ∙ ap (λ o. unwrap_or o 0) (c.index_of.ensures ∙ ap (position (λ (x : ℕ). at == x)) c.deref-2.ensures.value) in
    let there = cycle_there c.args.waits.now c.args.numbers.now way at c.requires.given c.loop-way.invariant index is_on index_is in
    let same : c.deref-3.result.now ≡ way = c.deref-3.ensures.value in
    let items : c.in_ok-cycle.cycle.items ≡ drop index way =
    c.in_ok-cycle.ensures.items ∙ ap (λ (xs : List ℕ). take (length xs - index) (drop index xs)) same ∙ rest_is index way in
    subst (IsCycle (Follows c.args.waits.now)) (sym items) there.1
