-- Where a search ends, and a channel more that is done.
use Rattle.std.proofs.Common.{◌≡◌, ◌<◌, ◌≤◌, List, length, sym, ap, ◌∙◌, subst, arith}
use Rattle.audit_channels.specs.ChannelOrders.{Follows}
use Rattle.audit_channels.specs.ShortestCycle.{at_index, IsLeast, NoneBelow}
use Rattle.audit_channels.specs.declared.shortest_cycle.Visited.{Visited}
use Rattle.audit_channels.proofs.Searches.{none_below, past_end, past_count, least_is, one_done}
use Rattle.audit_channels.proofs.shortest_cycle.cycle_of.Goals as goal

pub returns-in_default-clause-found : goal.returns-in_default-clause-found
returns-in_default-clause-found c =
    let reached = c.loop-index.reached.items in
    let index = c.loop-index.index in
    let h = c.loop-index.invariant in
    let many : index < length reached → c.args.least ≤ (at_index reached index).count =
    subst (λ (rs : List Visited). index < length rs → c.args.least
    ≤ (at_index rs index).count) c.deref.ensures.value (c.in_turn.ensures.none c.in_default.is) in
    subst (IsLeast c.args.waits.now c.args.first c.args.least) (sym c.new.ensures.items)
    (none_below c.args.waits.now c.args.numbers.now c.args.first c.args.least index c.args.least reached c.loop-index.marks c.requires.given c.requires.first h
    (past_count c.args.waits.now c.args.first h.count index c.args.least reached c.loop-index.marks h.search many) (omega arith))

pub returns-then-follows-clause-found : goal.returns-then-follows-clause-found
returns-then-follows-clause-found c =
    let reached = c.loop-index.reached.items in
    let index = c.loop-index.index in
    let here = c.in-Some.here in
    let cycle = c.in_ok-cycle.cycle.items in
    let h = c.loop-index.invariant in
    let some = subst (λ (rs : List Visited). (index < length rs) × (here ≡ at_index rs index) × (here.count < c.args.least)) c.deref.ensures.value
    c.in-Some.ensures.some in
    let same = ap (λ (r : Visited). r.count) some.1 in
    let less = some.2 in
    let many : length cycle ≡ here.count =
    c.in_ok-cycle.ensures.count ∙ ap (λ (rs : List Visited). (at_index rs index).count) c.deref-then-follows.ensures.value ∙ sym same in
    let none : NoneBelow c.args.waits.now c.args.first here.count =
    none_below c.args.waits.now c.args.numbers.now c.args.first c.args.least index here.count reached c.loop-index.marks c.requires.given c.requires.first h
    (past_count c.args.waits.now c.args.first h.count index here.count reached c.loop-index.marks h.search (λ within. omega arith)) (omega arith) in
    least_is c.args.waits.now c.args.first c.args.least cycle c.in_ok-cycle.ensures.cycle (omega arith)
    (subst (NoneBelow c.args.waits.now c.args.first) (sym many) none)

pub loop-index-preserved : goal.loop-index-preserved
loop-index-preserved c =
    let reached = c.loop-index.reached.items in
    let index = c.loop-index.index in
    let here = c.in-Some.here in
    let some = subst (λ (rs : List Visited). (index < length rs) × (here ≡ at_index rs index) × (here.count < c.args.least)) c.deref.ensures.value
    c.in-Some.ensures.some in
    let not_back : Follows c.args.waits.now here.channel c.args.first → ⊥ =
    λ f. (let back = c.follows.ensures.1 f in let no = c.if-follows.false in absurd (cc)) in
    one_done c.args.waits.now c.args.numbers.now c.args.first c.args.least index reached c.reach_on.new.reached.items c.loop-index.marks c.reach_on.new.marks
    here c.loop-index.invariant some.0 some.1 not_back c.in_ok-reach_on.ensures.search c.in_ok-reach_on.ensures.grows c.in_ok-reach_on.ensures.onward

pub returns-clause-found : goal.returns-clause-found
returns-clause-found c =
    let reached = c.loop-index.reached.items in
    let index = c.loop-index.index in
    subst (IsLeast c.args.waits.now c.args.first c.args.least) (sym c.new-2.ensures.items)
    (none_below c.args.waits.now c.args.numbers.now c.args.first c.args.least index c.args.least reached c.loop-index.marks c.requires.given c.requires.first
    c.loop-index.invariant (past_end index c.args.least reached (let small = c.loop-index.reached.small in let ok = c.loop-index.reached.ok in
    omega arith)) (omega arith))
