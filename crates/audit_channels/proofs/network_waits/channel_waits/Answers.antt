-- A LID more, and all of them.
use Rattle.std.proofs.Common.{◌≡◌, ◌∙◌, ◌*◌, List, length, sym, subst, arith}
use Rattle.std.specs.Prelude.{Option}
use Rattle.port_graph.specs.declared.edge.Edge.{Edge}
use Rattle.fact_store.specs.View.{cells_of}
use Rattle.subnet_view.specs.Reading.{switches}
use Rattle.packet_walks.specs.Edges.{edges_of}
use Rattle.audit_channels.specs.Column.{IsWithColumn}
use Rattle.audit_channels.specs.Waiting.{IsAdded}
use Rattle.audit_channels.proofs.Waiting.{some_is, none_so_far, none_added, is_added, more, all}
use Rattle.audit_channels.proofs.network_waits.channel_waits.Goals as goal

pub loop-below-init : goal.loop-below-init
loop-below-init c =
    let cells = cells_of c.args.network.now.facts in
    let product = some_is _ c.checked_mul.result c.in_ok-count.count _ c.checked_mul.ensures c.in_ok-count.ensures.ok_part in
    let all_switches = c.switch_count.ensures in
    let count : c.in_ok-count.count ≡ 256 * length (switches cells) = omega arith in
    record {
      seen = c.in_ok-cursor.ensures.seen;
      so_far = none_so_far cells c.args.network.now.held c.in_ok-count.count c.in_ok-waits.waits c.in_ok-waits.ensures count;
      added = subst (λ (xs : List (Option Edge)). IsAdded xs c.in_ok-waits.waits) (sym c.new-before.ensures.items) (none_added c.in_ok-waits.waits);
    }

pub loop-below-preserved : goal.loop-below-preserved
loop-below-preserved c =
    let cells = cells_of c.args.network.now.facts in
    let held = c.args.network.now.held in
    let column = c.in_ok-column.column.items in
    let seen = c.go_to.ensures.seen ∙ c.loop-below.invariant.seen in
    let column_is = c.in_ok-column.ensures ∙ (λ i. edges_of (cells_of (seen i).facts) (seen i).held (c.in_ok-go_to.ensures.lid i)) in
    let with_it = subst (λ (xs : List (Option Edge)). IsWithColumn c.loop-below.waits xs c.add_after.new.waits)
    c.deref-in-loop-below.ensures.value c.in_ok-add_after.ensures in
    record {
      seen = seen;
      so_far = more cells held c.loop-below.below c.new-in-loop-below.result c.loop-below.waits c.add_after.new.waits column c.loop-below.invariant.so_far
          c.new-in-loop-below.ensures column_is with_it;
      added = is_added column c.loop-below.waits c.add_after.new.waits with_it;
    }

pub add_after-requires-clause-added : goal.add_after-requires-clause-added
add_after-requires-clause-added c =
    subst (λ (xs : List (Option Edge)). IsAdded xs c.loop-below.waits) (sym c.deref.ensures.value) c.loop-below.invariant.added

pub returns : goal.returns
returns c =
    all (cells_of c.args.network.now.facts) c.args.network.now.held c.loop-below.below c.loop-below.waits c.loop-below.invariant.so_far (omega arith)
