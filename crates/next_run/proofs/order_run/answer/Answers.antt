-- The order of the network is that of the store and the tables, and its switches are written.
use Rattle.std.proofs.Common.{◌≡◌, ◌∙◌, ap, length, refl, subst}
use Rattle.std.specs.Prelude.{ℕ, List, Option, None, Some, is_some}
use Rattle.std.specs.Io.KnownBytes.{Appends}
use Rattle.std.specs.List.{range_with_len}
use Rattle.std.specs.Option.{option_map}
use Rattle.fact_store.specs.View.{Facts, cells_of}
use Rattle.subnet_view.specs.Reading.{switches}
use Rattle.held_tables.specs.Held.{HeldPlan}
use Rattle.held_order.specs.ToldOrder.{IsImpliedOrder}
use Rattle.sm_cli.specs.Fault.{IsOutputFault}
use Rattle.sm_cli.specs.OrderText.{order_text}
use Rattle.next_run.specs.OrderRun.{told_switches}
use Rattle.next_run.proofs.StepIs.{stops}
use Rattle.next_run.proofs.order_run.answer.Goals as goal

-- an option is there if what it is mapped to is
map_there : {A B : Type 0} (f : A → B) (o : Option A) → is_some o ≡ is_some (option_map f o)
map_there f None = refl
map_there f (Some x) = refl

pub returns-clause-told : goal.returns-clause-told
returns-clause-told g c =
    let found = c.in_ok-network.ensures in
    let facts_are = found.facts ∙ c.in_ok-wired.ensures ∙ c.in_ok-subnet.ensures in
    let order : Option (List ℕ) = option_map (λ taken. taken.items) c.in_ok-order.order in
    let Told : Facts × HeldPlan → Type 0 = λ x. IsImpliedOrder (cells_of x.0) x.1 (range_with_len 0 (length (switches (cells_of x.0)))) order in
    let Written : List ℕ → Type 0 = λ text. Appends (g.W.Sink.written c.args.sink.now) (g.W.Sink.written c.write_order.new.sink) text in
    record {
      order = order;
      told = subst Told (λ i. (facts_are i, found.held i)) c.in_ok-order.ensures;
      written = subst Written (ap order_text (c.deref.ensures.value ∙ c.in_ok-switches.ensures
          ∙ ap (λ (f : Facts). told_switches (cells_of f) order) facts_are)) c.in_ok-write_order.ensures.writes.ok;
      judged = c.is_some.ensures ∙ map_there (λ taken. taken.items) c.in_ok-order.order;
    }

pub returns-in_err-write_order-clause-refused : goal.returns-in_err-write_order-clause-refused
returns-in_err-write_order-clause-refused g c =
    stops c.from_residual-in_err-write_order.result (IsOutputFault (g.W.Sink.has_failed c.write_order.new.sink))
    c.from_residual-in_err-write_order.ensures.1 (c.in_err-write_order.ensures.writes.failed.0 refl)
