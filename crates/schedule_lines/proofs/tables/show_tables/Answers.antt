use Rattle.std.proofs.Common.{◌≡◌, ◌∙◌, List, ℕ, refl, ap, subst}
use Rattle.std.proofs.lemmas.Result.{err_from_is_err_and}
use Rattle.std.specs.Borrow.{Bor}
use Rattle.std.specs.List.{flat_map}
use Rattle.node_agents.specs.Agent.{Agent}
use Rattle.byte_io.specs.Prints.{Prints}
use Rattle.schedule_lines.specs.Tables.{all_held, held_line, switches, table_text, tables_text}
use Rattle.schedule_lines.specs.declared.run_fault.RunFault.TheVariants.{Memory}
use Rattle.schedule_lines.proofs.Printing.{ends_in, ends_unprinted, failed_with, prints_same, prints_then}
use Rattle.schedule_lines.proofs.LinesFrom.{flat_map_map}
use Rattle.schedule_lines.proofs.tables.show_tables.Goals as goal

abbrev here : Bor Agent → Agent
here r = r.now

pub returns : goal.returns
unfolding tables_text
returns g c =
    let agents = c.args.fabric.now.agents in
    let held : flat_map held_line c.deref.result.now ≡ flat_map held_line (all_held agents) =
    ap (flat_map held_line) (c.deref.ensures.value ∙ c.in_ok-lids.ensures) in
    let tables : flat_map (λ r. table_text (here r)) c.deref-2.result.now ≡ flat_map table_text (switches agents) =
    ap (flat_map (λ r. table_text (here r))) c.deref-2.ensures.value ∙ flat_map_map table_text here c.in_ok-switches.switches.items
    ∙ ap (flat_map table_text) c.in_ok-switches.ensures in
    let Printed : List ℕ → Type 0 = Prints g.W.Sink.written g.W.Sink.has_failed c.args.sink.now c.write_held.new.sink in
    record {
      prints = prints_then g.W.Sink.written g.W.Sink.has_failed c.write_tables.result c.args.sink.now c.write_held.new.sink c.write_tables.new.sink
          (flat_map held_line (all_held agents)) (flat_map table_text (switches agents)) (subst Printed held c.in_ok-write_held.ensures.prints)
          (prints_same g.W.Sink.written g.W.Sink.has_failed c.write_tables.result c.write_held.new.sink c.write_tables.new.sink _ _ tables
          c.write_tables.ensures.prints);
    }

pub returns-in_err-lids : goal.returns-in_err-lids
returns-in_err-lids g c =
    let q = err_from_is_err_and c.from_residual.result c.from_residual.ensures.1 in
    record { prints = rw (q.1, q.2) (ends_unprinted g.W.Sink.written g.W.Sink.has_failed c.args.sink.now c.args.sink.now _ refl) }

pub returns-in_err-write_held : goal.returns-in_err-write_held
unfolding tables_text
returns-in_err-write_held g c =
    let agents = c.args.fabric.now.agents in
    let fault = c.in_err-write_held.field-0.0 in
    let q = err_from_is_err_and c.from_residual-in_err-write_held.result c.from_residual-in_err-write_held.ensures.1 in
    record {
      prints = rw (q.1, q.2) (ends_in g.W.Sink.written g.W.Sink.has_failed fault c.args.sink.now c.write_held.new.sink
          (flat_map held_line (all_held agents)) (flat_map table_text (switches agents))
          (prints_same g.W.Sink.written g.W.Sink.has_failed (failed_with fault) c.args.sink.now c.write_held.new.sink _ _
          (ap (flat_map held_line) (c.deref.ensures.value ∙ c.in_ok-lids.ensures)) c.in_err-write_held.ensures.prints));
    }

pub returns-in_err-switches : goal.returns-in_err-switches
unfolding tables_text
returns-in_err-switches g c =
    let agents = c.args.fabric.now.agents in
    let now = c.write_held.new.sink in
    let held : flat_map held_line c.deref.result.now ≡ flat_map held_line (all_held agents) =
    ap (flat_map held_line) (c.deref.ensures.value ∙ c.in_ok-lids.ensures) in
    let q = err_from_is_err_and c.from_residual-in_err-switches.result c.from_residual-in_err-switches.ensures.1 in
    record {
      prints = rw (q.1, q.2) (prints_then g.W.Sink.written g.W.Sink.has_failed (failed_with Memory) c.args.sink.now now now
          (flat_map held_line (all_held agents)) (flat_map table_text (switches agents))
          (subst (λ (t : List ℕ). Prints g.W.Sink.written g.W.Sink.has_failed c.args.sink.now now t) held c.in_ok-write_held.ensures.prints)
          (ends_unprinted g.W.Sink.written g.W.Sink.has_failed now now _ refl));
    }
