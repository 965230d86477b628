-- A switch more.
use Rattle.std.proofs.Common.{◌∙◌, Vec, Global, ap, arith}
use Rattle.std.specs.Prelude.{slice_get}
use Rattle.std.specs.Option.{option_map_or}
use Rattle.fact_store.specs.View.{Facts, cells_of}
use Rattle.subnet_view.specs.Reading.{switches}
use Rattle.held_tables.specs.declared.held.HeldSwitch.{HeldSwitch}
use Rattle.held_tables.specs.Tables.{top_of}
use Rattle.next_tables.proofs.Assembled.{no_switch, switch_more}
use Rattle.next_tables.proofs.assembly.switches_with.Goals.{in-Some+in_ok-push, in_default}
use Rattle.next_tables.proofs.assembly.switches_with.Goals as goal

pub loop-index-preserved : goal.loop-index-preserved
loop-index-preserved c =
    let held = c.args.held.now.held in
    let plan = c.args.plan.now.held in
    let gs = switches (cells_of c.args.held.now.facts) in
    let index = c.loop-index.index in
    let old = c.loop-index.made.items in
    let new = c.match-switch.made.items in
    elim c.match-switch.branch [
      | in-Some+in_ok-push w ↦
          switch_more held plan gs index w.in-Some.guid w.top.result w.top-in-Some.result w.greater-top.result old new
          w.in-Some.ensures w.top.ensures
          (w.top-in-Some.ensures ∙ ap (λ (f : Facts). option_map_or (top_of plan) (slice_get (switches (cells_of f)) index) 0) c.requires.facts)
          w.greater-top.ensures c.loop-index.invariant (ap (λ (v : Vec HeldSwitch Global). v.items) w.made-is ∙ w.in_ok-push.ensures.items)
      | in_default w ↦ no_switch held plan gs index old new (omega (arith, c.switch_count-index-end.ensures, c.loop-index-test.true)) w.in_default.ensures
    ]
