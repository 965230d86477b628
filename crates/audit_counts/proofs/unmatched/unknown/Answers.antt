-- A switch more.
use Rattle.std.proofs.Common.{◌≡◌, ◌∙◌, ◌<◌, ℕ, sym, ap, arith, length, map, get_or, Bool}
use Rattle.std.specs.Prelude.{not}
use Rattle.std.proofs.lemmas.List.{get_or-map}
use Rattle.port_graph.proofs.Counts.{length_map}
use Rattle.fact_store.specs.View.{cells_of}
use Rattle.held_tables.specs.declared.held.HeldSwitch.{HeldSwitch}
use Rattle.subnet_view.specs.Reading.{is_usable}
use Rattle.audit_counts.specs.FirstFew.{listed_of}
use Rattle.audit_counts.proofs.Firsts.{told_more, told_same, told_all}
use Rattle.audit_counts.proofs.unmatched.unknown.Goals as goal
use Rattle.audit_counts.proofs.unmatched.unknown.Goals.{then-not-is_usable+in_ok-add, else-not-is_usable}

pub loop-switch-preserved : goal.loop-switch-preserved
loop-switch-preserved c =
    let switches = c.switches-switch-items.result.now in
    let guid_of = λ (s : HeldSwitch). s.guid in
    let p : ℕ → Bool = λ g. not (is_usable (cells_of c.args.store.now) g) in
    let switch = c.switch-item.result in
    let i = c.loop-switch.switch-index in
    let within : i < length (map guid_of switches) = omega (arith, c.loop-switch-test.true, length_map guid_of switches) in
    let there : switch.guid ≡ get_or (map guid_of switches) i switch.guid =
    ap guid_of c.switch-item.is ∙ sym (get_or-map guid_of switches i switch switch.guid c.loop-switch-test.true) in
    elim c.if-not-is_usable.branch [
      | then-not-is_usable+in_ok-add w ↦
          told_more c.args.most p (map guid_of switches) i switch.guid c.loop-switch.few c.if-not-is_usable.few c.loop-switch.invariant within there
          (ap not (sym c.is_usable.ensures ∙ w.if-not-is_usable.true)) (w.few-is ∙ w.in_ok-add.ensures)
      | else-not-is_usable w ↦
          told_same c.args.most p (map guid_of switches) i switch.guid c.loop-switch.few c.if-not-is_usable.few c.loop-switch.invariant within there
          (ap not (sym c.is_usable.ensures ∙ w.if-not-is_usable.false)) w.few-is
    ]

pub returns : goal.returns
returns c =
    let guid_of = λ (s : HeldSwitch). s.guid in
    let p : ℕ → Bool = λ g. not (is_usable (cells_of c.args.store.now) g) in
    told_all c.args.most p (map guid_of c.switches-switch-items.result.now) c.loop-switch.switch-index c.loop-switch.few c.loop-switch.invariant
    (omega (arith, c.loop-switch-test.false, length_map guid_of c.switches-switch-items.result.now))
    ∙ ap (λ ss. listed_of c.args.most p (map guid_of ss)) c.switches-switch-items.ensures
