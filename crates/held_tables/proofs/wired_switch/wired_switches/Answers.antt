-- A switch more.
use Rattle.std.proofs.Common.{◌≡◌, ◌∙◌, ◌+◌, ◌++◌, ◌∷◌, [], ℕ, List, sym, ap, map, take, arith, subst}
use Rattle.fact_store.specs.View.{cells_of}
use Rattle.held_tables.specs.Switches.{wired_of}
use Rattle.held_tables.proofs.Mapped.{mapped_more}
use Rattle.held_tables.proofs.wired_switch.wired_switches.Goals as goal

pub loop-guid-preserved : goal.loop-guid-preserved
loop-guid-preserved c =
    let f = wired_of (cells_of c.args.subnet.now) in
    let guids = c.switches-guids.result.now in
    let i = c.loop-guid.guid-index in
    let so_far = subst (λ (gs : List ℕ). c.loop-guid.wired.items ≡ map f (take i gs)) (sym c.switches-guids.ensures) c.loop-guid.invariant in
    subst (λ (gs : List ℕ). c.push.new.self.items ≡ map f (take (i + 1) gs)) c.switches-guids.ensures
    (rw c.in_ok-push.ensures.items (rw so_far (rw c.in_ok-wired_switch.ensures
    (sym (mapped_more f guids i c.guid-item.result (omega arith) ∙ ap (λ (g : ℕ). map f (take i guids) ++ f g ∷ []) (sym c.guid-item.is))))))
