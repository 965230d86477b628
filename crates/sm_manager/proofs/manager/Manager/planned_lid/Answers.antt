-- There is room, so the end port has a LID.
use Rattle.std.proofs.Common.{sym, ap, ◌∙◌, subst}
use Rattle.std.specs.Prelude.{IsSome}
use Rattle.lid_assign.specs.Lids.{Given, lid_of}
use Rattle.sm_manager.proofs.ReceiverLids.{end_port_has_lid}
use Rattle.sm_manager.proofs.manager.Manager.planned_lid.Goals as goal

pub unwrap-requires : goal.unwrap-requires
unwrap-requires c =
    let m = c.args.self.now in
    let same = c.lid_of.ensures ∙ ap (λ (g : Given). lid_of g c.args.port) c.in_ok-lids.ensures.lids in
    subst (λ o. IsSome o) (sym same) (end_port_has_lid m.planning.lmc m.store c.args.port c.in_ok-lids.ensures.judged c.requires)
