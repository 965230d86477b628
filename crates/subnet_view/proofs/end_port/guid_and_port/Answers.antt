-- The cell says the GUID.
use Rattle.std.proofs.Common.{◌≡◌, sym, ap, ◌∙◌}
use Rattle.fact_store.specs.View.{cells_of}
use Rattle.reply_facts.specs.Known.{guid_in, value_in}
use Rattle.std.specs.Prelude.{Some}
use Rattle.subnet_view.specs.EndPort.{guid_and_port}
use Rattle.subnet_view.proofs.Walks.{end_at, guid_at}
use Rattle.subnet_view.proofs.end_port.guid_and_port.Goals as goal

pub returns-in_err-guid-in-PortGuid : goal.returns-in_err-guid-in-PortGuid
returns-in_err-guid-in-PortGuid c =
    let said : guid_and_port (cells_of c.args.store.now) c.args.sighting.now
    ≡ end_at c.in-PortGuid.node c.in-PortGuid.port (guid_in (value_in (Some c.args.sighting.now.1))) =
    guid_at c.args.store.now c.args.sighting.now c.in-PortGuid.node c.in-PortGuid.port c.requires (sym c.key.ensures.value
    ∙ c.in-PortGuid.is) (sym c.is_end_port_number.ensures ∙ c.if-is_end_port_number.true) in
    c.from_residual.ensures ∙ sym (said ∙ ap (end_at c.in-PortGuid.node c.in-PortGuid.port) (sym c.guid_said.ensures ∙ c.in_err-guid-in-PortGuid.was))

pub returns-in_ok-guid-in-PortGuid : goal.returns-in_ok-guid-in-PortGuid
returns-in_ok-guid-in-PortGuid c =
    let said : guid_and_port (cells_of c.args.store.now) c.args.sighting.now
    ≡ end_at c.in-PortGuid.node c.in-PortGuid.port (guid_in (value_in (Some c.args.sighting.now.1))) =
    guid_at c.args.store.now c.args.sighting.now c.in-PortGuid.node c.in-PortGuid.port c.requires (sym c.key.ensures.value
    ∙ c.in-PortGuid.is) (sym c.is_end_port_number.ensures ∙ c.if-is_end_port_number.true) in
    sym (said ∙ ap (end_at c.in-PortGuid.node c.in-PortGuid.port) (sym c.guid_said.ensures ∙ c.in_ok-guid-in-PortGuid.was))
