-- Facts that agree with a part cover it.
use Rattle.fabric_model.specs.Fabric.{Fabric}
use Rattle.subnet_view.specs.Reading.{Cells}
use Rattle.subnet_view.specs.FabricAgreement.{Part, AgreesOn, Covers}

pub covers : {part : Part} {cells : Cells} {f : Fabric} → AgreesOn part cells f → Covers part cells f
covers agrees = record {
  guids_distinct = agrees.guids_distinct;
  tells_end_ports = agrees.tells_end_ports;
  wires_told = λ g p h q w. (agrees.wires g p h q).1 w;
  wires_there = λ port node at within h q w. (agrees.wires node.guid port.port h q).0 w;
}
