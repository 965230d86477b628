-- What is kept of a subnet.
use Rattle.std.specs.Prelude.{◌≡◌, ℕ, List}
use Rattle.subnet_view.specs.declared.end_port.EndPort.{EndPort}
use Rattle.subnet_view.specs.EndPort.{end_ports}
use Rattle.subnet_view.specs.Reading.{Cells, switches}

-- the fields of a subnet fit `cells`: its usable switches in ascending order of GUID, and its end ports
pub record IsSubnet (cells : Cells) (guids : List ℕ) (ports : List EndPort) : Type 0 where
  pub guids_are : guids ≡ switches cells
  pub ports_are : ports ≡ end_ports cells
