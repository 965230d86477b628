-- What is kept of a subnet for packets that go by tables.
use Rattle.std.specs.Prelude.{◌≡◌, ℕ, Bool, List, Option, length, map}
use Rattle.subnet_view.specs.EndPort.{end_ports}
use Rattle.subnet_view.specs.Reading.{Cells, switches}
use Rattle.held_tables.specs.Switches.{all_begin, first_switch, sender_of, wired_of}
use Rattle.held_tables.specs.declared.senders.Sender.{Sender}
use Rattle.held_tables.specs.declared.wired_switch.WiredSwitch.{WiredSwitch}

-- the fields of a wired subnet fit `cells`: its usable switches in ascending order of GUID, its end ports as senders,
-- the first switch that the packets of each sender reach, and whether the packets of each sender reach a switch
pub record IsWired (cells : Cells) (wired : List WiredSwitch) (sources : List Sender) (firsts : List (Option ℕ))
    (begin : Bool) : Type 0 where
  pub wired_are : wired ≡ map (wired_of cells) (switches cells)
  pub sources_are : sources ≡ map (sender_of cells) (end_ports cells)
  pub firsts_are : firsts ≡ map first_switch (map (sender_of cells) (end_ports cells))
  pub begin_is : begin
      ≡ all_begin (length (switches cells)) (map first_switch (map (sender_of cells) (end_ports cells)))
