-- Where packets for the LID of an end port end, according to the walks from the switches.
use Rattle.std.specs.Prelude.{◌≡◌, ℕ, Bool, false, ◌&&◌, List, Option, None, Some, length, map, slice_index_or}
use Rattle.std.specs.List.{list_all}
use Rattle.subnet_view.specs.declared.end_port.EndPort.{EndPort}
use Rattle.packet_walks.specs.declared.packet_end.End.{End}
use Rattle.held_tables.specs.declared.senders.Sender.{Sender}
use Rattle.packet_walks.specs.declared.next_hop.NextHop.{NextHop}
use Rattle.held_tables.specs.Switches.{all_begin, first_switch}
use Rattle.packet_walks.specs.HopsByTables.{first_hop, is_at}
use Rattle.held_tables.specs.Owners.{is_sole}
use Rattle.packet_walks.specs.EndsBySwitch.{end_of, onward}

-- the ends of the packets that end ports send for the LID of `port`, one for each end port, in the order of the end
-- ports; None for a packet that loops forever
pub record Ended : Type 0 where
  pub port : EndPort
  pub ends : List (Option End)

-- the end of the packet of `source`, where `walks` has the end of the walk from each switch; None if the packet loops
-- forever
abbrev pub end_from : List EndPort → List NextHop → Sender → Option End
end_from owners walks source = end_of (onward walks (first_hop owners source))

-- for each of `walks`, whether it has ended at `port`
abbrev pub arrivals : EndPort → List NextHop → List Bool
arrivals port walks = map (λ walk. is_at port (end_of walk)) walks

-- whether the walk from the switch at the given index ends at the port, as `arrive` says; false if there is no index,
-- or if the index is past the end of `arrive`
abbrev pub comes_by : Option ℕ → List Bool → Bool
comes_by None arrive = false
comes_by (Some index) arrive = slice_index_or arrive index false

-- whether all packets first reach a switch (`begin`), each walk ends at the port (`arrive`), and no other end port
-- holds the LID (`sole`)
abbrev pub all_come : Bool → List Bool → Bool → Bool
all_come begin arrive sole = begin && sole && list_all (λ arrives. arrives) arrive

-- `firsts` has the first switch that the packets of each sender reach, and `arrive` says whether the walk from each
-- switch ends at `port`. `sole` says whether each of `owners` is `port`, and `all` is `all_come` of these
pub record AreEnds (port : EndPort) (sources : List Sender) (firsts : List (Option ℕ)) (owners : List EndPort)
    (walks : List NextHop) (arrive : List Bool)
    (sole all : Bool) : Type 0 where
  pub firsts_are : firsts ≡ map first_switch sources
  pub arrive_is : arrive ≡ arrivals port walks
  pub sole_is : sole ≡ is_sole port owners
  pub all_is : all ≡ all_come (all_begin (length walks) firsts) arrive sole
