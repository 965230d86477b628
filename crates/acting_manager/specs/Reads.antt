-- What a manager reads of ports while it sweeps: how many are not Active, and how many end ports name another master.
-- InfiniBand Architecture Specification, Volume 1: subnet management, PortInfo (LID, MasterSMLID, PortState).
use Rattle.std.specs.Prelude.{ℕ, Bool, true, false, ◌&&◌, not, List, nat_lt, ◌==◌}
use Rattle.std.specs.Prelude.{if◌then◌else◌, Option, Some}
use Rattle.sm_state.specs.Standing.{one_more}
use Rattle.smp_bytes.specs.Field.{bits_in, bytes_in, number_in}
use Rattle.smp_bytes.specs.Header.{port_info}
use Rattle.smp_bytes.specs.Packet.{attribute_data, attribute_id, hop_count, is_directed, status}
use Rattle.attr_codec.specs.PortInfo.{base_lid, master_sm_lid, port_state, state_of_number}
use Rattle.attr_codec.specs.declared.port_state.PortState.{PortState}
use Rattle.attr_codec.specs.declared.port_state.PortState.TheVariants.{Initialize, Armed}
use Rattle.acting_manager.specs.declared.reads.Reads.{Reads}

-- nothing was read
abbrev pub no_reads : Reads
no_reads = record { own_lid = 0; ports = record { inactive = 0; foreign = 0 } }

-- whether a port's state is Initialize or Armed
abbrev pub is_inactive : Option PortState → Bool
is_inactive (Some Initialize) = true
is_inactive (Some Armed) = true
is_inactive state = false

-- whether an end port has a LID, and its MasterSMLID is not the LID of the manager's own port
abbrev pub is_foreign : ℕ → List ℕ → Bool
is_foreign own image = nat_lt 0 (number_in base_lid image) && not (number_in master_sm_lid image == own)

-- one more if the flag is set
abbrev pub counted_if : Bool → ℕ → ℕ
counted_if flag count = if flag then one_more count else count

-- the LID of the manager's own port: the port that a path of no hops reaches is the one
abbrev pub own_lid_by : List ℕ → ℕ → ℕ
own_lid_by packet own =
    if number_in hop_count packet == 0 then number_in base_lid (bytes_in attribute_data packet) else own

-- the reads after the image of a port in `packet`. A sweep reads the manager's own port first
abbrev pub with_image : List ℕ → Reads → Reads
with_image packet reads =
    let own = own_lid_by packet reads.own_lid in
    let image = bytes_in attribute_data packet in
    record {
      own_lid = own;
      ports =
          record {
            inactive = counted_if (is_inactive (state_of_number (bits_in port_state image))) reads.ports.inactive;
            foreign = counted_if (is_foreign own image) reads.ports.foreign;
          };
    }

-- whether `packet`, the answer to a request, has the image of a port that a sweep reads: it is a PortInfo on a directed
-- route with status 0
abbrev pub has_image : List ℕ → Bool
has_image packet = number_in attribute_id packet == port_info && (is_directed packet && status packet == 0)

-- the reads after the answer `packet` to a request
abbrev pub after_read : List ℕ → Reads → Reads
after_read packet reads = if has_image packet then with_image packet reads else reads
