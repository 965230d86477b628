-- The port that a request asks for. InfiniBand Architecture Specification, Volume 1: subnet administration,
-- PortInfoRecord; subnet management, PortInfo.
use Rattle.std.specs.Prelude.{ℕ, ◌==◌, ◌||◌, Bool, nat_lt, List, Option, Some, None, if◌then◌else◌}
use Rattle.std.specs.Option.{option_map_or}
use Rattle.smp_bytes.specs.Field.{number_in, with_bits, with_number}
use Rattle.attr_codec.specs.PortInfo.{base_lid, gid_prefix, lmc, m_key, master_sm_lid}
use Rattle.subnet_view.specs.declared.end_port.EndPort.{EndPort}
use Rattle.lid_assign.specs.Lids.{lid_of, lmc_of, owner_of}
use Rattle.plan_steps.specs.Carried.{link_local_prefix, or_default}
use Rattle.sweep.specs.Images.{image_at}
use Rattle.sa_answers.specs.Ends.{end_by_guid}
use Rattle.sa_answers.specs.PathReply.{gives}
use Rattle.sa_answers.specs.Told.{Told}
use Rattle.sa_answers.specs.declared.reply.SaRefusal.TheVariants.{NotSupported, NoRecords, TooManyRecords, InsufficientComponents}
use Rattle.sa_answers.specs.declared.reply.Reply.{Reply}
use Rattle.sa_answers.specs.declared.reply.Reply.TheVariants.{Refused, Port}

-- the bits of the components of a PortInfoRecord by which it can be asked for -----------------------------

abbrev pub end_port_lid_bit : ℕ
end_port_lid_bit = 0

abbrev pub port_num_bit : ℕ
port_num_bit = 1

-- the greatest component mask that has no other bits
abbrev pub most_of_mask : ℕ
most_of_mask = 3

-- what is told of a port ---------------------------------------------------------------------------------

-- the first LID of the manager's end port; 0 if it has none
abbrev pub master_lid : Told → ℕ
master_lid told = option_map_or (λ x. x.1) (end_by_guid told told.own) 0

-- the PortInfo that a sweep read, with a LID, an LMC and the manager's LID as the plan writes them, with the link-local
-- prefix if its GID prefix is 0, and without the M_Key, which is not told to everybody
abbrev pub info_told : ℕ → ℕ → ℕ → List ℕ → List ℕ
info_told lid count master image =
    with_bits lmc count
    (with_number master_sm_lid master
    (with_number base_lid lid
    (with_number gid_prefix (or_default link_local_prefix (number_in gid_prefix image)) (with_number m_key 0 image))))

-- the PortInfo of a port, of whose node `e` is an end port with the first LID `lid`. A port of a switch that is no end
-- port has no LID, and MasterSMLID 0
abbrev pub info_at : Told → EndPort → ℕ → ℕ → List ℕ → List ℕ
info_at told e lid port image =
    if port == e.port then info_told lid (lmc_of told.plan.given e) (master_lid told) image else info_told 0 0 0 image

-- the record of a port, given the first LID of `e` and the image of the port, if it is kept
abbrev pub port_with : Told → EndPort → ℕ → Option ℕ → Option (List ℕ) → Reply
port_with told e port (Some lid) (Some image) =
    Port (record { lid = lid; port = port; info = info_at told e lid port image })
port_with told e port lid image = Refused NoRecords

-- the record of a port of the node of the end port `e`
abbrev pub port_told : Told → EndPort → ℕ → Reply
port_told told e port = port_with told e port (lid_of told.plan.given e) (image_at told.images e.node port)

-- the reply ----------------------------------------------------------------------------------------------

-- whether a port of the node of the end port `e` goes by the LID of `e`: each port of a switch, and otherwise `e` alone
abbrev pub goes_by : EndPort → ℕ → Bool
goes_by e port = e.port == 0 || port == e.port

-- the reply to a request for the ports of an end port, one of which it may name. A switch has more than one
abbrev pub reply_at : Told → Bool → ℕ → EndPort → Reply
reply_at told is_named port e =
    if is_named then (if goes_by e port then port_told told e port else Refused NoRecords)
    else (if e.port == 0 then Refused TooManyRecords else port_told told e e.port)

-- the reply to a request for a port of the owner of a LID, if there is one
abbrev pub reply_of_owner : Told → Bool → ℕ → Option EndPort → Reply
reply_of_owner told is_named port None = Refused NoRecords
reply_of_owner told is_named port (Some e) = reply_at told is_named port e

-- the reply to a request for a port: it gives the LID of the end port, perhaps the number of the port, and nothing else
abbrev pub port_reply : Told → ℕ → ℕ → ℕ → Reply
port_reply told mask lid port =
    if nat_lt most_of_mask mask then Refused NotSupported
    else (if gives mask end_port_lid_bit
    then reply_of_owner told (gives mask port_num_bit) port (owner_of told.plan.given lid)
    else Refused InsufficientComponents)
