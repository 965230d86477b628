-- The ends of the path that a request asks for. InfiniBand Architecture Specification, Volume 1: addressing, GIDs;
-- subnet administration, PathRecord.
use Rattle.std.specs.Prelude.{ℕ, Bool, false, ◌==◌, ◌&&◌, Option, Some, None, option_map, if◌then◌else◌}
use Rattle.std.specs.List.{find}
use Rattle.reply_facts.specs.Known.{port_guid_of}
use Rattle.subnet_view.specs.declared.end_port.EndPort.{EndPort}
use Rattle.lid_assign.specs.Lids.{owner_of}
use Rattle.plan_steps.specs.Carried.{link_local_prefix}
use Rattle.sa_answers.specs.Told.{Told}
use Rattle.sa_answers.specs.declared.ends.EndAsked.{EndAsked}
use Rattle.sa_answers.specs.declared.ends.EndAsked.TheVariants.{Nobody, Unknown, Known}
use Rattle.sa_answers.specs.declared.ends.EndSaid.{EndSaid}

-- whether the GUID of a port, if it is known, is `guid`
abbrev pub is_guid : ℕ → Option ℕ → Bool
is_guid guid None = false
is_guid guid (Some known) = known == guid

-- whether an end port has the port GUID `guid`
abbrev pub has_guid : Told → ℕ → EndPort × ℕ → Bool
has_guid told guid x = is_guid guid (port_guid_of told.cells x.0.node x.0.port)

-- the end port with the port GUID `guid`, and its first LID; None if there is none with a LID
abbrev pub end_by_guid : Told → ℕ → Option (EndPort × ℕ)
end_by_guid told guid = find (has_guid told guid) told.plan.given.ports

-- the end port with a GID, and its first LID; None if the prefix is not that of the subnet
abbrev pub end_by_gid : Told → ℕ → ℕ → Option (EndPort × ℕ)
end_by_gid told prefix guid = if prefix == link_local_prefix then end_by_guid told guid else None

-- the end port that has the LID `lid`
abbrev pub end_by_lid : Told → ℕ → Option (EndPort × ℕ)
end_by_lid told lid = option_map (λ e. (e, lid)) (owner_of told.plan.given lid)

-- the end port that was found, if there is one
abbrev pub end_of : Option (EndPort × ℕ) → EndAsked
end_of None = Unknown
end_of (Some x) = Known x.0 x.1

-- the end port that was found by its GID and by its LID, if both are one
abbrev pub both_ends : Option (EndPort × ℕ) → Option (EndPort × ℕ) → EndAsked
both_ends None by_lid = Unknown
both_ends (Some named) None = Unknown
both_ends (Some named) (Some x) =
    if named.0.node == x.0.node && named.0.port == x.0.port then Known x.0 x.1 else Unknown

-- who is asked for at an end of a path
abbrev pub end_asked : Told → EndSaid → EndAsked
end_asked told said =
    if said.by_gid
    then (if said.by_lid then both_ends (end_by_gid told said.prefix said.guid) (end_by_lid told said.lid)
    else end_of (end_by_gid told said.prefix said.guid))
    else (if said.by_lid then end_of (end_by_lid told said.lid) else Nobody)
