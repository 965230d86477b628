-- Which claim an end port keeps. It keeps the claim if the range that begins at the claim fits, and no end port
-- before it claims a range that fits and has a number in common with that range.
use Rattle.std.specs.Prelude.{ℕ, Bool, false, List, [], ◌∷◌, min, Option, None, Some, option_map, option_and_then}
use Rattle.std.specs.Prelude.{if◌then◌else◌}
use Rattle.std.specs.Option.{option_map_or}
use Rattle.std.specs.List.{filter_map, list_any}
use Rattle.subnet_view.specs.declared.end_port.EndPort.{EndPort}
use Rattle.reply_facts.specs.Known.{cap_of, claim_of}
use Rattle.subnet_view.specs.Reading.{Cells, switches}
use Rattle.subnet_view.specs.EndPort.{end_ports}
use Rattle.lid_assign.specs.Ranges.{Range, range_at, meets, fits}

-- the least of some table sizes, but at most 0xC000, the first number past the unicast LIDs
abbrev pub least_room : List ℕ → ℕ
least_room [] = 0xC000
least_room (cap ∷ caps) = min cap (least_room caps)

-- the room for LIDs: the least table size of a usable switch, but at most 0xC000, the first number past the unicast
-- LIDs. All LIDs are below it
abbrev pub room : Cells → ℕ
room cells = least_room (filter_map (cap_of cells) (switches cells))

-- `c` if the range of the end port `e` that begins at `c` fits, otherwise None
abbrev pub if_fits : ℕ → ℕ → EndPort → ℕ → Option ℕ
if_fits room lmc e c = if fits room (range_at lmc e c) then Some c else None

-- the number that the end port `e` claims, if the range of `e` that begins at that number fits; otherwise None
abbrev pub fitting_claim : ℕ → Cells → EndPort → Option ℕ
fitting_claim lmc cells e = option_and_then (if_fits (room cells) lmc e) (claim_of cells e.node e.port)

-- whether the end port `e` claims a range that fits and has a number in common with `r`
abbrev pub claims : ℕ → Cells → Range → EndPort → Bool
claims lmc cells r e = option_map_or (λ c. meets r (range_at lmc e c)) (fitting_claim lmc cells e) false

-- `c` if no end port of `earlier` claims a range that fits and has a number in common with the range of `e` that
-- begins at `c`; otherwise None
abbrev pub if_first : ℕ → Cells → List EndPort → EndPort → ℕ → Option ℕ
if_first lmc cells earlier e c = if list_any (claims lmc cells (range_at lmc e c)) earlier then None else Some c

-- the claim that the end port `e` keeps; None if it keeps no claim. `earlier` are the end ports before `e`
abbrev pub kept_claim : ℕ → Cells → List EndPort → EndPort → Option ℕ
kept_claim lmc cells earlier e = option_and_then (if_first lmc cells earlier e) (fitting_claim lmc cells e)

-- each end port of a list, with the claim that it keeps, or None if it keeps none. `earlier` are the end ports before
-- the list
abbrev pub with_kept : ℕ → Cells → List EndPort → List EndPort → List (EndPort × Option ℕ)
with_kept lmc cells earlier [] = []
with_kept lmc cells earlier (e ∷ rest) = (e, kept_claim lmc cells earlier e) ∷ with_kept lmc cells (e ∷ earlier) rest

-- each end port, in the order of `end_ports`, with the claim that it keeps, or None if it keeps none
abbrev pub kept : ℕ → Cells → List (EndPort × Option ℕ)
kept lmc cells = with_kept lmc cells [] (end_ports cells)

-- the range of a claim that an end port keeps; None if it keeps none
abbrev pub kept_range : ℕ → EndPort × Option ℕ → Option Range
kept_range lmc x = option_map (range_at lmc x.0) x.1
