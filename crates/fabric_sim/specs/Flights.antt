-- The packets in flight of a simulated fabric, by their serial numbers.
use Rattle.std.specs.Prelude.{◌≡◌, ℕ, ◌<◌, not, Bool, List, map, find, filter, slice_get, ◌==◌, if◌then◌else◌, Option}
use Rattle.std.specs.Prelude.{Some, None, option_map, AllPairs}
use Rattle.fabric_sim.specs.declared.flight.Flight.{Flight}

-- whether the packet in flight has the serial number `serial`
abbrev pub is_numbered : ℕ → Flight → Bool
is_numbered serial flight = flight.serial == serial

-- the packet in flight with the number `serial`; None if no packet has this number
abbrev pub flight_with : List Flight → ℕ → Option Flight
flight_with flights serial = find (is_numbered serial) flights

-- the packet at index `i` of `flights` has the number `serial`
abbrev pub IsFlightAt : List Flight → ℕ → ℕ → Type 0
IsFlightAt flights i serial = option_map (λ flight. flight.serial) (slice_get flights i) ≡ Some serial

-- the given index is the first at which a packet of `flights` has the number `serial`; if it is None, no packet has
-- this number
abbrev pub Finds : List Flight → ℕ → Option ℕ → Type 0
Finds flights serial None = flight_with flights serial ≡ None
Finds flights serial (Some i) = IsFlightAt flights i serial × (slice_get flights i ≡ flight_with flights serial)
    × ((j : ℕ) → j < i → IsFlightAt flights j serial → ⊥)

-- the packets in flight without the one that has the number `serial`
abbrev pub without_flight : List Flight → ℕ → List Flight
without_flight flights serial = filter (λ flight. not (is_numbered serial flight)) flights

-- the packets in flight, with the one that has the serial number of `moved` replaced by `moved`
abbrev pub with_moved : List Flight → Flight → List Flight
with_moved flights moved = map (λ flight. if is_numbered moved.serial flight then moved else flight) flights

-- the serial numbers of packets in flight rise
abbrev pub AreRising : List Flight → Type 0
AreRising flights = AllPairs (λ before after. before.serial < after.serial) flights
