-- Which LID each end port has: the claim that it keeps or, if it keeps none, the least LID that is left (addressing
-- chapter, unicast LIDs: 0x0001 to 0xBFFF).
use Rattle.std.specs.Prelude.{◌+◌, ◌-◌, ℕ, zero, suc, Bool, List, [], ◌∷◌, max, map, filter, Option, None, Some, ◌==◌}
use Rattle.std.specs.Prelude.{◌&&◌, not, option_map, option_and_then, unwrap_or, is_some, IsTrue}
use Rattle.std.specs.List.{filter_map, list_any, find}
use Rattle.subnet_view.specs.declared.end_port.EndPort.{EndPort}
use Rattle.subnet_view.specs.Reading.{Cells}
use Rattle.lid_assign.specs.Ranges.{lmc_at, width_of, Range, range_at, is_in, meets, fits}
use Rattle.lid_assign.specs.Claims.{room, kept, kept_range}

-- LIDs that are handed out: -------------------------------------------------------

-- the `n` numbers that begin at `start`
abbrev pub count_up : ℕ → ℕ → List ℕ
count_up start zero = []
count_up start (suc n) = start ∷ count_up (suc start) n

-- whether the range `r` fits and has no number in common with any range of `taken`
abbrev pub is_open : ℕ → List Range → Range → Bool
is_open room taken r = fits room r && not (list_any (meets r) taken)

-- the least number from which a range of `width` fits and has no number in common with the ranges `taken`; None if
-- there is no such number
abbrev pub least_open : ℕ → List Range → ℕ → Option ℕ
least_open room taken width =
    find (λ c. is_open room taken (record { first = c; width = width })) (count_up 1 (room - 1))

-- each end port of a list, with its LID. The LID is the claim that the end port keeps. If it keeps none, it is the
-- least number from which its range fits and has no number in common with `taken` or with a range handed out before.
-- None if some end port finds no such number
abbrev pub hand_out : ℕ → ℕ → List Range → List (EndPort × Option ℕ) → Option (List (EndPort × ℕ))
hand_out room lmc taken [] = Some []
hand_out room lmc taken ((e, Some c) ∷ rest) = option_map (λ given. (e, c) ∷ given) (hand_out room lmc taken rest)
hand_out room lmc taken ((e, None) ∷ rest) =
    option_and_then (λ c. option_map (λ given. (e, c) ∷ given) (hand_out room lmc (range_at lmc e c ∷ taken) rest))
    (least_open room taken (width_of lmc e))

-- each end port in the order of `end_ports`, with its LID; None if some end port finds no LID
abbrev pub handed_out : ℕ → Cells → Option (List (EndPort × ℕ))
handed_out lmc cells = hand_out (room cells) lmc (filter_map (kept_range lmc) (kept lmc cells)) (kept lmc cells)

-- the LMC of a subnet, and its end ports in the order of `end_ports`, each with its LID
pub record Given : Type 0 where
  pub lmc : ℕ
  pub ports : List (EndPort × ℕ)

-- the LIDs of a view under the LMC `lmc`; if some end port finds no LID, no end port has one
abbrev pub lids : ℕ → Cells → Given
lids lmc cells = record { lmc = lmc; ports = unwrap_or (handed_out lmc cells) [] }

-- whether some end port finds no LID
abbrev pub is_no_room : ℕ → Cells → Bool
is_no_room lmc cells = not (is_some (handed_out lmc cells))

-- some end port finds no LID (`is_no_room`), so no LIDs are assigned
abbrev pub IsNoRoom : ℕ → Cells → Type 0
IsNoRoom lmc cells = IsTrue (is_no_room lmc cells)

-- what the LIDs say: ---------------------------------------------------------------

-- whether the number `n` is in the range of an end port with its LID
abbrev pub has_number : ℕ → ℕ → EndPort × ℕ → Bool
has_number lmc n x = is_in (range_at lmc x.0 x.1) n

-- the end port whose range has the number `n`; None if no range has it
abbrev pub owner_of : Given → ℕ → Option EndPort
owner_of given n = option_map (λ x. x.0) (find (has_number given.lmc n) given.ports)

-- whether an end port with its LID is `e`
abbrev pub is_end_port_at : EndPort → EndPort × ℕ → Bool
is_end_port_at e x = e.node == x.0.node && e.port == x.0.port

-- the LID of the end port `e` in a list, which is the first number of its range; None if the list does not have `e`
abbrev pub lid_among : List (EndPort × ℕ) → EndPort → Option ℕ
lid_among given e = option_map (λ x. x.1) (find (is_end_port_at e) given)

-- the LID of the end port `e`, which is the first number of its range; None if `e` has no LID
abbrev pub lid_of : Given → EndPort → Option ℕ
lid_of given e = lid_among given.ports e

-- the LMC of the end port `e`: 0 for a switch, otherwise the subnet's LMC
abbrev pub lmc_of : Given → EndPort → ℕ
lmc_of given e = lmc_at given.lmc e

-- the LID and the LMC of the end port `e`; None if `e` has no LID
abbrev pub range_of : Given → EndPort → Option (ℕ × ℕ)
range_of given e = option_map (λ lid. (lid, lmc_of given e)) (lid_of given e)

-- the greatest of some numbers; 0 if there are none
abbrev pub greatest : List ℕ → ℕ
greatest [] = 0
greatest (n ∷ ns) = max n (greatest ns)

-- the last number of the range of an end port with its LID
abbrev pub last_of : ℕ → EndPort × ℕ → ℕ
last_of lmc x = x.1 + width_of lmc x.0 - 1

-- the greatest number in the ranges of a list; None if the list is empty
abbrev pub top_among : ℕ → List (EndPort × ℕ) → Option ℕ
top_among lmc [] = None
top_among lmc (x ∷ given) = Some (max (last_of lmc x) (greatest (map (last_of lmc) given)))

-- the greatest number in the range of an end port; None if there are no end ports
abbrev pub top_of : Given → Option ℕ
top_of given = top_among given.lmc given.ports

-- one more than `top`, the greatest number in the range of an end port; 0 if `top` is None
abbrev pub end_of : Option ℕ → ℕ
end_of None = 0
end_of (Some top) = suc top

-- whether the number `n` is the LID of an end port, which is the first number of its range
abbrev pub is_lid : List (EndPort × ℕ) → ℕ → Bool
is_lid given n = list_any (λ x. x.1 == n) given

-- the LIDs of end ports, which are the first numbers of their ranges, in ascending order
abbrev pub rising_lids : Given → List ℕ
rising_lids given = filter (is_lid given.ports) (count_up 0 (end_of (top_of given)))
