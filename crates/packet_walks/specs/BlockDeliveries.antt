-- From which switches packets reach the only holder of their LID, for the 64 LIDs of a block at once.
use Rattle.std.specs.Prelude.{◌≡◌, ◌⊎◌, ◌<◌, ◌+◌, ◌*◌, ℕ, zero, suc, Bool, true, List, [], ◌∷◌, ◌++◌, Option, None, Some, length, map, slice_get, slice_index_or, slice_set, if◌then◌else◌}
use Rattle.subnet_view.specs.declared.end_port.EndPort.{EndPort}
use Rattle.held_tables.specs.declared.audited_switch.AuditedSwitch.{AuditedSwitch}
use Rattle.packet_walks.specs.declared.block_deliveries.Exit.{Exit}
use Rattle.packet_walks.specs.declared.packet_end.End.TheVariants.{Taken}
use Rattle.packet_walks.specs.declared.lid_set.LidSet.{LidSet}
use Rattle.packet_walks.specs.declared.next_hop.NextHop.{NextHop}
use Rattle.packet_walks.specs.declared.next_hop.NextHop.TheVariants.{To, Ends}
use Rattle.held_tables.specs.declared.owners.Owner.{Owner}
use Rattle.held_tables.specs.declared.owners.Owner.TheVariants.{Several}
use Rattle.packet_walks.specs.LidSet.{both, either, has, no_lids, with_lid}
use Rattle.packet_walks.specs.HopsByTables.{is_at, next_hop_of}
use Rattle.held_tables.specs.Owners.{sole_among}
use Rattle.packet_walks.specs.EndsBySwitch.{IsEndOf, onward}

-- the only end port that holds the LID at `index` of the block `number`, according to `owners`; None if no end port
-- or several hold it, or if `owners` has no item for the LID
abbrev pub target_at : List Owner → ℕ → ℕ → Option EndPort
target_at owners number index = sole_among (slice_index_or owners (64 * number + index) Several)

-- the list of owners of a LID that has at most one: empty for None, otherwise the given end port
abbrev pub owners_in : Option EndPort → List EndPort
owners_in None = []
owners_in (Some port) = port ∷ []

-- the next hop of each of `nodes` for packets for `lid`, according to the blocks `rows`, where only `target` holds
-- `lid` or, if `target` is None, no end port does
abbrev pub hops_for : List AuditedSwitch → List (List ℕ) → ℕ → Option EndPort → List NextHop
hops_for nodes rows lid target = map (next_hop_of (owners_in target) rows lid) nodes

-- the next hop of each of `nodes` for packets for the LID at `index` of the block `number`, according to `rows`. If
-- several end ports hold the LID, the hops are as if no end port did
abbrev pub hops_at : List AuditedSwitch → List Owner → List (List ℕ) → ℕ → ℕ → List NextHop
hops_at nodes owners rows number index = hops_for nodes rows (64 * number + index) (target_at owners number index)

-- there is a `target`, and packets from `switch` reach it along `hops`
pub record Comes (hops : List NextHop) (target : Option EndPort) (switch : ℕ) : Type 0 where
  pub port : EndPort
  pub is_target : target ≡ Some port
  pub ends : IsEndOf hops (To switch) (Some (Taken port))

-- the set in `arrived` of the LIDs whose packets are seen to arrive from `switch`; empty if there is no such switch
abbrev pub lids_at : List LidSet → ℕ → LidSet
lids_at arrived switch = slice_index_or arrived switch no_lids

-- `arrived` has a set for each of `count` switches; packets from the switch reach the target of each LID in its set.
-- For each LID of an exit, the hop of the exit's switch leads from `from` to `to`
pub record AreSeen (count : ℕ) (hops : ℕ → List NextHop) (target : ℕ → Option EndPort) (arrived : List LidSet)
    (exits : List Exit) : Type 0 where
  pub as_many : length arrived ≡ count
  pub arrive : (switch index : ℕ) → has (lids_at arrived switch) index ≡ true
      → Comes (hops index) (target index) switch
  pub lead : (k index : ℕ) (exit : Exit) → slice_get exits k ≡ Some exit → has exit.lids index ≡ true
      → onward (hops index) (To exit.from) ≡ To exit.to

-- `AreSeen` for `nodes` and for the LIDs of the block `number`: the hops are according to the blocks `rows`, and the
-- target of a LID is the only end port that holds it
abbrev pub AreSeenBy : List AuditedSwitch → List Owner → List (List ℕ) → ℕ → List LidSet → List Exit → Type 0
AreSeenBy nodes owners rows number arrived exits =
    AreSeen (length nodes) (hops_at nodes owners rows number) (target_at owners number) arrived exits

-- there is a `target`, and packets from each of `count` switches reach it
pub record ComeFromEach (count : ℕ) (hops : List NextHop) (target : Option EndPort) : Type 0 where
  pub port : EndPort
  pub is_target : target ≡ Some port
  pub each : (switch : ℕ) → switch < count → IsEndOf hops (To switch) (Some (Taken port))

-- for each of `lids`, which are LIDs of the block `number`, exactly one end port holds the LID, and packets for the
-- LID from each of `nodes` reach this port
abbrev pub AreDelivered : List AuditedSwitch → List Owner → List (List ℕ) → ℕ → LidSet → Type 0
AreDelivered nodes owners rows number lids = (index : ℕ) → has lids index ≡ true
    → ComeFromEach (length nodes) (hops_at nodes owners rows number index) (target_at owners number index)

-- `arrived`, with the LID at `index` added to the LIDs of `switch`
abbrev pub arrived_more : List LidSet → ℕ → ℕ → List LidSet
arrived_more arrived switch index = slice_set arrived switch (with_lid (lids_at arrived switch) index)

-- `arrived`, with the LID at `index` added to the LIDs of `switch` if `more`
abbrev pub arrived_if : Bool → List LidSet → ℕ → ℕ → List LidSet
arrived_if more arrived switch index = if more then arrived_more arrived switch index else arrived

-- the exit at `slot` leads from `from` to `to`, and its LIDs are `lids`
abbrev pub IsExit : List Exit → ℕ → ℕ → ℕ → LidSet → Type 0
IsExit exits slot from to lids = slice_get exits slot ≡ Some (record { from = from; to = to; lids = lids })

-- `new` is `old` with the LID at `index` added to an exit from `from` to `to`
pub record IsExitMore (old : List Exit) (from to index : ℕ) (new : List Exit) : Type 0 where
  pub slot : ℕ
  pub lids : LidSet
  pub there : IsExit old slot from to lids
  pub put : new ≡ slice_set old slot (record { from = from; to = to; lids = with_lid lids index })

-- `new` is `old` with the LID at `index` added to an exit from `from` to `to`, or with a new exit that has only this
-- LID
abbrev pub IsWithExit : List Exit → ℕ → ℕ → ℕ → List Exit → Type 0
IsWithExit old from to index new =
    IsExitMore old from to index new
    ⊎ (new ≡ old ++ record { from = from; to = to; lids = with_lid no_lids index } ∷ [])

-- `more` and `others` are `arrived` and `exits` with the hop of `switch` for the LID at `index` added: a hop to a
-- switch goes to an exit, and an end at `port`, which holds the LID, to the arrivals; another end adds nothing
abbrev pub IsWithHop : List LidSet → List Exit → ℕ → ℕ → EndPort → NextHop → List LidSet → List Exit → Type 0
IsWithHop arrived exits switch index port (To to) more others =
    (more ≡ arrived) × IsWithExit exits switch to index others
IsWithHop arrived exits switch index port (Ends end) more others =
    (more ≡ arrived_if (is_at port (Some end)) arrived switch index) × (others ≡ exits)

-- `arrived` with arrivals carried back along `exit`: each LID of `exit` that the set of `exit.to` has is added to the
-- set of `exit.from`
abbrev pub back_over : Exit → List LidSet → List LidSet
back_over exit arrived =
    slice_set arrived exit.from (either (lids_at arrived exit.from) (both (lids_at arrived exit.to) exit.lids))

-- `arrived` after arrivals are carried back along each of the exits in turn
abbrev pub back_by : List Exit → List LidSet → List LidSet
back_by [] arrived = arrived
back_by (exit ∷ exits) arrived = back_by exits (back_over exit arrived)

-- `arrived` after `n` rounds, each of which carries arrivals back along all `exits` in turn
abbrev pub back_times : ℕ → List Exit → List LidSet → List LidSet
back_times zero exits arrived = arrived
back_times (suc n) exits arrived = back_by exits (back_times n exits arrived)

-- `new` is `old` after some number of rounds, each of which carries arrivals back along all exits in turn
abbrev pub AreAfterRounds : List Exit → List LidSet → List LidSet → Type 0
AreAfterRounds exits old new = (n : ℕ) × (new ≡ back_times n exits old)

-- the LIDs that are in `lids` and in each set of the list
abbrev pub in_each : LidSet → List LidSet → LidSet
in_each lids [] = lids
in_each lids (more ∷ later) = in_each (both lids more) later

-- the LIDs that are in each set; none if there is no set
abbrev pub from_each : List LidSet → LidSet
from_each [] = no_lids
from_each (lids ∷ later) = in_each lids later
