-- Small cases of definitions, computed: what a law that says less would leave open.
use Rattle.std.specs.Prelude.{◌≡◌, ℕ, Bool, true, false, [], ◌∷◌, List, Some}
use Rattle.smp_bytes.specs.declared.node_type.NodeType.TheVariants.{ChannelAdapter, Switch}
use Rattle.attr_codec.specs.declared.sm_info.SmInfo.{SmInfo}
use Rattle.fact_join.specs.declared.cell.Cell.{Cell}
use Rattle.fact_join.specs.declared.cell.Cell.TheVariants.{Disputed, Known}
use Rattle.reply_facts.specs.declared.key.Key.{Key}
use Rattle.reply_facts.specs.declared.key.Key.TheVariants as key
use Rattle.reply_facts.specs.declared.value.Value.{Value}
use Rattle.reply_facts.specs.declared.value.Value.TheVariants.{Count, Guid, Kind, Lid, Up}
use Rattle.fact_store.specs.View.{cells_of, view_at}
use Rattle.subnet_view.specs.Reading.{Cells}
use Rattle.subnet_view.specs.declared.end_port.EndPort.{EndPort}
use Rattle.lid_assign.specs.Lids.{handed_out}
use Rattle.sm_state.specs.declared.election.SeenManager.{SeenManager}
use Rattle.sm_state.specs.Election.{heir_of, polled_of, successor_of}

-- facts -------------------------------------------------------------------------------------------

-- a sighting in a generation that a port of node 16 was up or not
abbrev pub seen : ℕ → ℕ → Bool → Key × Cell Value
seen port generation is_up = (key.Port 16 port, Known generation (Up is_up))

-- of port 1 the newest of two generations, of port 2 the newest one, in which two values were seen, and nothing of port 3
abbrev pub newest : List (Key × Cell Value)
newest = seen 1 3 true ∷ (key.Port 16 2, Disputed 3) ∷ []

-- whatever the order and the repetition of the sightings, a view at floor 3 has these facts
abbrev pub NewestFactsStand : Type 0
NewestFactsStand =
    (cells_of (view_at 3 (seen 1 3 true ∷ seen 2 3 true ∷ seen 3 2 true ∷ seen 1 2 false ∷ seen 2 3 false ∷ [])) ≡ newest)
    × (cells_of (view_at 3 (seen 2 3 false ∷ seen 1 2 false ∷ seen 2 3 true ∷ seen 1 3 true ∷ seen 1 3 true ∷ [])) ≡ newest)

-- LIDs --------------------------------------------------------------------------------------------

abbrev told : Key → Value → Key × Cell Value
told k value = (k, Known 1 value)

-- a switch with room for 16 LIDs, and three adapters whose port GUIDs are in another order than their own. The first two
-- in that order claim 5 and 6, and the third one 6 too
abbrev pub claiming : Cells
claiming =
    told (key.Node 16) (Kind Switch 4) ∷ told (key.Node 33) (Kind ChannelAdapter 1)
    ∷ told (key.Node 34) (Kind ChannelAdapter 1) ∷ told (key.Node 35) (Kind ChannelAdapter 1)
    ∷ told (key.PortGuid 16 0) (Guid 16) ∷ told (key.PortGuid 33 1) (Guid 134) ∷ told (key.PortGuid 34 1) (Guid 133)
    ∷ told (key.PortGuid 35 1) (Guid 135) ∷ told (key.Claim 33 1) (Lid 6) ∷ told (key.Claim 34 1) (Lid 5)
    ∷ told (key.Claim 35 1) (Lid 6) ∷ told (key.Cap 16) (Count 16) ∷ []

abbrev lid_at : ℕ → ℕ → ℕ → EndPort × ℕ
lid_at node port lid = (record { node = node; port = port }, lid)

-- under LMC 1 no range begins at 5, and the first of equal claims is kept; the others get the least LIDs that are left
abbrev pub ClaimsAreKept : Type 0
ClaimsAreKept = handed_out 1 claiming ≡ Some (lid_at 16 0 1 ∷ lid_at 34 1 2 ∷ lid_at 33 1 6 ∷ lid_at 35 1 4 ∷ [])

-- the same ports, each of which claims the LID that it has, and another adapter, of the adapters the one with the least
-- port GUID
abbrev pub settled : Cells
settled =
    told (key.Node 16) (Kind Switch 4) ∷ told (key.Node 33) (Kind ChannelAdapter 1)
    ∷ told (key.Node 34) (Kind ChannelAdapter 1) ∷ told (key.Node 35) (Kind ChannelAdapter 1)
    ∷ told (key.Node 36) (Kind ChannelAdapter 1) ∷ told (key.PortGuid 16 0) (Guid 16)
    ∷ told (key.PortGuid 33 1) (Guid 134) ∷ told (key.PortGuid 34 1) (Guid 133) ∷ told (key.PortGuid 35 1) (Guid 135)
    ∷ told (key.PortGuid 36 1) (Guid 132) ∷ told (key.Claim 16 0) (Lid 1) ∷ told (key.Claim 33 1) (Lid 6)
    ∷ told (key.Claim 34 1) (Lid 2) ∷ told (key.Claim 35 1) (Lid 4) ∷ told (key.Cap 16) (Count 16) ∷ []

-- the ports keep their LIDs, and the other adapter gets the least that is left
abbrev pub SettledLidsStay : Type 0
SettledLidsStay =
    handed_out 1 settled
    ≡ Some (lid_at 16 0 1 ∷ lid_at 36 1 8 ∷ lid_at 34 1 2 ∷ lid_at 33 1 6 ∷ lid_at 35 1 4 ∷ [])

-- managers ----------------------------------------------------------------------------------------

-- what a manager says of itself: its port GUID, priority, SM_Key and state
abbrev pub says : ℕ → ℕ → ℕ → ℕ → SmInfo
says guid priority key state =
    record { guid = guid; sm_key = key; act_count = 9; priority = priority; state = state }

abbrev pub at_node : ℕ → SmInfo → SeenManager
at_node node info = record { guid = node; port = 1; info = info }

-- the manager that looks at the others
abbrev pub own : SmInfo
own = says 40 5 7 3

-- managers that it saw: a standby that wins by its GUID, a greater one that it does not hear, two greater standbys, of
-- which the second one has the lesser GUID, a lesser master, and a greater one that discovers
abbrev pub others : List SeenManager
others =
    at_node 1 (says 39 5 7 2) ∷ at_node 2 (says 30 9 8 2) ∷ at_node 3 (says 62 6 7 2) ∷ at_node 4 (says 61 6 7 2)
    ∷ at_node 5 (says 50 4 7 3) ∷ at_node 6 (says 51 8 7 1) ∷ []

-- it hands over to the greatest standby that wins, yields to the master, and would poll the master
abbrev pub BestIsPicked : Type 0
BestIsPicked =
    (successor_of own others ≡ Some (at_node 4 (says 61 6 7 2)))
    × ((heir_of own others ≡ Some (at_node 5 (says 50 4 7 3))) × (polled_of own others ≡ Some (at_node 5 (says 50 4 7 3))))
