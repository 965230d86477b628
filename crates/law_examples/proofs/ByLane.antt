-- In the detour a packet from the first switch for the second adapter changes its lane at the second switch, since it
-- comes from the first one.
use Rattle.std.proofs.Common.{◌≡◌, ◌<◌, ◌≤◌, ℕ, zero, suc, false, true, List, [], ◌∷◌, ◌++◌, replicate, refl, sym, ap, subst, arith, inl}
use Rattle.std.specs.Prelude.{Some, slice_get, slice_index_or}
use Rattle.std.specs.List.Sorted.{IsStrictlySortedBy}
use Rattle.std.specs.Option.{option_map_or}
use Rattle.std.proofs.lemmas.Option.{same_Some}
use Rattle.fabric_model.specs.Fabric.{Node}
use Rattle.fabric_model.specs.FabricWalks.{IsJoinedTo}
use Rattle.fabric_model.specs.Forwarding.{Hop, arrived_at}
use Rattle.fabric_model.proofs.FabricWalks.{port_at}
use Rattle.fact_store.specs.View.{cells_of}
use Rattle.subnet_view.specs.Reading.{Cells}
use Rattle.lanes_file.specs.declared.lanes.LaneMap.{LaneMap}
use Rattle.lanes_file.specs.declared.lanes.LevelBlock.{LevelBlock}
use Rattle.lanes_file.specs.Lanes.{LanesSaid, lane_of}
use Rattle.lanes_file.specs.WellFormed.{AreLanes, IsWellFormed}
use Rattle.audit_channels.specs.ChannelOrders.{CanRise}
use Rattle.audit_channels.specs.Waiting.{WaitsFor}
use Rattle.next_tables.specs.OrderRule.{numbers_by}
use Rattle.next_tables.specs.SwitchPositions.{AreRight}
use Rattle.next_tables.specs.OrderedStepLaws.{IsStep}
use Rattle.next_tables.specs.Rightness.{are_right}
use Rattle.next_tables.proofs.by_order.ToldRight.{rightness_is_told}
use Rattle.next_tables.proofs.by_order.Waits.{numbers_rise_by_order}
use Rattle.lane_channels.specs.Fabrics.{HoldLanes, IsCarried, IsLaneChannel, LaneMaps, TravelsAt, lane_at}
use Rattle.lane_channels.specs.LaneNetwork.{SeenByLane}
use Rattle.lane_channels.proofs.LaneLaws.{one_lane_suffices}
use Rattle.lft_blocks.proofs.Triangle.{cells, facts, facts_have, switch}
use Rattle.lft_blocks.proofs.TriangleArrives.{of_16, of_first}
use Rattle.law_examples.specs.ByLane.{SomePacketChangesLane}
use Rattle.law_examples.proofs.Detour.{connected, detour, held_by, longer, origin}
use Rattle.law_examples.proofs.Travelled.{first, on_channel, part, second}

-- numbers of channels rise -------------------------------------------------------------------------------

abbrev as_listed : ℕ → ℕ
as_listed i = i

-- no packet goes down and then up in the order of the list of switches
is_right : are_right cells as_listed (held_by longer) ≡ true
is_right = refl

all_right : (lid : ℕ) → 1 ≤ lid → AreRight cells as_listed (held_by longer) lid
all_right = (rightness_is_told cells as_listed (held_by longer)).0 is_right

stays : IsStep cells as_listed (held_by longer) (held_by longer) (held_by longer)
stays = record {
  order = λ i less. less;
  held_right = all_right;
  goal_right = all_right;
  choice = λ lid one i g there. inl refl;
}

abbrev numbers : List ℕ
numbers = numbers_by cells as_listed

rise_there : CanRise (WaitsFor cells (held_by longer))
rise_there = record {
  number = λ c. slice_index_or numbers c 0;
  rises = λ a b w.
      numbers_rise_by_order cells as_listed (held_by longer) (held_by longer) (held_by longer) stays w.lid a b w.is_lid
      (inl (w.switch, w.takes));
}

rise : CanRise (WaitsFor (cells_of facts) (held_by longer))
rise = subst (λ (c : Cells). CanRise (WaitsFor c (held_by longer))) (sym facts_have) rise_there

-- lanes and levels ---------------------------------------------------------------------------------------

-- from port 1 to port 2 of the second switch, packets of level 1 get lane 2
abbrev turned : LaneMap
turned = record { node = 32; into = 1; out = 2; lanes = 0 ∷ 2 ∷ replicate 14 0 }

-- packets of the first switch for LID 6 have level 1
abbrev block : LevelBlock
block = record { node = 16; port = 0; number = 0; levels = replicate 6 255 ++ 1 ∷ replicate 57 255 }

-- otherwise packets have level 0, and each level its own lane
abbrev said : LanesSaid
said = record { lanes = 0 ∷ 1 ∷ replicate 14 0; maps = turned ∷ []; level = Some 0; levels = block ∷ [] }

all_first : (n : ℕ) → AreLanes (replicate n 0)
all_first zero = tt
all_first (suc n) = (omega arith, all_first n)

well_formed : IsWellFormed said
unfolding IsStrictlySortedBy
well_formed = record {
  lanes = (omega arith, (omega arith, all_first 14));
  map_lanes = ((omega arith, (omega arith, all_first 14)), tt);
  maps = (tt, tt);
  level = omega arith;
  levels = (tt, tt);
}

abbrev seen_by_lane : SeenByLane
seen_by_lane = record { seen = record { facts = facts; held = held_by longer }; said = said }

-- each switch has the lanes of the text
abbrev lanes : LaneMaps
lanes n into out level = lane_of said (option_map_or (λ (node : Node). node.guid) (slice_get detour.nodes n) 0) into out level

hold : HoldLanes (IsJoinedTo detour origin) said detour lanes
hold port node into out level end is =
    ap (λ o. lane_of said (option_map_or (λ (n : Node). n.guid) o 0) into out level) end.node_there

-- the packet ---------------------------------------------------------------------------------------------

abbrev hops : List Hop
hops = first ∷ second ∷ []

travels : TravelsAt seen_by_lane false (IsJoinedTo detour origin) detour 1 hops
travels = record {
  source = port_at 0 0;
  node = switch 16;
  is_source = record { node_there = refl; end_port = of_16; in_part = connected origin (port_at 0 0) of_first of_16 };
  lid = 6;
  is_lid = omega arith;
  has_level = inl refl;
  end = arrived_at (port_at 2 2);
  goes = (refl, refl, (refl, refl, refl));
}

carried : IsCarried (cells_of facts) detour lanes 1 hops 2
carried zero hop one_lane less at c =
    subst (λ (h : Hop). lane_at lanes 1 hops 0 h < 15) (same_Some first hop at) (omega arith)
carried (suc zero) hop one_lane less at c =
    subst (λ (h : Hop). lane_at lanes 1 hops 1 h < 15) (same_Some second hop at) (omega arith)
carried (suc (suc nth)) hop one_lane less at c = absurd (omega arith)

channel_is : IsLaneChannel (cells_of facts) detour lanes 1 hops 0 17
channel_is = record {
  hop = first;
  hop_is = refl;
  one_lane = 1;
  is = on_channel 0 1 1 1 16 32 refl (λ e. omega (arith, e)) refl refl refl;
  channel_is = refl;
}

abbrev next_is : IsLaneChannel (cells_of facts) detour lanes 1 hops 1 4130
next_is = record {
  hop = second;
  hop_is = refl;
  one_lane = 258;
  is = on_channel 1 2 2 2 32 48 refl (λ e. omega (arith, e)) refl refl refl;
  channel_is = refl;
}

pub some_packet_changes_lane : SomePacketChangesLane
unfolding part
some_packet_changes_lane = (
  part,
  record {
    said = said;
    well_formed = well_formed;
    lanes = lanes;
    hold = hold;
    rise = one_lane_suffices seen_by_lane false rise;
    level = 1;
    hops = hops;
    travels = travels;
    nth = 0;
    channel = 17;
    next = 4130;
    carried = carried;
    channel_is = channel_is;
    next_is = next_is;
    changes = λ e. omega (arith, e);
    other = 3;
    by_port = λ e. omega (arith, e);
  },
)
