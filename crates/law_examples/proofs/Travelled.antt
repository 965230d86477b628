-- In the detour a packet from the first switch for the second adapter takes two channels in turn.
use Rattle.std.proofs.Common.{◌≡◌, ◌+◌, ◌*◌, ℕ, [], ◌∷◌, Some, refl, sym, ap, subst, arith}
use Rattle.std.specs.Prelude.{slice_get}
use Rattle.fabric_model.specs.declared.cable.NodePort.{NodePort}
use Rattle.fabric_model.specs.FabricWalks.{IsJoinedTo}
use Rattle.fabric_model.specs.Forwarding.{Hop, arrived_at}
use Rattle.fabric_model.proofs.FabricWalks.{port_at}
use Rattle.fact_store.specs.View.{cells_of}
use Rattle.subnet_view.specs.Reading.{Cells, switches}
use Rattle.held_tables.specs.Switches.{index_in}
use Rattle.audit_channels.specs.Fabrics.{IsChannel, TakeInTurn, Travels}
use Rattle.lft_blocks.proofs.Triangle.{cells, facts, facts_have, switch}
use Rattle.lft_blocks.proofs.TriangleArrives.{of_16, of_first}
use Rattle.law_examples.specs.Examples.{PartSeen, SomeFabricIsSeen, SomePacketTravels}
use Rattle.law_examples.proofs.Detour.{connected, detour, held_by, longer, origin, seen, seen_in}

unfoldable pub part : PartSeen
part = record { facts = facts; held = held_by longer; fabric = detour; origin = origin; is_end = of_first; seen = seen_in }

pub some_fabric_is_seen : SomeFabricIsSeen
unfolding part
some_fabric_is_seen = (part, seen)

abbrev pub first : Hop
first = record { out = port_at 0 1; into = port_at 1 1 }

abbrev pub second : Hop
second = record { out = port_at 1 2; into = port_at 2 2 }

travels : Travels (IsJoinedTo detour origin) detour (first ∷ second ∷ [])
travels = record {
  source = port_at 0 0;
  node = switch 16;
  is_source = record { node_there = refl; end_port = of_16; in_part = connected origin (port_at 0 0) of_first of_16 };
  lid = 6;
  is_lid = omega arith;
  end = arrived_at (port_at 2 2);
  goes = (refl, refl, (refl, refl, refl));
}

-- a wire from one switch to the next, by the index of the first one
pub on_channel : (n p m q g h : ℕ) → detour.across (port_at n p) ≡ Some (port_at m q) → (n ≡ m → ⊥) → slice_get detour.nodes n ≡ Some (switch g)
    → slice_get detour.nodes m ≡ Some (switch h) → index_in (switches cells) g ≡ Some n
    → IsChannel (cells_of facts) detour (record { out = port_at n p; into = port_at m q }) (256 * n + p)
on_channel n p m q g h cable apart at_n at_m index = record {
  wire = record { cable = cable; different = λ e. apart (ap (λ (x : NodePort). x.node) e) };
  from = switch g;
  from_there = at_n;
  from_switch = refl;
  to = switch h;
  to_there = at_m;
  to_switch = refl;
  index = n;
  index_is = subst (λ (c : Cells). index_in (switches c) g ≡ Some n) (sym facts_have) index;
  channel_is = refl;
}

in_turn : TakeInTurn (cells_of facts) detour (first ∷ second ∷ []) 1 258
in_turn = record {
  nth = 0;
  hop = first;
  later = second;
  hop_is = refl;
  later_is = refl;
  channel_is = on_channel 0 1 1 1 16 32 refl (λ e. omega (arith, e)) refl refl refl;
  next_is = on_channel 1 2 2 2 32 48 refl (λ e. omega (arith, e)) refl refl refl;
}

pub some_packet_travels : SomePacketTravels
unfolding part
some_packet_travels = (part, record { hops = first ∷ second ∷ []; travels = travels; channel = 1; next = 258; in_turn = in_turn })
