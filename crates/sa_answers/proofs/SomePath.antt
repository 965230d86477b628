-- In a triangle of switches, a request that gives the GID of one adapter and the second LID of another is answered with a path.
use Rattle.std.proofs.Common.{false, ◌≡◌, ◌≢◌, ◌<◌, ◌++◌, ℕ, zero, suc, List, [], ◌∷◌, Option, Some, refl, sym, ap, ◌∙◌, subst, arith}
use Rattle.std.proofs.lemmas.Bool.{true≢false}
use Rattle.std.proofs.lemmas.Option.{same_Some}
use Rattle.std.specs.Prelude.{replicate, slice_index_or}
use Rattle.fabric_model.specs.declared.cable.NodePort.{NodePort}
use Rattle.fabric_model.specs.Fabric.{IsEndPort}
use Rattle.fabric_model.specs.FabricWalks.{IsJoinedTo}
use Rattle.fabric_model.proofs.FabricWalks.{port_at}
use Rattle.reply_facts.specs.Known.{port_guid_of}
use Rattle.subnet_view.specs.declared.end_port.EndPort.{EndPort}
use Rattle.subnet_view.specs.FabricAgreement.{Part}
use Rattle.subnet_view.specs.Reading.{Cells}
use Rattle.subnet_view.proofs.Covered.{covers}
use Rattle.lft_blocks.specs.InForce.{IsInForce}
use Rattle.lft_blocks.specs.Plan.{plan_of}
use Rattle.lft_blocks.specs.Rule.{up_and_down}
use Rattle.lft_blocks.proofs.Triangle.{adapter, cells, facts, facts_have, triangle}
use Rattle.lft_blocks.proofs.TriangleArrives.{facts_have_room, in_force, is_connected, of_first}
use Rattle.plan_steps.specs.Carried.{link_local_prefix}
use Rattle.sa_bytes.specs.declared.path_record.PathRecord.{PathRecord}
use Rattle.sa_answers.specs.AnsweredRequests.{AsksForPath, IsGuidOf, PathAsked, SomePathIsTold}
use Rattle.sa_answers.specs.Reply.{reply_to}
use Rattle.sa_answers.specs.Told.{Told}
use Rattle.sa_answers.specs.declared.reply.Reply.TheVariants.{Path}

-- the facts, their plan, and no PortInfo
abbrev told : Told
told = record { cells = cells; plan = plan_of up_and_down 1 cells; images = []; own = 0; multicast = false }

abbrev one : EndPort
one = record { node = 256; port = 1 }

abbrev other : EndPort
other = record { node = 512; port = 1 }

-- Get of a PathRecord, of which it gives SGID, fe80::101, and DLID, 7
abbrev request : List ℕ
request =
    replicate 3 0 ++ 1 ∷ replicate 13 0 ++ 0x35 ∷ replicate 37 0 ++ 24 ∷ replicate 24 0 ++ 0xFE ∷ 0x80 ∷ replicate 12 0 ++ 1 ∷ 1 ∷ 0 ∷ 7 ∷ replicate 158 0

abbrev path : PathRecord
path =
    record {
      service_id = 0;
      dgid_prefix = link_local_prefix;
      dgid_guid = 513;
      sgid_prefix = link_local_prefix;
      sgid_guid = 257;
      dlid = 7;
      slid = 4;
      flow_and_hops = 0;
      traffic_class = 0;
      reversible_and_count = 0x80;
      p_key = 0xFFFF;
      qos_class_and_sl = 0;
      mtu = 0x81;
      rate = 0x82;
      packet_life_time = 0x92;
      preference = 0;
    }

-- the part of the first adapter
abbrev part : Part
part = IsJoinedTo triangle (port_at 3 1)

all : (v : NodePort) → IsEndPort triangle v → part v
all v end = is_connected (port_at 3 1) v of_first end

force : IsInForce part cells (plan_of up_and_down 1 cells) triangle
force = subst (λ (c : Cells). IsInForce part c (plan_of up_and_down 1 c) triangle) facts_have (in_force part all)

-- the port GUID of an end port
abbrev guid_of : EndPort × ℕ → Option ℕ
guid_of x = port_guid_of cells x.0.node x.0.port

other_guid : (x : EndPort × ℕ) (g : ℕ) → (g ≡ 257 → ⊥) → Some g ≡ guid_of x → guid_of x ≡ Some 257 → x.0 ≡ one
other_guid x g apart its has = absurd (apart (same_Some g 257 (its ∙ has)))

-- of the end ports of the plan only one has GUID 257
only : (x : EndPort × ℕ) (k : ℕ) → k < 5 → slice_index_or told.plan.given.ports k x ≡ x → guid_of x ≡ Some 257 → x.0 ≡ one
only x zero within is has = other_guid x 16 (λ e. omega (arith, e)) (ap guid_of is) has
only x (suc zero) within is has = other_guid x 32 (λ e. omega (arith, e)) (ap guid_of is) has
only x (suc (suc zero)) within is has = other_guid x 48 (λ e. omega (arith, e)) (ap guid_of is) has
only x (suc (suc (suc zero))) within is has = ap (λ (y : EndPort × ℕ). y.0) (sym is)
only x (suc (suc (suc (suc zero)))) within is has = other_guid x 513 (λ e. omega (arith, e)) (ap guid_of is) has
only x (suc (suc (suc (suc (suc k))))) within is has = absurd (omega arith)

alone : IsGuidOf told 257 one
alone = record { its = refl; no_others = λ x h has. only x h.0 h.1 h.2 has }

asks : AsksForPath told request one 4 other 7
asks = record {
  is_get = refl;
  of_path = refl;
  from = record {
    named = refl;
    gid = λ given. (refl, alone);
    lid_given = λ given. absurd (true≢false (sym given));
    no_lid = λ none. refl;
    owned = refl;
  };
  to = record {
    named = refl;
    gid = λ given. absurd (true≢false (sym given));
    lid_given = λ given. refl;
    no_lid = λ none. absurd (true≢false none);
    owned = refl;
  };
}

there : IsEndPort triangle (port_at 4 1)
there = (adapter 512, refl, (omega arith, omega arith))

asked : PathAsked
asked = record {
  told = told;
  rule = up_and_down;
  lmc = 1;
  planned = facts;
  has_room = facts_have_room;
  plan_is = ap (plan_of up_and_down 1) (sym facts_have);
  fabric = triangle;
  origin = port_at 3 1;
  is_origin = of_first;
  covers = covers (in_force part all).agrees;
  in_force = record { is_fabric = force.is_fabric; covers = covers force.agrees; holds = force.holds };
  source = one;
  target = other;
  from = record {
    port = port_at 3 1;
    named = record { node = adapter 256; node_there = refl; guid_is = refl; port_is = refl };
    end_port = of_first;
    in_part = all (port_at 3 1) of_first;
  };
  to = record {
    port = port_at 4 1;
    named = record { node = adapter 512; node_there = refl; guid_is = refl; port_is = refl };
    end_port = there;
    in_part = all (port_at 4 1) there;
  };
  slid = 4;
  dlid = 7;
  request = request;
  asks = asks;
}

is_told : reply_to told request ≡ Path path
is_told = refl

apart : one ≢ other
apart e = let same = ap (λ (x : EndPort). x.node) e in omega (arith, same)

pub some_path_is_told : SomePathIsTold
unfolding asked
some_path_is_told = (asked, apart, path, is_told)
