-- After a cut end ports that have the LIDs of an earlier plan have those of the plan of what is left.
use Rattle.fabric_model.specs.FabricWalks.{IsJoinedTo}
use Rattle.fabric_sim.specs.Simulation.{fabric_of}
use Rattle.manager_laws.proofs.takeover.Rest.{rest_lids}
use Rattle.manager_laws.specs.StaysInForce.{RestSharesLids}

pub rest_shares_lids : RestSharesLids
rest_shares_lids earlier facts planning t s =
    record {
      starts = s.starts;
      has_room = s.has_room;
      plans = s.plans;
      agrees = s.agrees;
      lids = λ which m there.
          let f = fabric_of t.scene.fabric in
          rest_lids planning.lmc earlier facts f (IsJoinedTo f m.seat) s.had_room (s.agrees which m there) (s.tells which m there) (s.lids which m there)
          (s.claims which m there) s.has_room;
    }
