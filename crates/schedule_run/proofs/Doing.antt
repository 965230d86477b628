-- Calls on a world, one after the other.
use Rattle.std.proofs.Common.{◌≡◌, ◌∙◌, Bool, List, ℕ, Option, Result, Ok, Err, refl, ap, subst}
use Rattle.std.specs.Prelude.{OnOk}
use Rattle.fabric_sim.specs.Called.{Called}
use Rattle.fabric_sim.specs.Simulation.{Simulation}
use Rattle.fabric_sim.specs.declared.fabric_fault.FabricFault.{FabricFault}
use Rattle.schedule_lines.specs.Prints.{PrintsUnless}
use Rattle.schedule_lines.specs.Outcome.{Outcome, and_then, shows}
use Rattle.schedule_run.specs.World.{Does, WorldValue, after_fabric_call, fabric_line, value_of}
use Rattle.schedule_lines.specs.declared.run_fault.RunFault.{RunFault}
use Rattle.schedule_run.specs.declared.world.World.{World}
use Rattle.schedule_lines.proofs.Printing.{ends_in, failed_with, prints_same, prints_then}

abbrev pub done_with : Unit {0} → Result (Unit {0}) RunFault
done_with u = Ok u

module _ {W : Type 0} (written : W → Option (List ℕ)) (has_failed : W → Bool) where
  -- a call that comes to the same
  pub does_same : (old new : World) (result : Result (Unit {0}) RunFault) (sink sink' : W) (outcome other : Outcome WorldValue) → outcome ≡ other
      → Does written has_failed old new result sink sink' outcome → Does written has_failed old new result sink sink' other
  does_same old new result sink sink' outcome other e h = subst (λ o. Does written has_failed old new result sink sink' o) e h

  -- one call, and then what comes next
  pub does_then : (old mid new : World) (u : Unit {0}) (result : Result (Unit {0}) RunFault) (sink sink' sink'' : W) (first : Outcome WorldValue)
      (next : WorldValue → Outcome WorldValue) → Does written has_failed old mid (Ok u) sink sink' first
      → Does written has_failed mid new result sink' sink'' (next (value_of mid)) → Does written has_failed old new result sink sink'' (and_then first next)
  does_then old mid new u result sink sink' sink'' first next h k = record {
    managers = k.managers ∙ h.managers;
    leaves = subst (λ v. OnOk result (value_of new ≡ (next v).now)) h.leaves k.leaves;
    prints = prints_then written has_failed result sink sink' sink'' first.text (next first.now).text h.prints
        (subst (λ v. PrintsUnless written has_failed result sink' sink'' (next v).text) h.leaves k.prints);
  }

  -- one that ends early, whatever would have come next
  pub does_no_more : (old new : World) (fault : RunFault) (sink sink' : W) (first : Outcome WorldValue) (next : WorldValue → Outcome WorldValue)
      → Does written has_failed old new (failed_with fault) sink sink' first
      → Does written has_failed old new (failed_with fault) sink sink' (and_then first next)
  does_no_more old new fault sink sink' first next h = record {
    managers = h.managers;
    leaves = tt;
    prints = ends_in written has_failed fault sink sink' first.text (next first.now).text h.prints;
  }

  -- one that only prints
  pub does_show : (w : World) (result : Result (Unit {0}) RunFault) (sink sink' : W) (text : List ℕ) → PrintsUnless written has_failed result sink sink' text
      → Does written has_failed w w result sink sink' (shows text (value_of w))
  does_show w (Ok u) sink sink' text h = record { managers = refl; leaves = refl; prints = h }
  does_show w (Err fault) sink sink' text h = record { managers = refl; leaves = tt; prints = h }

  -- one on the fabric, which leaves the managers
  pub calls_fabric : {R : Type 0} (w : World) (fabric : Simulation) (called : Called R) (r : Result R FabricFault) (result : Result (Unit {0}) RunFault)
      (sink sink' : W) → fabric ≡ called.fabric → r ≡ called.result → PrintsUnless written has_failed result sink sink' (fabric_line r)
      → Does written has_failed w (record w { fabric = fabric }) result sink sink' (after_fabric_call (value_of w) called)
  calls_fabric w fabric called r (Ok u) sink sink' left told prints = record {
    managers = refl;
    leaves = ap (λ f. record (value_of w) { fabric = f }) left;
    prints = prints_same written has_failed (done_with u) sink sink' (fabric_line r) (fabric_line called.result) (ap fabric_line told) prints;
  }
  calls_fabric w fabric called r (Err fault) sink sink' left told prints = record {
    managers = refl;
    leaves = tt;
    prints = prints_same written has_failed (failed_with fault) sink sink' (fabric_line r) (fabric_line called.result) (ap fabric_line told) prints;
  }
