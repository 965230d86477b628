-- A manager that learned only from one sweep knows its part.
use Rattle.std.proofs.Common.{◌≡◌, ◌∙◌, List, sym, subst}
use Rattle.std.proofs.lemmas.Option.{same_Some}
use Rattle.fabric_model.specs.FabricWalks.{IsJoinedTo}
use Rattle.fact_store.specs.View.{cells_of}
use Rattle.subnet_view.specs.FabricAgreement.{AgreesOn}
use Rattle.fabric_sim.specs.Simulation.{fabric_of}
use Rattle.manager_laws.specs.Complete.{HasFoundAll, IsWhole, facts_of}
use Rattle.manager_laws.specs.KnownPart.{HasSweptOnce, KnowsItsPart, after_sweep}
use Rattle.manager_laws.specs.Managing.{Managing, ManagerEvent, Begin, after_manager_event, after_manager_events}
use Rattle.manager_laws.specs.Scene.{Scene}
use Rattle.manager_laws.specs.Sweeping.{Sweeping, after_sweep_events}
use Rattle.manager_laws.proofs.Arrive.{anything, anything_stays}
use Rattle.manager_laws.proofs.Done.{done_sweeps_are_complete}
use Rattle.manager_laws.proofs.Follows.{holds_all}
use Rattle.manager_laws.proofs.OneSweep.{FollowsOne, first_begins, first_of, swept_once}

module _ (w : Managing) (before between : List ManagerEvent) (h : HasSweptOnce w before between) where
  abbrev last : Managing
  last = after_sweep w before between

  one : FollowsOne anything w.scene w.seat last
  one =
      swept_once w h.starts before between h.sweeps_first h.before_can h.sweep_begins h.between_can h.knew_nothing h.alone anything tt
      (anything_stays before w) (anything_stays between (after_manager_event (after_manager_events before w) Begin))

  abbrev first : Sweeping
  first = first_of w.scene w.seat one.at one.keeps

  abbrev there : Sweeping
  there = after_sweep_events one.events first

  same_sweep : there.sweep ≡ h.sweep
  same_sweep = same_Some _ _ (sym one.follows.sweep ∙ h.is_last)

  found_all : HasFoundAll first there
  found_all =
      done_sweeps_are_complete first one.at 1 one.events (first_begins w h.starts one.at one.few one.keeps) one.can_be
      (subst IsWhole (sym same_sweep) h.whole)

  agrees : AgreesOn (IsJoinedTo (fabric_of last.scene.fabric) w.seat) (cells_of last.manager.store) (fabric_of last.scene.fabric)
  agrees =
      subst (λ cells. AgreesOn (IsJoinedTo (fabric_of last.scene.fabric) w.seat) cells (fabric_of last.scene.fabric))
      (sym (holds_all last there one.follows))
      (subst (λ (scene : Scene). AgreesOn (IsJoinedTo (fabric_of scene.fabric) w.seat) (cells_of (facts_of there.reports)) (fabric_of scene.fabric))
      one.follows.scene found_all.at_last)

pub knows_its_part : KnowsItsPart
knows_its_part = agrees
