-- Parts of runs: where one behind another ends, what holds along both, and what tests of their events tell.
use Rattle.std.proofs.Common.{◌≡◌, Bool, true, List, [], ◌∷◌, ◌++◌, refl}
use Rattle.std.proofs.lemmas.Bool.{and_parts}
use Rattle.std.specs.List.{list_all}
use Rattle.lft_blocks.specs.Plan.{PlanValue}
use Rattle.manager_laws.specs.Managing.{Managing, ManagerEvent, AllAlong, after_manager_event, after_manager_events}
use Rattle.manager_laws.specs.Sets.{OwnSets}
use Rattle.manager_laws.specs.WritingPings.{AreNoSweeps, BeginsNoSweep}
use Rattle.manager_laws.specs.Written.{AllKeep, Keeps}

pub events_behind : (one other : List ManagerEvent) (w : Managing)
    → after_manager_events (one ++ other) w ≡ after_manager_events other (after_manager_events one w)
events_behind [] other w = refl
events_behind (event ∷ one) other w = events_behind one other (after_manager_event w event)

pub along_behind : (is_so : Managing → ManagerEvent → Type 0) (one other : List ManagerEvent) (w : Managing) → AllAlong is_so one w
    → AllAlong is_so other (after_manager_events one w) → AllAlong is_so (one ++ other) w
along_behind is_so [] other w here there = there
along_behind is_so (event ∷ one) other w here there = (here.0, along_behind is_so one other (after_manager_event w event) here.1 there)

-- what a test of each event tells
pub along_tested : (is_so : Managing → ManagerEvent → Type 0) (test : ManagerEvent → Bool)
    → ((w : Managing) (event : ManagerEvent) → test event ≡ true → is_so w event)
    → (events : List ManagerEvent) (w : Managing) → list_all test events ≡ true → AllAlong is_so events w
along_tested is_so test told [] w e = tt
along_tested is_so test told (event ∷ events) w e =
    let parts = and_parts (test event) (list_all test events) e in
    (told w event parts.0, along_tested is_so test told events (after_manager_event w event) parts.1)

pub alone_behind : (one other : List ManagerEvent) (w : Managing) → AreNoSweeps one w → AreNoSweeps other (after_manager_events one w)
    → AreNoSweeps (one ++ other) w
alone_behind = along_behind BeginsNoSweep

module _ (plan : PlanValue) (own : OwnSets) where
  pub keep_behind : (one other : List ManagerEvent) (w : Managing) → AllKeep plan own one w → AllKeep plan own other (after_manager_events one w)
      → AllKeep plan own (one ++ other) w
  keep_behind = along_behind (Keeps plan own)

  pub keep_split : (one other : List ManagerEvent) (w : Managing) → AllKeep plan own (one ++ other) w
      → AllKeep plan own one w × AllKeep plan own other (after_manager_events one w)
  keep_split [] other w keep = (tt, keep)
  keep_split (event ∷ one) other w keep =
      let rest = keep_split one other (after_manager_event w event) keep.1 in ((keep.0, rest.0), rest.1)
