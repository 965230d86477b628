-- What is told where there are a sweep that is done and a plan, and what was parsed.
use Rattle.std.proofs.Common.{◌≡◌, ◌∙◌, Bool, true, false, cond, List, ℕ, None, Option, Some, ap, refl}
use Rattle.std.proofs.lemmas.Option.{same_Some}
use Rattle.std.specs.Prelude.{option_map}
use Rattle.fact_store.specs.View.{cells_of}
use Rattle.lft_blocks.specs.Plan.{PlanValue}
use Rattle.sweep.specs.Sweep.{Sweep}
use Rattle.sm_manager.specs.Manager.{Manager}
use Rattle.sa_answers.specs.Told.{Told}
use Rattle.acting_manager.specs.Administration.{told_by}

pub told_is : (answer : Told → List ℕ) (m : Manager) (o : Option Sweep) (k : Option PlanValue) (s : Sweep) (plan : PlanValue) → o ≡ Some s → k ≡ Some plan
    → option_map answer (told_by m o k) ≡ Some (answer (record { cells = cells_of m.store; plan = plan; images = s.images.ports; own = m.standing.guid; multicast = m.planning.multicast }))
told_is answer m o k s plan e h =
    ap (λ (x : Option Sweep). option_map answer (told_by m x k)) e ∙ ap (λ (x : Option PlanValue). option_map answer (told_by m (Some s) x)) h

pub parsed : (b : Bool) (packet request : List ℕ) → cond b (Some packet) None ≡ Some request → (b ≡ true) × (packet ≡ request)
parsed true packet request e = (refl, same_Some packet request e)
parsed false packet request e = absurd (cc)
