-- Steps are sent one after the other.
use Rattle.std.proofs.Common.{◌≡◌, suc, ◌+◌, ◌≤◌, ◌^◌, Bool, List, [], ◌∷◌, ◌++◌, length, ap, ◌∙◌}
use Rattle.std.proofs.Common.{arith}
use Rattle.std.proofs.lemmas.List.{append_assoc}
use Rattle.std.specs.Prelude.{None}
use Rattle.plan_steps.specs.declared.step.Step.{Step}
use Rattle.plan_steps.specs.Step.{set_packet}
use Rattle.sm_manager.specs.declared.outgoing.Outgoing.{Outgoing}
use Rattle.sm_manager.specs.ManagerRequests.{ManagerRequests}
use Rattle.sm_manager.specs.Writing.{numbered, pending_step, steps_out}

-- what went out so far and what is left are what was to go out, and there are numbers and memory for what is left
pub record AreGoing (counts : Bool) (rest : List Step) (now : ManagerRequests) (out : List Outgoing)
    (steps : List Step) (was : ManagerRequests) (before : List Outgoing) : Type 0 where
  pub pending : now.pending ++ numbered counts now.counter rest ≡ was.pending ++ numbered counts was.counter steps
  pub outgoing : out ++ steps_out now.counter rest ≡ before ++ steps_out was.counter steps
  pub counter : now.counter + length rest ≡ was.counter + length steps
  pub bound : now.counter + length rest ≤ 2 ^ 32
  pub room : length rest ≤ now.room

-- one more
pub one_gone : (counts : Bool) (s : Step) (rest : List Step) (now next : ManagerRequests) (out : List Outgoing)
    (steps : List Step) (was : ManagerRequests) (before : List Outgoing) → AreGoing counts (s ∷ rest) now out steps was before
    → next.pending ≡ now.pending ++ pending_step now.counter counts s ∷ []
    → next.counter ≡ now.counter + 1 → now.room ≤ next.room + 1
    → AreGoing counts rest next (out ++ record { packet = set_packet now.counter s; to = None } ∷ []) steps was before
one_gone counts s rest now next out steps was before h pending counter room =
    let after : next.counter ≡ suc now.counter = counter ∙ omega arith in
    record {
      pending =
          (λ i. pending i ++ numbered counts (after i) rest)
          ∙ append_assoc now.pending (pending_step now.counter counts s ∷ []) (numbered counts (suc now.counter) rest)
          ∙ h.pending;
      outgoing =
          ap (λ n. (out ++ record { packet = set_packet now.counter s; to = None } ∷ []) ++ steps_out n rest) after
          ∙ append_assoc out (record { packet = set_packet now.counter s; to = None } ∷ []) (steps_out (suc now.counter) rest)
          ∙ h.outgoing;
      counter = let count = h.counter in omega (arith, count, after);
      bound = let bound = h.bound in omega (arith, bound, after);
      room = let most = h.room in omega (arith, most, room);
    }
