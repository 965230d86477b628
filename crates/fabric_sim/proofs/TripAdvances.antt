-- Over calls that change no cable, only its deliveries move a packet; and an answer on its way back.
use Rattle.std.proofs.lemmas.List.Elements.{All-head, All-tail}
use Rattle.std.proofs.lemmas.List.Sums.{sum_by-cons}
use Rattle.std.proofs.Common.{◌≡◌, ℕ, suc, ◌+◌, ◌<◌, ◌≤◌, Bool, true, false, cond, List, [], ◌∷◌, refl, sym, ap, ◌∙◌, subst, arith}
use Rattle.std.proofs.lemmas.Bool.{eqb-true}
use Rattle.std.specs.Prelude.{Some, count_by, All}
use Rattle.fabric_sim.specs.declared.flight.Flight.{Flight}
use Rattle.fabric_sim.specs.Simulation.{Simulation}
use Rattle.fabric_sim.specs.Flights.{flight_with}
use Rattle.fabric_sim.specs.Delivery.{after_deliver}
use Rattle.fabric_sim.specs.Calls.{Call, Inject, Deliver, Lose, Repeat, Seat, after_call, after_calls, is_delivery_of}
use Rattle.fabric_sim.specs.ThereAndBack.{KeepsPacket}
use Rattle.fabric_sim.proofs.TripCalls.{KeepAgents, along_call, kept_call}
use Rattle.fabric_sim.proofs.TripShapes.{IsAlong}

-- deliveries among calls ---------------------------------------------------------------------

-- what a call that isn't for the packet keeps, and a delivery of it takes on by one
pub record Advances (start : Simulation) (n last : ℕ) (At : Simulation → ℕ → Type 0) : Type 0 where
  pub flies : (s : Simulation) (k : ℕ) → At s k → (f : Flight) × (flight_with s.flights n ≡ Some f)
  pub keeps : (s u : Simulation) (k : ℕ) → At s k → ((f : Flight) → flight_with s.flights n ≡ Some f → flight_with u.flights n ≡ Some f) → At u k
  pub delivers : (s : Simulation) (k : ℕ) → IsAlong start s → At s k → k < last → At (after_deliver s n).fabric (suc k)

deliveries : ℕ → List Call → ℕ
deliveries n calls = count_by (is_delivery_of n) calls

deliveries-cons : (n : ℕ) (call : Call) (calls : List Call) → deliveries n (call ∷ calls) ≡ cond (is_delivery_of n call) 1 0 + deliveries n calls
unfolding deliveries
deliveries-cons n call calls = sum_by-cons (λ c. cond (is_delivery_of n c) 1 0) call calls

delivery_is : (n : ℕ) (call : Call) → is_delivery_of n call ≡ true → call ≡ Deliver n
delivery_is n (Deliver m) e = ap Deliver (eqb-true m n e)
delivery_is n (Inject from packet) e = cc
delivery_is n (Lose m) e = cc
delivery_is n (Repeat m) e = cc
delivery_is n (Seat p) e = cc

module _ (keep : KeepAgents) {start : Simulation} {n last : ℕ} {At : Simulation → ℕ → Type 0} (a : Advances start n last At) where
  -- after so many deliveries among the calls
  pub advanced : (calls : List Call) (s : Simulation) (k : ℕ) → IsAlong start s → At s k → All (KeepsPacket n) calls
      → k + count_by (is_delivery_of n) calls ≤ last → At (after_calls calls s) (k + count_by (is_delivery_of n) calls)
  unfolding deliveries
  advanced [] s k along there all most = subst (At s) (omega arith) there
  advanced (call ∷ calls) s k along there all most = by_call (is_delivery_of n call) refl (λ u j. advanced calls u j)
    where
      by_call : (b : Bool) → is_delivery_of n call ≡ b
          → ((u : Simulation) (j : ℕ) → IsAlong start u → At u j → All (KeepsPacket n) calls → j + count_by (is_delivery_of n) calls ≤ last
          → At (after_calls calls u) (j + count_by (is_delivery_of n) calls))
          → At (after_calls (call ∷ calls) s) (k + count_by (is_delivery_of n) (call ∷ calls))
      by_call true e further =
          let is = delivery_is n call e in
          let count = deliveries-cons n call calls ∙ ap (λ b. cond b 1 0 + count_by (is_delivery_of n) calls) e in
          let at : At (after_call s call) (suc k) = subst (λ c. At (after_call s c) (suc k)) (sym is)
          (a.delivers s k along there (omega (arith, most, count))) in
          subst (At (after_calls calls (after_call s call))) (omega (arith, count))
          (further (after_call s call) (suc k) (along_call keep s call along) at (All-tail (KeepsPacket n) call calls all) (omega (arith, most, count)))
      by_call false e further =
          let count = deliveries-cons n call calls ∙ ap (λ b. cond b 1 0 + count_by (is_delivery_of n) calls) e in
          let at : At (after_call s call) k = a.keeps s (after_call s call) k there
          (λ f h. kept_call n f s call along.given (All-head (KeepsPacket n) call calls all) e h) in
          subst (At (after_calls calls (after_call s call))) (omega (arith, count))
          (further (after_call s call) k (along_call keep s call along) at (All-tail (KeepsPacket n) call calls all) (omega (arith, most, count)))
