-- A writing that goes well: no step of it that counts has failed.
use Rattle.std.proofs.Common.{◌≡◌, ◌∙◌, ◌⊎◌, inr, ℕ, ◌≤◌, ◌^◌, Bool, true, false, ◌&&◌, not, List, refl, sym, ap}
use Rattle.std.proofs.lemmas.Option.{same_Some}
use Rattle.std.specs.Prelude.{◌==◌, Contains, Option}
use Rattle.smp_bytes.specs.Header.{done}
use Rattle.sm_manager.specs.CallLists.{Call, after_call}
use Rattle.sm_manager.specs.Manager.{Manager, Writing}
use Rattle.sm_manager.specs.ManagerRequests.{counts, is_step}
use Rattle.sm_manager.specs.declared.pending.Pending.{Pending}
use Rattle.acting_manager.specs.Working.{Told}
use Rattle.manager_laws.specs.WritingEnds.{IsEndOf}
use Rattle.manager_laws.proofs.own_sets.Unfailed.{IsUnfailed, call_unfailed}
use Rattle.manager_laws.proofs.writing_ends.Effects.{Says}
use Rattle.manager_laws.proofs.writing_ends.Turns.{Running, call_goes}
use Rattle.program_laws.specs.AnsweredWritings.{AnswersWell}
use Rattle.program_laws.proofs.wakes.Requests.{AnyAsks}
use Rattle.program_laws.proofs.wakes.StepTurns.{waits_turn}

-- a writing runs, or is over; no step that counts has failed, and each step that waits has the property W, by its number
pub record GoesWell (W : ℕ → Type 0) (m : Manager) : Type 0 where
  pub writing : Writing
  pub running : Running writing m
  pub unfailed : writing.has_failed ≡ false
  pub waits : (p : Pending) → Contains m.pending p → is_step p ≡ true → W p.number

pub more_wait : (W V : ℕ → Type 0) (m : Manager) → ((t : ℕ) → W t → V t) → GoesWell W m → GoesWell V m
more_wait W V m more g =
    record {
      writing = g.writing;
      running = g.running;
      unfailed = g.unfailed;
      waits = λ p there step. more p.number (g.waits p there step);
    }

pub none_failed : (W : ℕ → Type 0) (m : Manager) → GoesWell W m → IsUnfailed m.writing
none_failed W m g v e = ap (λ (w : Writing). w.has_failed) (sym (same_Some g.writing v (sym g.running.writing ∙ e))) ∙ g.unfailed

-- the answer to a step that counts has status 0
abbrev pub EndsDone : Manager → Call → Type 0
EndsDone m call =
    (p : Pending) → Contains m.pending p → is_step p ≡ true → IsEndOf p call → (was_done : Bool) → Says call was_done
    → (counts p && not was_done) ≡ false

pub told_done : (m : Manager) (bytes : List ℕ) (from : Option ℕ) → AnswersWell (Told.Packet bytes from) m → EndsDone m (Call.Packet bytes from)
told_done m bytes from well p there step ends was_done says = by_counts (counts p) refl
  where
    by_counts : (b : Bool) → counts p ≡ b → (b && not was_done) ≡ false
    by_counts false e = refl
    by_counts true e = ap not (says.0 ∙ ap (λ s. s == done) (well p there step e ends says.1))

-- a packet comes
pub heard_well : (W P : ℕ → Type 0) (m : Manager) (bytes : List ℕ) (from : Option ℕ) → m.counter ≤ 2 ^ 32 → EndsDone m (Call.Packet bytes from)
    → ((p : Pending) → Contains m.pending p → is_step p ≡ true → Contains (after_call m (Call.Packet bytes from)).pending p → P p.number)
    → GoesWell W m
    → GoesWell (λ t. (W t × P t) ⊎ AnyAsks t (after_call m (Call.Packet bytes from)).outgoing) (after_call m (Call.Packet bytes from))
heard_well W P m bytes from few each still g =
    let call = Call.Packet bytes from in
    let goes = call_goes g.writing m g.running call tt in
    record {
      writing = goes.going;
      running = goes.running;
      unfailed = call_unfailed m call tt each (none_failed W m g) goes.going goes.running.writing;
      waits = waits_turn W P m call g.running.rising few (inr (g.writing, g.running)) g.waits still;
    }
