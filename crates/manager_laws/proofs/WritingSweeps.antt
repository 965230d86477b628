-- A manager's sweeps: what they ask leads where it should, and what they have found is so.
use Rattle.std.proofs.Common.{◌≡◌, ◌⊎◌, inl, inr, ℕ, ◌-◌, ◌<◌, ◌≤◌, ◌^◌, Bool, true, false, cond, List, [], ◌∷◌, ◌++◌, refl, sym, ap, ◌∙◌, subst, arith}
use Rattle.std.proofs.lemmas.Bool.{eqb-false}
use Rattle.std.proofs.lemmas.List.{append-nil}
use Rattle.std.specs.Prelude.{Option, Some, None, Result, Ok, Err, find, not, ◌==◌, ◌&&◌}
use Rattle.fabric_model.specs.declared.cable.NodePort.{NodePort}
use Rattle.fact_store.specs.Merge.{merge}
use Rattle.fact_store.specs.View.{Facts, raised, view_at}
use Rattle.reply_facts.specs.Report.{Sightings}
use Rattle.fabric_sim.specs.Simulation.{Simulation, AreCables, fabric_of, port_count}
use Rattle.fabric_sim.proofs.Courses.{IsForManager}
use Rattle.sweep.specs.declared.answer.Answer.{Answer}
use Rattle.sweep.specs.declared.fault.SweepFault.{SweepFault}
use Rattle.sweep.specs.declared.request.Request.{Request}
use Rattle.sweep.specs.Sweep.{Sweep, is_none_left, packet_of, request_with, timeout_fault, after_timeout_of, started}
use Rattle.sweep.specs.Replies.{belongs, judged, after_reply_to, after_reply, request_of, sightings_by}
use Rattle.sm_manager.specs.declared.outgoing.Outgoing.{Outgoing}
use Rattle.sm_manager.specs.declared.fault.ManagerFault.TheVariants as fault
use Rattle.sm_manager.specs.Manager.{Manager, begin_fault, after_raise_floor, is_running, newest_held, next_generation, requests_out, after_begin_sweep, after_merge}
use Rattle.sm_manager.specs.Packets.{answered_by, sweep_answered, sweep_timed_out, sweep_gave_up}
use Rattle.manager_laws.proofs.Accepted.{IsAccepted, accepted}
use Rattle.manager_laws.proofs.Replied.{FoundSound, sound_without}
use Rattle.manager_laws.proofs.Sound.{CanBeSwept, IsSoundRequest, AreSound, IsSoundSweep, sound_append}
use Rattle.manager_laws.proofs.Swept as swept
use Rattle.manager_laws.proofs.TrueFacts.{IsCabled}
use Rattle.manager_laws.proofs.Generations.{KnowsSmall, AreSmall, answer_of, floor_small, merged_small, newest_small, raised_small}
use Rattle.manager_laws.proofs.Led.{IsLedSweep, finds_led}

-- what is so of a fabric at the start, where a manager sits at the seat
pub record Ground (start : Simulation) (seat : NodePort) : Type 0 where
  pub cables : AreCables start
  pub counts : (id : ℕ) → port_count start id ≤ 254
  pub can : CanBeSwept (fabric_of start) seat
  pub cabled : IsCabled (fabric_of start)

module _ (start : Simulation) (seat : NodePort) where
  -- a sweep's request, as it goes out
  pub record IsAsked (o : Outgoing) : Type 0 where
    pub generation : ℕ
    pub few : (1 ≤ generation) × (generation < 2 ^ 32)
    pub request : Request
    pub sound : IsSoundRequest (fabric_of start) seat request
    pub is : o ≡ record { packet = packet_of generation request; to = None }

  abbrev pub AreAsked : List Outgoing → Type 0
  AreAsked [] = Unit {0}
  AreAsked (o ∷ out) = IsAsked o × AreAsked out

  asked_out : (generation : ℕ) (requests : List Request) → (1 ≤ generation) × (generation < 2 ^ 32) → AreSound (fabric_of start) seat requests
      → AreAsked (requests_out generation requests)
  asked_out generation [] few sound = tt
  asked_out generation (r ∷ requests) few sound =
      (record { generation = generation; few = few; request = r; sound = sound.0; is = refl }, asked_out generation requests few sound.1)

  -- sweeps -----------------------------------------------------------------------------------------

  -- nothing is waited for
  abbrev pub AcceptsNothing : Option Sweep → Type 0
  AcceptsNothing None = Unit {0}
  AcceptsNothing (Some s) = (s.queued ≡ []) × (s.outstanding ≡ [])

  -- it began after the fabric began to be as it is
  pub record IsSwept (s : Sweep) : Type 0 where
    pub sound : IsSoundSweep (fabric_of start) seat s
    pub led : IsLedSweep (fabric_of start) seat s
    pub sent : s.queued ≡ []

  abbrev pub IsSweptOne : Option Sweep → Type 0
  IsSweptOne None = ⊥
  IsSweptOne (Some s) = IsSwept s

  -- it did, or, where that may be, it is an old one that nothing changes any more
  abbrev pub SweepIs : Type 0 → Option Sweep → Type 0
  SweepIs old m = (old × AcceptsNothing m) ⊎ IsSweptOne m

  pub record SweepSide (old : Type 0) (m : Manager) : Type 0 where
    pub port : m.port ≡ seat.port
    pub lmc : m.planning.lmc < 8
    pub sweep : SweepIs old m.sweep
    pub knows : KnowsSmall m.store

  -- a call that is the sweep's business: it sends some requests, and changes nothing else
  pub record SweepCall (old : Type 0) (m after : Manager) : Type 0 where
    pub writing : after.writing ≡ m.writing
    pub pending : after.pending ≡ m.pending
    pub counter : after.counter ≡ m.counter
    pub more : List Outgoing
    pub outgoing : after.outgoing ≡ m.outgoing ++ more
    pub asks : AreAsked more
    pub side : SweepSide old after

  pub unchanged : (old : Type 0) (m : Manager) → SweepSide old m → SweepCall old m m
  unchanged old m side =
      record { writing = refl; pending = refl; counter = refl; more = []; outgoing = sym (append-nil m.outgoing); asks = tt; side = side }

  pub nothing_accepted : (m : Manager) → is_running m.sweep ≡ false → AcceptsNothing m.sweep
  nothing_accepted m rests = by_sweep m.sweep rests
    where
      by_lists : (queued outstanding : List Request) → not (is_none_left queued && is_none_left outstanding) ≡ false → (queued ≡ []) × (outstanding ≡ [])
      by_lists [] [] e = (refl, refl)
      by_lists [] (r ∷ rs) e = absurd (cc)
      by_lists (r ∷ rs) outstanding e = absurd (cc)

      by_sweep : (s : Option Sweep) → is_running s ≡ false → AcceptsNothing s
      by_sweep None e = tt
      by_sweep (Some s) e = by_lists s.queued s.outstanding e

  -- a sweep that begins
  pub begun : (old : Type 0) (m : Manager) → SweepSide old m → begin_fault m ≡ None → SweepCall ⊥ m (after_begin_sweep m)
  begun old m side none =
      record {
        writing = refl;
        pending = refl;
        counter = refl;
        more = requests_out (next_generation m.store) (started m.port (next_generation m.store) 1 false).queued;
        outgoing = refl;
        asks = asked_out (next_generation m.store) (started m.port (next_generation m.store) 1 false).queued few first;
        side = record {
          port = side.port;
          lmc = side.lmc;
          sweep = inr (record {
            sound = record {
              origin = side.port;
              generation = few;
              next = omega arith;
              queued = tt;
              outstanding = first;
              reached = tt;
            };
            led = record { reached = tt; states = tt };
            sent = refl;
          });
          knows = side.knows;
        };
      }
    where
      not_last : (newest_held m.store == 2 ^ 32 - 1) ≡ false
      not_last = by_tests (is_running m.sweep) (newest_held m.store == 2 ^ 32 - 1) none
        where
          by_tests : (b c : Bool) → cond b (Some fault.SweepRunning) (cond c (Some fault.GenerationsSpent) None) ≡ None → c ≡ false
          by_tests true c e = absurd (cc)
          by_tests false true e = absurd (cc)
          by_tests false false e = refl

      few : (1 ≤ next_generation m.store) × (next_generation m.store < 2 ^ 32)
      few =
          let small = newest_small m.store side.knows in
          let other = eqb-false _ _ not_last in
          let low = floor_small m.store side.knows in
          (omega arith, omega (arith, small, other, low))

      first : AreSound (fabric_of start) seat (started m.port (next_generation m.store) 1 false).queued
      first = (record { sound = record { own = tt; short = omega arith; asks = refl }; number = omega arith }, tt)

  -- a reply ----------------------------------------------------------------------------------------

  module _ (g : Ground start seat) (old : Type 0) (m : Manager) (side : SweepSide old m) (bytes : List ℕ) (is : IsForManager start seat bytes) where
    module _ (s : Sweep) (one : IsSwept s) (answer : Answer) (taken : judged s bytes ≡ Ok answer) where
      abbrev a : IsAccepted s bytes answer
      a = swept.accepted_as g.cables g.counts g.can g.cabled s one.sound bytes is answer taken

      found : FoundSound (fabric_of start) seat (belongs s.generation bytes) a.request
      found = swept.found g.cables g.counts g.can g.cabled s one.sound bytes is answer taken

      reply_sound : IsSoundSweep (fabric_of start) seat (after_reply s bytes)
      reply_sound = swept.reply_sound g.cables g.counts g.can g.cabled s one.sound bytes is answer taken

      reply_led : IsLedSweep (fabric_of start) seat (after_reply s bytes)
      reply_led =
          let finds = finds_led (fabric_of start) seat g.can.distinct s one.led a.request bytes
          (swept.told g.cables g.counts g.can g.cabled s one.sound bytes is answer taken).end
          (swept.leads g.cables g.counts g.can g.cabled s one.sound bytes is answer taken)
          (swept.says g.cables g.counts g.can g.cabled s one.sound bytes is answer taken)
          (swept.for g.cables g.counts g.can g.cabled s one.sound bytes is answer taken)
          found.sound (swept.node_good g.cables g.counts g.can g.cabled s one.sound bytes is answer taken) in
          subst (λ r. IsLedSweep (fabric_of start) seat (after_reply_to s bytes r)) (sym a.belongs) (record { reached = finds.led; states = finds.small })

      told_small : AreSmall (sightings_by answer)
      told_small = answer_of (λ g. g < 2 ^ 32) s bytes answer one.sound.generation.1 taken

      reply_call : SweepCall old m (answered_by m s bytes (Ok answer)).manager
      reply_call =
          let new = after_reply s bytes in
          record {
            writing = refl;
            pending = refl;
            counter = refl;
            more = requests_out new.generation new.queued;
            outgoing = refl;
            asks = asked_out new.generation new.queued reply_sound.generation reply_sound.queued;
            side = record {
              port = side.port;
              lmc = side.lmc;
              sweep = inr (record {
                sound = record {
                  origin = reply_sound.origin;
                  generation = reply_sound.generation;
                  next = reply_sound.next;
                  queued = tt;
                  outstanding = sound_append (fabric_of start) seat new.outstanding new.queued reply_sound.outstanding reply_sound.queued;
                  reached = reply_sound.reached;
                };
                led = record { reached = reply_led.reached; states = reply_led.states };
                sent = refl;
              });
              knows = merged_small m.store 1 (sightings_by answer) side.knows (omega arith) told_small;
            };
          }

    nothing_judged : (s : Sweep) (answer : Answer) → s.outstanding ≡ [] → judged s bytes ≡ Ok answer → ⊥
    nothing_judged s answer none taken =
        let x = accepted s bytes answer taken in
        let nobody : request_of s bytes ≡ None = ap (find (belongs s.generation bytes)) none in
        cc (sym nobody ∙ x.belongs)

    pub sweep_replied : SweepCall old m (sweep_answered m bytes m.sweep).manager
    sweep_replied = by_sweep m.sweep side.sweep
      where
        by_result : (s : Sweep) → SweepIs old (Some s) → (r : Result Answer SweepFault) → judged s bytes ≡ r → SweepCall old m (answered_by m s bytes r).manager
        by_result s (inl nothing) (Ok answer) e = absurd (nothing_judged s answer nothing.1.1 e)
        by_result s (inr one) (Ok answer) e = reply_call s one answer e
        by_result s is_one (Err why) e = unchanged old m side

        by_sweep : (o : Option Sweep) → SweepIs old o → SweepCall old m (sweep_answered m bytes o).manager
        by_sweep None is_one = unchanged old m side
        by_sweep (Some s) is_one = by_result s is_one (judged s bytes) refl

  -- a timeout ----------------------------------------------------------------------------------------

  pub sweep_timed : (old : Type 0) (m : Manager) → SweepSide old m → (transaction : ℕ) → SweepCall old m (sweep_gave_up m transaction m.sweep).manager
  sweep_timed old m side transaction = by_sweep m.sweep side.sweep
    where
      by_request : (s : Sweep) → SweepIs old (Some s) → (r : Option Request) → request_with s.generation transaction s.outstanding ≡ r
          → SweepIs old (Some (after_timeout_of s r))
      by_request s is_one None e = is_one
      by_request s (inl nothing) (Some r) e = absurd (cc (sym (ap (request_with s.generation transaction) nothing.1.1) ∙ e))
      by_request s (inr swept) (Some r) e =
          inr (record {
            sound = record {
              origin = swept.sound.origin;
              generation = swept.sound.generation;
              next = swept.sound.next;
              queued = swept.sound.queued;
              outstanding = sound_without (fabric_of start) seat r.number s.outstanding swept.sound.outstanding;
              reached = swept.sound.reached;
            };
            led = record { reached = swept.led.reached; states = swept.led.states };
            sent = swept.sent;
          })

      by_fault : (s : Sweep) → SweepIs old (Some s) → (why : Option SweepFault) → SweepCall old m (sweep_timed_out m s transaction why).manager
      by_fault s is_one (Some why) = unchanged old m side
      by_fault s is_one None =
          record {
            writing = refl;
            pending = refl;
            counter = refl;
            more = [];
            outgoing = sym (append-nil m.outgoing);
            asks = tt;
            side = record {
              port = side.port;
              lmc = side.lmc;
              sweep = by_request s is_one (request_with s.generation transaction s.outstanding) refl;
              knows =
                  side.knows;
            };
          }

      by_sweep : (o : Option Sweep) → SweepIs old o → SweepCall old m (sweep_gave_up m transaction o).manager
      by_sweep None is_one = unchanged old m side
      by_sweep (Some s) is_one = by_fault s is_one (timeout_fault s transaction)

  -- facts of others --------------------------------------------------------------------------------

  -- another store changes
  store_changed : (old : Type 0) (m : Manager) → SweepSide old m → (facts : Facts) → KnowsSmall facts → SweepCall old m (record m { store = facts })
  store_changed old m side facts knows =
      record {
        writing = refl;
        pending = refl;
        counter = refl;
        more = [];
        outgoing = sym (append-nil m.outgoing);
        asks = tt;
        side = record { port = side.port; lmc = side.lmc; sweep = side.sweep; knows = knows };
      }

  pub facts_merged : (old : Type 0) (m : Manager) → SweepSide old m → (floor : ℕ) (told : Sightings) → floor < 2 ^ 32 → AreSmall told
      → SweepCall old m (after_merge m (view_at floor told))
  facts_merged old m side floor told few small =
      store_changed old m side (merge m.store (view_at floor told)) (merged_small m.store floor told side.knows few small)

  -- a floor that is raised
  pub rises : (old : Type 0) (m : Manager) → SweepSide old m → (floor : ℕ) → floor < 2 ^ 32 → SweepCall old m (after_raise_floor m floor)
  rises old m side floor few = store_changed old m side (raised m.store floor) (raised_small m.store floor side.knows few)
