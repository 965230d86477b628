-- No fact that a manager holds is of a later generation than the newest that its sweeps had. So it holds none once its
-- floor is raised above that.
use Rattle.std.proofs.Common.{◌≡◌, inl, inr, ℕ, ◌-◌, ◌^◌, ◌<◌, ◌≤◌, Bool, true, false, cond, List, [], ◌∷◌, ◌++◌, map, refl, sym, ap, ◌∙◌, subst, arith}
use Rattle.std.proofs.lemmas.Bool.{and_parts, cond_both, eq-eqb, leb-true}
use Rattle.std.specs.Prelude.{Contains, Option, Some, None, Result, Ok, Err, T, is_none, max, nat_le, slice_get, ◌==◌, ◌&&◌}
use Rattle.std.specs.List.{AllByRecursion, list_all}
use Rattle.smp_bytes.specs.Packet.{fault_of, status}
use Rattle.smp_bytes.specs.declared.smp_fault.SmpFault.{SmpFault}
use Rattle.fabric_model.specs.Cables.{is_same_port}
use Rattle.fact_join.specs.declared.cell.Cell.{Cell}
use Rattle.fact_join.specs.Cell.{generation_of}
use Rattle.reply_facts.specs.declared.key.Key.{Key}
use Rattle.reply_facts.specs.declared.value.Value.{Value}
use Rattle.reply_facts.specs.Report.{Sightings}
use Rattle.fact_store.specs.Floor.{is_kept}
use Rattle.fact_store.specs.Merge.{merge}
use Rattle.fact_store.specs.Seen.{newest_of}
use Rattle.fact_store.specs.View.{Facts, cells_of, no_facts, raised, view_at}
use Rattle.fact_store.proofs.Orders.{contained_get}
use Rattle.fact_store.proofs.Seen.{newest_there}
use Rattle.fact_store.proofs.SightingRanges.{newest_at}
use Rattle.fact_store.proofs.Views.{cell_was_seen, raised_is_merge, view_of_both}
use Rattle.subnet_view.proofs.Apart.{contains-from_map}
use Rattle.subnet_view.proofs.Members.{contains_cases, contains_here, contains_none}
use Rattle.sm_state.specs.Standing.{one_more}
use Rattle.sweep.specs.declared.answer.Answer.{Answer}
use Rattle.sweep.specs.declared.fault.SweepFault.{SweepFault}
use Rattle.sweep.specs.declared.request.Request.{Request}
use Rattle.sweep.specs.Sweep.{Sweep, after_timeout_of, request_with, timeout_fault}
use Rattle.sweep.specs.Replies.{after_reply_to, judged, request_of, sightings_by}
use Rattle.sm_manager.specs.Election.{after_rediscover, handover_fault, heir_way, poll_fault, poll_way, rediscover_fault, successor_way, yield_fault}
use Rattle.sm_manager.specs.declared.fault.ManagerFault.TheVariants as fault
use Rattle.sm_manager.specs.declared.pending.Pending.{Pending}
use Rattle.sm_manager.specs.Manager.{Manager, after_begin_sweep, after_raise_floor, begin_fault, is_running, newest_held}
use Rattle.sm_manager.specs.ManagerRequests.{with_number}
use Rattle.sm_manager.specs.Packets.{Called, after_packet, after_timeout, answered_by, is_for_sweep, is_info_request, packet_taken, pending_for, request_answered}
use Rattle.sm_manager.specs.Packets.{request_gave_up, sweep_answered, sweep_gave_up, sweep_timed_out}
use Rattle.sm_manager.specs.Traps.{represses}
use Rattle.manager_laws.specs.Managing as managing
use Rattle.manager_laws.specs.Managing.{Managing, ManagerEvent, after_manager_event, after_manager_events, hearing}
use Rattle.manager_laws.specs.Scene.{Handed}
use Rattle.manager_laws.proofs.Before.{takes_first}
use Rattle.manager_laws.proofs.Follows.{KeepsSweep, handed_keeps, polled_keeps, request_keeps, served_keeps}
use Rattle.manager_laws.proofs.Generations.{AreOf, answer_of, of_both}
use Rattle.program_laws.specs.ManagedWritings.{IsQuiet}

-- facts --------------------------------------------------------------------------------------------

-- a generation from 1 to `n`
abbrev pub IsTo : ℕ → ℕ → Type 0
IsTo n g = (1 ≤ g) × (g ≤ n)

-- what is known is the view of sightings of such generations, at a floor up to `n`
pub record KnowsTo (n : ℕ) (facts : Facts) : Type 0 where
  pub floor : ℕ
  pub told : Sightings
  pub is : facts ≡ view_at floor told
  pub of : AreOf (IsTo n) told
  pub low : floor ≤ max 1 n

pub knows_nothing : (n : ℕ) → KnowsTo n no_facts
knows_nothing n = record { floor = 1; told = []; is = refl; of = tt; low = omega arith }

of_more : (n m : ℕ) (told : Sightings) → n ≤ m → AreOf (IsTo n) told → AreOf (IsTo m) told
of_more n m [] more all = tt
of_more n m (x ∷ told) more all = let high = all.0.1 in ((all.0.0, omega (arith, high, more)), of_more n m told more all.1)

knows_more : (n m : ℕ) (facts : Facts) → n ≤ m → KnowsTo n facts → KnowsTo m facts
knows_more n m facts more knows =
    let low = knows.low in
    record {
      floor = knows.floor;
      told = knows.told;
      is = knows.is;
      of = of_more n m knows.told more knows.of;
      low = omega (arith, low, more);
    }

merged_to : (n : ℕ) (facts : Facts) (floor : ℕ) (told : Sightings) → KnowsTo n facts → floor ≤ max 1 n → AreOf (IsTo n) told
    → KnowsTo n (merge facts (view_at floor told))
merged_to n facts floor told knows low of =
    let first = knows.low in
    record {
      floor = max knows.floor floor;
      told = knows.told ++ told;
      is = ap (λ x. merge x (view_at floor told)) knows.is ∙ sym (view_of_both knows.floor floor knows.told told);
      of = of_both (IsTo n) knows.told told knows.of of;
      low = omega (arith, first, low);
    }

raised_to : (n : ℕ) (facts : Facts) → KnowsTo n facts → KnowsTo n (raised facts n)
raised_to n facts knows = subst (KnowsTo n) (sym (raised_is_merge facts n)) (merged_to n facts n [] knows (omega arith) tt)

-- so is each sighting, and each cell of what they say together
sighted_to : (n : ℕ) (told : Sightings) (x : Key × Cell Value) → AreOf (IsTo n) told → Contains told x → IsTo n (generation_of x.1)
sighted_to n [] x all there = absurd (contains_none x there)
sighted_to n (y ∷ told) x all there =
    elim (contains_cases y x told there) [
      | inl i ↦ subst (IsTo n) (ap (λ (z : Key × Cell Value). generation_of z.1) i) all.0
      | inr k ↦ sighted_to n told x all.1 k
    ]

held_to : (n floor : ℕ) (told : Sightings) → AreOf (IsTo n) told → (x : Key × Cell Value) → Contains (cells_of (view_at floor told)) x
    → IsTo n (generation_of x.1)
held_to n floor told of x there =
    let held = contained_get (view_at floor told).found x.0 x.1 there in
    let (d, sighted, generation) = (newest_at told x.0 x.1 (cell_was_seen floor told x.0 x.1 held)).sighted in
    subst (IsTo n) generation (sighted_to n told (x.0, d) of sighted)

newest_to : (n floor : ℕ) (told : Sightings) → AreOf (IsTo n) told → newest_held (view_at floor told) ≤ n
newest_to n floor told of = by_cells (cells_of (view_at floor told)) refl
  where
    by_cells : (es : List (Key × Cell Value)) → cells_of (view_at floor told) ≡ es → newest_of (map (λ e. e.1) es) ≤ n
    by_cells [] e = omega arith
    by_cells (x ∷ es) e =
        let (c, there, newest) = newest_there x.1 (map (λ y. y.1) es) in
        let (y, among, same) = contains-from_map (λ (y : Key × Cell Value). y.1) (x ∷ es) c there in
        let high = (held_to n floor told of y (subst (λ zs. Contains zs y) (sym e) among)).1 in
        let alike = ap generation_of same in
        omega (arith, high, alike, newest)

-- a floor above the newest generation forgets all facts. If there is none above it, they are forgotten unless no sweep
-- may begin
told_true : (b : Bool) → T b → b ≡ true
told_true true t = refl
told_true false t = absurd t

head_kept : (facts : Facts) (x : Key × Cell Value) (es : List (Key × Cell Value)) → cells_of facts ≡ x ∷ es → facts.floor ≤ max 1 (generation_of x.1)
head_kept facts x es e =
    let all = (and_parts (nat_le 1 facts.floor) (list_all (λ e. is_kept facts.floor e.1) (cells_of facts)) (told_true _ facts.above)).1 in
    let first : (is_kept facts.floor x.1 && list_all (λ e. is_kept facts.floor e.1) es) ≡ true =
    sym (ap (λ (l : List (Key × Cell Value)). list_all (λ e. is_kept facts.floor e.1) l) e) ∙ all in
    leb-true _ _ (and_parts (is_kept facts.floor x.1) (list_all (λ e. is_kept facts.floor e.1) es) first).0

none_left : (n : ℕ) (facts : Facts) → n < 2 ^ 32 → KnowsTo n facts → (newest_held (raised facts (one_more n)) ≡ 2 ^ 32 - 1 → ⊥)
    → cells_of (raised facts (one_more n)) ≡ []
none_left n facts small knows last = by_cells (cells_of later) refl
  where
    later : Facts
    later = raised facts (one_more n)

    floor : ℕ
    floor = max knows.floor (one_more n)

    is : later ≡ view_at floor (knows.told ++ [])
    is = raised_is_merge facts (one_more n) ∙ ap (λ x. merge x (view_at (one_more n) [])) knows.is
        ∙ sym (view_of_both knows.floor (one_more n) knows.told [])

    of : AreOf (IsTo n) (knows.told ++ [])
    of = of_both (IsTo n) knows.told [] knows.of tt

    by_cells : (es : List (Key × Cell Value)) → cells_of later ≡ es → es ≡ []
    by_cells [] e = refl
    by_cells (x ∷ es) e =
        let (low, high) = held_to n floor (knows.told ++ []) of x
        (subst (λ zs. Contains zs x) (sym e ∙ ap cells_of is) (contains_here x es)) in
        let kept : max 1 (max facts.floor (one_more n)) ≤ max 1 (generation_of x.1) = head_kept later x es e in
        let newest : newest_held later ≡ max (generation_of x.1) (newest_of (map (λ y. y.1) es)) = ap (λ zs. newest_of (map (λ y. y.1) zs)) e in
        let top : newest_held later ≤ n = subst (λ z. newest_held z ≤ n) (sym is) (newest_to n floor (knows.told ++ []) of) in
        absurd (last (omega (arith, low, high, kept, newest, top, small)))

-- managers -----------------------------------------------------------------------------------------

abbrev pub IsSweptTo : ℕ → Option Sweep → Type 0
IsSweptTo n None = Unit {0}
IsSweptTo n (Some s) = IsTo n s.generation

-- a manager's facts, and its sweep, are of generations up to `n`
pub record IsNewestTo (n : ℕ) (m : Manager) : Type 0 where
  pub knows : KnowsTo n m.store
  pub sweep : IsSweptTo n m.sweep

not_last : (m : Manager) → begin_fault m ≡ None → newest_held m.store ≡ 2 ^ 32 - 1 → ⊥
not_last m none last = by_tests (is_running m.sweep) (newest_held m.store == 2 ^ 32 - 1) (eq-eqb _ _ last) none
  where
    by_tests : (b c : Bool) → c ≡ true → cond b (Some fault.SweepRunning) (cond c (Some fault.GenerationsSpent) None) ≡ None → ⊥
    by_tests true c t e = cc
    by_tests false true t e = cc
    by_tests false false t e = cc

-- a sweep that begins once the floor was raised begins without facts
pub knows_nothing_then : (n : ℕ) (m : Manager) → n < 2 ^ 32 → IsNewestTo n m → begin_fault (after_raise_floor m (one_more n)) ≡ None
    → cells_of (after_raise_floor m (one_more n)).store ≡ []
knows_nothing_then n m small is none =
    none_left n m.store small is.knows (not_last (after_raise_floor m (one_more n)) none)

swept_more : (n m : ℕ) (s : Option Sweep) → n ≤ m → IsSweptTo n s → IsSweptTo m s
swept_more n m None more is = tt
swept_more n m (Some s) more is = let high = is.1 in (is.0, omega (arith, high, more))

pub raised_newest : (n : ℕ) (m : Manager) → n < 2 ^ 32 → IsNewestTo n m → IsNewestTo (one_more n) (after_raise_floor m (one_more n))
raised_newest n m small is =
    let more : n ≤ one_more n = omega (arith, small) in
    record {
      knows = raised_to (one_more n) m.store (knows_more n (one_more n) m.store more is.knows);
      sweep = swept_more n (one_more n) m.sweep more is.sweep;
    }

pub begun_newest : (n : ℕ) (m : Manager) → 1 ≤ n → IsNewestTo n m → cells_of m.store ≡ [] → IsNewestTo n (after_begin_sweep m)
begun_newest n m some is nothing =
    let newest : newest_held m.store ≡ 0 = ap (λ es. newest_of (map (λ e. e.1) es)) nothing in
    let low = is.knows.low in
    let floor : m.store.floor ≡ max 1 is.knows.floor = ap (λ (x : Facts). x.floor) is.knows.is in
    record { knows = is.knows; sweep = (omega arith, omega (arith, newest, low, floor, some)) }

-- quiet events -------------------------------------------------------------------------------------

module _ (n : ℕ) where
  pub kept : (m after : Manager) → IsNewestTo n m → KeepsSweep m after → IsNewestTo n after
  kept m after is keeps = record {
    knows = subst (KnowsTo n) (sym keeps.store) is.knows;
    sweep = subst (IsSweptTo n) (sym keeps.sweep) is.sweep;
  }

  replied_to : (s : Sweep) (bytes : List ℕ) → IsTo n s.generation → (r : Option Request) → IsTo n (after_reply_to s bytes r).generation
  replied_to s bytes is None = is
  replied_to s bytes is (Some r) = is

  timed_to : (s : Sweep) → IsTo n s.generation → (r : Option Request) → IsTo n (after_timeout_of s r).generation
  timed_to s is None = is
  timed_to s is (Some r) = is

  replied : (m : Manager) (bytes : List ℕ) → KnowsTo n m.store → IsNewestTo n m → (s : Option Sweep) → IsSweptTo n s
      → IsNewestTo n (sweep_answered m bytes s).manager
  replied m bytes knows is None swept = is
  replied m bytes knows is (Some s) swept = by_result (judged s bytes) refl
    where
      by_result : (r : Result Answer SweepFault) → judged s bytes ≡ r → IsNewestTo n (answered_by m s bytes r).manager
      by_result (Ok answer) e = record {
        knows = merged_to n m.store 1 (sightings_by answer) knows (omega arith) (answer_of (IsTo n) s bytes answer swept e);
        sweep = replied_to s bytes swept (request_of s bytes);
      }
      by_result (Err why) e = is

  pub heard : (m : Manager) (bytes : List ℕ) (lid : Option ℕ) → IsNewestTo n m → IsNewestTo n (after_packet m bytes lid).manager
  heard m bytes lid is = by_fault (fault_of bytes)
    where
      by_pending : (o : Option Pending) → IsNewestTo n (request_answered m bytes o).manager
      by_pending None = is
      by_pending (Some p) = kept m _ is (request_keeps m p (Some (status bytes)) p.purpose)

      by_fault : (why : Option SmpFault) → IsNewestTo n (packet_taken m bytes lid why).manager
      by_fault (Some why) = is
      by_fault None =
          cond_both (is_info_request bytes) _ _ (λ (x : Called). IsNewestTo n x.manager)
          (λ _. kept m _ is (served_keeps m bytes lid))
          (λ _. cond_both (represses m bytes) _ _ (λ (x : Called). IsNewestTo n x.manager)
          (λ _. record { knows = is.knows; sweep = is.sweep })
          (λ _. cond_both (is_for_sweep bytes) _ _ (λ (x : Called). IsNewestTo n x.manager)
          (λ _. replied m bytes is.knows is m.sweep is.sweep) (λ _. by_pending (pending_for m bytes))))

  timed : (m : Manager) (transaction : ℕ) → IsNewestTo n m → IsNewestTo n (after_timeout m transaction).manager
  timed m transaction is =
      cond_both (nat_le (2 ^ 32) transaction) _ _ (λ (x : Called). IsNewestTo n x.manager) (λ _. by_sweep m.sweep is.sweep)
      (λ _. by_pending (with_number transaction m.pending))
    where
      by_pending : (o : Option Pending) → IsNewestTo n (request_gave_up m o).manager
      by_pending None = is
      by_pending (Some p) = kept m _ is (request_keeps m p None p.purpose)

      by_fault : (s : Sweep) → IsTo n s.generation → (why : Option SweepFault) → IsNewestTo n (sweep_timed_out m s transaction why).manager
      by_fault s swept (Some why) = is
      by_fault s swept None = record {
        knows = is.knows;
        sweep = timed_to s swept (request_with s.generation transaction s.outstanding);
      }

      by_sweep : (s : Option Sweep) → IsSweptTo n s → IsNewestTo n (sweep_gave_up m transaction s).manager
      by_sweep None swept = is
      by_sweep (Some s) swept = by_fault s swept (timeout_fault s transaction)

  quiet_newest : (w : Managing) (event : ManagerEvent) → IsQuiet event → IsNewestTo n w.manager → IsNewestTo n (after_manager_event w event).manager
  quiet_newest w (managing.Around event) q is = absurd q
  quiet_newest w managing.Begin q is = absurd q
  quiet_newest w managing.Write q is = absurd q
  quiet_newest w (managing.Send which) q is = absurd q
  quiet_newest w (managing.Raise floor) q is = absurd q
  quiet_newest w (managing.Merge floor sightings) q is = absurd q
  quiet_newest w managing.Take q is =
      let t = takes_first w.manager in kept w.manager _ is (record { sweep = t.sweep; store = t.store })
  quiet_newest w (managing.Hear which) q is = by_handed (slice_get w.scene.handed which)
    where
      by_handed : (o : Option Handed) → IsNewestTo n (hearing w o).manager
      by_handed None = is
      by_handed (Some h) =
          cond_both (is_same_port h.at w.seat) _ _ (λ (x : Managing). IsNewestTo n x.manager)
          (λ _. heard w.manager h.packet.bytes (Some h.packet.slid) is) (λ _. is)
  quiet_newest w (managing.TimeOut transaction) q is = timed w.manager transaction is
  quiet_newest w (managing.Poll lid) q is =
      cond_both (is_none (poll_fault w.manager lid)) _ _ (IsNewestTo n)
      (λ _. kept w.manager _ is (polled_keeps w.manager (poll_way w.manager lid))) (λ _. is)
  quiet_newest w managing.HandOver q is =
      cond_both (is_none (handover_fault w.manager)) _ _ (IsNewestTo n)
      (λ _. kept w.manager _ is (handed_keeps w.manager (successor_way w.manager))) (λ _. is)
  quiet_newest w managing.Yield q is =
      cond_both (is_none (yield_fault w.manager)) _ _ (IsNewestTo n)
      (λ _. kept w.manager _ is (handed_keeps w.manager (heir_way w.manager))) (λ _. is)
  quiet_newest w managing.Rediscover q is =
      cond_both (is_none (rediscover_fault w.manager)) (after_rediscover w.manager) w.manager (IsNewestTo n)
      (λ _. record { knows = is.knows; sweep = is.sweep }) (λ _. is)

  pub all_newest : (events : List ManagerEvent) (w : Managing) → AllByRecursion IsQuiet events → IsNewestTo n w.manager
      → IsNewestTo n (after_manager_events events w).manager
  all_newest [] w q is = is
  all_newest (event ∷ events) w q is =
      all_newest events (after_manager_event w event) q.1 (quiet_newest w event q.0 is)
