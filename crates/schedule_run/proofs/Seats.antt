-- Managers in their seats, and calls that are refused.
use Rattle.std.proofs.Common.{◌≡◌, ◌∙◌, ℕ, ◌<◌, arith, cond, Bool, true, false, List, [], ◌∷◌, map, length, get_or, Option, None, Some, Result, Ok, Err, refl, sym, ap, subst}
use Rattle.std.specs.Prelude.{if◌then◌else◌, nat_lt, option_map, position, slice_get, OnOk}
use Rattle.std.specs.List.{position_or_len}
use Rattle.std.specs.Option.{option_map_or}
use Rattle.std.proofs.Math.ListN.{set}
use Rattle.std.proofs.Math.Seq.{map-set_same}
use Rattle.std.proofs.lemmas.Bool.{false_from_ne_true, lt-ltb, ltb-true}
use Rattle.std.proofs.lemmas.List.{length-set, map-set}
use Rattle.std.proofs.lemmas.List.Sums.{position_or_len_is}
use Rattle.std.proofs.lemmas.Option.{get_or_from_slice_get, slice_get-map, slice_get_read, slice_get_within}
use Rattle.fabric_model.specs.Cables.{is_same_port}
use Rattle.fabric_model.specs.declared.cable.NodePort.{NodePort}
use Rattle.fabric_sim.specs.Simulation.{Simulation, is_seat_at}
use Rattle.sm_manager.specs.Fault.{is_memory}
use Rattle.sm_manager.specs.Manager.{Manager, outstanding, emptied}
use Rattle.sm_manager.specs.declared.fault.ManagerFault.{ManagerFault}
use Rattle.sm_manager.specs.declared.fault.ManagerFault.TheVariants as manager
use Rattle.schedule_run.specs.Commands.{after_giving_up, after_timeout_line}
use Rattle.schedule_run.specs.Delivery.{seat_at}
use Rattle.schedule_lines.specs.Prints.{PrintsUnless}
use Rattle.schedule_lines.specs.Outcome.{Outcome}
use Rattle.schedule_run.specs.World.{Does, SeatedValue, WorldValue, after_ask, after_inject_all, after_manager_call, after_send, after_send_by}
use Rattle.schedule_lines.specs.Outcome.{and_then, quiet}
use Rattle.schedule_run.specs.World.{at_seat, decider_value, seated_value, value_of, with_manager}
use Rattle.schedule_lines.specs.Refusals.{manager_line}
use Rattle.schedule_lines.specs.declared.run_fault.RunFault.{RunFault}
use Rattle.schedule_run.specs.declared.world.Seated.{Seated}
use Rattle.schedule_run.specs.declared.world.World.{World}
use Rattle.schedule_lines.proofs.Refused.{Refuses, IsMemory, refusal_leaves, refusal_prints, refuses}
use Rattle.byte_io.proofs.Writing.{prints_nothing}
use Rattle.schedule_lines.proofs.Printing.{prints_same}

-- the manager of a seat
pub sits : (items : List Seated) (seat : ℕ) (s : Seated) → seat < length items → s ≡ get_or items seat s
    → slice_get (map seated_value items) seat ≡ Some (seated_value s)
sits items seat s h e = slice_get-map seated_value items seat ∙ ap (option_map seated_value) (slice_get_read items (length items) seat s refl h e)

-- another manager in its seat
abbrev pub with_one : Seated → Manager → Seated
with_one s m = record { seat = s.seat; manager = m }

pub changes : (items : List Seated) (seat : ℕ) (s : Seated) (m : Manager)
    → map seated_value (set items seat (with_one s m)) ≡ set (map seated_value items) seat (record (seated_value s) { manager = m })
changes items seat s m = map-set seated_value items seat (with_one s m)

-- the same manager in its seat
pub stays : (items : List Seated) (seat : ℕ) (s : Seated) (m : Manager) → s ≡ get_or items seat s → m ≡ s.manager
    → map seated_value (set items seat (with_one s m)) ≡ map seated_value items
stays items seat s m e same =
    map-set_same seated_value items seat (with_one s m) s (ap (λ m. seated_value (with_one s m)) same ∙ ap seated_value e)

-- what is done in a seat, and prints nothing
pub quiet_at : (w : WorldValue) (seat : ℕ) (after : SeatedValue → WorldValue) → (at_seat w seat (λ s. quiet (after s))).text ≡ []
quiet_at w seat after =
    elim (slice_get w.managers seat) as (λ o. (option_map_or (λ s. quiet (after s)) o (quiet w)).text ≡ []) [ None ↦ refl | Some s ↦ refl ]

-- a manager in its seat that is asked for something --------------------------------------------------

module _ (around : WorldValue) (items : List Seated) (seat : ℕ) (s : Seated) (within : seat < length items) (is : s ≡ get_or items seat s) where
  abbrev before : WorldValue
  before = record around { managers = map seated_value items }

  -- the world with this manager in the seat
  abbrev pub now_with : Manager → WorldValue
  now_with m = record around { managers = map seated_value (set items seat (with_one s m)) }

  pub at_seat_is : (run : SeatedValue → Outcome WorldValue) → at_seat before seat run ≡ run (seated_value s)
  at_seat_is run = ap (λ o. option_map_or run o (quiet before)) (sits items seat s within is)

  module _ (next : WorldValue → Outcome WorldValue) (fault : Manager → Option ManagerFault) (after : Manager → Manager) where
    -- it does what it is asked for
    pub done_run : (m : Manager) → fault s.manager ≡ None → m ≡ after s.manager → after_ask next before seat fault after ≡ next (now_with m)
    done_run m none same =
        at_seat_is (λ s. after_manager_call next before seat s (fault s.manager) (after s.manager))
        ∙ ap (λ why. after_manager_call next before seat (seated_value s) why (after s.manager)) none
        ∙ ap (λ w. next w)
        (ap (λ m. with_manager before seat (seated_value s) m) (sym same) ∙ ap (λ ms. record before { managers = ms }) (sym (changes items seat s m)))

    pub done_leaves : (m : Manager) → fault s.manager ≡ None → m ≡ after s.manager → (result : Result (Unit {0}) RunFault) (now : WorldValue)
        → OnOk result (now ≡ (next (now_with m)).now) → OnOk result (now ≡ (after_ask next before seat fault after).now)
    done_leaves m none same result now h =
        subst (λ (r : Outcome WorldValue). OnOk result (now ≡ r.now)) (sym (done_run m none same)) h

    pub done_prints : {W : Type 0} (written : W → Option (List ℕ)) (has_failed : W → Bool) (m : Manager) → fault s.manager ≡ None → m ≡ after s.manager
        → (result : Result (Unit {0}) RunFault) (old new : W) → PrintsUnless written has_failed result old new (next (now_with m)).text
        → PrintsUnless written has_failed result old new (after_ask next before seat fault after).text
    done_prints written has_failed m none same result old new h =
        prints_same written has_failed result old new _ _ (ap (λ r. r.text) (sym (done_run m none same))) h

    -- it refuses to
    pub refused_run : (given : ManagerFault) → (is_memory given ≡ false → fault s.manager ≡ Some given)
        → Refuses given before (after_ask next before seat fault after)
    refused_run given only =
        let call = at_seat_is (λ s. after_manager_call next before seat s (fault s.manager) (after s.manager)) in
        subst (Refuses given before) (sym call)
        (refuses given (fault s.manager) before (λ why. after_manager_call next before seat (seated_value s) why (after s.manager)) (λ f. refl) only)

    pub refused_leaves : (m : Manager) (given : ManagerFault) → m ≡ s.manager → (is_memory given ≡ false → fault s.manager ≡ Some given)
        → (result : Result (Unit {0}) RunFault) → IsMemory result given → OnOk result (now_with m ≡ (after_ask next before seat fault after).now)
    refused_leaves m given same only result memory =
        refusal_leaves given before (now_with m) (after_ask next before seat fault after) result (refused_run given only) memory
        (ap (λ ms. record before { managers = ms }) (stays items seat s m is same))

    pub refused_prints : {W : Type 0} (written : W → Option (List ℕ)) (has_failed : W → Bool) (given : ManagerFault)
        → (is_memory given ≡ false → fault s.manager ≡ Some given) → (result : Result (Unit {0}) RunFault) (old new : W) → IsMemory result given
        → PrintsUnless written has_failed result old new (manager_line given) → (given ≡ manager.Memory → new ≡ old)
        → PrintsUnless written has_failed result old new (after_ask next before seat fault after).text
    refused_prints written has_failed given only result old new memory prints unprinted =
        refusal_prints written has_failed given before (after_ask next before seat fault after) result old new (refused_run given only) memory prints unprinted

  -- it gives up the requests that wait
  pub timed_out : (items' : List ℕ) → items' ≡ outstanding s.manager
      → after_timeout_line before seat ≡ and_then (after_giving_up before seat items') (λ now. after_send now seat)
  unfolding after_timeout_line
  timed_out items' same =
      at_seat_is (λ s. and_then (after_giving_up before seat (outstanding s.manager)) (λ now. after_send now seat))
      ∙ ap (λ xs. and_then (after_giving_up before seat xs) (λ now. after_send now seat)) (sym same)

  -- all that it has queued goes out
  pub sent_leaves : (fabric' : Simulation) (m : Manager) (result : Result (Unit {0}) RunFault)
      → OnOk result (fabric' ≡ (after_inject_all around.fabric s.seat.now.at s.manager.outgoing).now) → OnOk result (m ≡ emptied s.manager)
      → OnOk result (record (now_with m) { fabric = fabric' } ≡ (after_send before seat).now)
  unfolding after_send
  sent_leaves fabric' m (Err fault) sends empties = tt
  sent_leaves fabric' m (Ok u) sends empties =
      ap (λ f. record (now_with m) { fabric = f }) sends
      ∙ ap (λ ms. record before { fabric = (after_inject_all around.fabric s.seat.now.at s.manager.outgoing).now; managers = ms })
      (changes items seat s m ∙ ap (λ m. set (map seated_value items) seat (record (seated_value s) { manager = m })) empties)
      ∙ ap (λ r. r.now) (sym (at_seat_is (after_send_by before seat)))

-- calls in a seat, whole ---------------------------------------------------------------------------------

module _ (old : World) (seat : ℕ) (s : Seated) (within : seat < length old.managers.items) (is : s ≡ get_or old.managers.items seat s) where
  -- nothing is another but this manager
  pub record IsIn (m : Manager) (new : World) : Type 0 where
    pub fabric : new.fabric ≡ old.fabric
    pub managers : new.managers.items ≡ set old.managers.items seat (with_one s m)
    pub deciders : new.deciders.items ≡ old.deciders.items
    pub time : new.time ≡ old.time

  -- and there are as many as before
  as_many : (m : Manager) (new : World) → new.managers.items ≡ set old.managers.items seat (with_one s m)
      → length new.managers.items ≡ length old.managers.items
  as_many m new e = ap length e ∙ length-set old.managers.items seat (with_one s m)

  value_is : (m : Manager) (new : World) → IsIn m new → value_of new ≡ now_with (value_of old) old.managers.items seat s within is m
  value_is m new h =
      λ i. record {
        fabric = h.fabric i;
        managers = map seated_value (h.managers i);
        deciders = map decider_value (h.deciders i);
        time = h.time i;
      }

  module _ (next : WorldValue → Outcome WorldValue) (fault : Manager → Option ManagerFault) (after : Manager → Manager)
      {W : Type 0} (written : W → Option (List ℕ)) (has_failed : W → Bool) where
    -- it did what it was asked for, and then came what is next
    pub done_does : (m : Manager) (mid new : World) → IsIn m mid → fault s.manager ≡ None → m ≡ after s.manager
        → (result : Result (Unit {0}) RunFault) (sink sink' : W) → Does written has_failed mid new result sink sink' (next (value_of mid))
        → Does written has_failed old new result sink sink' (after_ask next (value_of old) seat fault after)
    done_does m mid new now none same result sink sink' h = record {
      managers = h.managers ∙ as_many m mid now.managers;
      leaves = done_leaves (value_of old) old.managers.items seat s within is next fault after m none same result (value_of new)
          (subst (λ w. OnOk result (value_of new ≡ (next w).now)) (value_is m mid now) h.leaves);
      prints = done_prints (value_of old) old.managers.items seat s within is next fault after written has_failed m none same result sink sink'
          (subst (λ w. PrintsUnless written has_failed result sink sink' (next w).text) (value_is m mid now) h.prints);
    }

    -- it refused to
    pub refused_does : (m : Manager) (new : World) → IsIn m new → (given : ManagerFault) → m ≡ s.manager
        → (is_memory given ≡ false → fault s.manager ≡ Some given) → (result : Result (Unit {0}) RunFault) (sink sink' : W) → IsMemory result given
        → PrintsUnless written has_failed result sink sink' (manager_line given) → (given ≡ manager.Memory → sink' ≡ sink)
        → Does written has_failed old new result sink sink' (after_ask next (value_of old) seat fault after)
    refused_does m new now given same only result sink sink' memory prints unprinted = record {
      managers = as_many m new now.managers;
      leaves = subst (λ w. OnOk result (w ≡ (after_ask next (value_of old) seat fault after).now)) (sym (value_is m new now))
          (refused_leaves (value_of old) old.managers.items seat s within is next fault after m given same only result memory);
      prints = refused_prints (value_of old) old.managers.items seat s within is next fault after written has_failed given only result sink sink' memory prints
          unprinted;
    }

  -- it did what it was asked for, and nothing comes next
  pub quiet_does : (fault : Manager → Option ManagerFault) (after : Manager → Manager) {W : Type 0} (written : W → Option (List ℕ)) (has_failed : W → Bool)
      (m : Manager) (new : World) → IsIn m new → fault s.manager ≡ None → m ≡ after s.manager → (sink : W)
      → Does written has_failed old new (Ok tt) sink sink (after_ask quiet (value_of old) seat fault after)
  quiet_does fault after written has_failed m new now none same sink =
      done_does quiet fault after written has_failed m new new now none same (Ok tt) sink sink
      (record { managers = refl; leaves = refl; prints = prints_nothing written has_failed sink })

  -- all that it has queued goes out
  pub sent_does : {W : Type 0} (written : W → Option (List ℕ)) (has_failed : W → Bool) (m : Manager) (new : World)
      → new.managers.items ≡ set old.managers.items seat (with_one s m) → new.deciders.items ≡ old.deciders.items → new.time ≡ old.time
      → (result : Result (Unit {0}) RunFault) (sink sink' : W)
      → OnOk result (new.fabric ≡ (after_inject_all old.fabric s.seat.now.at s.manager.outgoing).now) → OnOk result (m ≡ emptied s.manager)
      → PrintsUnless written has_failed result sink sink' (after_inject_all old.fabric s.seat.now.at s.manager.outgoing).text
      → Does written has_failed old new result sink sink' (after_send (value_of old) seat)
  unfolding after_send
  sent_does written has_failed m new now same_deciders same_time result sink sink' sends empties prints =
      let made : record (now_with (value_of old) old.managers.items seat s within is m) { fabric = new.fabric } ≡ value_of new =
      λ i. record {
        fabric = new.fabric;
        managers = map seated_value (sym now i);
        deciders = map decider_value (sym same_deciders i);
        time = sym same_time i;
      } in
      record {
        managers = as_many m new now;
        leaves = subst (λ w. OnOk result (w ≡ (after_send (value_of old) seat).now)) made
            (sent_leaves (value_of old) old.managers.items seat s within is new.fabric m result sends empties);
        prints = prints_same written has_failed result sink sink' _ _
            (ap (λ r. r.text) (sym (at_seat_is (value_of old) old.managers.items seat s within is (after_send_by (value_of old) seat)))) prints;
      }

-- which seat is at a port --------------------------------------------------------------------------------

pub found_at : (w : WorldValue) (p : NodePort) (seat : ℕ) (s : SeatedValue) → is_seat_at w.fabric p ≡ true → slice_get w.managers seat ≡ Some s
    → is_same_port s.at p ≡ true → ((k : ℕ) (d : SeatedValue) → k < seat → is_same_port (get_or w.managers k d).at p ≡ false)
    → Some seat ≡ seat_at w p
found_at w p seat s sits there same before =
    let within = slice_get_within w.managers seat s there in
    let first : position_or_len (λ s. is_same_port s.at p) w.managers ≡ seat =
    position_or_len_is (λ s. is_same_port s.at p) w.managers seat s (omega arith) (λ k h. before k s h)
    (λ h. ap (λ x. is_same_port x.at p) (get_or_from_slice_get w.managers seat s s there) ∙ same) in
    sym (ap (λ b. if b then position (λ s. is_same_port s.at p) w.managers else None) sits
    ∙ ap (λ n. cond (nat_lt n (length w.managers)) (Some n) None) first ∙ ap (λ b. cond b (Some seat) None) (lt-ltb seat (length w.managers) within))

pub no_index : {X : Type 0} (p : X → Bool) (xs : List X) → ((k : ℕ) (d : X) → k < length xs → p (get_or xs k d) ≡ false) → position p xs ≡ None
no_index p [] none = refl
no_index p (x ∷ xs) none =
    let n = length (x ∷ xs) in
    ap (λ k. cond (nat_lt k n) (Some k) None) (position_or_len_is p (x ∷ xs) n x (omega arith) (λ k h. none k x h) (λ h. absurd (omega arith)))
    ∙ ap (λ b. cond b (Some n) None) (false_from_ne_true (nat_lt n n) (λ t. omega (arith, ltb-true n n t)))

pub none_at : (w : WorldValue) (p : NodePort) → is_seat_at w.fabric p ≡ true
    → ((k : ℕ) (d : SeatedValue) → k < length w.managers → is_same_port (get_or w.managers k d).at p ≡ false) → None ≡ seat_at w p
none_at w p sits before =
    sym (ap (λ b. if b then position (λ s. is_same_port s.at p) w.managers else None) sits ∙ no_index (λ s. is_same_port s.at p) w.managers before)
