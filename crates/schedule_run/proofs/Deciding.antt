-- Managers that decide by themselves, in their seats: what they are told, and what they then give out.
use Rattle.std.proofs.Common.{◌≡◌, ◌∙◌, ℕ, ◌<◌, ◌≤◌, Bool, true, List, [], map, length, get_or, Option, None, Some, Result, Ok, Err, refl, sym, ap, arith}
use Rattle.std.specs.Prelude.{option_map, slice_get, OnOk}
use Rattle.std.specs.Option.{option_map_or}
use Rattle.std.proofs.Math.ListN.{set}
use Rattle.std.proofs.lemmas.List.{length-map, map-set}
use Rattle.std.proofs.lemmas.Option.{slice_get-map, slice_get_past, slice_get_read}
use Rattle.serve_run.specs.Acting.{value_of as acting_value}
use Rattle.serve_run.specs.Working.{Told, after_told, given_away}
use Rattle.serve_run.specs.ActingManagerType.{ActingManager}
use Rattle.fabric_sim.specs.Called.{Called}
use Rattle.fabric_sim.specs.Changes.{after_seat}
use Rattle.fabric_sim.specs.Simulation.{Simulation}
use Rattle.fabric_sim.specs.declared.fabric_fault.FabricFault.{FabricFault}
use Rattle.schedule_file.specs.declared.command.Shown.{Shown}
use Rattle.schedule_lines.specs.Outcome.{Outcome, quiet}
use Rattle.schedule_lines.specs.Prints.{PrintsUnless}
use Rattle.schedule_lines.specs.declared.run_fault.RunFault.{RunFault}
use Rattle.schedule_lines.specs.declared.run_fault.RunFault.TheVariants.{Memory}
use Rattle.byte_io.proofs.Writing.{prints_nothing}
use Rattle.schedule_lines.proofs.Printing.{ends_unprinted, failed_with, prints_same}
use Rattle.schedule_run.specs.Deciders.{after_deciding, after_decider_line, after_giving, after_pause_line, after_telling, at_decider}
use Rattle.schedule_run.specs.Deciders.{decider_shown, decider_shown_at, with_decider}
use Rattle.schedule_run.specs.World.{DeciderValue, Does, WorldValue, after_fabric_call, decider_value, fabric_line, seated_value, value_of}
use Rattle.schedule_run.specs.declared.world.Decider.{Decider}
use Rattle.schedule_run.specs.declared.world.World.{World}
use Rattle.schedule_run.proofs.Doing.{does_same}

-- the decider at an index
pub decides_at : (items : List Decider) (index : ℕ) (d : Decider) → index < length items → d ≡ get_or items index d
    → slice_get (map decider_value items) index ≡ Some (decider_value d)
decides_at items index d h e = slice_get-map decider_value items index ∙ ap (option_map decider_value) (slice_get_read items (length items) index d refl h e)

none_decides : (items : List Decider) (index : ℕ) → length items ≤ index → slice_get (map decider_value items) index ≡ None
none_decides items index h = slice_get_past (map decider_value items) index (omega (arith, h, length-map items decider_value))

pub at_decider_is : (w : WorldValue) (items : List Decider) (index : ℕ) (d : Decider) → w.deciders ≡ map decider_value items → index < length items
    → d ≡ get_or items index d → (run : DeciderValue → Outcome WorldValue) → at_decider w index run ≡ run (decider_value d)
at_decider_is w items index d are h e run =
    ap (λ o. option_map_or run o (quiet w)) (ap (λ ds. slice_get ds index) are ∙ decides_at items index d h e)

pub at_nobody : (w : WorldValue) (items : List Decider) (index : ℕ) → w.deciders ≡ map decider_value items → length items ≤ index
    → (run : DeciderValue → Outcome WorldValue) → at_decider w index run ≡ quiet w
at_nobody w items index are h run = ap (λ o. option_map_or run o (quiet w)) (ap (λ ds. slice_get ds index) are ∙ none_decides items index h)

-- another manager in a decider's seat
abbrev pub with_acting : Decider → ActingManager → Decider
with_acting d a = record { seat = d.seat; acting = a; is_awake = d.is_awake }

module _ {W : Type 0} (written : W → Option (List ℕ)) (has_failed : W → Bool) where
  -- nobody is told anything
  pub nobody_does : (old : World) (index : ℕ) → length old.deciders.items ≤ index → (run : DeciderValue → Outcome WorldValue) (u : Unit {0}) (sink : W)
      → Does written has_failed old old (Ok u) sink sink (at_decider (value_of old) index run)
  nobody_does old index past run u sink =
      does_same written has_failed old old (Ok u) sink sink _ _ (sym (at_nobody (value_of old) old.deciders.items index refl past run))
      (record { managers = refl; leaves = refl; prints = prints_nothing written has_failed sink })

  module _ (old : World) (index : ℕ) (d : Decider) (within : index < length old.deciders.items) (is : d ≡ get_or old.deciders.items index d) where
    -- memory ran out before it gave out anything
    pub untold_does : (new : World) → new.managers.items ≡ old.managers.items → (sink : W) (outcome : Outcome WorldValue)
        → Does written has_failed old new (failed_with Memory) sink sink outcome
    untold_does new same sink outcome = record {
      managers = ap length same;
      leaves = tt;
      prints = ends_unprinted written has_failed sink sink outcome.text refl;
    }

    -- it is told something, and gives out what it then has to
    module _ (what : Told) (told after : ActingManager) (hears : acting_value told ≡ after_told old.time what (acting_value d.acting)) where
      abbrev run : DeciderValue → Outcome WorldValue
      run d = after_deciding (value_of old) index d (after_told old.time what d.acting)

      abbrev outcome : Outcome WorldValue
      outcome = after_deciding (value_of old) index (decider_value d) (acting_value told)

      told_so : outcome ≡ after_telling (value_of old) index what
      unfolding after_telling
      told_so =
          ap (after_deciding (value_of old) index (decider_value d)) hears ∙ sym (at_decider_is (value_of old) old.deciders.items index d refl within is run)

      abbrev pub mid : World → WorldValue
      mid new = record (value_of old) { fabric = new.fabric; deciders = set (map decider_value old.deciders.items) index (decider_value (with_acting d after)) }

      leaves_so : (new : World) (result : Result (Unit {0}) RunFault) → value_of new ≡ mid new
          → OnOk result (new.fabric ≡ (after_giving old.fabric d.seat.now.name d.seat.now.at (acting_value told)).now)
          → OnOk result (acting_value after ≡ given_away (acting_value told))
          → OnOk result (value_of new ≡ outcome.now)
      leaves_so new (Err fault) are sends gives = tt
      leaves_so new (Ok u) are sends gives =
          are ∙ (λ i. record (value_of old) {
            fabric = sends i;
            deciders = set (map decider_value old.deciders.items) index (record (decider_value d) { acting = gives i });
          })

      pub told_does : (new : World) → new.managers.items ≡ old.managers.items
          → new.deciders.items ≡ set old.deciders.items index (with_acting d after) → new.time ≡ old.time
          → (result : Result (Unit {0}) RunFault) (sink sink' : W)
          → OnOk result (new.fabric ≡ (after_giving old.fabric d.seat.now.name d.seat.now.at (acting_value told)).now)
          → OnOk result (acting_value after ≡ given_away (acting_value told))
          → PrintsUnless written has_failed result sink sink' (after_giving old.fabric d.seat.now.name d.seat.now.at (acting_value told)).text
          → Does written has_failed old new result sink sink' (after_telling (value_of old) index what)
      told_does new same changed now result sink sink' sends gives prints =
          let are : value_of new ≡ mid new =
          λ i. record {
            fabric = new.fabric;
            managers = map seated_value (same i);
            deciders = (ap (map decider_value) changed ∙ map-set decider_value old.deciders.items index (with_acting d after)) i;
            time = now i;
          } in
          does_same written has_failed old new result sink sink' _ _ told_so
          (record { managers = ap length same; leaves = leaves_so new result are sends gives; prints = prints })

-- a decider that is woken up, or stands still
abbrev pub with_awake : Decider → Bool → Decider
with_awake d is_awake = record { seat = d.seat; acting = d.acting; is_awake = is_awake }

module _ (old : World) (index : ℕ) (d : Decider) (within : index < length old.deciders.items) (is : d ≡ get_or old.deciders.items index d) where
  -- nothing is another but the fabric and whether this decider is awake
  awake_is : (new : World) (fabric : Simulation) (is_awake : Bool) → new.fabric ≡ fabric → new.managers.items ≡ old.managers.items
      → new.deciders.items ≡ set old.deciders.items index (with_awake d is_awake) → new.time ≡ old.time
      → value_of new ≡ record (with_decider (value_of old) index (record (decider_value d) { is_awake = is_awake })) { fabric = fabric }
  awake_is new fabric is_awake left same changed now =
      λ i. record {
        fabric = left i;
        managers = map seated_value (same i);
        deciders = (ap (map decider_value) changed ∙ map-set decider_value old.deciders.items index (with_awake d is_awake)) i;
        time = now i;
      }

  pub paused_is : (new : World) (is_awake : Bool) → new.fabric ≡ old.fabric → new.managers.items ≡ old.managers.items
      → new.deciders.items ≡ set old.deciders.items index (with_awake d is_awake) → new.time ≡ old.time
      → value_of new ≡ (after_pause_line (value_of old) index is_awake).now
  unfolding after_pause_line
  paused_is new is_awake left same changed now =
      awake_is new old.fabric is_awake left same changed now
      ∙ ap (λ r. r.now) (sym (at_decider_is (value_of old) old.deciders.items index d refl within is
      (λ d. quiet (with_decider (value_of old) index (record d { is_awake = is_awake })))))

  module _ {W : Type 0} (written : W → Option (List ℕ)) (has_failed : W → Bool) where
    abbrev called : Called (Unit {0})
    called = after_seat old.fabric d.seat.now.at

    abbrev seats : DeciderValue → Outcome WorldValue
    seats d = after_fabric_call (with_decider (value_of old) index (record d { is_awake = true })) (after_seat old.fabric d.at)

    leaves_seated : (new : World) (result : Result (Unit {0}) RunFault) → value_of new ≡ (seats (decider_value d)).now
        → OnOk result (value_of new ≡ (seats (decider_value d)).now)
    leaves_seated new (Ok u) e = e
    leaves_seated new (Err fault) e = tt

    pub seats_does : (new : World) (r : Result (Unit {0}) FabricFault) → new.fabric ≡ called.fabric → r ≡ called.result
        → new.managers.items ≡ old.managers.items → new.deciders.items ≡ set old.deciders.items index (with_awake d true) → new.time ≡ old.time
        → (result : Result (Unit {0}) RunFault) (sink sink' : W) → PrintsUnless written has_failed result sink sink' (fabric_line r)
        → Does written has_failed old new result sink sink' (after_decider_line (value_of old) index)
    unfolding after_decider_line
    seats_does new r left told same changed now result sink sink' prints =
        does_same written has_failed old new result sink sink' _ _
        (sym (at_decider_is (value_of old) old.deciders.items index d refl within is seats))
        (record {
          managers = ap length same;
          leaves = leaves_seated new result (awake_is new called.fabric true left same changed now);
          prints = prints_same written has_failed result sink sink' (fabric_line r) (fabric_line called.result) (ap fabric_line told) prints;
        })

-- there is no such decider
pub nobody_paused : (old : World) (index : ℕ) (is_awake : Bool) → length old.deciders.items ≤ index
    → value_of old ≡ (after_pause_line (value_of old) index is_awake).now
unfolding after_pause_line
nobody_paused old index is_awake past =
    ap (λ r. r.now) (sym (at_nobody (value_of old) old.deciders.items index refl past
    (λ d. quiet (with_decider (value_of old) index (record d { is_awake = is_awake })))))

pub nobody_shown : (old : World) (index : ℕ) (what : Shown) → length old.deciders.items ≤ index → decider_shown (value_of old) index what ≡ []
unfolding decider_shown
nobody_shown old index what past = ap (λ o. option_map_or (decider_shown_at what) o []) (none_decides old.deciders.items index past)

-- and nothing is printed
pub pause_quiet : (w : WorldValue) (index : ℕ) (is_awake : Bool) → (after_pause_line w index is_awake).text ≡ []
unfolding after_pause_line
pause_quiet w index is_awake =
    elim (slice_get w.deciders index) as
    (λ o. (option_map_or (λ d. quiet (with_decider w index (record d { is_awake = is_awake }))) o (quiet w)).text ≡ []) [ None ↦ refl | Some d ↦ refl ]
