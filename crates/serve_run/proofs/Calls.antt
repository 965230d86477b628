-- Calls of a manager as a whole: the manager that a call leaves, and why it was refused.
use Rattle.std.proofs.Common.{◌≡◌, ◌∙◌, Bool, true, false, List, [], ℕ, Option, None, Some, Result, Ok, Err, refl, sym, ap, subst}
use Rattle.std.specs.List.{flat_map}
use Rattle.std.specs.Prelude.{OnOk}
use Rattle.sm_manager.specs.Fault.{is_memory}
use Rattle.sm_manager.specs.Manager.{Manager}
use Rattle.sm_manager.specs.Packets.{Called}
use Rattle.sm_manager.specs.declared.fault.ManagerFault.{ManagerFault}
use Rattle.sm_manager.specs.declared.fault.ManagerFault.TheVariants as manager
use Rattle.sm_manager.specs.declared.traps.Trap.{Trap}
use Rattle.sm_manager.proofs.Refusals.{RefusalLeaves}
use Rattle.schedule_file.specs.declared.command.Ask.{Ask}
use Rattle.schedule_lines.specs.ManagerAsks.{after_asked, asked_fault}
use Rattle.schedule_lines.specs.Refusals.{manager_line}
use Rattle.schedule_lines.specs.Outcome.{Outcome}
use Rattle.schedule_lines.specs.Prints.{PrintsUnless}
use Rattle.schedule_lines.specs.declared.run_fault.RunFault.{RunFault}
use Rattle.byte_io.proofs.Writing.{prints_nothing}
use Rattle.schedule_lines.proofs.Printing.{prints_same}
use Rattle.schedule_lines.proofs.Refused.{IsMemory, memory_is, refusal_prints, refuses}
use Rattle.serve_run.specs.Lives.{Lives}
use Rattle.serve_run.specs.Served.{after_called, after_heard, asked, asked_with, fault_text, heard_text, send_line}

abbrev pub all_well : Result (Unit {0}) RunFault
all_well = Ok tt

pub on_ok : (result : Result (Unit {0}) RunFault) (P : Type 0) → P → OnOk result P
on_ok (Ok u) P p = p
on_ok (Err fault) P p = tt

-- a call that is refused leaves the manager, unless memory was refused
leaves_of : (m new : Manager) (c : Called) (given : ManagerFault) (result : Result (Unit {0}) RunFault) → RefusalLeaves m c → new ≡ m
    → (is_memory given ≡ false → c.fault ≡ Some given) → IsMemory result given → OnOk result (new ≡ c.manager)
leaves_of m new c given result leaves same only memory =
    elim (is_memory given) as (λ b. is_memory given ≡ b → OnOk result (new ≡ c.manager)) [
      | true ↦ λ e. subst (λ (r : Result (Unit {0}) RunFault). OnOk r (new ≡ c.manager)) (sym (memory.1 (memory_is given e))) tt
      | false ↦ λ e. on_ok result (new ≡ c.manager) (same ∙ sym (leaves given (only e)))
    ] refl

module _ {W : Type 0} (written : W → Option (List ℕ)) (has_failed : W → Bool) where
  -- a call that was done
  pub done_call : (c : Called) (new : Manager) (sink : W) → c.fault ≡ None → new ≡ c.manager
      → Lives written has_failed new (Ok tt) sink sink (after_called c)
  done_call c new sink none same = record {
    leaves = same;
    prints = prints_same written has_failed all_well sink sink [] (fault_text c.fault) (ap fault_text (sym none)) (prints_nothing written has_failed sink);
  }

  -- a packet that was refused
  pub refused_packet : (trap : Option Trap) (m new : Manager) (c : Called) (given : ManagerFault) (result : Result (Unit {0}) RunFault) (sink sink' : W)
      → RefusalLeaves m c → new ≡ m → (is_memory given ≡ false → c.fault ≡ Some given) → IsMemory result given
      → PrintsUnless written has_failed result sink sink' (manager_line given) → (given ≡ manager.Memory → sink' ≡ sink)
      → Lives written has_failed new result sink sink' (after_heard c trap)
  refused_packet trap m new c given result sink sink' leaves same only memory prints unprinted =
      let run : Option ManagerFault → Outcome Manager = λ why. record { now = c.manager; text = heard_text trap why } in
      record {
        leaves = leaves_of m new c given result leaves same only memory;
        prints = refusal_prints written has_failed given c.manager (after_heard c trap) result sink sink'
            (refuses given c.fault c.manager run (λ fault. refl) only) memory prints unprinted;
      }

  -- a call that was refused
  pub refused_call : (m new : Manager) (c : Called) (given : ManagerFault) (result : Result (Unit {0}) RunFault) (sink sink' : W) → RefusalLeaves m c
      → new ≡ m → (is_memory given ≡ false → c.fault ≡ Some given) → IsMemory result given
      → PrintsUnless written has_failed result sink sink' (manager_line given) → (given ≡ manager.Memory → sink' ≡ sink)
      → Lives written has_failed new result sink sink' (after_called c)
  refused_call m new c given result sink sink' = refused_packet None m new c given result sink sink'

  -- what one manager sends, another one that is the same does
  pub sends_same : (result : Result (Unit {0}) RunFault) (old new : W) (m other : Manager) → m ≡ other
      → PrintsUnless written has_failed result old new (flat_map send_line m.outgoing)
      → PrintsUnless written has_failed result old new (flat_map send_line other.outgoing)
  sends_same result old new m other e p =
      prints_same written has_failed result old new _ _ (ap (λ (x : Manager). flat_map send_line x.outgoing) e) p

-- what a manager is asked for ---------------------------------------------------------------------------

asked_fault_is : (m : Manager) (why : Option ManagerFault) (after : Manager) → (asked_with m why after).fault ≡ why
asked_fault_is m None after = refl
asked_fault_is m (Some fault) after = refl

asked_leaves : (m : Manager) (why : Option ManagerFault) (after : Manager) → RefusalLeaves m (asked_with m why after)
asked_leaves m None after why e = absurd (cc)
asked_leaves m (Some fault) after why e = refl

pub ask_leaves : (m : Manager) (what : Ask) → RefusalLeaves m (asked m what)
ask_leaves m what = asked_leaves m (asked_fault what m) (after_asked what m)

pub ask_fault : (m : Manager) (what : Ask) (why : Option ManagerFault) → asked_fault what m ≡ why → (asked m what).fault ≡ why
ask_fault m what why e = asked_fault_is m (asked_fault what m) (after_asked what m) ∙ e

pub ask_done : (m : Manager) (what : Ask) → asked_fault what m ≡ None → (asked m what).manager ≡ after_asked what m
ask_done m what e = ap (λ why. (asked_with m why (after_asked what m)).manager) e
