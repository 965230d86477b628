-- A manager that tells a host a path: that of `some_manager_decides`, once it has written its plan.
use Rattle.std.proofs.Common.{◌≡◌, ◌∙◌, ◌++◌, ℕ, true, cond, ◌&&◌, List, ◌∷◌, Some, None, refl, sym, ap}
use Rattle.std.proofs.lemmas.Bool.{true≢false}
use Rattle.std.specs.Prelude.{is_some, replicate}
use Rattle.smp_bytes.specs.Field.{with_bytes}
use Rattle.fact_store.specs.View.{cells_of}
use Rattle.node_agents.specs.Agent.{fresh_agent}
use Rattle.node_agents.specs.Answers.{after_answer, get_of, set_of}
use Rattle.node_agents.specs.PortInfo.{changed_port}
use Rattle.lft_blocks.specs.Plan.{PlanValue}
use Rattle.fabric_sim.specs.Simulation.{fabric_of}
use Rattle.fabric_sim.specs.Changes.{after_inject, cabled_at, after_lose, after_repeat}
use Rattle.fabric_sim.specs.Delivery.{after_deliver}
use Rattle.fabric_sim.specs.PacketOutcome.{outcome_of}
use Rattle.subnet_view.specs.declared.end_port.EndPort.{EndPort}
use Rattle.sweep.specs.Sweep.{Sweep}
use Rattle.sm_state.specs.Standing.{is_in}
use Rattle.sm_state.specs.declared.state.SmState.TheVariants.{Master}
use Rattle.sm_manager.specs.Manager.{swept_of}
use Rattle.sm_manager.specs.Writing.{is_written}
use Rattle.sa_answers.specs.AnsweredRequests.{AsksForPath, IsAnswered}
use Rattle.sa_answers.specs.Told.{Told}
use Rattle.acting_manager.specs.Acting.{Acting}
use Rattle.acting_manager.specs.Administration.{told_by, told_of}
use Rattle.manager_laws.specs.Complete.{IsWhole}
use Rattle.manager_laws.proofs.Computed.{sweep_in, sweep_there}
use Rattle.program_laws.specs.Deciding.{Deciding, Hear, after_deciding_events}
use Rattle.program_laws.specs.ManagedPings.{managed_at_end, managed_at_writing}
use Rattle.program_laws.specs.ToldPaths.{SomePathIsToldAtASeat, TellsManaged}
use Rattle.program_laws.proofs.lasting.ToldPaths.{paths_are_told_at_seats}
use Rattle.program_laws.proofs.managed.Example.{after, before, beginning, brings_up, is_written_then, plan, writing, written, writing_then}

abbrev last_sweep : Sweep
last_sweep = sweep_in written.acting.manager.sweep

abbrev told : Told
told =
    record {
      cells = cells_of written.acting.manager.store;
      plan = plan;
      images = last_sweep.images.ports;
      own = written.acting.manager.standing.guid;
      multicast = written.acting.manager.planning.multicast;
    }

-- what is told, if all that this takes is so
told_so : (a : Acting) (s : Sweep) (p : PlanValue) → is_in Master a.manager.standing ≡ true → a.policy.written.stands ≡ true
    → is_written a.manager ≡ true → swept_of a.manager.sweep ≡ Some s → a.kept ≡ Some p
    → told_of a ≡ Some (record { cells = cells_of a.manager.store; plan = p; images = s.images.ports; own = a.manager.standing.guid; multicast = a.manager.planning.multicast })
told_so a s p master stands is_done swept kept i =
    cond (master i && (stands i && is_done i)) (told_by a.manager (swept i) (kept i)) None

is_master : is_in Master written.acting.manager.standing ≡ true
unfolding cabled_at fresh_agent after_inject after_lose after_repeat after_deliver outcome_of after_answer get_of set_of changed_port with_bytes
is_master = refl

stands : written.acting.policy.written.stands ≡ true
unfolding cabled_at fresh_agent after_inject after_lose after_repeat after_deliver outcome_of after_answer get_of set_of changed_port with_bytes
stands = refl

-- there is a sweep, and it is done
there_is : is_some written.acting.manager.sweep ≡ true
unfolding cabled_at fresh_agent after_inject after_lose after_repeat after_deliver outcome_of after_answer get_of set_of changed_port with_bytes
there_is = refl

sweep_is : written.acting.manager.sweep ≡ Some last_sweep
sweep_is = sweep_there written.acting.manager.sweep there_is

keeps : written.acting.kept ≡ Some plan
unfolding cabled_at fresh_agent after_inject after_lose after_repeat after_deliver outcome_of after_answer get_of set_of changed_port with_bytes
keeps = refl

whole : IsWhole last_sweep
unfolding cabled_at fresh_agent after_inject after_lose after_repeat after_deliver outcome_of after_answer get_of set_of changed_port with_bytes
whole = record { done = refl; answered = refl; near = refl }

has_swept : swept_of written.acting.manager.sweep ≡ Some last_sweep
has_swept = ap swept_of sweep_is ∙ ap (λ b. cond b (Some last_sweep) None) whole.done

end_is : managed_at_end beginning before (Hear 2 11) after ≡ written
end_is = ap (after_deciding_events after) writing_then

strict_then : writing.acting.policy.timing.is_strict ≡ true
unfolding cabled_at fresh_agent after_inject after_lose after_repeat after_deliver outcome_of after_answer get_of set_of changed_port with_bytes
strict_then = refl

strict : (managed_at_writing beginning before (Hear 2 11)).acting.policy.timing.is_strict ≡ true
strict = ap (λ (d : Deciding). d.acting.policy.timing.is_strict) writing_then ∙ strict_then

tells : TellsManaged beginning before (Hear 2 11) after told
tells =
    record {
      writes = record {
        new = brings_up.new;
        starts = brings_up.starts;
        before_can = brings_up.before_can;
        begins_can = brings_up.begins_can;
        after_can = brings_up.after_can;
        writes = brings_up.writes;
        keep = brings_up.keep;
      };
      strict = strict;
      tells = ap (λ (d : Deciding). told_of d.acting) end_is ∙ told_so written.acting last_sweep plan is_master stands is_written_then has_swept keeps;
      sweep = last_sweep;
      is_last = ap (λ (d : Deciding). d.acting.manager.sweep) end_is ∙ sweep_is;
      whole = whole;
    }

-- the request ---------------------------------------------------------------------------------------------------

abbrev one : EndPort
one = record { node = 16; port = 1 }

abbrev other : EndPort
other = record { node = 48; port = 1 }

-- Get of a PathRecord, of which it gives SLID, 2, and DLID, 4
abbrev request : List ℕ
request =
    replicate 3 0 ++ 1 ∷ replicate 13 0 ++ 0x35 ∷ replicate 37 0 ++ 48 ∷ replicate 41 0 ++ 4 ∷ 0 ∷ 2 ∷ replicate 156 0

asks : AsksForPath told request one 2 other 4
asks = record {
  is_get = refl;
  of_path = refl;
  from = record {
    named = refl;
    gid = λ given. absurd (true≢false (sym given));
    lid_given = λ given. refl;
    no_lid = λ none. absurd (true≢false none);
    owned = refl;
  };
  to = record {
    named = refl;
    gid = λ given. absurd (true≢false (sym given));
    lid_given = λ given. refl;
    no_lid = λ none. absurd (true≢false none);
    owned = refl;
  };
}

answered : IsAnswered told (fabric_of (managed_at_end beginning before (Hear 2 11) after).scene.fabric) request one 2 other 4
answered = paths_are_told_at_seats beginning before (Hear 2 11) after told tells request one other 2 4 asks

pub some_path_is_told_at_a_seat : SomePathIsToldAtASeat
some_path_is_told_at_a_seat =
    record {
      deciding = beginning;
      before = before;
      begins = Hear 2 11;
      after = after;
      told = told;
      tells = tells;
      request = request;
      path = answered.path;
      replies = answered.reply_is;
    }
