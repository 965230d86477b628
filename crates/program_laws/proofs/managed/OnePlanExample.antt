-- A manager whose writings are of one plan: that of `some_manager_decides`.
use Rattle.std.proofs.Common.{◌≡◌, ◌∙◌, ◌++◌, Bool, true, false, List, [], ◌∷◌, refl, sym, subst}
use Rattle.std.proofs.lemmas.Bool.{and_parts}
use Rattle.std.specs.Prelude.{◌&&◌, not}
use Rattle.smp_bytes.specs.Field.{with_bytes}
use Rattle.lft_blocks.specs.Plan.{PlanValue}
use Rattle.node_agents.specs.Agent.{fresh_agent}
use Rattle.node_agents.specs.Answers.{after_answer, get_of, set_of}
use Rattle.node_agents.specs.PortInfo.{changed_port}
use Rattle.fabric_sim.specs.Changes.{after_inject, cabled_at, after_lose, after_repeat}
use Rattle.fabric_sim.specs.Delivery.{after_deliver}
use Rattle.fabric_sim.specs.PacketOutcome.{outcome_of}
use Rattle.acting_manager.specs.Working.{Told}
use Rattle.manager_laws.specs.Scene.{Answer, Send as SendFrom}
use Rattle.manager_laws.specs.Written.{plan_at}
use Rattle.manager_laws.proofs.Lists.{all_tested}
use Rattle.program_laws.specs.Deciding.{Around, CanDecide, Deciding, DecidingEvent, Hear, Tell, after_deciding_event}
use Rattle.program_laws.specs.ManagedPings.{managed_at_writing}
use Rattle.program_laws.specs.ManagedWritings.{NoneBegins, begins_writing, does_write, managing_of}
use Rattle.program_laws.specs.OnePlan.{AllWrite, IsOfOnePlan, OthersSetInfoOnly, SomeManagerWritesOnePlan}
use Rattle.program_laws.proofs.managed.Moves.{both}
use Rattle.program_laws.proofs.managed.OnePlan.{writes_both}
use Rattle.program_laws.proofs.managed.Example.{after, before, beginning, begun, between, brings_up, sweeping, writing, writing_then}

-- where no writing begins, each is of any plan
written_none : (plan : PlanValue) (events : List DecidingEvent) (d : Deciding) → NoneBegins events d → AllWrite plan events d
written_none plan [] d none = tt
written_none plan (event ∷ events) d none =
    ((λ e. let no : true ≡ false = sym e ∙ none.0 in absurd (cc)), written_none plan events (after_deciding_event d event) none.1)

-- no writing begins, by a test
abbrev none_writes : List DecidingEvent → Deciding → Bool
none_writes [] d = true
none_writes (event ∷ events) d = not (begins_writing d event) && none_writes events (after_deciding_event d event)

not_true : (b : Bool) → not b ≡ true → b ≡ false
not_true true e = cc
not_true false e = refl

none_tested : (events : List DecidingEvent) (d : Deciding) → none_writes events d ≡ true → NoneBegins events d
none_tested [] d e = tt
none_tested (event ∷ events) d e =
    let parts = and_parts (not (begins_writing d event)) (none_writes events (after_deciding_event d event)) e in
    (not_true (begins_writing d event) parts.0, none_tested events (after_deciding_event d event) parts.1)

none_between : none_writes between sweeping ≡ true
unfolding cabled_at fresh_agent after_inject after_lose after_repeat after_deliver outcome_of after_answer get_of set_of changed_port with_bytes
none_between = refl

none_later : none_writes after writing ≡ true
unfolding cabled_at fresh_agent after_inject after_lose after_repeat after_deliver outcome_of after_answer get_of set_of changed_port with_bytes
none_later = refl

sweeps_first : does_write sweeping ≡ false
unfolding with_bytes
sweeps_first = refl

none_first : begins_writing beginning (Tell 1 Told.Time) ≡ false
none_first = (λ i. not (does_write beginning) && does_write (begun i)) ∙ sweeps_first

is_last : NoneBegins after (managed_at_writing beginning before (Hear 2 11))
is_last = subst (NoneBegins after) (sym writing_then) (none_tested after writing none_later)

-- others set nothing but SMInfo, by a test
abbrev sets_info : DecidingEvent → Bool
sets_info (Around (SendFrom from (Answer which given payload))) = true
sets_info (Around (SendFrom from sending)) = false
sets_info event = true

info_only : (event : DecidingEvent) → sets_info event ≡ true → OthersSetInfoOnly event
info_only (Around (SendFrom from (Answer which given payload))) e = tt
info_only (Around (SendFrom from sending)) e = let no : false ≡ true = e in absurd (cc)
info_only event e = tt

abbrev plan : PlanValue
plan = plan_at (managing_of (managed_at_writing beginning before (Hear 2 11)))

is_so : IsOfOnePlan plan beginning (before ++ Hear 2 11 ∷ after)
is_so =
    record {
      new = brings_up.new;
      starts = brings_up.starts;
      can = both (CanDecide beginning.seat) before (Hear 2 11 ∷ after) brings_up.before_can (brings_up.begins_can, brings_up.after_can);
      one = writes_both plan before (Hear 2 11 ∷ after) beginning
          (written_none plan before beginning (none_first, subst (NoneBegins between) (sym begun) (none_tested between sweeping none_between)))
          ((λ _. refl), written_none plan after (managed_at_writing beginning before (Hear 2 11)) is_last);
      others = all_tested OthersSetInfoOnly sets_info info_only (before ++ Hear 2 11 ∷ after) refl;
    }

pub some_manager_writes_one_plan : SomeManagerWritesOnePlan
some_manager_writes_one_plan =
    record {
      plan = plan;
      deciding = beginning;
      before = before;
      begins = Hear 2 11;
      after = after;
      is_so = is_so;
      writes = brings_up.writes;
      is_last = is_last;
    }
