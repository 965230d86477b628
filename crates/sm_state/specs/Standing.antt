-- A manager as seen among the managers of its subnet: who it is, and how its state moves. InfiniBand Architecture
-- Specification, Volume 1: subnet management, subnet manager (states, priorities); SMInfo.
use Rattle.std.specs.Prelude.{ℕ, ◌+◌, ◌-◌, ◌^◌, Bool, ◌&&◌, min, nat_le, ◌==◌, if◌then◌else◌}
use Rattle.attr_codec.specs.declared.sm_info.SmInfo.{SmInfo}
use Rattle.sm_state.specs.declared.conduct.Conduct.{Conduct}
use Rattle.sm_state.specs.declared.control.Control.{Control}
use Rattle.sm_state.specs.declared.control.Control.TheVariants.{Acknowledge}
use Rattle.sm_state.specs.declared.event.Event.{Event}
use Rattle.sm_state.specs.declared.event.Event.TheVariants.{PollsUnanswered}
use Rattle.sm_state.specs.declared.state.SmState.{SmState}
use Rattle.sm_state.specs.declared.state.SmState.TheVariants.{Discovering, Standby}
use Rattle.sm_state.specs.Conduct.{is_live, key_of}
use Rattle.sm_state.specs.Control.{modifier_of_control}
use Rattle.sm_state.specs.State.{number_of_state}
use Rattle.sm_state.specs.Transitions.{stepped}
use Rattle.sm_state.specs.declared.standing.Standing.{Standing}

-- a manager at the port with the GUID `guid`, before it has done anything; its state is Discovering
abbrev pub new_standing : ℕ → ℕ → Conduct → Standing
new_standing guid priority conduct =
    record {
      guid = guid;
      priority = priority;
      conduct = conduct;
      state = Discovering;
      act_count = 0;
      polls_lost = 0;
    }

-- the SMInfo that the manager `s` reports
abbrev pub info_of : Standing → SmInfo
info_of s = record {
  guid = s.guid;
  sm_key = key_of s.conduct;
  act_count = s.act_count;
  priority = s.priority;
  state =
      number_of_state s.state;
}

-- whether a control is ACKNOWLEDGE
abbrev pub is_acknowledge : Control → Bool
is_acknowledge control = modifier_of_control control == modifier_of_control Acknowledge

-- the SMInfo that the manager `s` sends with a control: its own, except that under the live conduct the SMInfo with
-- ACKNOWLEDGE reports Standby
abbrev pub info_with : Control → Standing → SmInfo
info_with control s =
    if is_live s.conduct && is_acknowledge control then record (info_of s) { state = number_of_state Standby }
    else info_of s

-- whether the manager `s` is in `state`
abbrev pub is_in : SmState → Standing → Bool
is_in state s = number_of_state s.state == number_of_state state

-- `n` + 1, but at most 2^32 - 1
abbrev pub one_more : ℕ → ℕ
one_more n = min (n + 1) (2 ^ 32 - 1)

-- the manager `s` with its activity counted once more, up to 2^32 - 1
abbrev pub active_once_more : Standing → Standing
active_once_more s = record s { act_count = one_more s.act_count }

-- the manager `s` after it answered a request for SMInfo, which counts as activity under the live conduct
abbrev pub after_request_heard : Standing → Standing
after_request_heard s = if is_live s.conduct then active_once_more s else s

-- how the state moves --------------------------------------------------------------------------

-- the manager `s` after it entered `state`; a change of state resets the count of lost polls
abbrev pub moved_to : SmState → Standing → Standing
moved_to state s = if is_in state s then s else record s { state = state; polls_lost = 0 }

-- the manager `s` after the event `e`, in the state that the table of states gives
abbrev pub moved_by : Event → Standing → Standing
moved_by e s = moved_to (stepped s.conduct s.state e).state s

-- polls -----------------------------------------------------------------------------------------

-- the manager `s` after a poll was answered, which resets the count of lost polls
abbrev pub poll_answered : Standing → Standing
poll_answered s = record s { polls_lost = 0 }

-- the manager `s` after the event `PollsUnanswered` if three or more polls in a row were lost, else unchanged
abbrev pub three_lost : Standing → Standing
three_lost s = if nat_le 3 s.polls_lost then moved_by PollsUnanswered s else s

-- the manager `s` after one more poll was lost; if three or more in a row are lost, the event `PollsUnanswered`
-- follows
abbrev pub poll_lost : Standing → Standing
poll_lost s = three_lost (record s { polls_lost = one_more s.polls_lost })
