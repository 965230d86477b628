-- What a master that decides by itself does once its sweep saw another master. InfiniBand Architecture Specification, Volume 1:
-- subnet management, subnet manager (handover).
use Rattle.std.specs.Prelude.{◌≡◌, ◌<◌, ◌≤◌, Bool, true, false, nat_lt, if◌then◌else◌, Some, is_none}
use Rattle.sm_state.specs.declared.state.SmState.TheVariants.{Master}
use Rattle.sm_manager.specs.Election.{handover_fault, yield_fault}
use Rattle.sm_policy.specs.Policy.{is_sweeping, patience}
use Rattle.sm_policy.specs.Swept.{meeting_at}
use Rattle.sm_policy.specs.declared.activity.Activity.{Activity}
use Rattle.sm_policy.specs.declared.activity.Activity.TheVariants.{Rests, Hands}
use Rattle.sm_policy.specs.declared.meeting.Meeting.{Meeting}
use Rattle.sm_policy.specs.declared.rival.Rival.{Rival}
use Rattle.sm_policy.specs.declared.rival.Rival.TheVariants.{Lesser, Greater}
use Rattle.acting_manager.specs.Acting.{Acting}
use Rattle.acting_manager.specs.Acts.{rival_seen}
use Rattle.acting_manager.specs.Working.{is_idle}
use Rattle.program_laws.specs.Wakes.{HasDecided, IsNoLeave, Line, after_line, before_deciding}

-- the meeting with another master that a manager sees
abbrev pub meeting_of : Acting → Meeting
meeting_of a = meeting_at a.time a.policy.meeting

-- the manager is told a line, by which its sweep is over. It is master, and saw `rival` as the greatest other master. It may
-- send each request more than 0 times, nobody tells it to leave, and it did not stand still while it swept
pub record SeesMaster (rival : Rival) (line : Line) (a : Acting) : Type 0 where
  pub decided : HasDecided a
  pub tries : 1 ≤ a.window.limits.tries
  pub stays_on : a.is_leaving ≡ false
  pub stays : IsNoLeave line.1
  pub over : is_idle (before_deciding line a).window ≡ true
  pub sweeps : is_sweeping (before_deciding line a).policy.activity ≡ true
  pub fresh : (before_deciding line a).policy.is_stale ≡ false
  pub master : (before_deciding line a).policy.state ≡ Master
  pub sees : rival_seen (before_deciding line a).manager ≡ Some rival

-- what the manager is about next: it hands over to its successor, if the other master wins; otherwise it announces itself a
-- few times, and then yields to the other one. Where there is no way to that one, it rests
abbrev pub about_next : Rival → Bool → Acting → Activity
about_next Greater is_new a = if is_none (handover_fault a.manager) then Hands else Rests
about_next Lesser true a = Rests
about_next Lesser false a = if is_none (yield_fault a.manager) then Hands else Rests

-- a master that saw another one offers the subnet to that one or announces itself, and writes nothing, unless it has offered the
-- subnet a few times in this meeting
abbrev pub MastersGiveWay : Type 0
MastersGiveWay =
    (rival : Rival) (line : Line) (a : Acting) → SeesMaster rival line a → (meeting_of (before_deciding line a)).handovers < patience
    → (after_line line a).policy.activity
    ≡ about_next rival (nat_lt (meeting_of (before_deciding line a)).looks patience) (before_deciding line a)
