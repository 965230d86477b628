-- What a master does about its plan: it writes the plan unless that is written and stands.
use Rattle.std.specs.Prelude.{ℕ, Bool, true, ◌&&◌, ◌||◌, nat_lt, if◌then◌else◌}
use Rattle.sm_state.specs.Standing.{one_more}
use Rattle.sm_policy.specs.declared.act.Act.TheVariants.{HandOver, Settle, Write}
use Rattle.sm_policy.specs.declared.activity.Activity.TheVariants.{Rests, Writes}
use Rattle.sm_policy.specs.declared.write_cause.WriteCause.{WriteCause}
use Rattle.sm_policy.specs.declared.write_cause.WriteCause.TheVariants.{Again, For, New}
use Rattle.sm_policy.specs.declared.policy.Policy.{Policy}
use Rattle.sm_policy.specs.declared.ports.Ports.{Ports}
use Rattle.sm_policy.specs.declared.comparison.Comparison.{Comparison}
use Rattle.sm_policy.specs.declared.comparison.Comparison.TheVariants.{NoPlan, Same, Differs}
use Rattle.sm_policy.specs.Policy.{Decision, forgotten, later_by, patience, still, taken_back_within, waited_longer}

-- the count of how often ports were taken back, begun anew if the last time is long ago
abbrev pub recent_takings : ℕ → Policy → ℕ
recent_takings now p = if nat_lt (later_by taken_back_within p.taken_since) now then 0 else p.takings

-- whether writing the same plan once more may bring up a port: more are not Active than the last writing left
abbrev pub may_bring_up : Ports → Policy → Bool
may_bring_up ports p = nat_lt p.written.inactive ports.inactive && nat_lt p.written.repeats patience

-- whether ports are to name this manager as their master that name another one, which may take them back
abbrev pub may_take : ℕ → Ports → Policy → Bool
may_take now ports p = nat_lt 0 ports.foreign && nat_lt (recent_takings now p) patience

-- the policy once ports that name another master are written
abbrev pub taking : ℕ → Policy → Policy
taking now p =
    record p {
      taken_since = if nat_lt 0 (recent_takings now p) then p.taken_since else now;
      takings = one_more (recent_takings now p);
    }

-- nothing is left to write: the plan stands, with the ports that it could not bring up or take
abbrev pub settled : Ports → Policy → Policy
settled ports p =
    record p {
      faults = 0;
      written = record p.written { repeats = 0; inactive = ports.inactive; foreign = ports.foreign };
    }

-- the plan that stands is written once more
abbrev pub once_more : ℕ → Ports → Policy → Policy
once_more now ports p =
    record (if nat_lt 0 ports.foreign then taking now p else p) {
      written = record p.written { repeats = one_more p.written.repeats };
    }

-- what is done about a plan that is the one that was written last, and of which nothing is known to have changed
abbrev pub stood : ℕ → Ports → Policy → Decision
stood now ports p =
    if may_bring_up ports p || may_take now ports p then record { policy = once_more now ports p; act = Write }
    else record { policy = settled ports p; act = Settle }

-- another plan is written
abbrev pub anew : Policy → Decision
anew p = record { policy = record p { written = record p.written { repeats = 0 } }; act = Write }

-- what is done at the time `now` about the plan, given how it compares to what was written last, and the ports that the
-- sweep read
abbrev pub judged : ℕ → Comparison → Ports → Policy → Decision
judged now NoPlan ports p = still (waited_longer now p)
judged now Differs ports p = anew p
judged now Same ports p = if p.written.stands then stood now ports p else anew p

-- why the plan is written, if it is, given how it compares to what was written last, and the ports that the sweep read
abbrev pub cause_of : Comparison → Ports → Policy → WriteCause
cause_of NoPlan ports p = New
cause_of Differs ports p = New
cause_of Same ports p = if p.written.stands then For ports else Again

-- writings --------------------------------------------------------------------------------------------

-- something failed while a plan was written: nothing is known to stand, and all is done anew after a wait
abbrev pub failed : ℕ → Policy → Policy
failed now p = waited_longer now (forgotten (record p { activity = Rests }))

-- a writing was asked for: it runs, or the manager refused it
abbrev pub writing : ℕ → Bool → Policy → Policy
writing now has_begun p =
    if has_begun then record p { activity = Writes; written = record p.written { stands = true } } else failed now p

-- a writing is over: if all of it was answered as it must be, a sweep looks at what moved meanwhile, and a greater
-- manager gets the subnet
abbrev pub wrote : ℕ → Bool → Policy → Decision
wrote now is_written p =
    if is_written then record { policy = record p { activity = Rests; is_wanted = true }; act = HandOver }
    else still (failed now p)
