-- A manager that decides while it sweeps or writes does not go on with that.
use Rattle.std.proofs.Common.{◌≡◌, ◌∙◌, ℕ, Bool, true, false, cond, List, [], ◌∷◌, refl, sym, ap, subst}
use Rattle.std.proofs.lemmas.Bool.{cond_both, cond-true, cond-false}
use Rattle.std.specs.Prelude.{Option, Some, None, ◌≤◌, is_none, nat_le, nat_lt}
use Rattle.lft_blocks.specs.Plan.{PlanValue}
use Rattle.sm_state.specs.declared.state.SmState.{SmState}
use Rattle.sm_state.specs.declared.state.SmState.TheVariants.{NotActive, Discovering, Standby, Master}
use Rattle.sm_manager.specs.Election.{handover_fault, poll_fault, yield_fault}
use Rattle.sm_manager.specs.Manager.{begin_fault}
use Rattle.sm_manager.specs.PlanFaults.{writing_fault}
use Rattle.sm_manager.specs.Writing.{is_written}
use Rattle.sm_policy.specs.Judged.{cause_of, failed, judged, once_more, settled, stood, taking}
use Rattle.sm_policy.specs.Policy.{Decision, forgotten, is_sweeping, patience, polled, wanting}
use Rattle.sm_policy.specs.Swept.{dealt, ended, judging, masterless_by, meeting_at, met, swept, swept_in}
use Rattle.sm_policy.specs.declared.act.Act.{Act}
use Rattle.sm_policy.specs.declared.act.Act.TheVariants as act
use Rattle.sm_policy.specs.declared.activity.Activity.{Activity}
use Rattle.sm_policy.specs.declared.activity.Activity.TheVariants as activity
use Rattle.sm_policy.specs.declared.comparison.Comparison.{Comparison}
use Rattle.sm_policy.specs.declared.comparison.Comparison.TheVariants.{NoPlan, Same, Differs}
use Rattle.sm_policy.specs.declared.policy.Policy.{Policy}
use Rattle.sm_policy.specs.declared.ports.Ports.{Ports}
use Rattle.sm_policy.specs.declared.rival.Rival.{Rival}
use Rattle.sm_policy.specs.declared.rival.Rival.TheVariants.{Lesser, Greater}
use Rattle.sm_policy.specs.declared.write_cause.WriteCause.{WriteCause}
use Rattle.acting_manager.specs.Acting.{Acting, caught_up, collected, noted}
use Rattle.acting_manager.specs.Acts.{about_plan, acted, acted_in, decided, done_by, floor_raised, is_whole, left_in, noted_unplanned, rival_seen, sweep_over}
use Rattle.acting_manager.specs.Acts.{writing_over}
use Rattle.acting_manager.specs.Planned.{comparison_of, planned}
use Rattle.acting_manager.specs.Working.{is_idle, is_writing, sent}
use Rattle.acting_manager.specs.declared.note.Note.TheVariants.{Swept, Wrote}
use Rattle.request_window.specs.declared.limits.Limits.{Limits}
use Rattle.program_laws.specs.ManagedEnds.{ManagedWritingsEnd, StaysAbout}
use Rattle.program_laws.specs.Wakes.{GetsOn, HasDecided, Line, NoneLeaves, StaysBusy, after_line, before_deciding}
use Rattle.program_laws.proofs.wakes.Empties.{line_goes, what_is_left, windows_empty}
use Rattle.program_laws.proofs.wakes.Sending.{only_sends}
use Rattle.program_laws.proofs.wakes.Settled.{has_settled}
use Rattle.program_laws.proofs.wakes.Load.{Fits, looked_about}
use Rattle.program_laws.proofs.wakes.Waking.{Ends, Kind, Rests, line_falls}

-- decisions after a sweep -------------------------------------------------------------------------------

abbrev KeepsAbout : Policy → Decision → Type 0
KeepsAbout p d = d.policy.activity ≡ p.activity

counted_about : (count : ℕ) (p : Policy) → KeepsAbout p (masterless_by count p)
counted_about count p = cond_both (nat_lt patience count) _ _ (KeepsAbout p) (λ _. refl) (λ _. refl)

dealt_about : (rival : Rival) (p : Policy) → KeepsAbout p (dealt rival p)
dealt_about Greater p = refl
dealt_about Lesser p = cond_both (nat_lt p.meeting.looks patience) _ _ (KeepsAbout p) (λ _. refl) (λ _. refl)

met_about : (rival : Rival) (p : Policy) → KeepsAbout p (met rival p)
met_about rival p =
    cond_both (nat_le patience p.meeting.handovers) (judging p) (dealt rival (wanting (forgotten p))) (KeepsAbout p)
    (λ _. refl) (λ _. dealt_about rival (wanting (forgotten p)))

swept_about : (state : SmState) (now : ℕ) (rival : Option Rival) (p : Policy) → KeepsAbout p (swept_in state now rival p)
swept_about Standby now None p = counted_about _ p
swept_about Standby now (Some rival) p = refl
swept_about Master now None p = refl
swept_about Master now (Some rival) p = met_about rival (record p { meeting = meeting_at now p.meeting })
swept_about Discovering now rival p = refl
swept_about NotActive now rival p = refl

pub swept_rests : (now : ℕ) (whole : Bool) (rival : Option Rival) (p : Policy) → (swept now whole rival p).policy.activity ≡ activity.Rests
swept_rests now whole rival p =
    cond_both p.is_stale _ (swept_in p.state now rival (ended now whole rival p)) (λ (d : Decision). d.policy.activity ≡ activity.Rests)
    (λ _. refl) (λ _. swept_about p.state now rival (ended now whole rival p))

-- plans ----------------------------------------------------------------------------------------------------

once_about : (now : ℕ) (ports : Ports) (p : Policy) → (once_more now ports p).activity ≡ p.activity
once_about now ports p = cond_both (nat_lt 0 ports.foreign) (taking now p) p (λ (q : Policy). q.activity ≡ p.activity) (λ _. refl) (λ _. refl)

stood_about : (now : ℕ) (ports : Ports) (p : Policy) → KeepsAbout p (stood now ports p)
stood_about now ports p =
    cond_both _ (record { policy = once_more now ports p; act = act.Write }) (record { policy = settled ports p; act = act.Settle }) (KeepsAbout p)
    (λ _. once_about now ports p) (λ _. refl)

pub judged_about : (now : ℕ) (comparison : Comparison) (ports : Ports) (p : Policy) → KeepsAbout p (judged now comparison ports p)
judged_about now NoPlan ports p = refl
judged_about now Differs ports p = refl
judged_about now Same ports p = cond_both p.written.stands (stood now ports p) _ (KeepsAbout p) (λ _. stood_about now ports p) (λ _. refl)

-- acts --------------------------------------------------------------------------------------------------------

-- what the manager is about does not pass the test: it rests, hands over, or writes
module _ (test : Activity → Bool) (rests : test activity.Rests ≡ false) (hands : test activity.Hands ≡ false) where
  abbrev IsPast : Acting → Type 0
  IsPast a = test a.policy.activity ≡ false

  same_past : (a b : Acting) → b.policy.activity ≡ a.policy.activity → IsPast a → IsPast b
  same_past a b e past = ap test e ∙ past

  handing_past : (flag : Bool) → test (cond flag activity.Hands activity.Rests) ≡ false
  handing_past true = hands
  handing_past false = rests

  module _ (writes : test activity.Writes ≡ false) where
    about_past : (what : Act) (cause : WriteCause) (plan : Option PlanValue) (a : Acting) → IsPast a → IsPast (about_plan what cause plan a)
    about_past act.Write cause (Some plan) a past =
        cond_both (is_none (writing_fault a.manager)) _ _ (λ (p : Policy). test p.activity ≡ false) (λ _. writes) (λ _. rests)
    about_past act.Write cause None a past = past
    about_past act.Settle cause plan a past = handing_past (is_none (handover_fault a.manager))
    about_past act.Wait cause plan a past = past
    about_past act.Poll cause plan a past = past
    about_past act.Announce cause plan a past = past
    about_past act.Sweep cause plan a past = past
    about_past act.Rediscover cause plan a past = past
    about_past act.HandOver cause plan a past = past
    about_past act.Yield cause plan a past = past
    about_past act.Judge cause plan a past = past

    unplanned_policy : (plan : Option PlanValue) (a : Acting) → (noted_unplanned plan a).policy ≡ a.policy
    unplanned_policy None a = refl
    unplanned_policy (Some plan) a = refl

    does_past : (what : Act) (a : Acting) → IsPast a → IsPast (done_by what a)
    does_past act.Wait a past = past
    does_past act.Poll a past =
        cond_both (is_none (poll_fault a.manager None)) a.policy (polled false a.policy) (λ (p : Policy). test p.activity ≡ false) (λ _. past) (λ _. past)
    does_past act.Announce a past = past
    does_past act.Sweep a past =
        cond_both (is_none (begin_fault (floor_raised a).manager)) a.policy (failed a.time a.policy) (λ (p : Policy). test p.activity ≡ false)
        (λ _. past) (λ _. rests)
    does_past act.Rediscover a past = past
    does_past act.HandOver a past = handing_past (is_none (handover_fault a.manager))
    does_past act.Yield a past = handing_past (is_none (yield_fault a.manager))
    does_past act.Judge a past =
        let plan = planned a.manager in
        let comparison = comparison_of a.kept plan in
        let d = judged a.time comparison a.reads.ports a.policy in
        about_past d.act (cause_of comparison a.reads.ports a.policy) plan (record (noted_unplanned plan a) { policy = d.policy })
        (ap test (judged_about a.time comparison a.reads.ports a.policy) ∙ past)
    does_past act.Write a past = past
    does_past act.Settle a past = past

    pub sweep_past : (a : Acting) → IsPast (sweep_over a)
    sweep_past a =
        let d = swept a.time (is_whole a.manager) (rival_seen a.manager) a.policy in
        does_past d.act (record (noted (Swept (is_whole a.manager)) a) { policy = d.policy })
        (ap test (swept_rests a.time (is_whole a.manager) (rival_seen a.manager) a.policy) ∙ rests)

  pub writing_past : (a : Acting) → IsPast (writing_over a)
  writing_past a =
      let b = noted (Wrote (is_written a.manager)) a in
      cond_both (is_written a.manager) _ _ (λ (d : Decision). IsPast (decided d b))
      (λ _. handing_past (is_none (handover_fault a.manager))) (λ _. rests)

-- what follows a decision ----------------------------------------------------------------------------------------

pub caught_about : (a : Acting) → (caught_up a).policy.activity ≡ a.policy.activity
caught_about a = looked_about (collected a)

pub sent_about : (a : Acting) → (sent a).policy.activity ≡ a.policy.activity
sent_about a = ap (λ (p : Policy). p.activity) (only_sends a).policy

-- while the manager is about something that passes the test, it decides nothing but what does not pass it
module _ (test : Activity → Bool) (past : (a : Acting) → test a.policy.activity ≡ true → test (acted_in a.policy.activity a).policy.activity ≡ false) where
  pub decides_past : (a : Acting) → a.is_leaving ≡ false → test a.policy.activity ≡ true → test (sent (caught_up (acted a))).policy.activity ≡ false
  decides_past a stays_on about =
      ap test (sent_about (caught_up (acted a)) ∙ caught_about (acted a)
      ∙ ap (λ (b : Acting). b.policy.activity) (cond-false a.is_leaving (left_in a.policy.activity a) (acted_in a.policy.activity a) stays_on))
      ∙ past a about

  module _ (limits : Limits) (some : 1 ≤ limits.tries) (room : 1 ≤ limits.outstanding) where
    still_about : (line : Line) (a : Acting) {x : Acting} → Kind limits some line a x → (x.is_leaving ≡ a.is_leaving) × (x.policy.activity ≡ a.policy.activity)
    still_about line a (Ends fell) = (fell.leaving, fell.about)
    still_about line a (Rests fell unasked outs) = (fell.leaving, fell.about)

    stays_busy : (lines : List Line) (a : Acting) → Fits limits a → NoneLeaves lines → a.is_leaving ≡ false → is_idle a.window ≡ false
        → test a.policy.activity ≡ true → StaysAbout test lines a → StaysBusy lines a
    stays_busy [] a fits remains stays_on busy about goes_on = tt
    stays_busy (line ∷ lines) a fits remains stays_on busy about goes_on =
        by_idle (is_idle (before_deciding line a).window) refl (λ left.
        let after = what_is_left limits some room line a (after_line line a) (line_goes limits some room line a fits remains.0 stays_on busy left) in
        stays_busy lines (after_line line a) after.0 remains.1 (after.1 ∙ stays_on) after.2.busy goes_on.0 goes_on.1)
      where
        x : Acting
        x = before_deciding line a

        by_idle : (b : Bool) → is_idle x.window ≡ b → (is_idle x.window ≡ false → StaysBusy lines (after_line line a)) → StaysBusy (line ∷ lines) a
        by_idle true idle rest =
            let kept = still_about line a (line_falls limits some line a fits remains.0 stays_on busy) in
            let ended : test (after_line line a).policy.activity ≡ false =
            subst (λ (y : Acting). test (sent y).policy.activity ≡ false) (sym (cond-true (is_idle x.window) (caught_up (acted x)) x idle))
            (decides_past x (kept.0 ∙ stays_on) (ap test kept.1 ∙ about)) in
            let wrong : true ≡ false = sym goes_on.0 ∙ ended in
            absurd (cc)
        by_idle false left rest = (left, rest left)

  pub gets_on : (a : Acting) (lines : List Line) → HasDecided a → 1 ≤ a.window.limits.tries → 1 ≤ a.window.limits.outstanding → a.is_leaving ≡ false
      → NoneLeaves lines → is_idle a.window ≡ false → test a.policy.activity ≡ true → StaysAbout test lines a → GetsOn lines a
  gets_on a lines h some room stays_on remains busy about goes_on =
      windows_empty a lines h some room stays_on remains busy
      (stays_busy a.window.limits some room lines a (record { same = refl; whole = (has_settled a h).whole }) remains stays_on busy about goes_on)

-- sweeps and writings -----------------------------------------------------------------------------------------------

pub sweeps_past : (what : Activity) (a : Acting) → is_sweeping what ≡ true → is_sweeping (acted_in what a).policy.activity ≡ false
sweeps_past activity.Sweeps a e = sweep_past is_sweeping refl refl refl a
sweeps_past activity.Rests a e = absurd (cc)
sweeps_past activity.Writes a e = absurd (cc)
sweeps_past activity.Hands a e = absurd (cc)

pub writings_past : (what : Activity) (a : Acting) → is_writing what ≡ true → is_writing (acted_in what a).policy.activity ≡ false
writings_past activity.Writes a e = writing_past is_writing refl refl a
writings_past activity.Rests a e = absurd (cc)
writings_past activity.Sweeps a e = absurd (cc)
writings_past activity.Hands a e = absurd (cc)

pub sweeping_gets_on : (a : Acting) (lines : List Line) → HasDecided a → 1 ≤ a.window.limits.tries → 1 ≤ a.window.limits.outstanding
    → a.is_leaving ≡ false → NoneLeaves lines → is_idle a.window ≡ false → is_sweeping a.policy.activity ≡ true → StaysAbout is_sweeping lines a
    → GetsOn lines a
sweeping_gets_on = gets_on is_sweeping (λ a. sweeps_past a.policy.activity a)

pub managed_writings_end : ManagedWritingsEnd
managed_writings_end = gets_on is_writing (λ a. writings_past a.policy.activity a)
