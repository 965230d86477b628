-- What a decision of a manager does to its state: it stays what it is, unless a standby discovers anew.
use Rattle.std.proofs.Common.{◌≡◌, ◌∙◌, ◌⊎◌, inl, inr, ℕ, Bool, true, false, cond, [], ◌∷◌, refl, sym, ap, subst}
use Rattle.std.proofs.lemmas.Bool.{cond_both, cond-true, cond-false}
use Rattle.std.specs.Prelude.{◌||◌, Option, Some, None, is_none, nat_le, nat_lt}
use Rattle.lft_blocks.specs.Plan.{PlanValue}
use Rattle.sm_state.specs.Election.{any_outranks}
use Rattle.sm_state.specs.Standing.{info_of, is_in, moved_to}
use Rattle.sm_state.specs.Transitions.{stepped}
use Rattle.sm_state.specs.declared.conduct.Conduct.{Conduct}
use Rattle.sm_state.specs.declared.event.Event.TheVariants.{HandoverWanted, PollsUnanswered}
use Rattle.sm_state.specs.declared.event.Message.{Message}
use Rattle.sm_state.specs.declared.standing.Standing.{Standing}
use Rattle.sm_state.specs.declared.state.SmState.{SmState}
use Rattle.sm_state.specs.declared.state.SmState.TheVariants.{NotActive, Discovering, Standby, Master}
use Rattle.sm_manager.specs.CallLists.{Call, after_call}
use Rattle.sm_manager.specs.Election.{after_handover, after_message, after_poll, after_rediscover, after_yield, handed_to, handover_fault, handover_move}
use Rattle.sm_manager.specs.Election.{heir_way, poll_fault, poll_way, polled_by, successor_way, yield_fault}
use Rattle.sm_manager.specs.Manager.{Manager, after_begin_sweep, begin_fault}
use Rattle.sm_manager.specs.PlanFaults.{writing_fault}
use Rattle.sm_manager.specs.Writing.{after_write_steps, is_written}
use Rattle.sm_manager.specs.declared.fault.ManagerFault.TheVariants as fault
use Rattle.sm_manager.specs.declared.way.Way.{Way}
use Rattle.sm_policy.specs.Judged.{cause_of, failed, judged, once_more, settled, stood, taking, wrote}
use Rattle.sm_policy.specs.Policy.{Decision, forgotten, patience, polled, still, waited_longer, wanting}
use Rattle.sm_policy.specs.Resting.{call_due, is_due, poll_due, rested, sweep_due, sweeping}
use Rattle.sm_policy.specs.Swept.{dealt, ended, goes_on, judging, leaves_it, masterless_by, meeting_at, swept, swept_in}
use Rattle.sm_policy.specs.declared.act.Act.{Act}
use Rattle.sm_policy.specs.declared.act.Act.TheVariants as act
use Rattle.sm_policy.specs.declared.activity.Activity.{Activity}
use Rattle.sm_policy.specs.declared.activity.Activity.TheVariants as activity
use Rattle.sm_policy.specs.declared.comparison.Comparison.{Comparison}
use Rattle.sm_policy.specs.declared.comparison.Comparison.TheVariants.{NoPlan, Same, Differs}
use Rattle.sm_policy.specs.declared.policy.Policy.{Policy}
use Rattle.sm_policy.specs.declared.ports.Ports.{Ports}
use Rattle.sm_policy.specs.declared.rival.Rival.{Rival}
use Rattle.sm_policy.specs.declared.rival.Rival.TheVariants.{Lesser, Greater}
use Rattle.sm_policy.specs.declared.write_cause.WriteCause.{WriteCause}
use Rattle.acting_manager.specs.Acting.{Acting, caught_up, noted}
use Rattle.acting_manager.specs.Acts.{about_plan, acted, acted_in, done_by, floor_raised, is_whole, left_in, noted_unplanned, rival_seen}
use Rattle.acting_manager.specs.Planned.{comparison_of, planned}
use Rattle.acting_manager.specs.Working.{is_idle, sent}
use Rattle.acting_manager.specs.declared.note.Note.TheVariants.{Swept}
use Rattle.program_laws.specs.Alone.{IsNoWord}
use Rattle.program_laws.specs.Wakes.{IsNoLeave, Line, after_line, before_deciding}
use Rattle.program_laws.proofs.alone.InfoOnly.{InfoOnly, info_call}
use Rattle.program_laws.proofs.alone.Moves.{SameWho, moved_none, moved_state, moved_who, same_rank, state_is}
use Rattle.program_laws.proofs.alone.Needs.{IsActive, IsLed, active_lasts, led_lasts}
use Rattle.program_laws.proofs.alone.Quiet.{IsAwake, LastsQuietly, catches_up, lasts_quietly}
use Rattle.program_laws.proofs.wakes.FreshWork.{GoesOn}
use Rattle.program_laws.proofs.wakes.Sending.{only_sends}
use Rattle.program_laws.proofs.wakes.Settled.{has_settled}
use Rattle.program_laws.proofs.wakes.Waking.{Falls, any_falls}

-- states --------------------------------------------------------------------------------------------------------------------

-- the manager `m` became `n` by a decision
pub record Acted (m n : Manager) : Type 0 where
  pub who : SameWho m.standing n.standing
  pub seen : (n.seen ≡ m.seen) ⊎ (n.seen ≡ [])
  pub state : (n.standing.state ≡ m.standing.state) ⊎ ((m.standing.state ≡ Standby) × (n.standing.state ≡ Discovering))
  pub info : InfoOnly m → InfoOnly n

as_was : (m n : Manager) → n.standing ≡ m.standing → n.seen ≡ m.seen → (InfoOnly m → InfoOnly n) → Acted m n
as_was m n standing seen info =
    record {
      who = record {
        guid = ap (λ (s : Standing). s.guid) standing;
        priority = ap (λ (s : Standing). s.priority) standing;
        conduct = ap (λ (s : Standing). s.conduct) standing;
      };
      seen = inl seen;
      state = inl (ap (λ (s : Standing). s.state) standing);
      info = info;
    }

nothing : (m : Manager) → Acted m m
nothing m = as_was m m refl refl (λ info. info)

handed_in : (conduct : Conduct) (state : SmState) → (stepped conduct state HandoverWanted).state ≡ state
handed_in conduct NotActive = refl
handed_in conduct Discovering = refl
handed_in conduct Standby = refl
handed_in conduct Master = refl

module _ (m : Manager) where
  tells : (x : Manager) (way : Option Way) (message : Option Message) → x.standing ≡ m.standing → x.seen ≡ m.seen
      → (InfoOnly m → InfoOnly (after_message x way message)) → Acted m (after_message x way message)
  tells x None message standing seen info = as_was m x standing seen info
  tells x (Some way) None standing seen info = as_was m x standing seen info
  tells x (Some way) (Some message) standing seen info = as_was m _ standing seen info

  hands : (way : Option Way) → (InfoOnly m → InfoOnly (handed_to m way)) → Acted m (handed_to m way)
  hands way info =
      tells (record m { standing = moved_to (handover_move m).state m.standing }) way (handover_move m).message
      (moved_none (handover_move m).state m.standing (sym (handed_in m.standing.conduct m.standing.state))) refl info

  by_handover : Acted m (after_call m Call.Handover)
  by_handover =
      cond_both (is_none (handover_fault m)) (after_handover m) m (λ (n : Manager). (InfoOnly m → InfoOnly n) → Acted m n) (λ _. hands (successor_way m))
      (λ _ _. nothing m) (λ info. info_call m info Call.Handover)

  by_yield : Acted m (after_call m Call.Yield)
  by_yield =
      cond_both (is_none (yield_fault m)) (after_yield m) m (λ (n : Manager). (InfoOnly m → InfoOnly n) → Acted m n) (λ _. hands (heir_way m))
      (λ _ _. nothing m) (λ info. info_call m info Call.Yield)

  polls : (way : Option Way) → (InfoOnly m → InfoOnly (polled_by m way)) → Acted m (polled_by m way)
  polls None info = nothing m
  polls (Some way) info = as_was m _ refl refl info

  by_poll : Acted m (after_call m (Call.Poll None))
  by_poll =
      cond_both (is_none (poll_fault m None)) (after_poll m None) m (λ (n : Manager). (InfoOnly m → InfoOnly n) → Acted m n) (λ _. polls (poll_way m None))
      (λ _ _. nothing m) (λ info. info_call m info (Call.Poll None))

  by_rediscover : Acted m (after_call m Call.Rediscover)
  by_rediscover = by (is_in Standby m.standing) refl (λ info. info_call m info Call.Rediscover)
    where
      by : (b : Bool) → is_in Standby m.standing ≡ b
          → (InfoOnly m → InfoOnly (cond (is_none (cond b None (Some fault.NotStandby))) (after_rediscover m) m))
          → Acted m (cond (is_none (cond b None (Some fault.NotStandby))) (after_rediscover m) m)
      by false e info = nothing m
      by true e info =
          let standby = state_is m.standing.state Standby e in
          record {
            who = moved_who (stepped m.standing.conduct m.standing.state PollsUnanswered).state m.standing;
            seen = inl refl;
            state = inr (
              standby,
              moved_state (stepped m.standing.conduct m.standing.state PollsUnanswered).state m.standing
                  ∙ ap (λ s. (stepped m.standing.conduct s PollsUnanswered).state) standby,
            );
            info = info;
          }

  by_writing : Acted m (after_call m Call.WriteSteps)
  by_writing =
      cond_both (is_none (writing_fault m)) (after_write_steps m) m (λ (n : Manager). (InfoOnly m → InfoOnly n) → Acted m n)
      (λ _ info. as_was m _ refl refl info)
      (λ _ _. nothing m) (λ info. info_call m info Call.WriteSteps)

by_sweep : (a : Acting) → Acted a.manager (done_by act.Sweep a).manager
by_sweep a =
    cond_both (is_none (begin_fault m)) (after_begin_sweep m) m (λ (n : Manager). (InfoOnly m → InfoOnly n) → Acted a.manager n)
    (λ _ info. record {
      who = record { guid = refl; priority = refl; conduct = refl };
      seen = inr refl;
      state = inl refl;
      info = info;
    })
    (λ _ info. as_was a.manager m refl refl info) (λ info. info_call m info Call.BeginSweep)
  where
    m : Manager
    m = (floor_raised a).manager

about_acted : (what : Act) (cause : WriteCause) (plan : Option PlanValue) (a : Acting) → Acted a.manager (about_plan what cause plan a).manager
about_acted act.Write cause (Some plan) a = by_writing a.manager
about_acted act.Write cause None a = nothing a.manager
about_acted act.Settle cause plan a = by_handover a.manager
about_acted act.Wait cause plan a = nothing a.manager
about_acted act.Poll cause plan a = nothing a.manager
about_acted act.Announce cause plan a = nothing a.manager
about_acted act.Sweep cause plan a = nothing a.manager
about_acted act.Rediscover cause plan a = nothing a.manager
about_acted act.HandOver cause plan a = nothing a.manager
about_acted act.Yield cause plan a = nothing a.manager
about_acted act.Judge cause plan a = nothing a.manager

unplanned_manager : (plan : Option PlanValue) (a : Acting) → (noted_unplanned plan a).manager ≡ a.manager
unplanned_manager None a = refl
unplanned_manager (Some plan) a = refl

done_acted : (what : Act) (a : Acting) → Acted a.manager (done_by what a).manager
done_acted act.Wait a = nothing a.manager
done_acted act.Poll a = by_poll a.manager
done_acted act.Announce a = nothing a.manager
done_acted act.Sweep a = by_sweep a
done_acted act.Rediscover a = by_rediscover a.manager
done_acted act.HandOver a = by_handover a.manager
done_acted act.Yield a = by_yield a.manager
done_acted act.Judge a =
    let plan = planned a.manager in
    let d = judged a.time (comparison_of a.kept plan) a.reads.ports a.policy in
    let cause = cause_of (comparison_of a.kept plan) a.reads.ports a.policy in
    let c : Acting = record (noted_unplanned plan a) { policy = d.policy } in
    subst (λ (m : Manager). Acted m (about_plan d.act cause plan c).manager) (unplanned_manager plan a) (about_acted d.act cause plan c)
done_acted act.Write a = nothing a.manager
done_acted act.Settle a = nothing a.manager

pub in_acted : (what : Activity) (a : Acting) → Acted a.manager (acted_in what a).manager
in_acted activity.Rests a = done_acted (rested a.time a.policy).act _
in_acted activity.Sweeps a = done_acted _ _
in_acted activity.Writes a = done_acted (wrote a.time (is_written a.manager) a.policy).act _
in_acted activity.Hands a = nothing a.manager

-- stale sweeps -----------------------------------------------------------------------------------------------------------------

-- what is not stale is so after a decision
abbrev Fresh : Policy → Type 0
Fresh p = p.is_stale ≡ false

abbrev Then : Decision → Type 0
Then d = Fresh d.policy

counts_fresh : (count : ℕ) (p : Policy) → Fresh p → Then (masterless_by count p)
counts_fresh count p f = cond_both (nat_lt patience count) _ _ Then (λ _. f) (λ _. f)

deals_fresh : (rival : Rival) (p : Policy) → Fresh p → Then (dealt rival p)
deals_fresh Greater p f = f
deals_fresh Lesser p f = cond_both (nat_lt p.meeting.looks patience) _ _ Then (λ _. f) (λ _. f)

swept_in_fresh : (state : SmState) (now : ℕ) (rival : Option Rival) (p : Policy) → Fresh p → Then (swept_in state now rival p)
swept_in_fresh Standby now None p f = counts_fresh _ p f
swept_in_fresh Standby now (Some rival) p f = f
swept_in_fresh Master now None p f = f
swept_in_fresh Master now (Some rival) p f =
    let q = record p { meeting = meeting_at now p.meeting } in
    cond_both (nat_le patience q.meeting.handovers) (judging q) (dealt rival (wanting (forgotten q))) Then (λ _. f)
    (λ _. deals_fresh rival (wanting (forgotten q)) f)
swept_in_fresh Discovering now rival p f = f
swept_in_fresh NotActive now rival p f = f

ended_fresh : (now : ℕ) (whole : Bool) (rival : Option Rival) (p : Policy) → Fresh p → Fresh (ended now whole rival p)
ended_fresh now true rival p f = f
ended_fresh now false rival p f =
    cond_both (leaves_it p.state rival || goes_on p) p (waited_longer now p) (λ (q : Policy). q.is_stale ≡ false) (λ _. f) (λ _. f)

swept_fresh : (now : ℕ) (whole : Bool) (rival : Option Rival) (p : Policy) → Fresh p → Then (swept now whole rival p)
swept_fresh now whole rival p f =
    cond_both p.is_stale _ (swept_in p.state now rival (ended now whole rival p)) Then (λ _. refl)
    (λ _. swept_in_fresh p.state now rival (ended now whole rival p) (ended_fresh now whole rival p f))

judged_fresh : (now : ℕ) (comparison : Comparison) (ports : Ports) (p : Policy) → Fresh p → Then (judged now comparison ports p)
judged_fresh now NoPlan ports p f = f
judged_fresh now Differs ports p f = f
judged_fresh now Same ports p f =
    cond_both p.written.stands (stood now ports p) _ Then
    (λ _. cond_both _ (record { policy = once_more now ports p; act = act.Write }) (record { policy = settled ports p; act = act.Settle }) Then
    (λ _. cond_both (nat_lt 0 ports.foreign) (taking now p) p (λ (q : Policy). q.is_stale ≡ false) (λ _. f) (λ _. f)) (λ _. f))
    (λ _. f)

about_fresh : (what : Act) (cause : WriteCause) (plan : Option PlanValue) (a : Acting) → Fresh a.policy → Fresh (about_plan what cause plan a).policy
about_fresh act.Write cause (Some plan) a f =
    cond_both (is_none (writing_fault a.manager)) _ (failed a.time a.policy) Fresh (λ _. f) (λ _. f)
about_fresh act.Write cause None a f = f
about_fresh act.Settle cause plan a f = f
about_fresh act.Wait cause plan a f = f
about_fresh act.Poll cause plan a f = f
about_fresh act.Announce cause plan a f = f
about_fresh act.Sweep cause plan a f = f
about_fresh act.Rediscover cause plan a f = f
about_fresh act.HandOver cause plan a f = f
about_fresh act.Yield cause plan a f = f
about_fresh act.Judge cause plan a f = f

done_fresh : (what : Act) (a : Acting) → Fresh a.policy → Fresh (done_by what a).policy
done_fresh act.Wait a f = f
done_fresh act.Poll a f = cond_both (is_none (poll_fault a.manager None)) a.policy (polled false a.policy) Fresh (λ _. f) (λ _. f)
done_fresh act.Announce a f = f
done_fresh act.Sweep a f = cond_both (is_none (begin_fault (floor_raised a).manager)) a.policy (failed a.time a.policy) Fresh (λ _. f) (λ _. f)
done_fresh act.Rediscover a f = f
done_fresh act.HandOver a f = f
done_fresh act.Yield a f = f
done_fresh act.Judge a f =
    let plan = planned a.manager in
    let d = judged a.time (comparison_of a.kept plan) a.reads.ports a.policy in
    let cause = cause_of (comparison_of a.kept plan) a.reads.ports a.policy in
    about_fresh d.act cause plan (record (noted_unplanned plan a) { policy = d.policy })
    (judged_fresh a.time (comparison_of a.kept plan) a.reads.ports a.policy f)
done_fresh act.Write a f = f
done_fresh act.Settle a f = f

rested_fresh : (now : ℕ) (p : Policy) → Fresh p → Then (rested now p)
rested_fresh now p f =
    cond_both (is_due now (poll_due p)) _ _ Then (λ _. f)
    (λ _. cond_both (is_due now (call_due p)) _ _ Then (λ _. f)
    (λ _. cond_both (is_due now (sweep_due p)) (record { policy = sweeping now p; act = act.Sweep }) (still p) Then (λ _. refl) (λ _. f)))

in_fresh : (what : Activity) (a : Acting) → Fresh a.policy → Fresh (acted_in what a).policy
in_fresh activity.Rests a f = done_fresh (rested a.time a.policy).act _ (rested_fresh a.time a.policy f)
in_fresh activity.Sweeps a f =
    let d = swept a.time (is_whole a.manager) (rival_seen a.manager) a.policy in
    done_fresh d.act (record (noted (Swept (is_whole a.manager)) a) { policy = d.policy })
    (swept_fresh a.time (is_whole a.manager) (rival_seen a.manager) a.policy f)
in_fresh activity.Writes a f =
    done_fresh (wrote a.time (is_written a.manager) a.policy).act _
    (cond_both (is_written a.manager) _ (still (failed a.time a.policy)) Then (λ _. f) (λ _. f))
in_fresh activity.Hands a f = f

-- lines ----------------------------------------------------------------------------------------------------------------------

acts_are : (x : Acting) → x.is_leaving ≡ false → acted x ≡ acted_in x.policy.activity x
acts_are x stays = cond-false x.is_leaving (left_in x.policy.activity x) (acted_in x.policy.activity x) stays

module _ (P : Manager → Policy → Type 0) (lasts : LastsQuietly P) where
  pub sends_on : (y : Acting) → P y.manager y.policy → P (sent y).manager (sent y).policy
  sends_on y h =
      subst (λ (m : Manager). P m (sent y).policy) (sym (only_sends y).manager) (subst (P y.manager) (sym (only_sends y).policy) h)

  -- a line by which nothing is decided
  pub waits_on : (line : Line) (a : Acting) → IsNoLeave line.1 → IsNoWord line.1 a → IsAwake line a → is_idle (before_deciding line a).window ≡ false
      → P a.manager a.policy → P (after_line line a).manager (after_line line a).policy
  waits_on line a stays quiet awake busy h =
      let x = before_deciding line a in
      subst (λ (y : Acting). P (sent y).manager (sent y).policy) (sym (cond-false (is_idle x.window) (caught_up (acted x)) x busy))
      (sends_on x (lasts_quietly P lasts line a stays quiet awake h))

  -- one by which the manager decides, after which it is so
  pub acts_on : (line : Line) (a : Acting) → is_idle (before_deciding line a).window ≡ true
      → P (acted (before_deciding line a)).manager (acted (before_deciding line a)).policy → P (after_line line a).manager (after_line line a).policy
  acts_on line a idle h =
      let x = before_deciding line a in
      subst (λ (y : Acting). P (sent y).manager (sent y).policy) (sym (cond-true (is_idle x.window) (caught_up (acted x)) x idle))
      (sends_on (caught_up (acted x)) (catches_up P lasts (acted x) h))

  module _ (acts : (x : Acting) → P x.manager x.policy → P (acted_in x.policy.activity x).manager (acted_in x.policy.activity x).policy) where
    pub line_on : (line : Line) (a : Acting) → GoesOn a (line ∷ []) → IsNoWord line.1 a → IsAwake line a → P a.manager a.policy
        → P (after_line line a).manager (after_line line a).policy
    line_on line a g quiet awake h = by_idle (is_idle x.window) refl
      where
        x : Acting
        x = before_deciding line a

        fell : Falls a.window.limits g.tries 0 line a x
        fell = any_falls a.window.limits g.tries line a (record { same = refl; whole = (has_settled a g.decided).whole }) g.none_leaves.0

        by_idle : (b : Bool) → is_idle x.window ≡ b → P (after_line line a).manager (after_line line a).policy
        by_idle false busy = waits_on line a g.none_leaves.0 quiet awake busy h
        by_idle true idle =
            acts_on line a idle
            (subst (λ (y : Acting). P y.manager y.policy) (sym (acts_are x (fell.leaving ∙ g.stays_on)))
            (acts x (lasts_quietly P lasts line a g.none_leaves.0 quiet awake h)))

pub acts_led : (x : Acting) → InfoOnly x.manager × IsLed x.manager x.policy
    → InfoOnly (acted_in x.policy.activity x).manager × IsLed (acted_in x.policy.activity x).manager (acted_in x.policy.activity x).policy
acts_led x l =
    let a = in_acted x.policy.activity x in
    let n = (acted_in x.policy.activity x).manager in (
      a.info l.0,
      record {
        clean = elim a.seen [
          | inl same ↦ ap (any_outranks (info_of n.standing)) same ∙ same_rank x.manager.standing n.standing x.manager.seen a.who ∙ l.1.clean
          | inr none ↦ ap (any_outranks (info_of n.standing)) none
        ];
        fresh = in_fresh x.policy.activity x l.1.fresh;
        master = elim a.state [
          | inl same ↦ same ∙ l.1.master
          | inr new ↦ let wrong : Standby ≡ Master = sym new.0 ∙ l.1.master in absurd (cc)
        ];
      },
    )

pub acts_active : (x : Acting) → IsActive x.manager x.policy → IsActive (acted_in x.policy.activity x).manager (acted_in x.policy.activity x).policy
acts_active x h =
    let a = in_acted x.policy.activity x in (
      a.info h.0,
      λ is. elim a.state [
        | inl same ↦ h.1 (sym same ∙ is)
        | inr new ↦ let wrong : Discovering ≡ NotActive = sym new.1 ∙ is in absurd (cc)
      ],
    )

pub line_led : (line : Line) (a : Acting) → GoesOn a (line ∷ []) → IsNoWord line.1 a → IsAwake line a → InfoOnly a.manager → IsLed a.manager a.policy
    → IsLed (after_line line a).manager (after_line line a).policy
line_led line a g quiet awake info led =
    (line_on (λ m p. InfoOnly m × IsLed m p) led_lasts acts_led line a g quiet awake (info, led)).1

pub line_active : (line : Line) (a : Acting) → GoesOn a (line ∷ []) → IsNoWord line.1 a → IsAwake line a → IsActive a.manager a.policy
    → IsActive (after_line line a).manager (after_line line a).policy
line_active = line_on IsActive active_lasts acts_active
