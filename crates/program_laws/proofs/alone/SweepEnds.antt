-- What a manager that is alone does once its sweep is over.
use Rattle.std.proofs.Common.{◌≡◌, ◌∙◌, inl, inr, ℕ, ◌+◌, ◌<◌, ◌≤◌, Bool, true, false, cond, ◌&&◌, List, [], ◌∷◌, ◌||◌, refl, sym, ap, subst, arith}
use Rattle.std.proofs.lemmas.Bool.{cond_both, cond-true, cond-false, eq-eqb, leb-false, ltb-false}
use Rattle.std.specs.Prelude.{◌==◌, Some, None, is_none, nat_le, nat_lt}
use Rattle.attr_codec.specs.declared.sm_info.SmInfo.{SmInfo}
use Rattle.sm_state.specs.Election.{any_outranks, best_with, is_heard_in, next_best, outranks, says}
use Rattle.sm_state.specs.Conduct.{is_heard}
use Rattle.sm_state.specs.Standing.{info_of, is_in, one_more}
use Rattle.sm_state.specs.State.{number_of_state}
use Rattle.sm_state.specs.Transitions.{stepped}
use Rattle.sm_state.specs.declared.election.SeenManager.{SeenManager}
use Rattle.sm_state.specs.declared.event.Event.TheVariants.{PollsUnanswered}
use Rattle.sm_state.specs.declared.state.SmState.TheVariants.{NotActive, Discovering, Standby, Master}
use Rattle.sm_manager.specs.CallLists.{Call}
use Rattle.sm_manager.specs.Election.{after_rediscover, rediscover_fault}
use Rattle.sm_manager.specs.Manager.{Manager, emptied, is_running}
use Rattle.sm_manager.specs.declared.fault.ManagerFault.TheVariants as fault
use Rattle.sm_policy.specs.Policy.{Decision, is_sweeping, patience, still, waited_longer}
use Rattle.sm_policy.specs.Swept.{counts, ended, goes_on, leaves_it, masterless_by, swept, swept_in}
use Rattle.sm_policy.specs.declared.act.Act.TheVariants as act
use Rattle.sm_policy.specs.declared.activity.Activity.{Activity}
use Rattle.sm_policy.specs.declared.activity.Activity.TheVariants as activity
use Rattle.sm_policy.specs.declared.policy.Policy.{Policy}
use Rattle.acting_manager.specs.Acting.{Acting, caught_up, collected, noted}
use Rattle.acting_manager.specs.Acts.{acted_in, decided, done_by, is_whole, rival_of, rival_seen}
use Rattle.acting_manager.specs.Working.{given_away, is_idle, sent}
use Rattle.acting_manager.specs.declared.note.Note.TheVariants.{Swept}
use Rattle.program_laws.specs.Wakes.{Line, after_line, before_deciding}
use Rattle.program_laws.proofs.alone.Acts.{acts_led, acts_on}
use Rattle.program_laws.proofs.alone.InfoOnly.{InfoOnly, info_call}
use Rattle.program_laws.proofs.alone.Moves.{Clean, moved_state, state_is}
use Rattle.program_laws.proofs.alone.Needs.{IsLed, IsRest, IsSweep, led_lasts, need, rest_lasts, rest_other, sweeps_left}
use Rattle.program_laws.proofs.alone.Quiet.{catches_up}
use Rattle.program_laws.proofs.alone.After.{after_acts, idle_after, manager_is, policy_is}
use Rattle.program_laws.proofs.alone.Steady.{IsResting, knows_then}
use Rattle.program_laws.proofs.wakes.Deciding.{caught_about, sent_about}
use Rattle.program_laws.proofs.wakes.FreshWork.{GoesOn}
use Rattle.program_laws.proofs.wakes.Resting.{KnowsState, looked_knows}
use Rattle.program_laws.proofs.wakes.Sending.{only_sends}
use Rattle.program_laws.proofs.wakes.Settled.{has_settled, settled_given}
use Rattle.program_laws.proofs.wakes.Waking.{any_falls}

-- whom a sweep saw ------------------------------------------------------------------------------------------------------------------

or_none : (a b : Bool) → (a || b) ≡ false → (a ≡ false) × (b ≡ false)
or_none true b e = absurd (cc)
or_none false b e = (refl, e)

heard_none : (h m r : Bool) → (h && (m || r)) ≡ false → (h && m) ≡ false
heard_none true true r e = absurd (cc)
heard_none true false r e = refl
heard_none false m r e = refl

none_best : (own : SmInfo) (seen : List SeenManager) → any_outranks own seen ≡ false → best_with (is_heard_in Master own) seen None ≡ None
none_best own [] none = refl
none_best own (s ∷ seen) none =
    let parts = or_none (outranks own s.info) (any_outranks own seen) none in
    ap (λ b. best_with (is_heard_in Master own) seen (next_best b None s)) (heard_none (is_heard own s.info) (says Master s.info) _ parts.0)
    ∙ none_best own seen parts.1

-- where none outranks it, it saw no master
pub saw_none : (m : Manager) → Clean m → rival_seen m ≡ None
saw_none m clean = ap (rival_of (info_of m.standing)) (none_best (info_of m.standing) m.seen clean)

pub sweep_is : (what : Activity) → is_sweeping what ≡ true → what ≡ activity.Sweeps
sweep_is activity.Sweeps e = refl
sweep_is activity.Rests e = absurd (cc)
sweep_is activity.Writes e = absurd (cc)
sweep_is activity.Hands e = absurd (cc)

-- what is counted -------------------------------------------------------------------------------------------------------------------

ended_state : (now : ℕ) (whole : Bool) (p : Policy) → (ended now whole None p).state ≡ p.state
ended_state now true p = refl
ended_state now false p =
    cond_both (leaves_it p.state None || goes_on p) p (waited_longer now p) (λ (q : Policy). q.state ≡ p.state) (λ _. refl) (λ _. refl)

ended_count : (now : ℕ) (whole : Bool) (p : Policy) → (ended now whole None p).masterless ≡ p.masterless
ended_count now true p = refl
ended_count now false p =
    cond_both (leaves_it p.state None || goes_on p) p (waited_longer now p) (λ (q : Policy). q.masterless ≡ p.masterless) (λ _. refl) (λ _. refl)

-- the count of a standby that saw no master
abbrev count_of : Policy → ℕ
count_of q = cond (counts q) (one_more q.masterless) q.masterless

fewer : (now : ℕ) (whole : Bool) (p : Policy) → nat_lt patience (count_of (ended now whole None p)) ≡ false
    → sweeps_left (count_of (ended now whole None p)) (ended now whole None p).gaps + 1 ≤ sweeps_left p.masterless p.gaps
fewer now true p low =
    let few = ltb-false patience (one_more p.masterless) low in
    by_count p.masterless p.gaps few
  where
    by_count : (i g : ℕ) → one_more i ≤ patience → sweeps_left (one_more i) 0 + 1 ≤ sweeps_left i g
    by_count i g few = omega (arith, few)
fewer now false p low = by_counts (counts q) refl
  where
    q : Policy
    q = ended now false None p

    by_counts : (b : Bool) → counts q ≡ b → sweeps_left (count_of q) q.gaps + 1 ≤ sweeps_left p.masterless p.gaps
    by_counts true e =
        let is : count_of q ≡ one_more q.masterless = cond-true (counts q) (one_more q.masterless) q.masterless e in
        let same = ended_count now false p in
        let few = ltb-false patience (count_of q) low in
        by_count p.masterless p.gaps q.masterless (count_of q) q.gaps is same few
      where
        by_count : (i g k c h : ℕ) → c ≡ one_more k → k ≡ i → c ≤ patience → sweeps_left c h + 1 ≤ sweeps_left i g
        by_count i g k c h is same few = omega (arith, is, same, few)
    by_counts false e =
        let is : count_of q ≡ q.masterless = cond-false (counts q) (one_more q.masterless) q.masterless e in
        let same = ended_count now false p in
        let few = leb-false patience q.gaps (or_none (q.gaps == 0) (nat_le patience q.gaps) e).1 in
        by_count p.masterless p.gaps q.masterless (count_of q) is same few
      where
        by_count : (i g k c : ℕ) → c ≡ k → k ≡ i → one_more g < patience → sweeps_left c (one_more g) + 1 ≤ sweeps_left i g
        by_count i g k c is same few = omega (arith, is, same, few)

-- the end of a sweep ------------------------------------------------------------------------------------------------------------------

-- the manager is master, or rests
pub data SweepEnds (j : ℕ) (line : Line) (a : Acting) : Type 0 where
  Leads : IsLed (after_line line a).manager (after_line line a).policy → SweepEnds j line a
  Rests : IsResting j (after_line line a) → SweepEnds j line a

module _ (j : ℕ) (line : Line) (a : Acting) (g : GoesOn a (line ∷ [])) (idle : is_idle (before_deciding line a).window ≡ true)
    (over : is_running (before_deciding line a).manager.sweep ≡ false) (about : (before_deciding line a).policy.activity ≡ activity.Sweeps)
    (s : IsSweep j (before_deciding line a).manager (before_deciding line a).policy) where
  abbrev x : Acting
  x = before_deciding line a

  abbrev b : Acting
  b = after_line line a

  abbrev p : Policy
  p = x.policy

  -- what is known once the sweep is counted
  abbrev q : Policy
  q = ended x.time (is_whole x.manager) None p

  knows : p.state ≡ x.manager.standing.state
  knows = knows_then line a

  abbrev c : Acting
  c = noted (Swept (is_whole x.manager)) x

  acts : acted_in p.activity x ≡ decided (swept_in p.state x.time None q) c
  acts =
      ap (λ what. acted_in what x) about
      ∙ ap (λ r. decided (swept x.time (is_whole x.manager) r p) c) (saw_none x.manager s.clean)
      ∙ ap (λ (d : Decision). decided d c)
      (cond-false p.is_stale (still (record p { activity = activity.Rests; is_stale = false })) (swept_in p.state x.time None q) s.fresh)

  given : x.manager.outgoing ≡ []
  given = settled_given line a

  -- it rests on, in the state that it had
  rests : (d : Policy) → acted_in p.activity x ≡ record c { policy = d } → d.activity ≡ activity.Rests → d.state ≡ p.state
      → IsRest j d.next_poll x.manager d → SweepEnds j line a
  rests d is resting state rest =
      Rests (record {
        about = ap (λ (o : Policy). o.activity) policy ∙ resting;
        idle = idle_after line a g idle e is given refl;
        state = subst (λ (m : Manager). IsRest j b.policy.next_poll m b.policy) (sym after)
            (subst (λ (o : Policy). IsRest j o.next_poll (emptied x.manager) o) (sym policy)
            (record { info = rest.info; idle = rest.idle; active = rest.active; few = rest.few; poll = rest.poll }));
        knows = ap (λ (o : Policy). o.state) policy ∙ state ∙ knows ∙ ap (λ (m : Manager). m.standing.state) (sym after);
      })
    where
      e : Acting
      e = record c { policy = d }

      policy : b.policy ≡ d
      policy = policy_is line a g idle e is (state ∙ knows)

      after : b.manager ≡ emptied x.manager
      after = manager_is line a g idle e is (state ∙ knows)

  -- one that discovers
  discovers : x.manager.standing.state ≡ Discovering → 1 ≤ j → SweepEnds j line a
  discovers e some =
      rests q (acts ∙ ap (λ st. decided (swept_in st x.time None q) c) (knows ∙ e)) (ended_rests (is_whole x.manager)) (ended_state x.time (is_whole x.manager) p)
      (rest_other j q.next_poll x.manager q s.info over some (inl e))
    where
      ended_rests : (whole : Bool) → (ended x.time whole None p).activity ≡ activity.Rests
      ended_rests true = refl
      ended_rests false = refl

  -- a standby
  module _ (e : x.manager.standing.state ≡ Standby) (few : sweeps_left p.masterless p.gaps + 1 ≤ j) where
    stood : acted_in p.activity x ≡ decided (masterless_by (count_of q) q) c
    stood = acts ∙ ap (λ st. decided (swept_in st x.time None q) c) (knows ∙ e)

    counts_on : nat_lt patience (count_of q) ≡ false → SweepEnds j line a
    counts_on low =
        rests d (stood ∙ ap (λ (o : Decision). decided o c) (cond-false (nat_lt patience (count_of q)) _ (still d) low)) (ended_rests (is_whole x.manager))
        (ended_state x.time (is_whole x.manager) p) (record {
          info = s.info;
          idle = over;
          active = λ is. let wrong : Standby ≡ NotActive = sym e ∙ is in absurd (cc);
          few =
              let left = fewer x.time (is_whole x.manager) p low in
              subst (λ st. need st None x.manager.standing.polls_lost (count_of q) q.gaps ≤ j) (sym e) (omega (arith, left, few));
          poll = λ _. (ended_state x.time (is_whole x.manager) p ∙ knows ∙ e, omega arith);
        })
      where
        d : Policy
        d = record q { master = None; masterless = count_of q }

        ended_rests : (whole : Bool) → (ended x.time whole None p).activity ≡ activity.Rests
        ended_rests true = refl
        ended_rests false = refl

    -- it discovers anew
    anew : nat_lt patience (count_of q) ≡ true → SweepEnds j line a
    anew high =
        Rests (record {
          about = ap (λ (y : Acting). y.policy.activity) after_is ∙ sent_about (caught_up f) ∙ caught_about f ∙ ended_rests (is_whole x.manager);
          idle = idle_after line a g idle f is (outgoing_is (is_none (rediscover_fault x.manager))) refl;
          state = rebound (subst (λ (y : Acting). IsRest j 0 y.manager y.policy) (sym after_is)
              (subst (λ (m : Manager). IsRest j 0 m (sent (caught_up f)).policy) (sym (only_sends (caught_up f)).manager)
              (subst (IsRest j 0 (caught_up f).manager) (sym (only_sends (caught_up f)).policy)
              (catches_up (IsRest j 0) (rest_lasts j 0) f rest_f))));
          knows = knows_b;
        })
      where
        d : Policy
        d = record q { master = None; masterless = 0 }

        f : Acting
        f = done_by act.Rediscover (record c { policy = d })

        is : acted_in p.activity x ≡ f
        is = stood ∙ ap (λ (o : Decision). decided o c) (cond-true (nat_lt patience (count_of q)) (record { policy = d; act = act.Rediscover }) _ high)

        after_is : b ≡ given_away (sent (caught_up f))
        after_is = after_acts line a g idle f is

        ended_rests : (whole : Bool) → (ended x.time whole None p).activity ≡ activity.Rests
        ended_rests true = refl
        ended_rests false = refl

        outgoing_is : (may : Bool) → (cond may (after_rediscover x.manager) x.manager).outgoing ≡ []
        outgoing_is true = given
        outgoing_is false = given

        standby : is_in Standby x.manager.standing ≡ true
        standby = eq-eqb (number_of_state x.manager.standing.state) (number_of_state Standby) (ap number_of_state e)

        made : f.manager ≡ after_rediscover x.manager
        made =
            cond-true (is_none (rediscover_fault x.manager)) (after_rediscover x.manager) x.manager
            (ap is_none (cond-true (is_in Standby x.manager.standing) None (Some fault.NotStandby) standby))

        rest_f : IsRest j 0 f.manager d
        rest_f =
            rest_other j 0 f.manager d (info_call x.manager s.info Call.Rediscover) (ap (λ (m : Manager). is_running m.sweep) made ∙ over)
            (omega (arith, few))
            (inl (ap (λ (m : Manager). m.standing.state) made
            ∙ moved_state (stepped x.manager.standing.conduct x.manager.standing.state PollsUnanswered).state x.manager.standing
            ∙ ap (λ st. (stepped x.manager.standing.conduct st PollsUnanswered).state) e))

        rebound : IsRest j 0 b.manager b.policy → IsRest j b.policy.next_poll b.manager b.policy
        rebound r = record { info = r.info; idle = r.idle; active = r.active; few = r.few; poll = λ st. ((r.poll st).0, omega arith) }

        knows_b : b.policy.state ≡ b.manager.standing.state
        knows_b =
            let k : KnowsState (caught_up f) = looked_knows (collected f) in
            ap (λ (y : Acting). y.policy.state) after_is ∙ ap (λ (o : Policy). o.state) (only_sends (caught_up f)).policy
            ∙ sym (state_is (caught_up f).manager.standing.state (caught_up f).policy.state k)
            ∙ ap (λ (m : Manager). m.standing.state) (sym (only_sends (caught_up f)).manager)
            ∙ ap (λ (y : Acting). y.manager.standing.state) (sym after_is)

    by_count : (high : Bool) → nat_lt patience (count_of q) ≡ high → SweepEnds j line a
    by_count true high = anew high
    by_count false low = counts_on low

  leads : x.manager.standing.state ≡ Master → SweepEnds j line a
  leads e =
      let fell = any_falls a.window.limits g.tries line a (record { same = refl; whole = (has_settled a g.decided).whole }) g.none_leaves.0 in
      Leads (acts_on (λ m o. InfoOnly m × IsLed m o) led_lasts line a idle
      (subst (λ (y : Acting). InfoOnly y.manager × IsLed y.manager y.policy)
      (sym (cond-false x.is_leaving _ (acted_in p.activity x) (fell.leaving ∙ g.stays_on)))
      (acts_led x (s.info, record { clean = s.clean; fresh = s.fresh; master = e })))).1

  pub sweep_ends : SweepEnds j line a
  sweep_ends =
      elim s.state [
        | inl standby ↦ by_count standby.0 standby.1 (nat_lt patience (count_of q)) refl
        | inr (inl discovering) ↦ elim discovering.1 [
          | inl runs ↦ let wrong : true ≡ false = sym runs ∙ over in absurd (cc)
          | inr some ↦ discovers discovering.0 some
        ]
        | inr (inr master) ↦ leads master
      ]
