-- A master that saw another one gives way, or announces itself.
use Rattle.std.proofs.Common.{◌≡◌, ◌∙◌, ◌<◌, Bool, true, false, cond, refl, ap}
use Rattle.std.proofs.lemmas.Bool.{cond_both, cond-true, cond-false, lt-leb}
use Rattle.std.specs.Prelude.{◌||◌, Some, is_none, nat_le, nat_lt}
use Rattle.sm_manager.specs.Election.{handover_fault, yield_fault}
use Rattle.sm_manager.specs.Manager.{Manager}
use Rattle.sm_policy.specs.Policy.{Decision, forgotten, patience, still, waited_longer, wanting}
use Rattle.sm_policy.specs.Swept.{dealt, ended, goes_on, judging, leaves_it, meeting_at, swept, swept_in}
use Rattle.sm_policy.specs.declared.activity.Activity.TheVariants as activity
use Rattle.sm_policy.specs.declared.meeting.Meeting.{Meeting}
use Rattle.sm_policy.specs.declared.policy.Policy.{Policy}
use Rattle.sm_policy.specs.declared.rival.Rival.{Rival}
use Rattle.sm_policy.specs.declared.rival.Rival.TheVariants.{Lesser, Greater}
use Rattle.acting_manager.specs.Acting.{Acting, caught_up, noted}
use Rattle.acting_manager.specs.Acts.{acted, acted_in, decided, is_whole, left_in}
use Rattle.acting_manager.specs.Working.{is_idle, sent}
use Rattle.acting_manager.specs.declared.note.Note.TheVariants.{Swept}
use Rattle.program_laws.specs.OtherMasters.{MastersGiveWay, SeesMaster, about_next, meeting_of}
use Rattle.program_laws.specs.Wakes.{Line, after_line, before_deciding}
use Rattle.program_laws.proofs.alone.SweepEnds.{sweep_is}
use Rattle.program_laws.proofs.wakes.Deciding.{caught_about, sent_about}
use Rattle.program_laws.proofs.wakes.Settled.{has_settled}
use Rattle.program_laws.proofs.wakes.Waking.{Falls, any_falls}

module _ (rival : Rival) (line : Line) (a : Acting) (s : SeesMaster rival line a) (few : (meeting_of (before_deciding line a)).handovers < patience) where
  abbrev x : Acting
  x = before_deciding line a

  abbrev c : Acting
  c = noted (Swept (is_whole x.manager)) x

  -- what it knows once the sweep is counted
  abbrev q : Policy
  q = ended x.time (is_whole x.manager) (Some rival) x.policy

  -- its meeting is as before
  ended_meeting : (whole : Bool) → (ended x.time whole (Some rival) x.policy).meeting ≡ x.policy.meeting
  ended_meeting true = refl
  ended_meeting false =
      cond_both (leaves_it x.policy.state (Some rival) || goes_on x.policy) x.policy (waited_longer x.time x.policy)
      (λ (p : Policy). p.meeting ≡ x.policy.meeting) (λ _. refl) (λ _. refl)

  ended_rests : (whole : Bool) → (ended x.time whole (Some rival) x.policy).activity ≡ activity.Rests
  ended_rests true = refl
  ended_rests false = refl

  -- in the meeting
  abbrev m : Policy
  m = record q { meeting = meeting_at x.time q.meeting }

  meeting_is : m.meeting ≡ meeting_of x
  meeting_is = ap (meeting_at x.time) (ended_meeting (is_whole x.manager))

  -- what it decides
  acts : acted_in x.policy.activity x ≡ decided (dealt rival (wanting (forgotten m))) c
  acts =
      ap (λ what. acted_in what x) (sweep_is x.policy.activity s.sweeps)
      ∙ ap (λ r. decided (swept x.time (is_whole x.manager) r x.policy) c) s.sees
      ∙ ap (λ (d : Decision). decided d c)
      (cond-false x.policy.is_stale (still (record x.policy { activity = activity.Rests; is_stale = false })) (swept_in x.policy.state x.time (Some rival) q) s.fresh
      ∙ ap (λ st. swept_in st x.time (Some rival) q) s.master
      ∙ cond-false (nat_le patience m.meeting.handovers) (judging m) (dealt rival (wanting (forgotten m)))
      (ap (λ (t : Meeting). nat_le patience t.handovers) meeting_is ∙ lt-leb patience (meeting_of x).handovers few))

  fell : Falls a.window.limits s.tries 0 line a x
  fell = any_falls a.window.limits s.tries line a (record { same = refl; whole = (has_settled a s.decided).whole }) s.stays

  after_is : (after_line line a).policy.activity ≡ (decided (dealt rival (wanting (forgotten m))) c).policy.activity
  after_is =
      ap (λ (y : Acting). (sent y).policy.activity) (cond-true (is_idle x.window) (caught_up (acted x)) x s.over)
      ∙ sent_about (caught_up (acted x)) ∙ caught_about (acted x)
      ∙ ap (λ (y : Acting). y.policy.activity)
      (cond-false x.is_leaving (left_in x.policy.activity x) (acted_in x.policy.activity x) (fell.leaving ∙ s.stays_on) ∙ acts)

-- what it is about then
next_is : (rival : Rival) (a c : Acting) (p : Policy) (is_new : Bool) → c.manager ≡ a.manager → p.activity ≡ activity.Rests
    → nat_lt p.meeting.looks patience ≡ is_new → (decided (dealt rival p) c).policy.activity ≡ about_next rival is_new a
next_is Greater a c p is_new manager rests e = ap (λ (m : Manager). cond (is_none (handover_fault m)) activity.Hands activity.Rests) manager
next_is Lesser a c p true manager rests e = ap (λ (d : Decision). (decided d c).policy.activity) (cond-true (nat_lt p.meeting.looks patience) _ _ e) ∙ rests
next_is Lesser a c p false manager rests e =
    ap (λ (d : Decision). (decided d c).policy.activity) (cond-false (nat_lt p.meeting.looks patience) _ _ e)
    ∙ ap (λ (m : Manager). cond (is_none (yield_fault m)) activity.Hands activity.Rests) manager

pub masters_give_way : MastersGiveWay
masters_give_way rival line a s few =
    let x = before_deciding line a in
    after_is rival line a s few
    ∙ next_is rival x (c rival line a s few) (wanting (forgotten (m rival line a s few))) (nat_lt (meeting_of x).looks patience) refl
    (ended_rests rival line a s few (is_whole x.manager))
    (ap (λ (t : Meeting). nat_lt t.looks patience) (meeting_is rival line a s few))
