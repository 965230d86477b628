-- When plans are judged and written.
use Rattle.std.proofs.Common.{◌≡◌, ℕ, ◌≤◌, Bool, true, false, cond, refl, subst}
use Rattle.std.proofs.lemmas.Bool.{cond_both, leb-true}
use Rattle.std.specs.Prelude.{◌||◌, nat_le, nat_lt, Option, Some, None}
use Rattle.sm_state.specs.declared.state.SmState.{SmState}
use Rattle.sm_state.specs.declared.state.SmState.TheVariants.{NotActive, Discovering, Standby, Master}
use Rattle.sm_state.specs.Standing.{one_more}
use Rattle.sm_policy.specs.declared.act.Act.TheVariants.{HandOver, Judge, Rediscover}
use Rattle.sm_policy.specs.declared.meeting.Meeting.{Meeting}
use Rattle.sm_policy.specs.declared.activity.Activity.TheVariants.{Rests}
use Rattle.sm_policy.specs.declared.policy.Policy.{Policy}
use Rattle.sm_policy.specs.declared.rival.Rival.{Rival}
use Rattle.sm_policy.specs.declared.rival.Rival.TheVariants.{Lesser, Greater}
use Rattle.sm_policy.specs.declared.comparison.Comparison.TheVariants.{NoPlan, Same, Differs}
use Rattle.sm_policy.specs.Policy.{Decision, forgotten, patience, still, waited_longer, wanting}
use Rattle.sm_policy.specs.PolicyLaws.{IsAlone, JudgesAsMaster, MayJudge, WritesAPlan}
use Rattle.sm_policy.specs.Swept.{counts, dealt, ended, goes_on, is_past, leaves_it, may_plan, meeting_at, swept_in}

-- a decision among two that are not to judge is not to judge
neither : (b : Bool) (x y : Decision) → (x.act ≡ Judge → ⊥) → (y.act ≡ Judge → ⊥) → (cond b x y).act ≡ Judge → ⊥
neither true x y one other e = one e
neither false x y one other e = other e

chosen : (b : Bool) → cond b Judge HandOver ≡ Judge → b ≡ true
chosen true e = refl
chosen false e = absurd (cc e)

deals : (rival : Rival) (p : Policy) → (dealt rival p).act ≡ Judge → ⊥
deals Greater p e = absurd (cc e)
deals Lesser p e = neither (nat_lt p.meeting.looks patience) _ _ (λ h. absurd (cc h)) (λ h. absurd (cc h)) e

-- a meeting in which the subnet was offered a few times began not long ago
offered_lately : (now : ℕ) (m : Meeting) → nat_le patience (meeting_at now m).handovers ≡ true
    → (patience ≤ m.handovers) × (is_past now m.since ≡ false)
offered_lately now m e = by_past (is_past now m.since) refl e
  where
    by_past : (b : Bool) → is_past now m.since ≡ b
        → nat_le patience (cond b (record { since = Some now; looks = 0; handovers = 0 }) m).handovers ≡ true
        → (patience ≤ m.handovers) × (is_past now m.since ≡ false)
    by_past true past h = absurd (cc h)
    by_past false past h = (leb-true patience m.handovers h, past)

meeting_stays : (now : ℕ) (w : Bool) (rival : Option Rival) (p : Policy) → (ended now w rival p).meeting ≡ p.meeting
meeting_stays now true rival p = refl
meeting_stays now false rival p =
    cond_both (leaves_it p.state rival || goes_on p) p (waited_longer now p) (λ (x : Policy). x.meeting ≡ p.meeting) (λ _. refl) (λ _. refl)

pub judges_as_master : JudgesAsMaster
judges_as_master now w rival p e = by_stale p.is_stale refl e
  where
    q : Policy
    q = ended now w rival p

    by_rival : (r : Option Rival) → (swept_in Master now r q).act ≡ Judge → IsAlone now r p × (may_plan q ≡ true)
    by_rival None h = (tt, chosen (may_plan q) h)
    by_rival (Some other) h = by_offers (nat_le patience (meeting_at now q.meeting).handovers) refl h
      where
        m : Policy
        m = record q { meeting = meeting_at now q.meeting }

        by_offers : (b : Bool) → nat_le patience (meeting_at now q.meeting).handovers ≡ b
            → (cond b (record { policy = m; act = cond (may_plan m) Judge HandOver }) (dealt other (wanting (forgotten m)))).act ≡ Judge
            → IsAlone now (Some other) p × (may_plan q ≡ true)
        by_offers true offers i = (
          subst (λ (x : Meeting). (patience ≤ x.handovers) × (is_past now x.since ≡ false)) (meeting_stays now w rival p) (offered_lately now q.meeting offers),
          chosen (may_plan q) i,
        )
        by_offers false offers i = absurd (deals other (wanting (forgotten m)) i)

    by_state : (s : SmState) → p.state ≡ s → p.is_stale ≡ false → (swept_in s now rival q).act ≡ Judge → MayJudge now w rival p
    by_state NotActive is fresh h = absurd (cc h)
    by_state Discovering is fresh h = absurd (cc h)
    by_state Standby is fresh h = absurd (stands rival h)
      where
        stands : (r : Option Rival) → (swept_in Standby now r q).act ≡ Judge → ⊥
        stands None i =
            let count = cond (counts q) (one_more q.masterless) q.masterless in
            neither (nat_lt patience count) (record { policy = record q { master = None; masterless = 0 }; act = Rediscover })
            (still (record q { master = None; masterless = count })) (λ j. absurd (cc j)) (λ j. absurd (cc j)) i
        stands (Some other) i = absurd (cc i)
    by_state Master is fresh h =
        let (alone, known) = by_rival rival h in record { master = is; alone = alone; fresh = fresh; known = known }

    by_stale : (b : Bool) → p.is_stale ≡ b
        → (cond b (still (record p { activity = Rests; is_stale = false })) (swept_in p.state now rival q)).act ≡ Judge
        → MayJudge now w rival p
    by_stale true is h = absurd (cc h)
    by_stale false is h = by_state p.state refl is h

pub writes_a_plan : WritesAPlan
writes_a_plan now NoPlan ports p e is = absurd (cc e)
writes_a_plan now Same ports p e is = absurd (cc is)
writes_a_plan now Differs ports p e is = absurd (cc is)
