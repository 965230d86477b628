-- The requests of a manager that asks little can be late a few times only.
use Rattle.std.proofs.Common.{◌≡◌, ◌∙◌, ℕ, ◌+◌, ◌-◌, ◌*◌, ◌<◌, ◌≤◌, ◌^◌, Bool, true, false, List, [], ◌∷◌, ◌++◌, length, refl, sym, ap, subst, arith}
use Rattle.std.proofs.lemmas.Bool.{cond_both, cond-true, cond-false}
use Rattle.std.proofs.lemmas.Nat.{mul-le}
use Rattle.std.specs.Prelude.{Option, Some, None, is_none}
use Rattle.lft_blocks.specs.Plan.{PlanValue}
use Rattle.sm_state.specs.Control.{control_of_message}
use Rattle.sm_state.specs.declared.event.Message.{Message}
use Rattle.sm_manager.specs.CallLists.{Call, after_call}
use Rattle.sm_manager.specs.Election.{after_handover, after_message, after_poll, control_out, after_rediscover, after_yield, handed_to, handover_fault, handover_move}
use Rattle.sm_manager.specs.Election.{heir_way, poll_fault, poll_way, polled_by, rediscover_fault, successor_way, yield_fault}
use Rattle.sm_manager.specs.Manager.{IsSentWhole, Manager, after_begin_sweep, begin_fault}
use Rattle.sm_manager.specs.PlanFaults.{writing_fault}
use Rattle.sm_manager.specs.Writing.{after_write_steps, is_written}
use Rattle.sm_manager.specs.declared.fault.ManagerFault.{ManagerFault}
use Rattle.sm_manager.specs.declared.outgoing.Outgoing.{Outgoing}
use Rattle.sm_manager.specs.declared.way.Way.{Way}
use Rattle.sm_state.specs.Standing.{moved_to}
use Rattle.sm_policy.specs.Judged.{cause_of, failed, judged, wrote}
use Rattle.sm_policy.specs.Resting.{rested}
use Rattle.sm_policy.specs.Swept.{swept}
use Rattle.sm_policy.specs.declared.act.Act.{Act}
use Rattle.sm_policy.specs.declared.act.Act.TheVariants as act
use Rattle.sm_policy.specs.declared.activity.Activity.{Activity}
use Rattle.sm_policy.specs.declared.activity.Activity.TheVariants as activity
use Rattle.sm_policy.specs.declared.policy.Policy.{Policy}
use Rattle.sm_policy.specs.declared.write_cause.WriteCause.{WriteCause}
use Rattle.request_window.specs.Window.{Window}
use Rattle.request_window.specs.declared.limits.Limits.{Limits}
use Rattle.acting_manager.specs.Acting.{Acting, caught_up, collected, noted}
use Rattle.acting_manager.specs.Acts.{about_plan, acted, acted_in, done_by, floor_raised, is_whole, left_in, noted_unplanned, rival_seen}
use Rattle.acting_manager.specs.Planned.{comparison_of, planned}
use Rattle.acting_manager.specs.Working.{given_away, is_idle, is_writing, sent}
use Rattle.acting_manager.specs.declared.note.Note.TheVariants.{Swept, Wrote}
use Rattle.manager_laws.specs.WritingEnds.{steps_to_come}
use Rattle.program_laws.specs.FewTurns.{AsksLittle, TurnsAreFew}
use Rattle.program_laws.specs.Wakes.{AtEachLine, HasDecided, Line, NoneLeaves, after_line, after_lines, before_deciding, chances_in, chances_out, controls_in, next_in, sets_to_come}
use Rattle.program_laws.proofs.lasting.Answered.{none_both}
use Rattle.program_laws.proofs.wakes.Awaited.{writings_lose_nothing}
use Rattle.program_laws.proofs.wakes.Chances.{load}
use Rattle.program_laws.proofs.wakes.Deciding.{caught_about, sent_about}
use Rattle.program_laws.proofs.wakes.Load.{Fits, Goes, budget, catches_up, sends}
use Rattle.program_laws.proofs.wakes.Makes.{few_requests, requests_in}
use Rattle.program_laws.proofs.wakes.NextSweep.{has_more, line_stays, same_limits}
use Rattle.program_laws.proofs.wakes.Sending.{only_sends}
use Rattle.program_laws.proofs.wakes.Settled.{has_settled, settled_given}
use Rattle.program_laws.proofs.wakes.Waking.{Falls, any_falls, looked_manager}
use Rattle.program_laws.proofs.wakes.Writing.{acted_writes, idle_load, plan_sent}
use Rattle.program_laws.proofs.wakes.Lines.{so_later}

-- decisions that write nothing --------------------------------------------------------------------------------------------------

-- a manager that had nothing to send has one request at most
record AsksOne (m n : Manager) : Type 0 where
  few : m.outgoing ≡ [] → sets_to_come m ≡ 0 → requests_in n.outgoing + sets_to_come n ≤ 1

one_more : (m n : Manager) (out : Outgoing) → n.outgoing ≡ m.outgoing ++ out ∷ [] → n.writing ≡ m.writing → AsksOne m n
one_more m n out outgoing writing =
    record {
      few = λ none sets.
          let one = few_requests (out ∷ []) in
          let same = ap requests_in (outgoing ∙ ap (λ packets. packets ++ out ∷ []) none) in
          let still = ap (λ o. length (steps_to_come o)) writing in
          omega (arith, one, same, still, sets);
    }

no_more : (m n : Manager) → n.outgoing ≡ m.outgoing → n.writing ≡ m.writing → AsksOne m n
no_more m n outgoing writing =
    record {
      few = λ none sets.
          let same : requests_in n.outgoing ≡ 0 = ap requests_in (outgoing ∙ none) in
          let still = ap (λ o. length (steps_to_come o)) writing in
          omega (arith, same, still, sets);
    }

module _ (m : Manager) where
  tells : (x : Manager) (way : Option Way) (message : Option Message) → x.outgoing ≡ m.outgoing → x.writing ≡ m.writing → AsksOne m (after_message x way message)
  tells x None message outgoing writing = no_more m x outgoing writing
  tells x (Some way) None outgoing writing = no_more m x outgoing writing
  tells x (Some way) (Some message) outgoing writing =
      let out = control_out x.standing x.counter way (control_of_message message) in
      one_more m (after_message x (Some way) (Some message)) out (ap (λ packets. packets ++ out ∷ []) outgoing) writing

  hands : (way : Option Way) → AsksOne m (handed_to m way)
  hands way = tells (record m { standing = moved_to (handover_move m).state m.standing }) way (handover_move m).message refl refl

  by_handover : AsksOne m (after_call m Call.Handover)
  by_handover = cond_both (is_none (handover_fault m)) (after_handover m) m (AsksOne m) (λ _. hands (successor_way m)) (λ _. no_more m m refl refl)

  by_yield : AsksOne m (after_call m Call.Yield)
  by_yield = cond_both (is_none (yield_fault m)) (after_yield m) m (AsksOne m) (λ _. hands (heir_way m)) (λ _. no_more m m refl refl)

  polls : (way : Option Way) → AsksOne m (polled_by m way)
  polls None = no_more m m refl refl
  polls (Some way) = one_more m (polled_by m (Some way)) _ refl refl

  by_poll : AsksOne m (after_call m (Call.Poll None))
  by_poll = cond_both (is_none (poll_fault m None)) (after_poll m None) m (AsksOne m) (λ _. polls (poll_way m None)) (λ _. no_more m m refl refl)

  by_rediscover : AsksOne m (after_call m Call.Rediscover)
  by_rediscover = cond_both (is_none (rediscover_fault m)) (after_rediscover m) m (AsksOne m) (λ _. no_more m _ refl refl) (λ _. no_more m m refl refl)

by_sweep : (a : Acting) → AsksOne a.manager (done_by act.Sweep a).manager
by_sweep a =
    cond_both (is_none (begin_fault m)) (after_begin_sweep m) m (AsksOne a.manager) (λ _. one_more a.manager (after_begin_sweep m) _ refl refl)
    (λ _. no_more a.manager m refl refl)
  where
    m : Manager
    m = (floor_raised a).manager

-- what is so of a decision that writes nothing
record DecidesOne (a b : Acting) : Type 0 where
  one : AsksOne a.manager b.manager
  window : b.window ≡ a.window

never : {X : Type 0} (b : Bool) → b ≡ false → b ≡ true → X
never true e f = absurd (cc)
never false e f = absurd (cc)

about_one : (what : Act) (cause : WriteCause) (plan : Option PlanValue) (a : Acting) → is_writing (about_plan what cause plan a).policy.activity ≡ false
    → DecidesOne a (about_plan what cause plan a)
about_one act.Write cause (Some plan) a quiet = by_fault (writing_fault a.manager) refl
  where
    by_fault : (o : Option ManagerFault) → writing_fault a.manager ≡ o → DecidesOne a (about_plan act.Write cause (Some plan) a)
    by_fault None e =
        never (is_writing (about_plan act.Write cause (Some plan) a).policy.activity) quiet
        (cond_both (is_none (writing_fault a.manager)) _ (failed a.time a.policy) (λ (p : Policy). is_writing p.activity ≡ true) (λ _. refl)
        (λ no. never (is_none (writing_fault a.manager)) no (ap is_none e)))
    by_fault (Some why) e =
        let same = cond-false (is_none (writing_fault a.manager)) (after_write_steps a.manager) a.manager (ap is_none e) in
        record {
          one = no_more a.manager _ (ap (λ (m : Manager). m.outgoing) same) (ap (λ (m : Manager). m.writing) same);
          window = refl;
        }
about_one act.Write cause None a quiet = record { one = no_more a.manager a.manager refl refl; window = refl }
about_one act.Settle cause plan a quiet = record { one = by_handover a.manager; window = refl }
about_one act.Wait cause plan a quiet = record { one = no_more a.manager a.manager refl refl; window = refl }
about_one act.Poll cause plan a quiet = record { one = no_more a.manager a.manager refl refl; window = refl }
about_one act.Announce cause plan a quiet = record { one = no_more a.manager a.manager refl refl; window = refl }
about_one act.Sweep cause plan a quiet = record { one = no_more a.manager a.manager refl refl; window = refl }
about_one act.Rediscover cause plan a quiet = record { one = no_more a.manager a.manager refl refl; window = refl }
about_one act.HandOver cause plan a quiet = record { one = no_more a.manager a.manager refl refl; window = refl }
about_one act.Yield cause plan a quiet = record { one = no_more a.manager a.manager refl refl; window = refl }
about_one act.Judge cause plan a quiet = record { one = no_more a.manager a.manager refl refl; window = refl }

unplanned : (plan : Option PlanValue) (a : Acting) → DecidesOne a (noted_unplanned plan a) × ((noted_unplanned plan a).manager ≡ a.manager)
unplanned None a = (record { one = no_more a.manager a.manager refl refl; window = refl }, refl)
unplanned (Some plan) a = (record { one = no_more a.manager a.manager refl refl; window = refl }, refl)

done_one : (what : Act) (a : Acting) → is_writing (done_by what a).policy.activity ≡ false → DecidesOne a (done_by what a)
done_one act.Wait a quiet = record { one = no_more a.manager a.manager refl refl; window = refl }
done_one act.Poll a quiet = record { one = by_poll a.manager; window = refl }
done_one act.Announce a quiet = record { one = no_more a.manager a.manager refl refl; window = refl }
done_one act.Sweep a quiet = record { one = by_sweep a; window = refl }
done_one act.Rediscover a quiet = record { one = by_rediscover a.manager; window = refl }
done_one act.HandOver a quiet = record { one = by_handover a.manager; window = refl }
done_one act.Yield a quiet = record { one = by_yield a.manager; window = refl }
done_one act.Judge a quiet =
    let plan = planned a.manager in
    let d = judged a.time (comparison_of a.kept plan) a.reads.ports a.policy in
    let cause = cause_of (comparison_of a.kept plan) a.reads.ports a.policy in
    let c : Acting = record (noted_unplanned plan a) { policy = d.policy } in
    let o = about_one d.act cause plan c quiet in
    record {
      one = subst (λ (m : Manager). AsksOne m (about_plan d.act cause plan c).manager) (unplanned plan a).1 o.one;
      window = o.window ∙ (unplanned plan a).0.window;
    }
done_one act.Write a quiet = record { one = no_more a.manager a.manager refl refl; window = refl }
done_one act.Settle a quiet = record { one = no_more a.manager a.manager refl refl; window = refl }

acts_one : (what : Activity) (a : Acting) → is_writing (acted_in what a).policy.activity ≡ false → DecidesOne a (acted_in what a)
acts_one activity.Rests a quiet =
    let d = rested a.time a.policy in
    let o = done_one d.act (record a { policy = d.policy }) quiet in record { one = o.one; window = o.window }
acts_one activity.Sweeps a quiet =
    let d = swept a.time (is_whole a.manager) (rival_seen a.manager) a.policy in
    let o = done_one d.act (record (noted (Swept (is_whole a.manager)) a) { policy = d.policy }) quiet in record { one = o.one; window = o.window }
acts_one activity.Writes a quiet =
    let d = wrote a.time (is_written a.manager) a.policy in
    let o = done_one d.act (record (noted (Wrote (is_written a.manager)) a) { policy = d.policy }) quiet in record { one = o.one; window = o.window }
acts_one activity.Hands a quiet = record { one = no_more a.manager a.manager refl refl; window = refl }

-- a line --------------------------------------------------------------------------------------------------------------------------

module _ (asked sets top : ℕ) (limits : Limits) (tries : 1 ≤ limits.tries) (some : 1 ≤ sets) (much : limits.tries * sets ≤ top) where
  -- what is left to be late is little
  abbrev IsLittle : Acting → Type 0
  IsLittle a = budget limits a ≤ limits.tries * next_in a.manager.sweep + top

  steps_on : (a b : Acting) → Goes limits 0 0 a b → IsLittle a → IsLittle b
  steps_on a b g little =
      let falls = g.falls in
      sum limits.tries (budget limits a) (budget limits b) (next_in a.manager.sweep) (next_in b.manager.sweep) top falls little
    where
      sum : (p x y m n c : ℕ) → 0 + y + p * m ≤ x + p * n + p * 0 → x ≤ p * m + c → y ≤ p * n + c
      sum p x y m n c falls little = omega (arith, falls, little)

  module _ (line : Line) (a : Acting) (h : HasDecided a) (generations : h.newest < 2 ^ 32) (none_left : NoneLeaves h.lines) (same : a.window.limits ≡ limits)
      (stays_on : a.is_leaving ≡ false) (remains : NoneLeaves (line ∷ [])) (l : AsksLittle asked sets line a) (little : IsLittle a) where
    abbrev x : Acting
    x = before_deciding line a

    abbrev b : Acting
    b = after_line line a

    fell : Falls limits tries 0 line a x
    fell = any_falls limits tries line a (record { same = same; whole = (has_settled a h).whole }) remains.0

    little_x : IsLittle x
    little_x =
        let falls = fell.falls in
        sum limits.tries (budget limits a) (budget limits x) (next_in a.manager.sweep) (next_in x.manager.sweep) top _ l.no_control falls little
      where
        sum : (p i j m n c k : ℕ) → k ≡ 0 → 0 + j + p * m ≤ i + p * n + p * k + k → i ≤ p * m + c → j ≤ p * n + c
        sum p i j m n c k none falls little = let e = ap (λ z. p * z) none in omega (arith, none, falls, little, e)

    waits : is_idle x.window ≡ false → IsLittle b
    waits busy =
        subst (λ (y : Acting). IsLittle (sent y)) (sym (cond-false (is_idle x.window) (caught_up (acted x)) x busy))
        (steps_on x (sent x) (sends limits tries x fell.fits) little_x)

    -- it decides
    module _ (idle : is_idle x.window ≡ true) where
      abbrev z : Acting
      z = acted_in x.policy.activity x

      is : acted x ≡ z
      is = cond-false x.is_leaving (left_in x.policy.activity x) (acted_in x.policy.activity x) (fell.leaving ∙ stays_on)

      after_is : b ≡ given_away (sent (caught_up z))
      after_is = ap (λ (y : Acting). given_away (sent y)) (cond-true (is_idle x.window) (caught_up (acted x)) x idle ∙ ap caught_up is)

      given : x.manager.outgoing ≡ []
      given = settled_given line a

      no_sets : sets_to_come x.manager ≡ 0
      no_sets = ap length (writings_lose_nothing a line h generations none_left remains.0 idle (l.numbers idle)).none_to_come

      about : z.policy.activity ≡ b.policy.activity
      about = sym (ap (λ (y : Acting). y.policy.activity) after_is ∙ sent_about (caught_up z) ∙ caught_about z)

      -- nothing is left but what it has just queued
      record HasQueued : Type 0 where
        window : z.window ≡ x.window
        few : requests_in z.manager.outgoing + sets_to_come z.manager ≤ sets

      queued : HasQueued
      queued = by_writing (is_writing z.policy.activity) refl
        where
          by_writing : (w : Bool) → is_writing z.policy.activity ≡ w → HasQueued
          by_writing false quiet =
              let o = acts_one x.policy.activity x quiet in
              let one = o.one.few given no_sets in
              record { window = o.window; few = omega (arith, one, some) }
          by_writing true writes =
              let now = acted_writes x.policy.activity x refl writes in
              let sent_all = plan_sent x.manager given in
              let plan = l.plan idle (ap is_writing (sym about) ∙ writes) in
              let same : requests_in z.manager.outgoing + sets_to_come z.manager
              ≡ requests_in (after_write_steps x.manager).outgoing + sets_to_come (after_write_steps x.manager) =
              ap (λ (m : Manager). requests_in m.outgoing + sets_to_come m) now.manager in
              record { window = now.window; few = omega (arith, sent_all, plan, same) }

      little_z : IsLittle z
      little_z =
          let q = queued in
          let none : load limits z.window ≡ 0 =
          ap (load limits) q.window ∙ idle_load limits x.window.queued x.window.outs idle in
          sum limits.tries (load limits z.window) (requests_in z.manager.outgoing) (sets_to_come z.manager) sets (next_in z.manager.sweep) top none q.few much
        where
          sum : (p i r s n m c : ℕ) → i ≡ 0 → r + s ≤ n → p * n ≤ c → i + p * (r + s) ≤ p * m + c
          sum p i r s n m c none few much = let more = mul-le p (r + s) p n (omega arith) few in omega (arith, none, more, much)

      fits_z : Fits limits z
      fits_z =
          let sweep_is : b.manager.sweep ≡ z.manager.sweep =
          ap (λ (y : Acting). y.manager.sweep) after_is ∙ ap (λ (m : Manager). m.sweep) (only_sends (caught_up z)).manager
          ∙ ap (λ (m : Manager). m.sweep) (looked_manager (collected z)) in
          record {
            same = ap (λ (w : Window). w.limits) queued.window ∙ fell.fits.same;
            whole = subst IsSentWhole sweep_is (has_settled b (has_more a (line ∷ []) b refl h)).whole;
          }

      decides : IsLittle b
      decides =
          subst IsLittle (sym after_is)
          (let caught = catches_up limits z fits_z in
          let little_c = steps_on z (caught_up z) caught little_z in
          steps_on (caught_up z) (sent (caught_up z)) (sends limits tries (caught_up z) caught.fits) little_c)

    line_little : IsLittle b
    line_little = by_idle (is_idle x.window) refl
      where
        by_idle : (i : Bool) → is_idle x.window ≡ i → IsLittle b
        by_idle true idle = decides idle
        by_idle false busy = waits busy

  -- lines -------------------------------------------------------------------------------------------------------------------------

  lines_little : (some_lines rest : List Line) (a : Acting) (h : HasDecided a) → h.newest < 2 ^ 32 → NoneLeaves h.lines → a.window.limits ≡ limits
      → a.is_leaving ≡ false → NoneLeaves (some_lines ++ rest) → AtEachLine (AsksLittle asked sets) (some_lines ++ rest) a → IsLittle a
      → IsLittle (after_lines some_lines a)
  lines_little [] rest a h generations none_left same stays_on remains all little = little
  lines_little (line ∷ some_lines) rest a h generations none_left same stays_on remains all little =
      let b = after_line line a in
      lines_little some_lines rest b (has_more a (line ∷ []) b refl h) generations (none_both h.lines (line ∷ []) none_left (remains.0, tt))
      (same_limits (line ∷ []) a h ∙ same)
      (line_stays line a h (subst (λ (l : Limits). 1 ≤ l.tries) (sym same) tries) stays_on (remains.0, tt)) remains.1 all.1
      (line_little line a h generations none_left same stays_on (remains.0, tt) all.0 little)

next_few : (asked sets : ℕ) (some rest : List Line) (a : Acting) → AtEachLine (AsksLittle asked sets) (some ++ rest) a → next_in a.manager.sweep ≤ asked
    → next_in (after_lines some a).manager.sweep ≤ asked
next_few asked sets [] rest a all first = first
next_few asked sets (line ∷ some) rest a all first = next_few asked sets some rest (after_line line a) all.1 all.0.few

no_controls : (asked sets : ℕ) (some rest : List Line) (a : Acting) → AtEachLine (AsksLittle asked sets) (some ++ rest) a → controls_in some ≡ 0
no_controls asked sets [] rest a all = refl
no_controls asked sets (line ∷ some) rest a all =
    let here = all.0.no_control in
    let later = no_controls asked sets some rest (after_line line a) all.1 in
    omega (arith, here, later)

pub turns_are_few : TurnsAreFew
turns_are_few asked sets a lines r first some rest are =
    let limits = a.window.limits in
    let top = chances_in a.window + limits.tries * (sets_to_come a.manager + sets) in
    let all = subst (λ ls. AtEachLine (AsksLittle asked sets) ls a) are r.little in
    let b = after_lines first a in
    let little = lines_little asked sets top limits r.tries r.some (few_sets limits.tries sets (sets_to_come a.manager) (chances_in a.window)) first (some ++ rest) a
    r.decided r.generations r.none_left refl r.stays_on (subst NoneLeaves are r.none_leaves) all
    (at_first limits.tries (chances_in a.window) (requests_in a.manager.outgoing) (sets_to_come a.manager) sets (next_in a.manager.sweep)
    (ap requests_in (has_settled a r.decided).given)) in
    let here = so_later (AsksLittle asked sets) first (some ++ rest) a all in
    let same = same_limits first a r.decided in
    few_then limits.tries (load limits b.window) (requests_in b.manager.outgoing) (sets_to_come b.manager) (next_in b.manager.sweep)
    (next_in (after_lines some b).manager.sweep) (controls_in some) asked (chances_in a.window) (sets_to_come a.manager) sets (chances_in b.window)
    b.window.limits.tries
    (ap (λ (l : Limits). l.tries) same) (ap (λ (l : Limits). l.tries * length b.window.queued + chances_out l b.window.outs) same)
    little (next_few asked sets first (some ++ rest) a all r.first)
    (next_few asked sets some rest b here (next_few asked sets first (some ++ rest) a all r.first))
    (no_controls asked sets some rest b here)
  where
    few_sets : (p s o c : ℕ) → p * s ≤ c + p * (o + s)
    few_sets p s o c = omega arith

    at_first : (p c q o s n : ℕ) → q ≡ 0 → c + p * (q + o) ≤ p * n + (c + p * (o + s))
    at_first p c q o s n none = let e = ap (λ i. p * i) none in omega (arith, e)

    few_then : (p l q s m n k top c o t d p' : ℕ) → p' ≡ p → d ≡ l → l + p * (q + s) ≤ p * m + (c + p * (o + t)) → m ≤ top → n ≤ top → k ≡ 0
        → d + p' * (s + (n - m) + k) + k ≤ c + p * (o + t + top)
    few_then p l q s m n k top c o t d p' same load_is little few few' none =
        subst (λ i. d + i * (s + (n - m) + k) + k ≤ c + p * (o + t + top)) (sym same)
        (let sum : m + (n - m) ≤ top = omega (arith, few, few') in
        let more = mul-le p (m + (n - m)) p top (omega arith) sum in
        let e = ap (λ i. p * i) none in
        omega (arith, load_is, little, none, more, e))
