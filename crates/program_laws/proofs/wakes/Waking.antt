-- Each wake that is met ends something of what is left, or a control came.
use Rattle.std.proofs.Common.{◌≡◌, ◌∙◌, ◌⊎◌, inl, inr, ℕ, zero, suc, ◌+◌, ◌*◌, ◌≤◌, Bool, true, false, cond, ◌&&◌, ◌||◌, not, List, [], ◌∷◌, ◌++◌, length, refl, sym, ap, subst, arith}
use Rattle.std.proofs.lemmas.Bool.{and_parts, cond_both, cond-false, leb-true}
use Rattle.std.specs.Prelude.{Option, Some, None, is_none, max}
use Rattle.smp_bytes.specs.Packet.{fault_of, is_response}
use Rattle.smp_bytes.specs.declared.smp_fault.SmpFault.{SmpFault}
use Rattle.sm_manager.specs.CallLists.{Call, after_call}
use Rattle.sm_manager.specs.Manager.{IsSentWhole, Manager, is_running}
use Rattle.sm_manager.specs.Packets.{after_packet}
use Rattle.sm_manager.specs.declared.outgoing.Outgoing.{Outgoing}
use Rattle.sm_policy.specs.Policy.{is_master}
use Rattle.sm_policy.specs.Resting.{is_due}
use Rattle.sm_policy.specs.declared.policy.Policy.{Policy}
use Rattle.request_window.specs.declared.limits.Limits.{Limits}
use Rattle.request_window.specs.declared.out.Out.{Out}
use Rattle.request_window.specs.Window.{Window, answers, first_out, late_in, next_deadline}
use Rattle.acting_manager.specs.Acting.{Acting, caught_up, collected, entered, looked}
use Rattle.acting_manager.specs.Heard.{answered, answers_poll, asked, handed_in, hands_over, heard_by, is_handed, policy_asked, requested, responded, tells_change}
use Rattle.acting_manager.specs.Heard.{given_up, told}
use Rattle.acting_manager.specs.Working.{Told, all_overdue, are_none, is_given_up, is_idle, is_resting, is_writing, late_done, not_before, one_overdue, paused_until, repeated, stood_still, stopped, taken}
use Rattle.acting_manager.specs.Working.{told_time, wake_of}
use Rattle.program_laws.specs.Wakes.{IsNoLeave, Line, before_deciding, control_in, is_control, is_woken, next_in, one_if, sets_to_come}
use Rattle.program_laws.proofs.wakes.Chances.{AnyLate, IsLeft, late_or_not, load, next_is_late, none_late, taken_left}
use Rattle.program_laws.proofs.wakes.Load.{Fits, Goes, acked, all_end, all_end_late, both, budget, catches_up, lets, makes, none, stays, stops, stops_some, times_out}
use Rattle.program_laws.proofs.wakes.Makes.{and_both, packet_makes, requests_in}
use Rattle.program_laws.proofs.wakes.States.{state_stays}

-- giving up ------------------------------------------------------------------------------------------

given_up_same : (a b : Acting) → b.policy.activity ≡ a.policy.activity → b.is_void ≡ a.is_void
    → is_master b.manager.standing.state ≡ is_master a.manager.standing.state → is_given_up b ≡ is_given_up a
given_up_same a b about void master = λ i. is_writing (about i) && (void i || not (master i))

pub looked_void : (a : Acting) → (looked a).is_void ≡ a.is_void
looked_void a = cond_both _ a (entered a.manager.standing.state a) (λ (b : Acting). b.is_void ≡ a.is_void) (λ _. refl) (λ _. refl)

pub looked_manager : (a : Acting) → (looked a).manager ≡ a.manager
looked_manager a = cond_both _ a (entered a.manager.standing.state a) (λ (b : Acting). b.manager ≡ a.manager) (λ _. refl) (λ _. refl)

pub looked_window : (a : Acting) → (looked a).window ≡ a.window
looked_window a = cond_both _ a (entered a.manager.standing.state a) (λ (b : Acting). b.window ≡ a.window) (λ _. refl) (λ _. refl)

-- the requests that are out stay
caught_outs : (a : Acting) → (caught_up a).window.outs ≡ a.window.outs
caught_outs a = ap (λ (w : Window). w.outs) (looked_window (collected a))

busy_more : (queue more : List Outgoing) (outs : List Out) → are_none queue outs ≡ false → are_none (queue ++ more) outs ≡ false
busy_more [] [] [] e = e
busy_more [] (x ∷ more) [] e = refl
busy_more [] [] (out ∷ outs) e = refl
busy_more [] (x ∷ more) (out ∷ outs) e = refl
busy_more (x ∷ queue) more outs e = refl

caught_busy : (a : Acting) → is_idle a.window ≡ false → is_idle (caught_up a).window ≡ false
caught_busy a busy = ap is_idle (looked_window (collected a)) ∙ busy_more a.window.queued _ a.window.outs busy

module _ (limits : Limits) where
  caught_given_up : (a : Acting) → Fits limits a → is_given_up (caught_up a) ≡ is_given_up a
  caught_given_up a fits =
      given_up_same a (caught_up a) (catches_up limits a fits).about (looked_void (collected a))
      (ap (λ (m : Manager). is_master m.standing.state) (looked_manager (collected a)))

  -- what is told ---------------------------------------------------------------------------------------

  -- the budget has fallen, or all that is out is as before, and so is whether a writing is given up if no control came
  pub data Took (acks : ℕ) (a b : Acting) : Type 0 where
    Fell : Goes limits 1 acks a b → Took acks a b
    Kept : Goes limits 0 acks a b → b.window ≡ a.window → (acks ≡ 0 → is_given_up b ≡ is_given_up a) → Took acks a b

  unchanged : (acks : ℕ) (a : Acting) → Fits limits a → Took acks a a
  unchanged acks a fits = Kept (more_acks a fits acks) refl (λ _. refl)
    where
      more_acks : (a : Acting) → Fits limits a → (acks : ℕ) → Goes limits 0 acks a a
      more_acks a fits acks = record { fits = fits; leaving = refl; about = refl; time = refl; next = omega arith; still = λ _. refl; falls = omega arith }

  hands_in : (request : Outgoing) (packet : List ℕ) (is_taken : Bool) (a : Acting) → Fits limits a → Goes limits 0 0 a (handed_in request packet is_taken a)
  hands_in request packet is_taken a fits =
      let ended = times_out limits a request fits in
      cond_both is_taken (told packet a) (given_up request a) (Goes limits 0 0 a)
      (λ _. record {
        fits = record { same = fits.same; whole = fits.whole };
        leaving = refl;
        about = cond_both (answers_poll packet) _ _ (λ (p : Policy). p.activity ≡ a.policy.activity) (λ _. refl) (λ _. refl);
        time = refl;
        next = omega arith;
        still = λ _. refl;
        falls = omega arith;
      })
      (λ _. record {
        fits = record { same = ended.fits.same; whole = ended.fits.whole };
        leaving = refl;
        about = refl;
        time = refl;
        next = ended.next;
        still = ended.still;
        falls = ended.falls;
      })

  responds : (packet : List ℕ) (from : Option ℕ) (a : Acting) → Fits limits a → Took (one_if (is_control packet)) a (responded packet from a)
  responds packet from a fits =
      by_request (first_out (answers packet) a.window.outs).request (taken_left limits (answers packet) a.window.outs)
    where
      left : List Out
      left = (first_out (answers packet) a.window.outs).outs

      w : Window
      w = record a.window { outs = left }

      b : Acting
      b = record a { window = w }

      by_request : (o : Option Outgoing) → IsLeft limits a.window.outs left o → Took (one_if (is_control packet)) a (answered o packet from b)
      by_request None e =
          let acks = one_if (is_control packet) in
          subst (Took acks a) (λ i. record a { window = record a.window { outs = sym e i } }) (unchanged acks a fits)
      by_request (Some request) less =
          let acks = one_if (is_control packet) in
          let first = lets limits 1 a w fits fits.same (omega (arith, less)) in
          let m = after_call a.manager (Call.Packet packet from) in
          let heard = makes limits acks b m first.fits (packet_makes a.manager fits.whole packet from) in
          let c = record b { manager = m } in
          Fell (stays limits 1 acks a c _ (both limits 1 acks a b c first heard)
          (hands_in request packet (is_none (after_packet a.manager packet from).fault) c heard.fits))

  asked_about : (packet : List ℕ) (rules : Bool) (p : Policy) → (policy_asked packet rules p).activity ≡ p.activity
  asked_about packet rules p =
      cond_both (tells_change packet) _ _ (λ (q : Policy). q.activity ≡ p.activity) (λ _. refl)
      (λ _. cond_both (hands_over packet && rules) _ _ (λ (q : Policy). q.activity ≡ p.activity) (λ _. refl) (λ _. refl))

  requests : (packet : List ℕ) (from : Option ℕ) (a : Acting) → is_response packet ≡ false → Fits limits a
      → Took (one_if (is_control packet)) a (requested packet from a)
  requests packet from a asks fits = by_handed (is_handed packet rules)
    where
      acks : ℕ
      acks = one_if (is_control packet)

      rules : Bool
      rules = is_master a.manager.standing.state

      p : Policy
      p = policy_asked packet rules a.policy

      about : p.activity ≡ a.policy.activity
      about = asked_about packet rules a.policy

      by_handed : (handed : Bool) → Took acks a (record a { policy = p; manager = cond handed (after_call a.manager (Call.Packet packet from)) a.manager })
      by_handed true =
          let m = after_call a.manager (Call.Packet packet from) in
          let heard = makes limits acks a m fits (packet_makes a.manager fits.whole packet from) in
          let b = record a { policy = p; manager = m } in
          Kept (record {
            fits = record { same = heard.fits.same; whole = heard.fits.whole };
            leaving = refl;
            about = about;
            time = refl;
            next = heard.next;
            still = heard.still;
            falls = heard.falls;
          })
          refl
          (λ none. given_up_same a b about refl (ap is_master (state_stays a.manager packet from asks none)))
      by_handed false =
          let b = record a { policy = p } in
          Kept (record {
            fits = record { same = fits.same; whole = fits.whole };
            leaving = refl;
            about = about;
            time = refl;
            next = omega arith;
            still = λ _. refl;
            falls = omega arith;
          })
          refl
          (λ none. given_up_same a b about refl refl)

  asks_it : (packet : List ℕ) (from : Option ℕ) (a : Acting) → is_response packet ≡ false → Fits limits a
      → Took (one_if (is_control packet)) a (asked packet from a)
  asks_it packet from a asks fits =
      cond_both (a.is_leaving && hands_over packet) a (requested packet from a) (Took (one_if (is_control packet)) a)
      (λ _. unchanged (one_if (is_control packet)) a fits) (λ _. requests packet from a asks fits)

  hears_by : (packet : List ℕ) (from : Option ℕ) (fault : Option SmpFault) (a : Acting) → Fits limits a
      → Took (one_if (is_control packet)) a (heard_by packet from fault a)
  hears_by packet from (Some why) a fits = unchanged (one_if (is_control packet)) a fits
  hears_by packet from None a fits =
      cond_both (is_response packet) (responded packet from a) (asked packet from a) (Took (one_if (is_control packet)) a)
      (λ _. responds packet from a fits) (λ asks. asks_it packet from a asks fits)

  takes : (what : Told) (a : Acting) → IsNoLeave what → Fits limits a → Took (control_in what) a (taken what a)
  takes Told.Time a remains fits = unchanged 0 a fits
  takes (Told.Packet bytes from) a remains fits = hears_by bytes from (fault_of bytes) a fits
  takes Told.Look a remains fits =
      let b = taken Told.Look a in
      Kept (record {
        fits = record { same = fits.same; whole = fits.whole };
        leaving = refl;
        about = refl;
        time = refl;
        next = omega arith;
        still = λ _. refl;
        falls = omega arith;
      })
      refl (λ none. given_up_same a b refl refl refl)
  takes Told.Leave a remains fits = absurd remains

  -- the time ----------------------------------------------------------------------------------------------

  -- the time moves on, and nothing else does
  record IsAt (now : ℕ) (a b : Acting) : Type 0 where
    time : b.time ≡ now
    window : b.window ≡ a.window
    manager : b.manager ≡ a.manager
    leaving : b.is_leaving ≡ a.is_leaving
    about : b.policy.activity ≡ a.policy.activity
    given_up : is_given_up a ≡ true → is_given_up b ≡ true

  moves_on : (time : ℕ) (a : Acting) → IsAt (max time a.time) a (told_time time a)
  moves_on time a =
      let now = max time a.time in
      cond_both (stood_still a.time now (wake_of a)) (paused_until now a) (record a { time = now }) (IsAt now a)
      (λ _. record {
        time = refl;
        window = refl;
        manager = refl;
        leaving = refl;
        about = refl;
        given_up = λ up. and_both (is_writing a.policy.activity) true (and_parts (is_writing a.policy.activity) _ up).0 refl;
      })
      (λ _. record { time = refl; window = refl; manager = refl; leaving = refl; about = refl; given_up = λ up. up })

  -- a line -------------------------------------------------------------------------------------------------------

  module _ (some : 1 ≤ limits.tries) where
    -- the rest of a line counts if a request is late, or if a writing is given up
    ends : (k : ℕ) (a : Acting) → Fits limits a → Goes limits k 0 a (stopped a) → Goes limits k 0 a (caught_up (all_overdue (stopped a)))
    ends k a fits first =
        let ended = all_end limits (stopped a) first.fits in
        let both = stays limits k 0 a (stopped a) (all_overdue (stopped a)) first ended in
        stays limits k 0 a (all_overdue (stopped a)) (caught_up (all_overdue (stopped a))) both (catches_up limits (all_overdue (stopped a)) ended.fits)

    ends_given_up : (a : Acting) → Fits limits a → is_idle a.window ≡ false → is_given_up a ≡ true → Goes limits 1 0 a (caught_up (all_overdue (stopped a)))
    ends_given_up a fits busy up = ends 1 a fits (stops_some limits some a fits busy up)

    some_busy : (now : ℕ) (queued : List Outgoing) (outs : List Out) → AnyLate now outs → are_none queued outs ≡ false
    some_busy now queued [] any = absurd any
    some_busy now [] (out ∷ outs) any = refl
    some_busy now (x ∷ queued) (out ∷ outs) any = refl

    ends_late : (a : Acting) → Fits limits a → AnyLate a.time a.window.outs → Goes limits 1 0 a (caught_up (all_overdue (stopped a)))
    ends_late a fits any = by_given_up (is_given_up a) refl
      where
        by_given_up : (b : Bool) → is_given_up a ≡ b → Goes limits 1 0 a (caught_up (all_overdue (stopped a)))
        by_given_up true up = ends_given_up a fits (some_busy a.time a.window.queued a.window.outs any) up
        by_given_up false up =
            let ended = all_end_late limits a fits any in
            let both = stays limits 1 0 a (all_overdue a) (caught_up (all_overdue a)) ended (catches_up limits (all_overdue a) ended.fits) in
            subst (λ (b : Acting). Goes limits 1 0 a (caught_up (all_overdue b))) (sym (cond-false (is_given_up a) _ a up)) both

    ends_any : (a : Acting) → Fits limits a → Goes limits 0 0 a (caught_up (all_overdue (stopped a)))
    ends_any a fits = ends 0 a fits (stops limits some a fits)

    -- a wake that is met finds a late request, or a writing that is given up
    woken_late : (now : ℕ) (a : Acting) → a.is_leaving ≡ false → is_idle a.window ≡ false → is_given_up a ≡ false → is_due now (wake_of a) ≡ true
        → AnyLate now a.window.outs
    woken_late now a stays_on busy up due = by_deadline (next_deadline a.window) refl (sym (ap (is_due now) wake_is) ∙ due)
      where
        wake_is : wake_of a ≡ not_before a.time (next_deadline a.window)
        wake_is =
            cond-false (a.is_leaving && is_resting a.policy.activity) _ _ (ap (λ b. b && is_resting a.policy.activity) stays_on)
            ∙ ap (not_before a.time) (cond-false (is_given_up a) _ _ up ∙ cond-false (is_idle a.window) _ _ busy)

        by_deadline : (o : Option ℕ) → next_deadline a.window ≡ o → is_due now (not_before a.time o) ≡ true → AnyLate now a.window.outs
        by_deadline None e is = absurd (cc)
        by_deadline (Some wake) e is =
            let past = leb-true (max wake a.time) now is in
            next_is_late now a.window.outs wake e (omega (arith, past))

    -- without a late request nothing is done
    none_overdue : (a : Acting) → Fits limits a → late_in limits a.time a.window.outs ≡ record { outs = a.window.outs; late = None } → one_overdue a ≡ a
    none_overdue a fits none =
        let here : late_in a.window.limits a.time a.window.outs ≡ record { outs = a.window.outs; late = None } =
        ap (λ (l : Limits). late_in l a.time a.window.outs) fits.same ∙ none in
        λ i. late_done (here i).late (record a { window = record a.window { outs = (here i).outs } })

    still_repeated : (n : ℕ) (a : Acting) → one_overdue a ≡ a → repeated n one_overdue a ≡ a
    still_repeated zero a e = refl
    still_repeated (suc n) a e = ap one_overdue (still_repeated n a e) ∙ e

    -- what a line does before the manager decides: something of what is left ends if `k` is 1
    pub record Falls (k : ℕ) (line : Line) (a b : Acting) : Type 0 where
      pub fits : Fits limits b
      pub leaving : b.is_leaving ≡ a.is_leaving
      pub about : b.policy.activity ≡ a.policy.activity
      pub time : b.time ≡ max line.0 a.time
      pub next : next_in a.manager.sweep ≤ next_in b.manager.sweep
      pub still : is_running a.manager.sweep ≡ false → b.manager.sweep ≡ a.manager.sweep
      pub falls : k + budget limits b + limits.tries * next_in a.manager.sweep
          ≤ budget limits a + limits.tries * next_in b.manager.sweep + limits.tries * control_in line.1 + control_in line.1

    -- something ends, or the manager did not ask for the line, and all that is out is as before
    pub data Kind (line : Line) (a b : Acting) : Type 0 where
      Ends : Falls 1 line a b → Kind line a b
      Rests : Falls 0 line a b → is_woken line.0 a ≡ false → b.window.outs ≡ a.window.outs → Kind line a b

    -- from the time told on
    from_then : (line : Line) (a t b : Acting) → IsAt (max line.0 a.time) a t → (k l : ℕ) → Goes limits k (control_in line.1) t b
        → l ≤ k + control_in line.1 → Falls l line a b
    from_then line a t b at k l g few =
        let fell = g.falls in
        let same : budget limits t ≡ budget limits a =
        λ i. load limits (at.window i) + limits.tries * (requests_in (at.manager i).outgoing + sets_to_come (at.manager i)) in
        let sweep : next_in t.manager.sweep ≡ next_in a.manager.sweep = ap (λ (m : Manager). next_in m.sweep) at.manager in
        record {
          fits = g.fits;
          leaving = g.leaving ∙ at.leaving;
          about = g.about ∙ at.about;
          time = g.time ∙ at.time;
          next = let n = g.next in omega (arith, n, sweep);
          still = λ rests. g.still (ap (λ (m : Manager). is_running m.sweep) at.manager ∙ rests) ∙ ap (λ (m : Manager). m.sweep) at.manager;
          falls = fallen l k limits.tries (control_in line.1) (budget limits a) (budget limits t) (budget limits b)
              (next_in a.manager.sweep) (next_in t.manager.sweep) (next_in b.manager.sweep) few same sweep fell;
        }
      where
        fallen : (w k p c x x' y m m' n : ℕ) → w ≤ k + c → x' ≡ x → m' ≡ m → k + y + p * m' ≤ x' + p * n + p * c → w + y + p * m ≤ x + p * n + p * c + c
        fallen w k p c x x' y m m' n few same sweep fell =
            let e = ap (λ i. p * i) sweep in omega (arith, few, same, e, fell)

    -- what is told leaves all that is out as it is until then
    module _ (line : Line) (a t b : Acting) (at : IsAt (max line.0 a.time) a t) (stays_on : a.is_leaving ≡ false) (busy : is_idle a.window ≡ false)
        (g : Goes limits 0 (control_in line.1) t b) (same : b.window ≡ t.window)
        (up_same : control_in line.1 ≡ 0 → is_given_up b ≡ is_given_up t) where
      abbrev now : ℕ
      now = max line.0 a.time

      abbrev c : ℕ
      c = control_in line.1

      abbrev y : Acting
      y = caught_up b

      abbrev x : Acting
      x = caught_up (all_overdue (stopped y))

      caught : Goes limits 0 c t y
      caught = stays limits 0 c t b y g (catches_up limits b g.fits)

      goes_on : (k l : ℕ) → Goes limits k 0 y x → l ≤ k + c → Falls l line a x
      goes_on k l more = from_then line a t x at k l (acked limits k c t y x caught more)

      busy_then : is_idle y.window ≡ false
      busy_then = caught_busy b (ap is_idle (same ∙ at.window) ∙ busy)

      outs_then : y.window.outs ≡ a.window.outs
      outs_then = caught_outs b ∙ ap (λ (w : Window). w.outs) (same ∙ at.window)

      time_then : y.time ≡ now
      time_then = caught.time ∙ at.time

      late_then : AnyLate now a.window.outs → AnyLate y.time y.window.outs
      late_then any = subst (λ (i : ℕ). AnyLate i y.window.outs) (sym time_then) (subst (AnyLate now) (sym outs_then) any)

      up_then : c ≡ 0 → is_given_up a ≡ true → is_given_up y ≡ true
      up_then none up = caught_given_up b g.fits ∙ up_same none ∙ at.given_up up

      -- nothing is late, and no writing is given up
      module _ (down : is_given_up y ≡ false) (none : late_in limits y.time y.window.outs ≡ record { outs = y.window.outs; late = None }) where
        by_control : (n : ℕ) → c ≡ n → is_given_up a ≡ true → Kind line a x
        by_control zero e up = let wrong : true ≡ false = sym (up_then e up) ∙ down in absurd (cc)
        by_control (suc n) e up = Ends (goes_on 0 1 (ends_any y caught.fits) (omega (arith, e)))

        outs_same : x.window.outs ≡ a.window.outs
        outs_same =
            ap (λ (z : Acting). (caught_up (all_overdue z)).window.outs) (cond-false (is_given_up y) _ y down)
            ∙ ap (λ (z : Acting). (caught_up z).window.outs) (still_repeated (length y.window.outs) y (none_overdue y caught.fits none))
            ∙ caught_outs y ∙ outs_then

        by_woken : (w : Bool) → is_woken line.0 a ≡ w → (u : Bool) → is_given_up a ≡ u → Kind line a x
        by_woken false e u f = Rests (goes_on 0 0 (ends_any y caught.fits) (omega arith)) e outs_same
        by_woken true e true f = by_control c refl f
        by_woken true e false f =
            absurd (none_late limits y.time y.window.outs none (late_then (woken_late now a stays_on busy f e)))

      by_late : is_given_up y ≡ false → AnyLate y.time y.window.outs ⊎ (late_in limits y.time y.window.outs ≡ record { outs = y.window.outs; late = None })
          → Kind line a x
      by_late down (inl any) = Ends (goes_on 1 1 (ends_late y caught.fits any) (omega arith))
      by_late down (inr none) = by_woken down none (is_woken line.0 a) refl (is_given_up a) refl

      by_given_up : (u : Bool) → is_given_up y ≡ u → Kind line a x
      by_given_up true up = Ends (goes_on 1 1 (ends_given_up y caught.fits busy_then up) (omega arith))
      by_given_up false down = by_late down (late_or_not limits y.time y.window.outs)

      kept_kind : Kind line a x
      kept_kind = by_given_up (is_given_up y) refl

    pub line_falls : (line : Line) (a : Acting) → Fits limits a → IsNoLeave line.1 → a.is_leaving ≡ false → is_idle a.window ≡ false
        → Kind line a (before_deciding line a)
    line_falls line a fits remains stays_on busy = by_taken (takes line.1 t remains fits_then)
      where
        t : Acting
        t = told_time line.0 a

        at : IsAt (max line.0 a.time) a t
        at = moves_on line.0 a

        fits_then : Fits limits t
        fits_then = record {
          same = ap (λ (w : Window). w.limits) at.window ∙ fits.same;
          whole = subst (λ (m : Manager). IsSentWhole m.sweep) (sym at.manager) fits.whole;
        }

        b : Acting
        b = taken line.1 t

        by_taken : Took (control_in line.1) t b → Kind line a (before_deciding line a)
        by_taken (Fell g) =
            let y = caught_up b in
            let caught = stays limits 1 (control_in line.1) t b y g (catches_up limits b g.fits) in
            Ends (from_then line a t (before_deciding line a) at 1 1
            (stays limits 1 (control_in line.1) t y (before_deciding line a) caught (ends_any y caught.fits)) (omega arith))
        by_taken (Kept g same up_same) = kept_kind line a t b at stays_on busy g same up_same

    -- whatever is left
    pub any_falls : (line : Line) (a : Acting) → Fits limits a → IsNoLeave line.1 → Falls 0 line a (before_deciding line a)
    any_falls line a fits remains = by_taken (takes line.1 t remains fits_then)
      where
        t : Acting
        t = told_time line.0 a

        at : IsAt (max line.0 a.time) a t
        at = moves_on line.0 a

        fits_then : Fits limits t
        fits_then = record {
          same = ap (λ (w : Window). w.limits) at.window ∙ fits.same;
          whole = subst (λ (m : Manager). IsSentWhole m.sweep) (sym at.manager) fits.whole;
        }

        b : Acting
        b = taken line.1 t

        by_goes : (k : ℕ) → Goes limits k (control_in line.1) t b → Falls 0 line a (before_deciding line a)
        by_goes k g =
            let y = caught_up b in
            let caught = stays limits k (control_in line.1) t b y g (catches_up limits b g.fits) in
            from_then line a t (before_deciding line a) at k 0
            (stays limits k (control_in line.1) t y (before_deciding line a) caught (ends_any y caught.fits)) (omega arith)

        by_taken : Took (control_in line.1) t b → Falls 0 line a (before_deciding line a)
        by_taken (Fell g) = by_goes 1 g
        by_taken (Kept g same up_same) = by_goes 0 g
