-- What a manager that decides by itself has still to send and to wait for never grows before it decides, but for what
-- its sweep asks and for acknowledgements.
use Rattle.std.proofs.Common.{◌≡◌, ◌∙◌, ℕ, zero, suc, ◌+◌, ◌*◌, ◌≤◌, true, false, List, [], ◌∷◌, length, refl, sym, ap, subst, arith}
use Rattle.std.proofs.lemmas.Bool.{cond_both, cond-true}
use Rattle.std.proofs.lemmas.List.{length-append}
use Rattle.std.proofs.lemmas.List.Elements.{filter-append}
use Rattle.std.proofs.lemmas.Nat.{mul-le}
use Rattle.std.specs.Prelude.{Option, Some, None, filter}
use Rattle.smp_bytes.specs.Field.{number_in}
use Rattle.smp_bytes.specs.Packet.{transaction_id}
use Rattle.sm_state.specs.declared.state.SmState.{SmState}
use Rattle.sm_manager.specs.Manager.{IsSentWhole, Manager, is_running}
use Rattle.sm_manager.specs.declared.outgoing.Outgoing.{Outgoing}
use Rattle.sm_policy.specs.Policy.{in_state, moved, sweeps_first, wanting}
use Rattle.sm_policy.specs.declared.policy.Policy.{Policy}
use Rattle.request_window.specs.declared.late.Late.{Late}
use Rattle.request_window.specs.declared.late.Late.TheVariants.{Again, GivenUp}
use Rattle.request_window.specs.declared.limits.Limits.{Limits}
use Rattle.request_window.specs.declared.out.Out.{Out}
use Rattle.request_window.specs.Window.{Window, after_overdue, after_send, late_in, unanswered_of, unsent_of}
use Rattle.acting_manager.specs.Acting.{Acting, caught_up, collected, entered, is_request, looked}
use Rattle.acting_manager.specs.Heard.{timed_out}
use Rattle.acting_manager.specs.Working.{all_overdue, all_sent, are_none, dropped, dropped_one, is_given_up, is_idle, late_done, one_overdue, one_sent}
use Rattle.acting_manager.specs.Working.{out_dropped, queued_dropped, repeated, sent, sent_one, stopped}
use Rattle.program_laws.specs.Wakes.{chances_out, next_in, sets_to_come}
use Rattle.program_laws.proofs.wakes.Chances.{AnyLate, late_few, late_less, load, same_sent, sent_load}
use Rattle.program_laws.proofs.wakes.Makes.{Makes, requests_in, timeout_makes}

-- numbers ----------------------------------------------------------------------------------------------

times : (p x y : ℕ) → x ≤ y → p * x ≤ p * y
times p x y h = mul-le p x p y (omega arith) h

sum_up : (k l c d p x y z m n o : ℕ) → k + y + p * m ≤ x + p * n + p * c → l + z + p * n ≤ y + p * o + p * d
    → k + l + z + p * m ≤ x + p * o + p * (c + d)
sum_up k l c d p x y z m n o h g = omega (arith, h, g)

more_made : (p l r s m r' s' m' acks more : ℕ) → r' ≡ r + more → more + s' + m ≤ s + m' + acks
    → 0 + (l + p * (r' + s')) + p * m ≤ l + p * (r + s) + p * m' + p * acks
more_made p l r s m r' s' m' acks more e paid =
    let whole = times p (r' + s' + m) (r + s + m' + acks) (omega (arith, e, paid)) in omega (arith, whole)

less_load : (k p l l' r m : ℕ) → k + l' ≤ l → k + (l' + p * r) + p * m ≤ l + p * r + p * m + p * 0
less_load k p l l' r m h = omega (arith, h)

-- what a manager is about ----------------------------------------------------------------------------------

pub moved_about : (now : ℕ) (state : SmState) (p : Policy) → (moved now state p).activity ≡ p.activity
moved_about now state p =
    cond_both (sweeps_first state p.activity) (wanting (in_state now state p)) (in_state now state p)
    (λ (q : Policy). q.activity ≡ p.activity) (λ _. refl) (λ _. refl)

-- a new state changes nothing of it
pub looked_about : (a : Acting) → (looked a).policy.activity ≡ a.policy.activity
looked_about a =
    cond_both _ a (entered a.manager.standing.state a) (λ (b : Acting). b.policy.activity ≡ a.policy.activity) (λ _. refl)
    (λ _. moved_about a.time a.manager.standing.state a.policy)

-- steps ---------------------------------------------------------------------------------------------------

module _ (limits : Limits) where
  -- what is left to be late, and the requests that are still to come
  abbrev pub budget : Acting → ℕ
  budget a = load limits a.window + limits.tries * (requests_in a.manager.outgoing + sets_to_come a.manager)

  -- the window has these limits, and the sweep has sent what it asks
  pub record Fits (a : Acting) : Type 0 where
    pub same : a.window.limits ≡ limits
    pub whole : IsSentWhole a.manager.sweep

  -- from `a` to `b` the budget falls by `k` at least, but for what the sweep asks and for `acks` acknowledgements
  pub record Goes (k acks : ℕ) (a b : Acting) : Type 0 where
    pub fits : Fits b
    pub leaving : b.is_leaving ≡ a.is_leaving
    pub about : b.policy.activity ≡ a.policy.activity
    pub time : b.time ≡ a.time
    pub next : next_in a.manager.sweep ≤ next_in b.manager.sweep
    pub still : is_running a.manager.sweep ≡ false → b.manager.sweep ≡ a.manager.sweep
    pub falls : k + budget b + limits.tries * next_in a.manager.sweep
        ≤ budget a + limits.tries * next_in b.manager.sweep + limits.tries * acks

  -- any step is of this kind
  abbrev pub Steps : (Acting → Acting) → Type 0
  Steps step = (a : Acting) → Fits a → Goes 0 0 a (step a)

  pub none : (a : Acting) → Fits a → Goes 0 0 a a
  none a fits = record { fits = fits; leaving = refl; about = refl; time = refl; next = omega arith; still = λ _. refl; falls = omega arith }

  join : (k l c d k' c' : ℕ) (a b e : Acting) → k' ≡ k + l → c' ≡ c + d → Goes k c a b → Goes l d b e → Goes k' c' a e
  join k l c d k' c' a b e more acks r s =
      let first = r.next in
      let later = s.next in
      let sum = sum_up k l c d limits.tries (budget a) (budget b) (budget e) (next_in a.manager.sweep) (next_in b.manager.sweep)
      (next_in e.manager.sweep) r.falls s.falls in
      record {
        fits = s.fits;
        leaving = s.leaving ∙ r.leaving;
        about = s.about ∙ r.about;
        time = s.time ∙ r.time;
        next = omega (arith, first, later);
        still = λ rests. let kept = r.still rests in s.still (ap is_running kept ∙ rests) ∙ kept;
        falls = subst (λ (n : ℕ). n + budget e + limits.tries * next_in a.manager.sweep
            ≤ budget a + limits.tries * next_in e.manager.sweep + limits.tries * c') (sym more)
            (subst (λ (n : ℕ). k + l + budget e + limits.tries * next_in a.manager.sweep
            ≤ budget a + limits.tries * next_in e.manager.sweep + limits.tries * n) (sym acks) sum);
      }

  -- and then nothing more; and before that nothing
  pub stays : (k c : ℕ) (a b e : Acting) → Goes k c a b → Goes 0 0 b e → Goes k c a e
  stays k c a b e = join k 0 c 0 k c a b e (omega arith) (omega arith)

  pub later : (k c : ℕ) (a b e : Acting) → Goes 0 0 a b → Goes k c b e → Goes k c a e
  later k c a b e = join 0 k 0 c k c a b e (omega arith) (omega arith)

  pub both : (k c : ℕ) (a b e : Acting) → Goes k 0 a b → Goes 0 c b e → Goes k c a e
  both k c a b e = join k 0 0 c k c a b e (omega arith) (omega arith)

  pub acked : (k c : ℕ) (a b e : Acting) → Goes 0 c a b → Goes k 0 b e → Goes k c a e
  acked k c a b e = join 0 k c 0 k c a b e (omega arith) (omega arith)

  pub at_least : (k c : ℕ) (a b : Acting) → Goes k c a b → Goes 0 c a b
  at_least k c a b r = let falls = r.falls in record {
    fits = r.fits;
    leaving = r.leaving;
    about = r.about;
    time = r.time;
    next = r.next;
    still = r.still;
    falls = omega (arith, falls);
  }

  -- the manager makes a call
  pub makes : (acks : ℕ) (a : Acting) (m : Manager) → Fits a → Makes acks a.manager m → Goes 0 acks a (record a { manager = m })
  makes acks a m fits made =
      let sum : requests_in m.outgoing ≡ requests_in a.manager.outgoing + requests_in made.more =
      ap requests_in made.outgoing ∙ ap length (filter-append is_request a.manager.outgoing made.more)
      ∙ length-append (filter is_request a.manager.outgoing) (filter is_request made.more) in
      record {
        fits = record { same = fits.same; whole = made.whole };
        leaving = refl;
        about = refl;
        time = refl;
        next = made.next;
        still = made.still;
        falls = more_made limits.tries (load limits a.window) (requests_in a.manager.outgoing) (sets_to_come a.manager)
            (next_in a.manager.sweep) (requests_in m.outgoing) (sets_to_come m) (next_in m.sweep) acks (requests_in made.more) sum made.paid;
      }

  -- the window gets other requests
  pub lets : (k : ℕ) (a : Acting) (w : Window) → Fits a → w.limits ≡ limits → k + load limits w ≤ load limits a.window
      → Goes k 0 a (record a { window = w })
  lets k a w fits same less =
      record {
        fits = record { same = same; whole = fits.whole };
        leaving = refl;
        about = refl;
        time = refl;
        next = omega arith;
        still = λ _. refl;
        falls = less_load k limits.tries (load limits a.window) (load limits w) (requests_in a.manager.outgoing + sets_to_come a.manager)
            (next_in a.manager.sweep) less;
      }

  -- a request times out
  pub times_out : (a : Acting) (request : Outgoing) → Fits a → Goes 0 0 a (timed_out request a)
  times_out a request fits = makes 0 a _ fits (timeout_makes a.manager fits.whole (number_in transaction_id request.packet))

  pub repeats : (n : ℕ) (step : Acting → Acting) → Steps step → Steps (repeated n step)
  repeats zero step each a fits = none a fits
  repeats (suc n) step each a fits =
      let so_far = repeats n step each a fits in
      stays 0 0 a (repeated n step a) (step (repeated n step a)) so_far (each (repeated n step a) so_far.fits)

  -- the first of some steps counts
  pub repeats_once : (n : ℕ) (step : Acting → Acting) → Steps step → (a : Acting) → 1 ≤ n → Goes 1 0 a (step a) → Goes 1 0 a (repeated n step a)
  repeats_once zero step each a some first = absurd (omega (arith, some))
  repeats_once (suc zero) step each a some first = first
  repeats_once (suc (suc n)) step each a some first =
      let so_far = repeats_once (suc n) step each a (omega arith) first in
      stays 1 0 a (repeated (suc n) step a) (step (repeated (suc n) step a)) so_far (each (repeated (suc n) step a) so_far.fits)

  -- catching up --------------------------------------------------------------------------------------------

  pub collects : Steps collected
  collects a fits =
      let long = length-append a.window.queued (filter is_request a.manager.outgoing) in
      let weight = ap (λ n. limits.tries * n) long in
      record {
        fits = record { same = fits.same; whole = fits.whole };
        leaving = refl;
        about = refl;
        time = refl;
        next = omega arith;
        still = λ _. refl;
        falls = omega (arith, weight);
      }

  looks : Steps looked
  looks a fits =
      cond_both _ a (entered a.manager.standing.state a) (Goes 0 0 a) (λ _. none a fits)
      (λ _. record {
        fits = record { same = fits.same; whole = fits.whole };
        leaving = refl;
        about = moved_about a.time a.manager.standing.state a.policy;
        time = refl;
        next = omega arith;
        still = λ _. refl;
        falls = omega arith;
      })

  pub catches_up : Steps caught_up
  catches_up a fits =
      let first = collects a fits in stays 0 0 a (collected a) (caught_up a) first (looks (collected a) first.fits)

  -- late requests ---------------------------------------------------------------------------------------------

  ends_late : (late : Option Late) (a : Acting) → Fits a → Goes 0 0 a (late_done late a)
  ends_late None a fits = none a fits
  ends_late (Some (Again request)) a fits =
      record {
        fits = record { same = fits.same; whole = fits.whole };
        leaving = refl;
        about = refl;
        time = refl;
        next = omega arith;
        still = λ _. refl;
        falls = omega arith;
      }
  ends_late (Some (GivenUp request)) a fits =
      let r = times_out a request fits in
      record { fits = record { same = r.fits.same; whole = r.fits.whole }; leaving = r.leaving; about = r.about; time = r.time; next = r.next; still = r.still; falls = r.falls }

  overdue_by : (k : ℕ) (a : Acting) → Fits a
      → k + chances_out limits (late_in limits a.time a.window.outs).outs ≤ chances_out limits a.window.outs → Goes k 0 a (one_overdue a)
  overdue_by k a fits less =
      let w = after_overdue a.time a.window in
      let here : k + chances_out limits w.outs ≤ chances_out limits a.window.outs =
      subst (λ (l : Limits). k + chances_out limits (late_in l a.time a.window.outs).outs ≤ chances_out limits a.window.outs) (sym fits.same) less in
      let first = lets k a w fits fits.same (omega (arith, here)) in
      stays k 0 a (record a { window = w }) (one_overdue a) first
      (ends_late (late_in a.window.limits a.time a.window.outs).late (record a { window = w }) first.fits)

  overdue : Steps one_overdue
  overdue a fits = let few = late_few limits a.time a.window.outs in overdue_by 0 a fits (omega (arith, few))

  pub all_end : Steps all_overdue
  all_end a fits = repeats (length a.window.outs) one_overdue overdue a fits

  some_out : (now : ℕ) (outs : List Out) → AnyLate now outs → 1 ≤ length outs
  some_out now [] any = absurd any
  some_out now (out ∷ outs) any = omega arith

  -- one that is late counts
  pub all_end_late : (a : Acting) → Fits a → AnyLate a.time a.window.outs → Goes 1 0 a (all_overdue a)
  all_end_late a fits any =
      let less = late_less limits a.time a.window.outs any in
      repeats_once (length a.window.outs) one_overdue overdue a (some_out a.time a.window.outs any) (overdue_by 1 a fits (omega (arith, less)))

  -- dropping --------------------------------------------------------------------------------------------------------

  drops_one : (request : Option Outgoing) (a : Acting) → Fits a → Goes 0 0 a (dropped_one request a)
  drops_one None a fits = none a fits
  drops_one (Some request) a fits = times_out a request fits

  module _ (some : 1 ≤ limits.tries) where
    queued_by : (a : Acting) (queue : List Outgoing) → a.window.queued ≡ queue → Fits a
        → Goes 0 0 a (dropped_one (unsent_of a.window queue).request (record a { window = (unsent_of a.window queue).window }))
    queued_by a [] e fits = none a fits
    queued_by a (out ∷ rest) e fits =
        let long : limits.tries * length a.window.queued ≡ limits.tries * suc (length rest) = ap (λ (l : List Outgoing). limits.tries * length l) e in
        let w = record a.window { queued = rest } in
        let first = lets 0 a w fits fits.same (omega (arith, long)) in
        stays 0 0 a (record a { window = w }) (timed_out out (record a { window = w })) first (times_out (record a { window = w }) out first.fits)

    queued_one : (a : Acting) (out : Outgoing) (rest : List Outgoing) → a.window.queued ≡ out ∷ rest → Fits a → Goes 1 0 a (queued_dropped a)
    queued_one a out rest e fits =
        subst (λ (queue : List Outgoing). Goes 1 0 a (dropped_one (unsent_of a.window queue).request (record a { window = (unsent_of a.window queue).window })))
        (sym e) here
      where
        here : Goes 1 0 a (timed_out out (record a { window = record a.window { queued = rest } }))
        here =
            let long : limits.tries * length a.window.queued ≡ limits.tries * suc (length rest) = ap (λ (l : List Outgoing). limits.tries * length l) e in
            let w = record a.window { queued = rest } in
            let first = lets 1 a w fits fits.same (omega (arith, long, some)) in
            stays 1 0 a (record a { window = w }) (timed_out out (record a { window = w })) first (times_out (record a { window = w }) out first.fits)

    outs_by : (a : Acting) (outs : List Out) → a.window.outs ≡ outs → Fits a
        → Goes 0 0 a (dropped_one (unanswered_of a.window outs).request (record a { window = (unanswered_of a.window outs).window }))
    outs_by a [] e fits = none a fits
    outs_by a (out ∷ rest) e fits =
        let all : chances_out limits a.window.outs ≡ chances_out limits (out ∷ rest) = ap (chances_out limits) e in
        let w = record a.window { outs = rest } in
        let first = lets 0 a w fits fits.same (omega (arith, all)) in
        stays 0 0 a (record a { window = w }) (timed_out out.request (record a { window = w })) first
        (times_out (record a { window = w }) out.request first.fits)

    outs_one : (a : Acting) (out : Out) (rest : List Out) → a.window.outs ≡ out ∷ rest → Fits a → Goes 1 0 a (out_dropped a)
    outs_one a out rest e fits =
        subst (λ (outs : List Out). Goes 1 0 a (dropped_one (unanswered_of a.window outs).request (record a { window = (unanswered_of a.window outs).window })))
        (sym e) here
      where
        here : Goes 1 0 a (timed_out out.request (record a { window = record a.window { outs = rest } }))
        here =
            let all : chances_out limits a.window.outs ≡ chances_out limits (out ∷ rest) = ap (chances_out limits) e in
            let w = record a.window { outs = rest } in
            let first = lets 1 a w fits fits.same (omega (arith, all)) in
            stays 1 0 a (record a { window = w }) (timed_out out.request (record a { window = w })) first
            (times_out (record a { window = w }) out.request first.fits)

    drops_queued : Steps queued_dropped
    drops_queued a fits = queued_by a a.window.queued refl fits

    drops_out : Steps out_dropped
    drops_out a fits = outs_by a a.window.outs refl fits

    -- all that is out is dropped
    abbrev without_outs : Acting → Acting
    without_outs a = repeated (length a.window.outs) out_dropped a

    abbrev without_queue : ℕ → Acting → Acting
    without_queue n a = without_outs (repeated n queued_dropped a)

    drops_outs : Steps without_outs
    drops_outs a fits = repeats (length a.window.outs) out_dropped drops_out a fits

    drops : Steps dropped
    drops a fits =
        let unqueued = repeated (length a.window.queued) queued_dropped a in
        let first = repeats (length a.window.queued) queued_dropped drops_queued a fits in
        stays 0 0 a unqueued (dropped a) first (drops_outs unqueued first.fits)

    -- if some request is left, this counts
    drops_some : (a : Acting) → Fits a → is_idle a.window ≡ false → Goes 1 0 a (dropped a)
    drops_some a fits busy = by_queue a.window.queued refl
      where
        by_outs : a.window.queued ≡ [] → (outs : List Out) → a.window.outs ≡ outs → Goes 1 0 a (without_outs a)
        by_outs empty [] e =
            let wrong : true ≡ false = sym (λ i. are_none (empty i) (e i)) ∙ busy in absurd (cc)
        by_outs empty (out ∷ rest) e =
            let long : length a.window.outs ≡ suc (length rest) = ap length e in
            repeats_once (length a.window.outs) out_dropped drops_out a (omega (arith, long)) (outs_one a out rest e fits)

        by_queue : (queue : List Outgoing) → a.window.queued ≡ queue → Goes 1 0 a (dropped a)
        by_queue [] e = subst (λ (n : ℕ). Goes 1 0 a (without_queue n a)) (sym (ap length e)) (by_outs e a.window.outs refl)
        by_queue (out ∷ rest) e =
            let long : length a.window.queued ≡ suc (length rest) = ap length e in
            let unqueued = repeated (length a.window.queued) queued_dropped a in
            let first = repeats_once (length a.window.queued) queued_dropped drops_queued a (omega (arith, long)) (queued_one a out rest e fits) in
            stays 1 0 a unqueued (dropped a) first (drops_outs unqueued first.fits)

    pub stops : Steps stopped
    stops a fits =
        let first = drops a fits in
        cond_both (is_given_up a) (collected (dropped a)) a (Goes 0 0 a)
        (λ _. stays 0 0 a (dropped a) (collected (dropped a)) first (collects (dropped a) first.fits)) (λ _. none a fits)

    pub stops_some : (a : Acting) → Fits a → is_idle a.window ≡ false → is_given_up a ≡ true → Goes 1 0 a (stopped a)
    stops_some a fits busy up =
        let first = drops_some a fits busy in
        subst (Goes 1 0 a) (sym (cond-true (is_given_up a) (collected (dropped a)) a up))
        (stays 1 0 a (dropped a) (collected (dropped a)) first (collects (dropped a) first.fits))

    -- sending ---------------------------------------------------------------------------------------------------------

    sends_it : (request : Option Outgoing) (a : Acting) → Fits a → Goes 0 0 a (sent_one request a)
    sends_it None a fits = none a fits
    sends_it (Some request) a fits =
        record {
          fits = record { same = fits.same; whole = fits.whole };
          leaving = refl;
          about = refl;
          time = refl;
          next = omega arith;
          still = λ _. refl;
          falls = omega arith;
        }

    sends_one : Steps one_sent
    sends_one a fits =
        let w = (after_send a.time a.window).window in
        let few = sent_load limits a.time a.window a.window.queued some refl in
        let first = lets 0 a w fits (same_sent a.time a.window a.window.queued ∙ fits.same) (omega (arith, few)) in
        stays 0 0 a (record a { window = w }) (one_sent a) first
        (sends_it (after_send a.time a.window).request (record a { window = w }) first.fits)

    pub sends : Steps sent
    sends a fits =
        cond_both (is_given_up a) a (all_sent a) (Goes 0 0 a) (λ _. none a fits)
        (λ _. repeats a.window.limits.outstanding one_sent sends_one a fits)
