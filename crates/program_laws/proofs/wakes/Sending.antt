-- What goes out of a window, and the time for which a manager then asks.
use Rattle.std.proofs.Common.{◌≡◌, ◌∙◌, ◌⊎◌, inl, inr, ℕ, zero, suc, ◌≤◌, Bool, true, false, ◌&&◌, ◌||◌, not, List, [], ◌∷◌, ◌++◌, length, refl, sym, ap, subst, arith}
use Rattle.std.proofs.lemmas.Bool.{cond_both, cond-true, cond-false, ltb-false}
use Rattle.std.proofs.lemmas.List.{length-append}
use Rattle.std.proofs.lemmas.Option.{none-some, same_Some}
use Rattle.std.specs.Prelude.{Option, Some, None, max, nat_lt}
use Rattle.sm_manager.specs.declared.outgoing.Outgoing.{Outgoing}
use Rattle.sm_policy.specs.Policy.{is_master}
use Rattle.request_window.specs.declared.out.Out.{Out}
use Rattle.request_window.specs.Window.{Given, Window, after_send, next_deadline, out_at, sent_of}
use Rattle.acting_manager.specs.Acting.{Acting}
use Rattle.acting_manager.specs.Working.{all_sent, are_none, is_given_up, is_idle, is_resting, is_writing, not_before}
use Rattle.acting_manager.specs.Working.{one_sent, repeated, sent, sent_one, wake_in, wake_of}
use Rattle.program_laws.specs.Wakes.{AsksForATime}
use Rattle.program_laws.proofs.wakes.Chances.{AnyLate, any_left, deadline_is, next_by, same_sent}

-- sending ------------------------------------------------------------------------------------------------

-- the window sends, and nothing else changes
pub record OnlySends (a b : Acting) : Type 0 where
  pub limits : b.window.limits ≡ a.window.limits
  pub manager : b.manager ≡ a.manager
  pub policy : b.policy ≡ a.policy
  pub void : b.is_void ≡ a.is_void
  pub leaving : b.is_leaving ≡ a.is_leaving
  pub time : b.time ≡ a.time

sends_it : (request : Option Outgoing) (a b : Acting) → OnlySends a b → OnlySends a (sent_one request b)
sends_it None a b s = s
sends_it (Some request) a b s = record {
  limits = s.limits;
  manager = s.manager;
  policy = s.policy;
  void = s.void;
  leaving = s.leaving;
  time = s.time;
}

sends_one : (a b : Acting) → OnlySends a b → OnlySends a (one_sent b)
sends_one a b s =
    sends_it (after_send b.time b.window).request a (record b { window = (after_send b.time b.window).window }) (record {
      limits = same_sent b.time b.window b.window.queued ∙ s.limits;
      manager = s.manager;
      policy = s.policy;
      void = s.void;
      leaving = s.leaving;
      time = s.time;
    })

sends_all : (n : ℕ) (a : Acting) → OnlySends a (repeated n one_sent a)
sends_all zero a = record { limits = refl; manager = refl; policy = refl; void = refl; leaving = refl; time = refl }
sends_all (suc n) a = sends_one a (repeated n one_sent a) (sends_all n a)

pub only_sends : (a : Acting) → OnlySends a (sent a)
only_sends a =
    cond_both (is_given_up a) a (all_sent a) (OnlySends a)
    (λ _. record { limits = refl; manager = refl; policy = refl; void = refl; leaving = refl; time = refl })
    (λ _. sends_all a.window.limits.outstanding a)

-- the window of a request that goes out
pub sent_window : (request : Option Outgoing) (a : Acting) → (sent_one request a).window ≡ a.window
sent_window None a = refl
sent_window (Some request) a = refl

-- something is out then, if anything is left and there is room for one
some_queued : (queued : List Outgoing) (outs : List Out) → queued ≡ [] → are_none queued outs ≡ false → 1 ≤ length outs
some_queued queued [] e busy =
    let wrong : true ≡ false = sym (ap (λ q. are_none q []) e) ∙ busy in absurd (cc)
some_queued queued (out ∷ outs) e busy = omega arith

out_then : (time : ℕ) (w : Window) (queued : List Outgoing) → w.queued ≡ queued → is_idle w ≡ false → 1 ≤ w.limits.outstanding
    → 1 ≤ length (sent_of time w queued).window.outs
out_then time w [] e busy room = some_queued w.queued w.outs e busy
out_then time w (request ∷ rest) e busy room =
    let out = out_at w.limits time 1 request in
    let long = length-append w.outs (out ∷ []) in
    cond_both (nat_lt (length w.outs) w.limits.outstanding) (record { window = record w { queued = rest; outs = w.outs ++ out ∷ [] }; request = Some request })
    (record { window = w; request = None }) (λ (g : Given). 1 ≤ length g.window.outs)
    (λ fits. omega (arith, long))
    (λ full. let many = ltb-false (length w.outs) w.limits.outstanding full in omega (arith, many, room))

out_still : (time : ℕ) (w : Window) (queued : List Outgoing) → 1 ≤ length w.outs → 1 ≤ length (sent_of time w queued).window.outs
out_still time w [] some = some
out_still time w (request ∷ rest) some =
    let out = out_at w.limits time 1 request in
    let long = length-append w.outs (out ∷ []) in
    cond_both (nat_lt (length w.outs) w.limits.outstanding) (record { window = record w { queued = rest; outs = w.outs ++ out ∷ [] }; request = Some request })
    (record { window = w; request = None }) (λ (g : Given). 1 ≤ length g.window.outs)
    (λ fits. omega (arith, long)) (λ full. some)

abbrev pub HasOut : Acting → Type 0
HasOut a = 1 ≤ length a.window.outs

sent_out : (a : Acting) → 1 ≤ length (after_send a.time a.window).window.outs → HasOut (one_sent a)
sent_out a h =
    subst (λ (w : Window). 1 ≤ length w.outs)
    (sym (sent_window (after_send a.time a.window).request (record a { window = (after_send a.time a.window).window }))) h

all_out : (n : ℕ) (a : Acting) → 1 ≤ n → is_idle a.window ≡ false → 1 ≤ a.window.limits.outstanding → HasOut (repeated n one_sent a)
all_out zero a some busy room = absurd (omega (arith, some))
all_out (suc zero) a some busy room = sent_out a (out_then a.time a.window a.window.queued refl busy room)
all_out (suc (suc n)) a some busy room =
    let b = repeated (suc n) one_sent a in
    sent_out b (out_still b.time b.window b.window.queued (all_out (suc n) a (omega arith) busy room))

-- an idle window sends nothing
idle_still : (time : ℕ) (w : Window) (queued : List Outgoing) → w.queued ≡ queued → is_idle w ≡ true → is_idle (sent_of time w queued).window ≡ true
idle_still time w [] e idle = idle
idle_still time w (request ∷ rest) e idle =
    let wrong : false ≡ true = sym (busy_is w.outs) ∙ ap (λ q. are_none q w.outs) (sym e) ∙ idle in absurd (cc)
  where
    busy_is : (outs : List Out) → are_none (request ∷ rest) outs ≡ false
    busy_is [] = refl
    busy_is (out ∷ outs) = refl

all_idle : (n : ℕ) (a : Acting) → is_idle a.window ≡ true → is_idle (repeated n one_sent a).window ≡ true
all_idle zero a idle = idle
all_idle (suc n) a idle =
    let b = repeated n one_sent a in
    ap is_idle (sent_window (after_send b.time b.window).request (record b { window = (after_send b.time b.window).window }))
    ∙ idle_still b.time b.window b.window.queued refl (all_idle n a idle)

pub sent_idle : (a : Acting) → is_idle a.window ≡ true → is_idle (sent a).window ≡ true
sent_idle a idle =
    cond_both (is_given_up a) a (all_sent a) (λ (b : Acting). is_idle b.window ≡ true) (λ _. idle) (λ _. all_idle a.window.limits.outstanding a idle)

-- asking for a time ---------------------------------------------------------------------------------------------

-- some request is left, and the manager asks for a time: one is out, or a writing is given up
pub record Waits (a : Acting) : Type 0 where
  pub busy : is_idle a.window ≡ false
  pub asks : AsksForATime a
  pub out : (is_given_up a ≡ true) ⊎ HasOut a

asks_for : (a : Acting) (time : ℕ) → a.is_leaving ≡ false → wake_in a ≡ Some time → AsksForATime a
asks_for a time stays_on e =
    record {
      wake = max time a.time;
      is = cond-false (a.is_leaving && is_resting a.policy.activity) _ _ (ap (λ b. b && is_resting a.policy.activity) stays_on)
          ∙ ap (not_before a.time) e;
      not_past = omega arith;
    }

pub busy_out : (queued : List Outgoing) (outs : List Out) → 1 ≤ length outs → are_none queued outs ≡ false
busy_out queued [] some = absurd (omega (arith, some))
busy_out [] (out ∷ outs) some = refl
busy_out (x ∷ queued) (out ∷ outs) some = refl

out_waits : (a : Acting) → a.is_leaving ≡ false → is_given_up a ≡ false → HasOut a → Waits a
out_waits a stays_on up some = record { busy = busy; asks = by_outs a.window.outs refl; out = inr some }
  where
    busy : is_idle a.window ≡ false
    busy = busy_out a.window.queued a.window.outs some

    by_outs : (outs : List Out) → a.window.outs ≡ outs → AsksForATime a
    by_outs [] e = let none : length a.window.outs ≡ 0 = ap length e in absurd (omega (arith, none, some))
    by_outs (out ∷ outs) e =
        let next = deadline_is out outs in
        asks_for a next.value stays_on
        (cond-false (is_given_up a) _ _ up ∙ cond-false (is_idle a.window) _ _ busy
        ∙ ap (λ l. next_deadline (record a.window { outs = l })) e ∙ next.is)

pub sent_waits : (a : Acting) → a.is_leaving ≡ false → is_idle a.window ≡ false → 1 ≤ a.window.limits.outstanding → Waits (sent a)
sent_waits a stays_on busy room = by_given_up (is_given_up a) refl
  where
    all : OnlySends a (all_sent a)
    all = sends_all a.window.limits.outstanding a

    by_given_up : (b : Bool) → is_given_up a ≡ b → Waits (sent a)
    by_given_up true up =
        subst Waits (sym (cond-true (is_given_up a) a (all_sent a) up))
        (record { busy = busy; asks = asks_for a a.time stays_on (cond-true (is_given_up a) _ _ up); out = inl up })
    by_given_up false up =
        subst Waits (sym (cond-false (is_given_up a) a (all_sent a) up))
        (out_waits (all_sent a) (all.leaving ∙ stays_on) (up_then ∙ up) (all_out a.window.limits.outstanding a room busy room))
      where
        up_then : is_given_up (all_sent a) ≡ is_given_up a
        up_then = λ i. is_writing ((all.policy i).activity) && (all.void i || not (is_master (all.manager i).standing.state))

-- what is out stays out
some_sent : (by time : ℕ) (w : Window) (queued : List Outgoing) → AnyLate by w.outs → AnyLate by (sent_of time w queued).window.outs
some_sent by time w [] any = any
some_sent by time w (request ∷ rest) any =
    let out = out_at w.limits time 1 request in
    cond_both (nat_lt (length w.outs) w.limits.outstanding) (record { window = record w { queued = rest; outs = w.outs ++ out ∷ [] }; request = Some request })
    (record { window = w; request = None }) (λ (g : Given). AnyLate by g.window.outs) (λ fits. any_left by w.outs (out ∷ []) any) (λ full. any)

all_some : (by n : ℕ) (a : Acting) → AnyLate by a.window.outs → AnyLate by (repeated n one_sent a).window.outs
all_some by zero a any = any
all_some by (suc n) a any =
    let b = repeated n one_sent a in
    subst (λ (w : Window). AnyLate by w.outs)
    (sym (sent_window (after_send b.time b.window).request (record b { window = (after_send b.time b.window).window })))
    (some_sent by b.time b.window b.window.queued (all_some by n a any))

pub sent_some : (by : ℕ) (a : Acting) → AnyLate by a.window.outs → AnyLate by (sent a).window.outs
sent_some by a any =
    cond_both (is_given_up a) a (all_sent a) (λ (b : Acting). AnyLate by b.window.outs) (λ _. any) (λ _. all_some by a.window.limits.outstanding a any)

-- how far away the time is for which a manager asks ---------------------------------------------------------------------

-- the time, and the one for which the manager asks, are at most `by`
pub record IsDueBy (by : ℕ) (a : Acting) : Type 0 where
  pub now : a.time ≤ by
  pub next : (is_given_up a ≡ true) ⊎ AnyLate by a.window.outs

pub due_wake : (by : ℕ) (a : Acting) → IsDueBy by a → a.is_leaving ≡ false → is_idle a.window ≡ false → (wake : ℕ) → wake_of a ≡ Some wake → wake ≤ by
due_wake by a due stays_on busy wake e = by_given_up (is_given_up a) refl
  where
    asked : wake_of a ≡ not_before a.time (wake_in a)
    asked = cond-false (a.is_leaving && is_resting a.policy.activity) _ _ (ap (λ b. b && is_resting a.policy.activity) stays_on)

    later : (o : Option ℕ) → not_before a.time o ≡ Some wake → ((time : ℕ) → o ≡ Some time → time ≤ by) → wake ≤ by
    later None f h = absurd (none-some wake f)
    later (Some time) f h =
        let here = h time refl in
        let now = due.now in
        let same = same_Some (max time a.time) wake f in
        omega (arith, here, now, same)

    by_given_up : (b : Bool) → is_given_up a ≡ b → wake ≤ by
    by_given_up true up =
        later (wake_in a) (sym asked ∙ e)
        (λ time f. let same = same_Some a.time time (sym (cond-true (is_given_up a) _ _ up) ∙ f) in let now = due.now in omega (arith, same, now))
    by_given_up false down =
        later (wake_in a) (sym asked ∙ e)
        (λ time f. elim due.next [
          | inl up ↦ let wrong : true ≡ false = sym up ∙ down in absurd (cc)
          | inr any ↦ next_by a.window.outs time by (sym (cond-false (is_given_up a) _ _ down ∙ cond-false (is_idle a.window) _ _ busy) ∙ f) any
        ])
