-- Each request of a sweep that is out has its request in the window, or among what the manager has just queued. So it is
-- over once the window is empty.
use Rattle.std.proofs.Common.{◌≡◌, ◌∙◌, ◌⊎◌, inl, inr, ℕ, zero, suc, ◌+◌, ◌<◌, ◌^◌, Bool, true, false, cond, ◌&&◌, not, List, [], ◌∷◌, ◌++◌, length, refl, sym, subst, arith}
use Rattle.std.proofs.lemmas.Bool.{and_parts, cond_both, eqb-true}
use Rattle.std.specs.List.{AllByRecursion}
use Rattle.std.specs.Prelude.{◌==◌, Option, Some, None, is_none, nat_lt}
use Rattle.smp_bytes.specs.Field.{number_in}
use Rattle.smp_bytes.specs.Packet.{attribute_id, attribute_modifier, fault_of, is_directed, is_response, transaction_id}
use Rattle.smp_bytes.specs.declared.smp_fault.SmpFault.{SmpFault}
use Rattle.lft_blocks.specs.Plan.{PlanValue}
use Rattle.sweep.specs.Sweep.{Sweep, is_none_left, transaction_of}
use Rattle.sweep.specs.declared.request.Request.{Request}
use Rattle.sm_state.specs.Standing.{one_more}
use Rattle.sm_manager.specs.CallLists.{Call, after_call}
use Rattle.sm_manager.specs.Manager.{Manager, is_running, new_manager}
use Rattle.sm_manager.specs.Packets.{after_packet}
use Rattle.sm_manager.specs.Writing.{is_written}
use Rattle.sm_manager.specs.declared.outgoing.Outgoing.{Outgoing}
use Rattle.sm_policy.specs.Judged.{cause_of, judged, wrote}
use Rattle.sm_policy.specs.Policy.{Decision, is_master}
use Rattle.sm_policy.specs.Resting.{rested}
use Rattle.sm_policy.specs.Swept.{swept}
use Rattle.sm_policy.specs.declared.act.Act.{Act}
use Rattle.sm_policy.specs.declared.act.Act.TheVariants as act
use Rattle.sm_policy.specs.declared.activity.Activity.{Activity}
use Rattle.sm_policy.specs.declared.activity.Activity.TheVariants as activity
use Rattle.sm_policy.specs.declared.write_cause.WriteCause.{WriteCause}
use Rattle.request_window.specs.declared.late.Late.{Late}
use Rattle.request_window.specs.declared.late.Late.TheVariants.{Again, GivenUp}
use Rattle.request_window.specs.declared.limits.Limits.{Limits}
use Rattle.request_window.specs.declared.out.Out.{Out}
use Rattle.request_window.specs.Window.{Given, LateOutcome, TakenOut, Window, after_overdue, after_send, answers}
use Rattle.request_window.specs.Window.{behind, first_out, is_late, is_sent_again, judged_late, kept_behind, late_in, out_at, sent_of}
use Rattle.request_window.specs.Window.{unanswered_of, unsent_of}
use Rattle.acting_manager.specs.Acting.{Acting, caught_up, collected, entered, looked, new_acting, noted}
use Rattle.acting_manager.specs.Acts.{about_plan, acted, acted_in, decided, done_by, is_whole, left_in, noted_unplanned, rival_seen}
use Rattle.acting_manager.specs.Heard.{answered, asked, given_up, handed_in, hands_over, heard_by, is_handed, policy_asked, requested, responded, timed_out, told}
use Rattle.acting_manager.specs.Planned.{comparison_of, planned}
use Rattle.acting_manager.specs.Working.{Told, acted_if_idle, all_overdue, all_sent, are_none, dropped, dropped_one, is_given_up, is_idle, late_done}
use Rattle.acting_manager.specs.Working.{one_overdue, one_sent, out_dropped, queued_dropped, repeated, sent, sent_one, stopped, taken}
use Rattle.acting_manager.specs.Working.{told_time}
use Rattle.acting_manager.specs.declared.note.Note.TheVariants.{Swept, Wrote}
use Rattle.manager_laws.proofs.Generations.{KnowsSmall}
use Rattle.program_laws.specs.ManagedEnds.{SweepsLoseNothing, WritingsLoseNothing}
use Rattle.program_laws.specs.Wakes.{HasDecided, IsNoLeave, Line, NoneLeaves, after_line, after_lines, before_deciding}
use Rattle.program_laws.proofs.wakes.Requests.{AnyAsks, Asks, any_left, any_request, any_right}
use Rattle.program_laws.proofs.wakes.StepTurns.{Steps, number_small, steps_emptied, steps_first, steps_more, steps_turn, timeout_steps, writing_over}
use Rattle.program_laws.proofs.wakes.Turns.{Good, Heard, IsOther, Refuses, Takes, Turn, asked_turn, begin_turn}
use Rattle.program_laws.proofs.wakes.Turns.{good_more, handover_turn, heard, poll_turn, raise_turn, rediscover_turn, timeout_turn, write_turn, yield_turn}
use Rattle.program_laws.proofs.wakes.Settled.{settled_given}

-- where requests wait -----------------------------------------------------------------------------------

abbrev pub AnyOut : ℕ → List Out → Type 0
AnyOut t [] = ⊥
AnyOut t (out ∷ outs) = Asks t out.request ⊎ AnyOut t outs

out_left : (t : ℕ) (xs ys : List Out) → AnyOut t xs → AnyOut t (xs ++ ys)
out_left t [] ys any = absurd any
out_left t (x ∷ xs) ys (inl here) = inl here
out_left t (x ∷ xs) ys (inr any) = inr (out_left t xs ys any)

out_right : (t : ℕ) (xs ys : List Out) → AnyOut t ys → AnyOut t (xs ++ ys)
out_right t [] ys any = any
out_right t (x ∷ xs) ys any = inr (out_right t xs ys any)

abbrev pub InWindow : ℕ → Window → Type 0
InWindow t w = AnyAsks t w.queued ⊎ AnyOut t w.outs

abbrev pub Awaited : Acting → ℕ → Type 0
Awaited a t = AnyAsks t a.manager.outgoing ⊎ InWindow t a.window

-- for each request of the sweep that is out, a request waits, is out, or was just queued
pub record IsCovered (a : Acting) : Type 0 where
  pub newest : a.newest < 2 ^ 32
  pub knows : KnowsSmall a.manager.store
  pub good : Good (Awaited a) a.manager.sweep
  pub steps : Steps (Awaited a) a.manager

as_is : (a b : Acting) → b.manager ≡ a.manager → b.window ≡ a.window → b.newest ≡ a.newest → IsCovered a → IsCovered b
as_is a b manager window newest c =
    record {
      newest = subst (λ (n : ℕ). n < 2 ^ 32) (sym newest) c.newest;
      knows = subst (λ (m : Manager). KnowsSmall m.store) (sym manager) c.knows;
      good = good_as (sym manager) (sym window) c.good;
      steps = steps_as (sym manager) (sym window) c.steps;
    }
  where
    steps_as : {m n : Manager} {w v : Window} → m ≡ n → w ≡ v → Steps (λ t. AnyAsks t m.outgoing ⊎ InWindow t w) m
        → Steps (λ t. AnyAsks t n.outgoing ⊎ InWindow t v) n
    steps_as {m} {n} {w} {v} e f s =
        subst (λ (x : Window). Steps (λ t. AnyAsks t n.outgoing ⊎ InWindow t x) n) f
        (subst (λ (x : Manager). Steps (λ t. AnyAsks t x.outgoing ⊎ InWindow t w) x) e s)

    good_as : {m n : Manager} {w v : Window} → m ≡ n → w ≡ v → Good (λ t. AnyAsks t m.outgoing ⊎ InWindow t w) m.sweep
        → Good (λ t. AnyAsks t n.outgoing ⊎ InWindow t v) n.sweep
    good_as {m} {n} {w} {v} e f g =
        subst (λ (x : Window). Good (λ t. AnyAsks t n.outgoing ⊎ InWindow t x) n.sweep) f
        (subst (λ (x : Manager). Good (λ t. AnyAsks t x.outgoing ⊎ InWindow t w) x.sweep) e g)

-- a call of the manager, as requests leave the window -----------------------------------------------------

ends : (P : ℕ → Type 0) (a : Acting) (w : Window) (m : Manager) → IsCovered a → Turn (Awaited a) P a.manager m
    → Steps (λ t. (Awaited a t × P t) ⊎ AnyAsks t m.outgoing) m
    → ((t : ℕ) → P t → InWindow t a.window → InWindow t w) → IsCovered (record a { window = w; manager = m })
ends P a w m c turn steps moves =
    record {
      newest = c.newest;
      knows = turn.knows;
      good = good_more (λ t. (Awaited a t × P t) ⊎ AnyAsks t m.outgoing) (λ t. AnyAsks t m.outgoing ⊎ InWindow t w) (λ t big. waits t) m.sweep turn.good;
      steps = steps_more (λ t. (Awaited a t × P t) ⊎ AnyAsks t m.outgoing) (λ t. AnyAsks t m.outgoing ⊎ InWindow t w) m waits steps;
    }
  where
    waits : (t : ℕ) → (Awaited a t × P t) ⊎ AnyAsks t m.outgoing → AnyAsks t m.outgoing ⊎ InWindow t w
    waits t (inl h) = elim h.0 [ inl any ↦ inl (turn.keeps t any) | inr there ↦ inr (moves t h.1 there) ]
    waits t (inr any) = inl any

abbrev pub AnyOther : ℕ → Type 0
AnyOther t = Unit {0}

calls : (a : Acting) (call : Call) → IsCovered a → Turn (Awaited a) AnyOther a.manager (after_call a.manager call)
    → IsCovered (record a { manager = after_call a.manager call })
calls a call c turn =
    ends AnyOther a a.window (after_call a.manager call) c turn (steps_turn (Awaited a) AnyOther a.manager call c.steps (λ _ _ _ _ _. tt))
    (λ t _ there. there)

-- requests move within the window
moves : (a : Acting) (w : Window) → IsCovered a → ((t : ℕ) → InWindow t a.window → InWindow t w) → IsCovered (record a { window = w })
moves a w c more =
    record {
      newest = c.newest;
      knows = c.knows;
      good = good_more (Awaited a) (λ t. AnyAsks t a.manager.outgoing ⊎ InWindow t w) (λ t big. waits t) a.manager.sweep c.good;
      steps = steps_more (Awaited a) (λ t. AnyAsks t a.manager.outgoing ⊎ InWindow t w) a.manager waits c.steps;
    }
  where
    waits : (t : ℕ) → Awaited a t → AnyAsks t a.manager.outgoing ⊎ InWindow t w
    waits t (inl any) = inl any
    waits t (inr there) = inr (more t there)

-- one leaves the window, and the manager gives it up
removes : (request : Outgoing) (a : Acting) (w : Window) → IsCovered a
    → ((t : ℕ) → InWindow t a.window → Asks t request ⊎ InWindow t w) → IsCovered (timed_out request (record a { window = w }))
removes request a w c split =
    ends (IsOther (number_in transaction_id request.packet)) a w _ c
    (timeout_turn (Awaited a) a.manager c.knows c.good (number_in transaction_id request.packet))
    (timeout_steps (Awaited a) a.manager c.steps (number_in transaction_id request.packet))
    (λ t other there. elim (split t there) [ inl asks ↦ absurd (other (sym asks.1)) | inr rest ↦ rest ])

times_out : (request : Outgoing) (a : Acting) → IsCovered a → IsCovered (timed_out request a)
times_out request a c = removes request a a.window c (λ t there. inr there)

abbrev pub Keeps : (Acting → Acting) → Type 0
Keeps step = (a : Acting) → IsCovered a → IsCovered (step a)

repeats : (n : ℕ) (step : Acting → Acting) → Keeps step → Keeps (repeated n step)
repeats zero step each a c = c
repeats (suc n) step each a c = each (repeated n step a) (repeats n step each a c)

-- catching up -------------------------------------------------------------------------------------------------

pub still_awaited : (a : Acting) (t : ℕ) → Awaited a t → Awaited (collected a) t
still_awaited a t (inl any) = inr (inl (any_right t a.window.queued _ (any_request t a.manager.outgoing any)))
still_awaited a t (inr (inl queued)) = inr (inl (any_left t a.window.queued _ queued))
still_awaited a t (inr (inr out)) = inr (inr out)

collects : Keeps collected
collects a c =
    record {
      newest = c.newest;
      knows = c.knows;
      good = good_more (Awaited a) (Awaited (collected a)) (λ t big. still_awaited a t) a.manager.sweep c.good;
      steps = steps_emptied (Awaited (collected a)) a.manager
          (steps_more (Awaited a) (Awaited (collected a)) a.manager (still_awaited a) c.steps);
    }

looks : Keeps looked
looks a c =
    cond_both _ a (entered a.manager.standing.state a) IsCovered (λ _. c) (λ _. as_is a (entered a.manager.standing.state a) refl refl refl c)

catches_up : Keeps caught_up
catches_up a c = looks (collected a) (collects a c)

-- late requests -----------------------------------------------------------------------------------------------------

-- the request that is given up, if one is
abbrev pub IsGone : ℕ → Option Late → Type 0
IsGone t None = ⊥
IsGone t (Some (Again request)) = ⊥
IsGone t (Some (GivenUp request)) = Asks t request

pub late_keeps : (limits : Limits) (time t : ℕ) (outs : List Out) → AnyOut t outs
    → IsGone t (late_in limits time outs).late ⊎ AnyOut t (late_in limits time outs).outs
late_keeps limits time t [] any = absurd any
late_keeps limits time t (out ∷ outs) any =
    cond_both (is_late time out) (judged_late limits time out outs) (behind out (late_in limits time outs))
    (λ (l : LateOutcome). IsGone t l.late ⊎ AnyOut t l.outs)
    (λ _. cond_both (is_sent_again limits out)
    (record { outs = out_at limits time (out.tries + 1) out.request ∷ outs; late = Some (Again out.request) })
    (record { outs = outs; late = Some (GivenUp out.request) })
    (λ (l : LateOutcome). IsGone t l.late ⊎ AnyOut t l.outs) (λ _. inr any) (λ _. any))
    (λ _. elim any [
      | inl here ↦ inr (inl here)
      | inr rest ↦ elim (late_keeps limits time t outs rest) [ inl gone ↦ inl gone | inr out ↦ inr (inr out) ]
    ])

late_ends : (late : Option Late) (a : Acting) (w : Window) → IsCovered a → ((t : ℕ) → InWindow t a.window → IsGone t late ⊎ InWindow t w)
    → IsCovered (late_done late (record a { window = w }))
late_ends None a w c split = moves a w c (λ t there. elim (split t there) [ inl none ↦ absurd none | inr rest ↦ rest ])
late_ends (Some (Again request)) a w c split =
    as_is (record a { window = w }) _ refl refl refl (moves a w c (λ t there. elim (split t there) [ inl none ↦ absurd none | inr rest ↦ rest ]))
late_ends (Some (GivenUp request)) a w c split =
    as_is (timed_out request (record a { window = w })) _ refl refl refl (removes request a w c split)

overdue : Keeps one_overdue
overdue a c =
    late_ends (late_in a.window.limits a.time a.window.outs).late a (after_overdue a.time a.window) c
    (λ t. elim [
      | inl queued ↦ inr (inl queued)
      | inr out ↦ elim (late_keeps a.window.limits a.time t a.window.outs out) [ inl gone ↦ inl gone | inr rest ↦ inr (inr rest) ]
    ])

all_end : Keeps all_overdue
all_end a c = repeats (length a.window.outs) one_overdue overdue a c

-- dropping --------------------------------------------------------------------------------------------------------------

queued_by : (a : Acting) (queue : List Outgoing) → a.window.queued ≡ queue → IsCovered a
    → IsCovered (dropped_one (unsent_of a.window queue).request (record a { window = (unsent_of a.window queue).window }))
queued_by a [] e c = c
queued_by a (out ∷ rest) e c =
    removes out a (record a.window { queued = rest }) c
    (λ t. elim [
      | inl queued ↦ split t (subst (AnyAsks t) e queued)
      | inr there ↦ inr (inr there)
    ])
  where
    split : (t : ℕ) → AnyAsks t (out ∷ rest) → Asks t out ⊎ InWindow t (record a.window { queued = rest })
    split t (inl here) = inl here
    split t (inr later) = inr (inl later)

outs_by : (a : Acting) (outs : List Out) → a.window.outs ≡ outs → IsCovered a
    → IsCovered (dropped_one (unanswered_of a.window outs).request (record a { window = (unanswered_of a.window outs).window }))
outs_by a [] e c = c
outs_by a (out ∷ rest) e c =
    removes out.request a (record a.window { outs = rest }) c
    (λ t. elim [
      | inl queued ↦ inr (inl queued)
      | inr there ↦ split t (subst (AnyOut t) e there)
    ])
  where
    split : (t : ℕ) → AnyOut t (out ∷ rest) → Asks t out.request ⊎ InWindow t (record a.window { outs = rest })
    split t (inl here) = inl here
    split t (inr later) = inr (inr later)

drops_queued : Keeps queued_dropped
drops_queued a c = queued_by a a.window.queued refl c

drops_out : Keeps out_dropped
drops_out a c = outs_by a a.window.outs refl c

drops : Keeps dropped
drops a c =
    let unqueued = repeated (length a.window.queued) queued_dropped a in
    repeats (length unqueued.window.outs) out_dropped drops_out unqueued (repeats (length a.window.queued) queued_dropped drops_queued a c)

stops : Keeps stopped
stops a c =
    cond_both (is_given_up a) (collected (dropped a)) a IsCovered (λ _. collects (dropped a) (drops a c)) (λ _. c)

-- sending ---------------------------------------------------------------------------------------------------------------

pub sent_keeps : (time t : ℕ) (w : Window) (queue : List Outgoing) → w.queued ≡ queue → InWindow t w → InWindow t (sent_of time w queue).window
sent_keeps time t w [] e there = there
sent_keeps time t w (request ∷ rest) e there =
    let out = out_at w.limits time 1 request in
    cond_both (nat_lt (length w.outs) w.limits.outstanding) (record { window = record w { queued = rest; outs = w.outs ++ out ∷ [] }; request = Some request })
    (record { window = w; request = None }) (λ (g : Given). InWindow t g.window)
    (λ _. elim there [
      | inl queued ↦ split (subst (AnyAsks t) e queued)
      | inr outs ↦ inr (out_left t w.outs (out ∷ []) outs)
    ])
    (λ _. there)
  where
    split : AnyAsks t (request ∷ rest) → AnyAsks t rest ⊎ AnyOut t (w.outs ++ out_at w.limits time 1 request ∷ [])
    split (inl here) = inr (out_right t w.outs (out_at w.limits time 1 request ∷ []) (inl here))
    split (inr later) = inl later

sends_it : (request : Option Outgoing) → Keeps (sent_one request)
sends_it None a c = c
sends_it (Some request) a c = as_is a _ refl refl refl c

sends_one : Keeps one_sent
sends_one a c =
    let w = (after_send a.time a.window).window in
    sends_it (after_send a.time a.window).request (record a { window = w })
    (moves a w c (λ t there. sent_keeps a.time t a.window a.window.queued refl there))

sends : Keeps sent
sends a c =
    cond_both (is_given_up a) a (all_sent a) IsCovered (λ _. c) (λ _. repeats a.window.limits.outstanding one_sent sends_one a c)

-- packets -----------------------------------------------------------------------------------------------------------------

-- the request that was taken out, if one was
abbrev pub IsGiven : ℕ → Option Outgoing → Type 0
IsGiven t None = ⊥
IsGiven t (Some request) = Asks t request

pub taken_keeps : (test : Out → Bool) (t : ℕ) (outs : List Out) → AnyOut t outs
    → IsGiven t (first_out test outs).request ⊎ AnyOut t (first_out test outs).outs
taken_keeps test t [] any = absurd any
taken_keeps test t (out ∷ outs) any =
    cond_both (test out) (record { outs = outs; request = Some out.request }) (kept_behind out (first_out test outs))
    (λ (x : TakenOut). IsGiven t x.request ⊎ AnyOut t x.outs)
    (λ _. any)
    (λ _. elim any [
      | inl here ↦ inr (inl here)
      | inr rest ↦ elim (taken_keeps test t outs rest) [ inl gone ↦ inl gone | inr out ↦ inr (inr out) ]
    ])

-- the packet has the request's TransactionID and, if the request is directed, so is the packet
abbrev pub IsAnswered : List ℕ → Option Outgoing → Type 0
IsAnswered packet None = Unit {0}
IsAnswered packet (Some request) =
    (number_in transaction_id packet ≡ number_in transaction_id request.packet)
    × (is_directed request.packet ≡ true → is_directed packet ≡ true)

of_class : (a b : Bool) → cond a b (not b) ≡ true → b ≡ true → a ≡ true
of_class true b e f = refl
of_class false true e f = e
of_class false false e f = f

pub taken_alike : (packet : List ℕ) (outs : List Out) → IsAnswered packet (first_out (answers packet) outs).request
taken_alike packet [] = tt
taken_alike packet (out ∷ outs) =
    cond_both (answers packet out) (record { outs = outs; request = Some out.request }) (kept_behind out (first_out (answers packet) outs))
    (λ (x : TakenOut). IsAnswered packet x.request)
    (λ yes.
    let request = out.request.packet in
    let alike = (and_parts (is_response packet) _ yes).1 in
    let tids = and_parts (number_in transaction_id packet == number_in transaction_id request) _ alike in
    let kinds = and_parts (number_in attribute_id packet == number_in attribute_id request) _ tids.1 in
    let classes = and_parts (number_in attribute_modifier packet == number_in attribute_modifier request) _ kinds.1 in
    (eqb-true _ _ tids.0, of_class (is_directed packet) (is_directed request) classes.1))
    (λ _. taken_alike packet outs)

responds : (packet : List ℕ) (from : Option ℕ) → is_response packet ≡ true → Keeps (responded packet from)
responds packet from response a c =
    by_request (first_out (answers packet) a.window.outs).request (λ t. taken_keeps (answers packet) t a.window.outs)
    (taken_alike packet a.window.outs)
  where
    w : Window
    w = record a.window { outs = (first_out (answers packet) a.window.outs).outs }

    b : Acting
    b = record a { window = w }

    by_request : (o : Option Outgoing) → ((t : ℕ) → AnyOut t a.window.outs → IsGiven t o ⊎ AnyOut t w.outs) → IsAnswered packet o
        → IsCovered (answered o packet from b)
    by_request None split alike =
        moves a w c (λ t. elim [ inl queued ↦ inl queued | inr out ↦ elim (split t out) [ inl none ↦ absurd none | inr rest ↦ inr rest ] ])
    by_request (Some request) split alike = by_heard (heard (Awaited a) a.manager c.knows c.good packet from response c.steps.rising)
      where
        m : Manager
        m = after_call a.manager (Call.Packet packet from)

        in_window : (t : ℕ) → InWindow t a.window → Asks t request ⊎ InWindow t w
        in_window t (inl queued) = inr (inl queued)
        in_window t (inr out) = elim (split t out) [ inl asks ↦ inl asks | inr rest ↦ inr (inr rest) ]

        by_taken : (is_taken : Bool) → IsCovered (record b { manager = m }) → IsCovered (handed_in request packet is_taken (record b { manager = m }))
        by_taken true d = as_is (record b { manager = m }) (told packet (record b { manager = m })) refl refl refl d
        by_taken false d =
            as_is (timed_out request (record b { manager = m })) (given_up request (record b { manager = m })) refl refl refl
            (times_out request (record b { manager = m }) d)

        by_heard : Heard (Awaited a) a.manager packet (after_packet a.manager packet from)
            → IsCovered (handed_in request packet (is_none (after_packet a.manager packet from).fault) (record b { manager = m }))
        by_heard (Refuses same refused) =
            subst (λ (x : Manager). IsCovered (handed_in request packet (is_none (after_packet a.manager packet from).fault) (record b { manager = x })))
            (sym same)
            (subst (λ (t : Bool). IsCovered (handed_in request packet t b)) (sym refused)
            (as_is (timed_out request b) (given_up request b) refl refl refl (removes request a w c in_window)))
        by_heard (Takes turn none) =
            by_taken (is_none (after_packet a.manager packet from).fault)
            (ends (λ t. is_directed packet ≡ true → IsOther (number_in transaction_id packet) t) a w m c turn
            (steps_turn (Awaited a) (λ t. is_directed packet ≡ true → IsOther (number_in transaction_id packet) t) a.manager (Call.Packet packet from) c.steps
            (λ numbers p there step still goes. none p there (number_small (Awaited a) a.manager c.steps p there) still goes))
            (λ t out there. elim (in_window t there) [
              | inl asks ↦ absurd (out (alike.1 asks.0) (sym asks.1 ∙ sym alike.0))
              | inr rest ↦ rest
            ]))

requests : (packet : List ℕ) (from : Option ℕ) → is_response packet ≡ false → Keeps (requested packet from)
requests packet from asks a c = by_handed (is_handed packet (is_master a.manager.standing.state))
  where
    by_handed : (handed : Bool) → IsCovered (record a {
      policy = policy_asked packet (is_master a.manager.standing.state) a.policy;
      manager = cond handed (after_call a.manager (Call.Packet packet from)) a.manager;
    })
    by_handed true =
        let m = after_call a.manager (Call.Packet packet from) in
        as_is (record a { manager = m }) _ refl refl refl (calls a (Call.Packet packet from) c (asked_turn (Awaited a) a.manager c.knows c.good packet from asks))
    by_handed false = as_is a _ refl refl refl c

hears_by : (packet : List ℕ) (from : Option ℕ) (fault : Option SmpFault) → Keeps (heard_by packet from fault)
hears_by packet from (Some why) a c = c
hears_by packet from None a c =
    cond_both (is_response packet) (responded packet from a) (asked packet from a) IsCovered (λ response. responds packet from response a c)
    (λ asks. cond_both (a.is_leaving && hands_over packet) a (requested packet from a) IsCovered (λ _. c) (λ _. requests packet from asks a c))

takes : (what : Told) → IsNoLeave what → Keeps (taken what)
takes Told.Time stays a c = c
takes (Told.Packet bytes from) stays a c = hears_by bytes from (fault_of bytes) a c
takes Told.Look stays a c = as_is a (taken Told.Look a) refl refl refl c
takes Told.Leave stays a c = absurd stays

pub tells_time : (time : ℕ) → Keeps (told_time time)
tells_time time a c =
    cond_both _ _ _ IsCovered (λ _. as_is a _ refl refl refl c) (λ _. as_is a _ refl refl refl c)

-- acts ------------------------------------------------------------------------------------------------------------------

calls_then : (a b : Acting) (call : Call) → IsCovered a → Turn (Awaited a) AnyOther a.manager (after_call a.manager call)
    → b.manager ≡ after_call a.manager call → b.window ≡ a.window → b.newest ≡ a.newest → IsCovered b
calls_then a b call c turn manager window newest = as_is (record a { manager = after_call a.manager call }) b manager window newest (calls a call c turn)

hands_over_then : (a b : Acting) → IsCovered a → b.manager ≡ after_call a.manager Call.Handover → b.window ≡ a.window → b.newest ≡ a.newest → IsCovered b
hands_over_then a b c = calls_then a b Call.Handover c (handover_turn (Awaited a) a.manager c.knows c.good)

writes_if : (what : Act) (cause : WriteCause) (plan : Option PlanValue) → Keeps (about_plan what cause plan)
writes_if act.Write cause (Some plan) a c =
    calls_then a _ Call.WriteSteps c (write_turn (Awaited a) a.manager c.knows c.good) refl refl refl
writes_if act.Write cause None a c = c
writes_if act.Settle cause plan a c = hands_over_then a _ c refl refl refl
writes_if act.Wait cause plan a c = c
writes_if act.Poll cause plan a c = c
writes_if act.Announce cause plan a c = c
writes_if act.Sweep cause plan a c = c
writes_if act.Rediscover cause plan a c = c
writes_if act.HandOver cause plan a c = c
writes_if act.Yield cause plan a c = c
writes_if act.Judge cause plan a c = c

notes_unplanned : (plan : Option PlanValue) → Keeps (noted_unplanned plan)
notes_unplanned None a c = as_is a _ refl refl refl c
notes_unplanned (Some plan) a c = c

sweeps : Keeps (done_by act.Sweep)
sweeps a c =
    let floor = one_more a.newest in
    let few = c.newest in
    let raised = calls a (Call.Raise floor) c
    (raise_turn (Awaited a) a.manager c.knows c.good floor (let small : floor < 2 ^ 32 = omega (arith, few) in small)) in
    let b = record a { manager = after_call a.manager (Call.Raise floor); newest = floor } in
    let here : IsCovered b = record { newest = omega (arith, few); knows = raised.knows; good = raised.good; steps = raised.steps } in
    calls_then b (done_by act.Sweep a) Call.BeginSweep here (begin_turn (Awaited b) b.manager here.knows here.good) refl refl refl

does : (what : Act) → Keeps (done_by what)
does act.Wait a c = c
does act.Poll a c = calls_then a _ (Call.Poll None) c (poll_turn (Awaited a) a.manager c.knows c.good None) refl refl refl
does act.Announce a c = as_is a _ refl refl refl c
does act.Sweep a c = sweeps a c
does act.Rediscover a c = calls_then a _ Call.Rediscover c (rediscover_turn (Awaited a) a.manager c.knows c.good) refl refl refl
does act.HandOver a c = hands_over_then a _ c refl refl refl
does act.Yield a c = calls_then a _ Call.Yield c (yield_turn (Awaited a) a.manager c.knows c.good) refl refl refl
does act.Judge a c =
    let plan = planned a.manager in
    let d = judged a.time (comparison_of a.kept plan) a.reads.ports a.policy in
    let cause = cause_of (comparison_of a.kept plan) a.reads.ports a.policy in
    writes_if d.act cause plan (record (noted_unplanned plan a) { policy = d.policy })
    (as_is (noted_unplanned plan a) _ refl refl refl (notes_unplanned plan a c))
does act.Write a c = c
does act.Settle a c = c

decides : (d : Decision) → Keeps (decided d)
decides d a c = does d.act (record a { policy = d.policy }) (as_is a _ refl refl refl c)

acts_in : (what : Activity) → Keeps (acted_in what)
acts_in activity.Rests a c = decides (rested a.time a.policy) a c
acts_in activity.Sweeps a c =
    decides (swept a.time (is_whole a.manager) (rival_seen a.manager) a.policy) (noted (Swept (is_whole a.manager)) a) (as_is a _ refl refl refl c)
acts_in activity.Writes a c =
    decides (wrote a.time (is_written a.manager) a.policy) (noted (Wrote (is_written a.manager)) a) (as_is a _ refl refl refl c)
acts_in activity.Hands a c = as_is a _ refl refl refl c

leaves_in : (what : Activity) → Keeps (left_in what)
leaves_in activity.Rests a c = c
leaves_in activity.Sweeps a c = calls_then a _ Call.Yield c (yield_turn (Awaited a) a.manager c.knows c.good) refl refl refl
leaves_in activity.Writes a c = c
leaves_in activity.Hands a c = as_is a _ refl refl refl c

acts : Keeps acted
acts a c =
    cond_both a.is_leaving (left_in a.policy.activity a) (acted_in a.policy.activity a) IsCovered (λ _. leaves_in a.policy.activity a c)
    (λ _. acts_in a.policy.activity a c)

acts_if_idle : Keeps acted_if_idle
acts_if_idle a c =
    cond_both (is_idle a.window) (caught_up (acted a)) a IsCovered (λ _. catches_up (acted a) (acts a c)) (λ _. c)

-- lines -------------------------------------------------------------------------------------------------------------------

pub before : (line : Line) → IsNoLeave line.1 → Keeps (before_deciding line)
before line stays a c =
    let b = taken line.1 (told_time line.0 a) in
    let heard = takes line.1 stays (told_time line.0 a) (tells_time line.0 a c) in
    let stop = stops (caught_up b) (catches_up b heard) in
    catches_up (all_overdue (stopped (caught_up b))) (all_end (stopped (caught_up b)) stop)

a_line : (line : Line) → IsNoLeave line.1 → Keeps (after_line line)
a_line line stays a c =
    let x = before_deciding line a in
    as_is (sent (acted_if_idle x)) _ refl refl refl (sends (acted_if_idle x) (acts_if_idle x (before line stays a c)))

all_lines : (lines : List Line) → NoneLeaves lines → Keeps (after_lines lines)
all_lines [] stays a c = c
all_lines (line ∷ lines) stays a c = all_lines lines stays.1 (after_line line a) (a_line line stays.0 a c)

pub has_covered : (a : Acting) (h : HasDecided a) → h.newest < 2 ^ 32 → NoneLeaves h.lines → IsCovered a
has_covered a h few stays =
    subst IsCovered h.are (all_lines h.lines stays
    (new_acting (new_manager h.port_guid h.port h.priority h.conduct h.planning) h.timing h.limits h.newest)
    (record { newest = few; knows = record { floor = 1; told = []; is = refl; small = tt; few = omega arith }; good = tt; steps = steps_first }))

-- where nothing is left ---------------------------------------------------------------------------------------------------

pub none_waits : (t : ℕ) (queued : List Outgoing) (outs : List Out) → are_none queued outs ≡ true → AnyAsks t queued ⊎ AnyOut t outs → ⊥
none_waits t [] [] idle (inl none) = none
none_waits t [] [] idle (inr none) = none
none_waits t [] (out ∷ outs) idle any = absurd (cc)
none_waits t (x ∷ queued) [] idle any = absurd (cc)
none_waits t (x ∷ queued) (out ∷ outs) idle any = absurd (cc)

-- then the sweep does not run
is_over : (W : ℕ → Type 0) (o : Option Sweep) → Good W o → ((t : ℕ) → W t → ⊥) → is_running o ≡ false
is_over W None g none = refl
is_over W (Some s) g none = by_out s.outstanding refl
  where
    by_out : (outstanding : List Request) → s.outstanding ≡ outstanding → is_running (Some s) ≡ false
    by_out [] e = λ i. not (is_none_left (g.sent i) && is_none_left (e i))
    by_out (r ∷ rest) e =
        let all = subst (λ (rs : List Request). AllByRecursion (λ (x : Request). W (transaction_of s.generation x.number)) rs) e g.waits in
        absurd (none (transaction_of s.generation r.number) all.0)

pub sweeps_lose_nothing : SweepsLoseNothing
sweeps_lose_nothing a line h few stays stay idle =
    let x = before_deciding line a in
    let c = before line stay a (has_covered a h few stays) in
    let given : x.manager.outgoing ≡ [] = settled_given line a in
    is_over (Awaited x) x.manager.sweep c.good (λ t. elim [
      | inl any ↦ subst (AnyAsks t) given any
      | inr there ↦ none_waits t x.window.queued x.window.outs idle there
    ])

-- nor does a step of a writing wait
pub writings_lose_nothing : WritingsLoseNothing
writings_lose_nothing a line h few stays stay idle numbers =
    let x = before_deciding line a in
    let c = before line stay a (has_covered a h few stays) in
    let given : x.manager.outgoing ≡ [] = settled_given line a in
    writing_over (Awaited x) x.manager c.steps numbers (λ t. elim [
      | inl any ↦ subst (AnyAsks t) given any
      | inr there ↦ none_waits t x.window.queued x.window.outs idle there
    ])
