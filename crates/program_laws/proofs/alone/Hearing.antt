-- What a manager that is alone hears while it has no request, or a poll is out: nothing that is a request to it, and no answer.
use Rattle.std.proofs.Common.{◌≡◌, ◌∙◌, ℕ, ◌<◌, ◌≤◌, ◌^◌, Bool, true, false, cond, ◌&&◌, not, List, [], ◌∷◌, ◌++◌, length, refl, sym, ap, subst, arith}
use Rattle.std.proofs.lemmas.Bool.{and_parts, cond_both, eqb-true, le-ltb}
use Rattle.std.specs.Prelude.{◌==◌, Option, Some, None, filter, max}
use Rattle.smp_bytes.specs.Field.{number_in}
use Rattle.smp_bytes.specs.Header.{get_resp, set, sm_info}
use Rattle.smp_bytes.specs.Packet.{attribute_id, fault_of, is_response, method}
use Rattle.smp_bytes.specs.declared.smp_fault.SmpFault.{SmpFault}
use Rattle.subnet_view.proofs.Apart.{found_there}
use Rattle.sm_state.specs.Conduct.{is_live}
use Rattle.sm_state.specs.Standing.{active_once_more, info_of}
use Rattle.sm_state.specs.declared.standing.Standing.{Standing}
use Rattle.sm_manager.specs.CallLists.{Call, after_call}
use Rattle.sm_manager.specs.Manager.{IsSentWhole, Manager}
use Rattle.sm_manager.specs.Packets.{Called, answers as ends, done, is_for_sweep, is_info_request, packet_taken, pending_for, refused, request_answered, sweep_answered}
use Rattle.sm_manager.specs.Packets.{unless_spent}
use Rattle.sm_manager.specs.SmInfoAnswers.{controlled, is_control as may_control, replying, served}
use Rattle.sm_manager.specs.Traps.{represses, repressing}
use Rattle.sm_manager.specs.Writing.{is_spent}
use Rattle.sm_manager.specs.declared.fault.ManagerFault.TheVariants.{SequenceSpent}
use Rattle.sm_manager.specs.declared.outgoing.Outgoing.{Outgoing}
use Rattle.sm_manager.specs.declared.pending.Pending.{Pending}
use Rattle.sm_policy.specs.Policy.{is_master, later_by, taken_over, wanting}
use Rattle.sm_policy.specs.declared.policy.Policy.{Policy}
use Rattle.request_window.specs.declared.out.Out.{Out}
use Rattle.request_window.specs.Window.{Window, answers, first_out}
use Rattle.acting_manager.specs.Acting.{Acting, caught_up, collected, is_request}
use Rattle.acting_manager.specs.Heard.{answered, asked, hands_over, heard_by, is_handed, requested, responded, tells_change}
use Rattle.acting_manager.specs.Working.{Told, are_none, is_idle, is_resting, not_before, pause, stood_still, taken, wake_in, wake_of}
use Rattle.manager_laws.specs.WritingEnds.{steps_to_come}
use Rattle.program_laws.specs.Alone.{IsNoWord, is_word}
use Rattle.program_laws.specs.Wakes.{IsBy, IsNoLeave, Line, is_control, next_in, one_if, sets_to_come}
use Rattle.program_laws.proofs.alone.Moves.{no_control, none_there}
use Rattle.program_laws.proofs.alone.Quiet.{IsAwake}
use Rattle.program_laws.proofs.wakes.Makes.{and_false, packet_makes, responds}
use Rattle.program_laws.proofs.wakes.Waking.{looked_manager, looked_window}

-- standing still ------------------------------------------------------------------------------------------------------------

pub wake_now : (a : Acting) (wake : ℕ) → wake_of a ≡ Some wake → a.time ≤ wake
wake_now a wake =
    cond_both (a.is_leaving && is_resting a.policy.activity) None (not_before a.time (wake_in a)) (λ (o : Option ℕ). o ≡ Some wake → a.time ≤ wake)
    (λ _ e. absurd (cc)) (λ _. by_in (wake_in a))
  where
    by_in : (o : Option ℕ) → not_before a.time o ≡ Some wake → a.time ≤ wake
    by_in None e = absurd (cc)
    by_in (Some time) e = let same : max time a.time ≡ wake = cc in omega (arith, same)

-- a manager that is told the time at most two seconds late does not stand still
pub is_awake : (late : ℕ) (line : Line) (a : Acting) → late ≤ pause → IsBy late line.0 (wake_of a) → max line.0 a.time < 2 ^ 64 → IsAwake line a
is_awake late line a short prompt few = by_wake (wake_of a) refl prompt
  where
    by_wake : (o : Option ℕ) → wake_of a ≡ o → IsBy late line.0 o → stood_still a.time (max line.0 a.time) o ≡ false
    by_wake None e by = refl
    by_wake (Some wake) e by =
        let now = wake_now a wake e in
        ap (λ b. not (a.time == 0) && b) (le-ltb (later_by pause wake) (max line.0 a.time) (omega (arith, now, by, short, few))) ∙ and_false (not (a.time == 0))

-- requests of others --------------------------------------------------------------------------------------------------------

-- what a packet that asks something leaves as it is
record AskedSame (m n : Manager) : Type 0 where
  sweep : n.sweep ≡ m.sweep
  writing : n.writing ≡ m.writing
  pending : n.pending ≡ m.pending
  state : n.standing.state ≡ m.standing.state
  lost : n.standing.polls_lost ≡ m.standing.polls_lost

module _ (m : Manager) (bytes : List ℕ) (from : Option ℕ) (asks : is_response bytes ≡ false) (quiet : is_word (info_of m.standing) bytes ≡ false) where
  abbrev Stays : Called → Type 0
  Stays c = AskedSame m c.manager

  same : AskedSame m m
  same = record { sweep = refl; writing = refl; pending = refl; state = refl; lost = refl }

  -- what has the method of an answer is one
  no_reply : {X : Type 0} → (number_in method bytes == get_resp) ≡ true → X
  no_reply e = none_there (is_response bytes) asks (responds bytes (eqb-true (number_in method bytes) get_resp e))

  serves : (number_in attribute_id bytes == sm_info) ≡ true → Stays (unless_spent m (served m bytes from))
  serves info =
      cond_both (is_spent (served m bytes from)) (refused m SequenceSpent) (done (served m bytes from)) Stays (λ _. same)
      (λ _. cond_both (may_control m.standing bytes) (controlled m bytes from) (replying m bytes from) (AskedSame m)
      (λ may. no_control (info_of m.standing) bytes quiet info (and_parts (number_in method bytes == set) _ may).0)
      (λ _. record {
        sweep = refl;
        writing = refl;
        pending = refl;
        state = cond_both (is_live m.standing.conduct) (active_once_more m.standing) m.standing (λ (s : Standing). s.state ≡ m.standing.state)
            (λ _. refl) (λ _. refl);
        lost = cond_both (is_live m.standing.conduct) (active_once_more m.standing) m.standing (λ (s : Standing). s.polls_lost ≡ m.standing.polls_lost)
            (λ _. refl) (λ _. refl);
      }))

  by_pending : (o : Option Pending) → pending_for m bytes ≡ o → Stays (request_answered m bytes o)
  by_pending None e = same
  by_pending (Some p) e = no_reply (and_parts (number_in method bytes == get_resp) _ (found_there (ends bytes) m.pending p e).1).0

  by_fault : (fault : Option SmpFault) → Stays (packet_taken m bytes from fault)
  by_fault (Some why) = same
  by_fault None =
      cond_both (is_info_request bytes) (unless_spent m (served m bytes from)) _ Stays
      (λ e. serves (and_parts (not (is_response bytes)) (number_in attribute_id bytes == sm_info) e).1)
      (λ _. cond_both (represses m bytes) (done (repressing m bytes from)) _ Stays
      (λ _. record { sweep = refl; writing = refl; pending = refl; state = refl; lost = refl })
      (λ _. cond_both (is_for_sweep bytes) (sweep_answered m bytes m.sweep) (request_answered m bytes (pending_for m bytes)) Stays
      (λ for. no_reply (and_parts (number_in method bytes == get_resp) _ for).0) (λ _. by_pending (pending_for m bytes) refl)))

  asked_same : AskedSame m (after_call m (Call.Packet bytes from))
  asked_same = by_fault (fault_of bytes)

  -- and it has the manager send no request
  asked_none : IsSentWhole m.sweep → m.outgoing ≡ [] → filter is_request (after_call m (Call.Packet bytes from)).outgoing ≡ []
  asked_none whole none =
      let made = packet_makes m whole bytes from in
      let sweep : next_in (after_call m (Call.Packet bytes from)).sweep ≡ next_in m.sweep = ap next_in asked_same.sweep in
      let sets : sets_to_come (after_call m (Call.Packet bytes from)) ≡ sets_to_come m = ap (λ o. length (steps_to_come o)) asked_same.writing in
      let paid = made.paid in
      let acks : one_if (is_control bytes) ≡ 0 = no_acks (is_control bytes) refl in
      ap (filter is_request) (made.outgoing ∙ ap (λ packets. packets ++ made.more) none)
      ∙ no_long (filter is_request made.more) (omega (arith, paid, sweep, sets, acks))
    where
      no_acks : (b : Bool) → is_control bytes ≡ b → one_if b ≡ 0
      no_acks false e = refl
      no_acks true e =
          let parts = and_parts (number_in method bytes == set) (number_in attribute_id bytes == sm_info) e in
          no_control (info_of m.standing) bytes quiet parts.1 parts.0

      no_long : (xs : List Outgoing) → length xs ≤ 0 → xs ≡ []
      no_long [] few = refl
      no_long (x ∷ xs) few = absurd (omega (arith, few))

-- what is told --------------------------------------------------------------------------------------------------------------

-- none of the requests that are out has an answer that is no word
abbrev pub Unanswered : Acting → Type 0
Unanswered a =
    (bytes : List ℕ) → is_word (info_of a.manager.standing) bytes ≡ false
    → first_out (answers bytes) a.window.outs ≡ record { outs = a.window.outs; request = None }

-- what is as before once something was told
pub record Heard (a b : Acting) : Type 0 where
  pub window : b.window ≡ a.window
  pub none : filter is_request b.manager.outgoing ≡ []
  pub pending : b.manager.pending ≡ a.manager.pending
  pub state : b.manager.standing.state ≡ a.manager.standing.state
  pub lost : b.manager.standing.polls_lost ≡ a.manager.standing.polls_lost
  pub about : b.policy.activity ≡ a.policy.activity
  pub time : b.time ≡ a.time

module _ (a : Acting) (given : a.manager.outgoing ≡ []) (whole : IsSentWhole a.manager.sweep) (unanswered : Unanswered a) where
  nothing : Heard a a
  nothing = record { window = refl; none = ap (filter is_request) given; pending = refl; state = refl; lost = refl; about = refl; time = refl }

  responds_none : (bytes : List ℕ) (from : Option ℕ) → is_word (info_of a.manager.standing) bytes ≡ false → responded bytes from a ≡ a
  responds_none bytes from quiet =
      let e = unanswered bytes quiet in
      λ i. answered (e i).request bytes from (record a { window = record a.window { outs = (e i).outs } })

  requests : (bytes : List ℕ) (from : Option ℕ) → is_word (info_of a.manager.standing) bytes ≡ false → is_response bytes ≡ false
      → Heard a (requested bytes from a)
  requests bytes from quiet asks = by (is_handed bytes (is_master a.manager.standing.state))
    where
      same_about : (p : Policy)
          → (cond (tells_change bytes) (wanting p) (cond (hands_over bytes && is_master a.manager.standing.state) (taken_over p) p)).activity ≡ p.activity
      same_about p =
          cond_both (tells_change bytes) (wanting p) _ (λ (q : Policy). q.activity ≡ p.activity) (λ _. refl)
          (λ _. cond_both (hands_over bytes && is_master a.manager.standing.state) (taken_over p) p (λ (q : Policy). q.activity ≡ p.activity) (λ _. refl)
          (λ _. refl))

      by : (handed : Bool) → Heard a (record a {
        policy = (requested bytes from a).policy;
        manager = cond handed (after_call a.manager (Call.Packet bytes from)) a.manager;
      })
      by true =
          let s = asked_same a.manager bytes from asks quiet in
          record {
            window = refl;
            none = asked_none a.manager bytes from asks quiet whole given;
            pending = s.pending;
            state = s.state;
            lost = s.lost;
            about = same_about a.policy;
            time = refl;
          }
      by false = record { window = refl; none = ap (filter is_request) given; pending = refl; state = refl; lost = refl; about = same_about a.policy; time = refl }

  hears_by : (bytes : List ℕ) (from : Option ℕ) → is_word (info_of a.manager.standing) bytes ≡ false → (fault : Option SmpFault)
      → Heard a (heard_by bytes from fault a)
  hears_by bytes from quiet (Some why) = nothing
  hears_by bytes from quiet None =
      cond_both (is_response bytes) (responded bytes from a) (asked bytes from a) (Heard a)
      (λ _. subst (Heard a) (sym (responds_none bytes from quiet)) nothing)
      (λ asks. cond_both (a.is_leaving && hands_over bytes) a (requested bytes from a) (Heard a) (λ _. nothing) (λ _. requests bytes from quiet asks))

  pub hears : (what : Told) → IsNoLeave what → IsNoWord what a → Heard a (taken what a)
  hears Told.Time stays quiet = nothing
  hears (Told.Packet bytes from) stays quiet = hears_by bytes from quiet (fault_of bytes)
  hears Told.Look stays quiet = record { window = refl; none = ap (filter is_request) given; pending = refl; state = refl; lost = refl; about = refl; time = refl }
  hears Told.Leave stays quiet = absurd stays

-- once the packets are given out
pub caught_queued : (b : Acting) → filter is_request b.manager.outgoing ≡ [] → b.window.queued ≡ [] → (caught_up b).window.queued ≡ []
caught_queued b none empty =
    ap (λ (w : Window). w.queued) (looked_window (collected b)) ∙ (λ i. empty i ++ none i)

pub caught_out : (b : Acting) → (caught_up b).window.outs ≡ b.window.outs
caught_out b = ap (λ (w : Window). w.outs) (looked_window (collected b))

pub caught_pending : (b : Acting) → (caught_up b).manager.pending ≡ b.manager.pending
caught_pending b = ap (λ (m : Manager). m.pending) (looked_manager (collected b))

pub caught_standing : (b : Acting) → (caught_up b).manager.standing ≡ b.manager.standing
caught_standing b = ap (λ (m : Manager). m.standing) (looked_manager (collected b))

pub idle_lists : (w : Window) → w.queued ≡ [] → w.outs ≡ [] → is_idle w ≡ true
idle_lists w queued outs = λ i. are_none (queued i) (outs i)

pub lists_idle : (queued : List Outgoing) (outs : List Out) → are_none queued outs ≡ true → (queued ≡ []) × (outs ≡ [])
lists_idle [] [] e = (refl, refl)
lists_idle [] (out ∷ outs) e = absurd (cc)
lists_idle (x ∷ queued) [] e = absurd (cc)
lists_idle (x ∷ queued) (out ∷ outs) e = absurd (cc)
