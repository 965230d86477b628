-- What becomes of the requests of a sweep that are out when its manager is called: one is over at most, and each new
-- one is queued.
use Rattle.std.proofs.Common.{◌≡◌, ◌∙◌, ◌⊎◌, append-nil, inl, inr, ℕ, ◌+◌, ◌<◌, ◌≤◌, ◌^◌, ◌-◌, Bool, true, false, cond, not, List, [], ◌∷◌, ◌++◌, length, replicate, refl, sym, ap, subst, arith}
use Rattle.std.proofs.lemmas.Bool.{and_parts, cond_both, eqb-false, eqb-true, le-leb, leb-false, cond-false, leb-true}
use Rattle.std.specs.List.{AllByRecursion}
use Rattle.std.specs.Prelude.{◌==◌, Option, Some, None, Result, Ok, Err, find, is_none, is_some, nat_le, Contains}
use Rattle.smp_bytes.specs.Field.{number_in}
use Rattle.smp_bytes.specs.Header.{get, get_resp, sm_info}
use Rattle.smp_bytes.specs.Packet.{attribute_id, fault_of, is_directed, is_response, method, status, transaction_id}
use Rattle.smp_bytes.specs.declared.smp_fault.SmpFault.{SmpFault}
use Rattle.subnet_view.proofs.Apart.{found_there}
use Rattle.sweep.specs.declared.answer.Answer.{Answer}
use Rattle.sweep.specs.declared.fault.SweepFault.{SweepFault}
use Rattle.sweep.specs.declared.fault.SweepFault.TheVariants.{NotOutstanding}
use Rattle.sweep.specs.declared.request.Request.{Request}
use Rattle.sweep.specs.declared.question.Question.TheVariants as ask
use Rattle.reply_facts.specs.declared.report.Context.TheVariants.{Start}
use Rattle.sweep.specs.Finding.{finding}
use Rattle.sweep.specs.Questions.{questions}
use Rattle.sweep.specs.Replies.{after_reply_to, belongs, judged, request_of, sightings_by}
use Rattle.sweep.specs.Sweep.{Asking, Sweep, after_timeout_of, attribute_asked, modifier_asked, numbered, packet_of, request_with}
use Rattle.sweep.specs.Sweep.{transaction_of, without_number}
use Rattle.sm_state.specs.Conduct.{is_live}
use Rattle.sm_manager.specs.declared.fault.ManagerFault.TheVariants as fault
use Rattle.sm_manager.specs.declared.outgoing.Outgoing.{Outgoing}
use Rattle.sm_manager.specs.declared.pending.Pending.{Pending}
use Rattle.sm_manager.specs.declared.way.Way.{Way}
use Rattle.sm_manager.specs.Election.{after_handover, after_message, after_poll, after_rediscover, after_yield, control_out, handed_to, handover_fault}
use Rattle.sm_manager.specs.Election.{handover_move, heir_way, poll_fault, poll_out, poll_way, polled_by, rediscover_fault, successor_way, yield_fault}
use Rattle.sm_manager.specs.PlanFaults.{writing_fault}
use Rattle.sm_manager.specs.Writing.{after_step, after_write_steps, is_done_by, is_spent}
use Rattle.sm_state.specs.Control.{control_of_message}
use Rattle.sm_state.specs.Standing.{moved_to}
use Rattle.sm_state.specs.declared.event.Message.{Message}
use Rattle.sm_manager.specs.CallLists.{Call, after_call}
use Rattle.sm_manager.specs.Manager.{IsSentWhole, Manager, after_begin_sweep, after_sweep, begin_fault, is_running, newest_held, next_generation, requests_out, with_all_sent}
use Rattle.sm_manager.specs.ManagerRequests.{with_number}
use Rattle.sm_manager.specs.declared.pending.Purpose.{Purpose}
use Rattle.sm_manager.specs.declared.pending.Purpose.TheVariants as purpose
use Rattle.sm_manager.proofs.CountedSteps.{Rising}
use Rattle.sm_manager.specs.Packets.{Called, after_packet, after_request, answered_by, answers, done, refused, is_for_sweep, is_info_request}
use Rattle.sm_manager.specs.Packets.{packet_taken, pending_for, request_answered, request_gave_up, sweep_answered, sweep_gave_up, sweep_timed_out, unless_spent}
use Rattle.sm_manager.specs.SmInfoAnswers.{served}
use Rattle.sm_manager.specs.Traps.{represses, repressing, trap}
use Rattle.manager_laws.proofs.Accepted.{IsAccepted, accepted}
use Rattle.manager_laws.proofs.Follows.{KeepsSweep, request_keeps, served_keeps}
use Rattle.manager_laws.proofs.Generations.{KnowsSmall, answer_of, floor_small, merged_small, newest_small, raised_small}
use Rattle.manager_laws.proofs.writing_ends.Headers.{directed_is, directed_method}
use Rattle.program_laws.specs.Wakes.{is_control, one_if}
use Rattle.program_laws.proofs.wakes.Requests.{AnyAsks, Asks, all_three, any_left, any_right, directed_transaction, gets, traps}
use Rattle.program_laws.proofs.wakes.StepTurns.{over_without, without_it}
use Rattle.program_laws.proofs.wakes.Makes.{Makes, packet_makes, request_makes, responds, timeout_makes}

-- requests of sweeps -------------------------------------------------------------------------------------

asked_small : (g n : ℕ) → g < 2 ^ 32 → n < 2 ^ 32 → transaction_of g n < 2 ^ 64
asked_small g n h k = omega (arith, h, k)

asks_it : (g : ℕ) (r : Request) → g < 2 ^ 32 → r.number < 2 ^ 32 → Asks (transaction_of g r.number) (record { packet = packet_of g r; to = None })
asks_it g r h k =
    let asked = attribute_asked r.question in
    let modifier = modifier_asked r.question in
    let t = transaction_of g r.number in (
      directed_is get asked modifier t r.path (replicate 64 0),
      directed_transaction get asked modifier t r.path (replicate 64 0) (asked_small g r.number h k) (omega arith),
      gets (record { packet = packet_of g r; to = None }) (directed_method get asked modifier t r.path (replicate 64 0) (omega arith)),
    )

-- each of them is among their packets
all_asked : (g : ℕ) (rs : List Request) → g < 2 ^ 32 → AllByRecursion (λ (r : Request). r.number < 2 ^ 32) rs
    → AllByRecursion (λ (r : Request). AnyAsks (transaction_of g r.number) (requests_out g rs)) rs
all_asked g [] h all = tt
all_asked g (r ∷ rs) h all = (inl (asks_it g r h all.0), further rs (all_asked g rs h all.1))
  where
    further : (qs : List Request) → AllByRecursion (λ (q : Request). AnyAsks (transaction_of g q.number) (requests_out g rs)) qs
        → AllByRecursion (λ (q : Request). AnyAsks (transaction_of g q.number) (requests_out g (r ∷ rs))) qs
    further [] all = tt
    further (q ∷ qs) all = (inr all.0, further qs all.1)

numbers_small : (n : ℕ) (asked : List Asking) → n + length asked ≤ 2 ^ 32 → AllByRecursion (λ (r : Request). r.number < 2 ^ 32) (numbered n asked)
numbers_small n [] h = tt
numbers_small n (a ∷ asked) h = (omega (arith, h), numbers_small (n + 1) asked (omega (arith, h)))

-- lists ------------------------------------------------------------------------------------------------------

all_more : {X : Type 0} (P Q : X → Type 0) → ((x : X) → P x → Q x) → (xs : List X) → AllByRecursion P xs → AllByRecursion Q xs
all_more P Q f [] all = tt
all_more P Q f (x ∷ xs) all = (f x all.0, all_more P Q f xs all.1)

all_both : {X : Type 0} (P : X → Type 0) (xs ys : List X) → AllByRecursion P xs → AllByRecursion P ys → AllByRecursion P (xs ++ ys)
all_both P [] ys all also = also
all_both P (x ∷ xs) ys all also = (all.0, all_both P xs ys all.1 also)

all_without : (P : Request → Type 0) (n : ℕ) (rs : List Request) → AllByRecursion P rs
    → AllByRecursion (λ (r : Request). P r × ((r.number == n) ≡ false)) (without_number n rs)
all_without P n [] all = tt
all_without P n (r ∷ rs) all = by (r.number == n) refl (all_without P n rs all.1)
  where
    by : (b : Bool) → (r.number == n) ≡ b → AllByRecursion (λ (r : Request). P r × ((r.number == n) ≡ false)) (without_number n rs)
        → AllByRecursion (λ (r : Request). P r × ((r.number == n) ≡ false)) (cond (not b) (r ∷ without_number n rs) (without_number n rs))
    by true e rest = rest
    by false e rest = ((all.0, e), rest)

all_unfound : (test : Request → Bool) (rs : List Request) → is_some (find test rs) ≡ false → AllByRecursion (λ (r : Request). test r ≡ false) rs
all_unfound test [] e = tt
all_unfound test (r ∷ rs) e = by (test r) refl e (λ none. all_unfound test rs none)
  where
    by : (b : Bool) → test r ≡ b → is_some (cond b (Some r) (find test rs)) ≡ false
        → (is_some (find test rs) ≡ false → AllByRecursion (λ (r : Request). test r ≡ false) rs) → AllByRecursion (λ (r : Request). test r ≡ false) (r ∷ rs)
    by true same wrong rest = absurd (cc)
    by false same none rest = (same, rest none)

-- sweeps --------------------------------------------------------------------------------------------------------

-- the sweep has sent what it asks, its generation fits in 32 bits, and the TransactionID of each request that is out has
-- the property W
pub record GoodSweep (W : ℕ → Type 0) (s : Sweep) : Type 0 where
  pub sent : s.queued ≡ []
  pub first : 1 ≤ s.generation
  pub few : s.generation < 2 ^ 32
  pub waits : AllByRecursion (λ (r : Request). W (transaction_of s.generation r.number)) s.outstanding

abbrev pub Good : (ℕ → Type 0) → Option Sweep → Type 0
Good W None = Unit {0}
Good W (Some s) = GoodSweep W s

pub whole_of : (W : ℕ → Type 0) (o : Option Sweep) → Good W o → IsSentWhole o
whole_of W None g = tt
whole_of W (Some s) g = g.sent

-- TransactionIDs of sweeps do not fit in 32 bits
far : (g n : ℕ) → 1 ≤ g → 2 ^ 32 ≤ transaction_of g n
far g n first = omega (arith, first)

pub good_more : (W V : ℕ → Type 0) → ((t : ℕ) → 2 ^ 32 ≤ t → W t → V t) → (o : Option Sweep) → Good W o → Good V o
good_more W V more None g = tt
good_more W V more (Some s) g =
    record {
      sent = g.sent;
      first = g.first;
      few = g.few;
      waits = all_more (λ (r : Request). W (transaction_of s.generation r.number)) (λ (r : Request). V (transaction_of s.generation r.number))
          (λ r h. more (transaction_of s.generation r.number) (far s.generation r.number g.first) h) s.outstanding g.waits;
    }

-- calls -----------------------------------------------------------------------------------------------------------

-- after a call, the TransactionID of each request of the sweep that is out had the property W and has P, or a packet was
-- queued for it
pub record Turn (W P : ℕ → Type 0) (m after : Manager) : Type 0 where
  pub knows : KnowsSmall after.store
  pub keeps : (t : ℕ) → AnyAsks t m.outgoing → AnyAsks t after.outgoing
  pub good : Good (λ t. (W t × P t) ⊎ AnyAsks t after.outgoing) after.sweep

module _ (W P : ℕ → Type 0) (m : Manager) (k : KnowsSmall m.store) (g : Good W m.sweep) where
  -- a call that is nothing to the sweep
  pub beside : (after : Manager) (more : List Outgoing) → after.outgoing ≡ m.outgoing ++ more → KeepsSweep m after → ((t : ℕ) → 2 ^ 32 ≤ t → P t)
      → Turn W P m after
  beside after more outgoing keeps p =
      record {
        knows = subst KnowsSmall (sym keeps.store) k;
        keeps = λ t any. subst (AnyAsks t) (sym outgoing) (any_left t m.outgoing more any);
        good = subst (Good (λ t. (W t × P t) ⊎ AnyAsks t after.outgoing)) (sym keeps.sweep)
            (good_more W (λ t. (W t × P t) ⊎ AnyAsks t after.outgoing) (λ t big w. inl (w, p t big)) m.sweep g);
      }

  pub beside_made : (acks : ℕ) (after : Manager) → Makes acks m after → KeepsSweep m after → ((t : ℕ) → 2 ^ 32 ≤ t → P t) → Turn W P m after
  beside_made acks after made keeps p = beside after made.more made.outgoing keeps p

  -- nothing is called
  same : ((t : ℕ) → W t → P t) → Turn W P m m
  same p =
      record {
        knows = k;
        keeps = λ t any. any;
        good = good_more W (λ t. (W t × P t) ⊎ AnyAsks t m.outgoing) (λ t big w. inl (w, p t w)) m.sweep g;
      }

  -- where there is no sweep
  sweepless : m.sweep ≡ None → Turn W P m m
  sweepless e =
      record {
        knows = k;
        keeps = λ t any. any;
        good = subst (Good (λ t. (W t × P t) ⊎ AnyAsks t m.outgoing)) (sym e) tt;
      }

-- time-outs -----------------------------------------------------------------------------------------------------------

-- two requests of one sweep with one TransactionID have one number
same_number : (g n n' t : ℕ) → transaction_of g n ≡ t → transaction_of g n' ≡ t → (n == n') ≡ false → ⊥
same_number g n n' t e f other = eqb-false n n' other (omega (arith, e, f))

-- the TransactionID is another one
abbrev pub IsOther : ℕ → ℕ → Type 0
IsOther t other = other ≡ t → ⊥

module _ (W : ℕ → Type 0) (m : Manager) (k : KnowsSmall m.store) (g : Good W m.sweep) (transaction : ℕ) where
  abbrev P : ℕ → Type 0
  P = IsOther transaction

  times_out : (s : Sweep) → m.sweep ≡ Some s → Turn W P m (sweep_gave_up m transaction (Some s)).manager
  times_out s e =
      cond_both (is_some (request_with s.generation transaction s.outstanding)) None (Some NotOutstanding)
      (λ (f : Option SweepFault). Turn W P m (sweep_timed_out m s transaction f).manager)
      (λ some. by_request (request_with s.generation transaction s.outstanding) refl some)
      (λ none. record {
        knows = k;
        keeps = λ t any. any;
        good = subst (Good (λ t. (W t × P t) ⊎ AnyAsks t m.outgoing)) (sym e) (record {
          sent = good.sent;
          first = good.first;
          few = good.few;
          waits = unasked s.outstanding good.waits
              (all_unfound (λ (r : Request). transaction_of s.generation r.number == transaction) s.outstanding none);
        });
      })
    where
      good : GoodSweep W s
      good = subst (Good W) e g

      unasked : (rs : List Request) → AllByRecursion (λ (r : Request). W (transaction_of s.generation r.number)) rs
          → AllByRecursion (λ (r : Request). (transaction_of s.generation r.number == transaction) ≡ false) rs
          → AllByRecursion (λ (r : Request). (W (transaction_of s.generation r.number) × P (transaction_of s.generation r.number))
          ⊎ AnyAsks (transaction_of s.generation r.number) m.outgoing) rs
      unasked [] all none = tt
      unasked (r ∷ rs) all none = (inl (all.0, eqb-false (transaction_of s.generation r.number) transaction none.0), unasked rs all.1 none.1)

      by_request : (o : Option Request) → request_with s.generation transaction s.outstanding ≡ o → is_some o ≡ true
          → Turn W P m (after_sweep (record m { sweep = Some (after_timeout_of s o) }))
      by_request None f some = absurd (cc)
      by_request (Some r) f some =
          let there = eqb-true (transaction_of s.generation r.number) transaction
          (found_there (λ (x : Request). transaction_of s.generation x.number == transaction) s.outstanding r f).1 in
          record {
            knows = k;
            keeps = λ t any. any;
            good = record {
              sent = good.sent;
              first = good.first;
              few = good.few;
              waits = all_more (λ (x : Request). W (transaction_of s.generation x.number) × ((x.number == r.number) ≡ false)) _
                  (λ x h. inl (h.0, λ is. same_number s.generation x.number r.number transaction is there h.1))
                  (without_number r.number s.outstanding)
                  (all_without (λ (x : Request). W (transaction_of s.generation x.number)) r.number s.outstanding good.waits);
            };
          }

  by_sweep : (o : Option Sweep) → m.sweep ≡ o → Turn W P m (sweep_gave_up m transaction o).manager
  by_sweep None e = sweepless W P m k g e
  by_sweep (Some s) e = times_out s e

  gives_up : (o : Option Pending) → KeepsSweep m (request_gave_up m o).manager
  gives_up None = record { sweep = refl; store = refl }
  gives_up (Some p) = request_keeps m p None p.purpose

  pub timeout_turn : Turn W P m (after_call m (Call.Timeout transaction))
  timeout_turn =
      cond_both (nat_le (2 ^ 32) transaction) (sweep_gave_up m transaction m.sweep) (request_gave_up m (with_number transaction m.pending))
      (λ (c : Called). c.manager ≡ after_call m (Call.Timeout transaction) → Turn W P m c.manager)
      (λ _ _. by_sweep m.sweep refl)
      (λ small is.
      let made = timeout_makes m (whole_of W m.sweep g) transaction in
      let less = leb-false (2 ^ 32) transaction small in
      beside W P m k g (request_gave_up m (with_number transaction m.pending)).manager made.more
      (ap (λ (x : Manager). x.outgoing) is ∙ made.outgoing) (gives_up (with_number transaction m.pending))
      (λ t big same. omega (arith, big, same, less)))
      refl

-- answers --------------------------------------------------------------------------------------------------------------

module _ (W : ℕ → Type 0) (m : Manager) (k : KnowsSmall m.store) (g : Good W m.sweep) (bytes : List ℕ) where
  abbrev tid : ℕ
  tid = number_in transaction_id bytes

  -- a reply that the sweep accepts
  reply_turn : (s : Sweep) → m.sweep ≡ Some s → (answer : Answer) → judged s bytes ≡ Ok answer
      → Turn W (IsOther tid) m (answered_by m s bytes (Ok answer)).manager
  reply_turn s e answer taken =
      record {
        knows = merged_small m.store 1 (sightings_by answer) k (omega arith) (answer_of (λ n. n < 2 ^ 32) s bytes answer good.few taken);
        keeps = λ t any. any_left t m.outgoing _ any;
        good = by_request (request_of s bytes) a.belongs;
      }
    where
      good : GoodSweep W s
      good = subst (Good W) e g

      a : IsAccepted s bytes answer
      a = accepted s bytes answer taken

      r : Request
      r = a.request

      qs : List Asking
      qs = questions r.path (finding s r bytes)

      there : transaction_of s.generation r.number ≡ tid
      there = eqb-true (transaction_of s.generation r.number) tid
          (and_parts (transaction_of s.generation r.number == tid) _ (found_there (belongs s.generation bytes) s.outstanding r a.belongs).1).0

      new : List Request
      new = numbered s.next qs

      queue : s.queued ++ new ≡ new
      queue = ap (λ l. l ++ new) good.sent

      by_request : (o : Option Request) → o ≡ Some r
          → Good (λ t. (W t × IsOther tid t) ⊎ AnyAsks t (m.outgoing ++ requests_out (after_reply_to s bytes o).generation (after_reply_to s bytes o).queued))
          (Some (with_all_sent (after_reply_to s bytes o)))
      by_request o is =
          subst (λ (o : Option Request).
          Good (λ t. (W t × IsOther tid t) ⊎ AnyAsks t (m.outgoing ++ requests_out (after_reply_to s bytes o).generation (after_reply_to s bytes o).queued))
          (Some (with_all_sent (after_reply_to s bytes o)))) (sym is) here
        where
          V : ℕ → Type 0
          V t = (W t × IsOther tid t) ⊎ AnyAsks t (m.outgoing ++ requests_out s.generation (s.queued ++ new))

          asked : AllByRecursion (λ (x : Request). AnyAsks (transaction_of s.generation x.number) (requests_out s.generation new)) new
          asked = all_asked s.generation new good.few (numbers_small s.next qs a.room)

          here : GoodSweep V (with_all_sent (after_reply_to s bytes (Some r)))
          here = record {
            sent = refl;
            first = good.first;
            few = good.few;
            waits = all_both (λ (x : Request). V (transaction_of s.generation x.number)) (without_number r.number s.outstanding) (s.queued ++ new)
                (all_more (λ (x : Request). W (transaction_of s.generation x.number) × ((x.number == r.number) ≡ false)) _
                (λ x h. inl (h.0, λ is. same_number s.generation x.number r.number tid is there h.1))
                (without_number r.number s.outstanding)
                (all_without (λ (x : Request). W (transaction_of s.generation x.number)) r.number s.outstanding good.waits))
                (subst (λ (l : List Request). AllByRecursion (λ (x : Request). (W (transaction_of s.generation x.number) × IsOther tid (transaction_of s.generation x.number))
                ⊎ AnyAsks (transaction_of s.generation x.number) (m.outgoing ++ requests_out s.generation l)) l) (sym queue)
                (all_more (λ (x : Request). AnyAsks (transaction_of s.generation x.number) (requests_out s.generation new)) _
                (λ x any. inr (any_right (transaction_of s.generation x.number) m.outgoing (requests_out s.generation new) any)) new asked));
          }

-- no step that waited waits for an answer with this TransactionID
abbrev pub NoneAsks : Manager → List ℕ → Manager → Type 0
NoneAsks m bytes after =
    (p : Pending) → Contains m.pending p → p.number < 2 ^ 32 → Contains after.pending p → is_directed bytes ≡ true
    → IsOther (number_in transaction_id bytes) p.number

-- the manager refuses the answer, and is as before; or it takes it, and no request waits for this answer any more
pub data Heard (W : ℕ → Type 0) (m : Manager) (bytes : List ℕ) (c : Called) : Type 0 where
  Refuses : c.manager ≡ m → is_none c.fault ≡ false → Heard W m bytes c
  Takes : Turn W (λ t. is_directed bytes ≡ true → IsOther (number_in transaction_id bytes) t) m c.manager → NoneAsks m bytes c.manager → Heard W m bytes c

module _ (W : ℕ → Type 0) (m : Manager) (k : KnowsSmall m.store) (g : Good W m.sweep) (bytes : List ℕ) (from : Option ℕ) where
  abbrev IsOut : ℕ → Type 0
  IsOut t = is_directed bytes ≡ true → IsOther (number_in transaction_id bytes) t

  turn_less : (after : Manager) → Turn W (IsOther (number_in transaction_id bytes)) m after → Turn W IsOut m after
  turn_less after turn =
      record {
        knows = turn.knows;
        keeps = turn.keeps;
        good = good_more (λ t. (W t × IsOther (number_in transaction_id bytes) t) ⊎ AnyAsks t after.outgoing)
            (λ t. (W t × IsOut t) ⊎ AnyAsks t after.outgoing)
            (λ t big. elim [ inl waits ↦ inl (waits.0, λ _. waits.1) | inr any ↦ inr any ]) after.sweep turn.good;
      }

  -- a response
  module _ (response : is_response bytes ≡ true) (rising : Rising m.counter m.pending) where
    no_trap : (number_in method bytes == trap) ≡ true → ⊥
    no_trap e =
        let wrong : true ≡ false = sym response ∙ traps bytes (eqb-true (number_in method bytes) trap e) in absurd (cc)

    heard_by_sweep : is_for_sweep bytes ≡ true → (o : Option Sweep) → m.sweep ≡ o → Heard W m bytes (sweep_answered m bytes o)
    heard_by_sweep for_it None e = Refuses refl refl
    heard_by_sweep for_it (Some s) e = by_judged (judged s bytes) refl
      where
        by_judged : (r : Result Answer SweepFault) → judged s bytes ≡ r → Heard W m bytes (answered_by m s bytes r)
        by_judged (Err why) f = Refuses refl refl
        by_judged (Ok answer) f =
            let after = (answered_by m s bytes (Ok answer)).manager in
            let big = (and_parts (is_directed bytes) _ (and_parts (number_in method bytes == get_resp) _ for_it).1).1 in
            let far_off = leb-true (2 ^ 32) (number_in transaction_id bytes) big in
            Takes (turn_less after (reply_turn W m k g bytes s e answer f)) (λ p there small still goes same. omega (arith, far_off, small, same))

    response_heard : (fault : Option SmpFault) → Heard W m bytes (packet_taken m bytes from fault)
    response_heard (Some why) = Refuses refl refl
    response_heard None = by_tests (is_info_request bytes) (represses m bytes) (is_for_sweep bytes) refl refl refl
      where
        by_pending : is_for_sweep bytes ≡ false → (o : Option Pending) → pending_for m bytes ≡ o → Heard W m bytes (request_answered m bytes o)
        by_pending other None e = Refuses refl refl
        by_pending other (Some p) e = by_purpose p.purpose
          where
            found : (number_in method bytes == get_resp) ≡ true × (p.number ≡ number_in transaction_id bytes)
            found =
                let parts = and_parts (number_in method bytes == get_resp) _ (found_there (answers bytes) m.pending p e).1 in
                (parts.0, eqb-true p.number (number_in transaction_id bytes) (and_parts (p.number == number_in transaction_id bytes) _ parts.1).0)

            turns : (u : Purpose) → Turn W IsOut m (after_request m p (Some (status bytes)) u).manager
            turns u =
                beside_made W IsOut m k g (one_if (is_control bytes)) _
                (request_makes (one_if (is_control bytes)) m (whole_of W m.sweep g) p (Some (status bytes)) u)
                (request_keeps m p (Some (status bytes)) u)
                (λ t big goes is.
                let for_sweep = all_three (number_in method bytes == get_resp) (is_directed bytes) (nat_le (2 ^ 32) (number_in transaction_id bytes)) found.0
                goes (le-leb (2 ^ 32) (number_in transaction_id bytes) (omega (arith, big, is))) in
                let wrong : true ≡ false = sym for_sweep ∙ other in
                absurd (cc))

            by_purpose : (u : Purpose) → Heard W m bytes (after_request m p (Some (status bytes)) u)
            by_purpose purpose.Poll =
                Takes (turns purpose.Poll) (λ q there small still goes same. without_it m rising q there p.number (same ∙ sym found.1) still)
            by_purpose purpose.Control =
                Takes (turns purpose.Control) (λ q there small still goes same. without_it m rising q there p.number (same ∙ sym found.1) still)
            by_purpose (purpose.Step counts) =
                let after = after_step m p (is_done_by (Some (status bytes))) in
                cond_both (is_spent after) (refused m fault.SequenceSpent) (done after) (Heard W m bytes) (λ _. Refuses refl refl)
                (λ fits. Takes (subst (λ (c : Called). Turn W IsOut m c.manager) (cond-false (is_spent after) (refused m fault.SequenceSpent) (done after) fits)
                (turns (purpose.Step counts)))
                (λ q there small still goes same.
                over_without m rising q there p.number (same ∙ sym found.1) p (is_done_by (Some (status bytes))) refl still))

        by_tests : (a t b : Bool) → is_info_request bytes ≡ a → represses m bytes ≡ t → is_for_sweep bytes ≡ b
            → Heard W m bytes (cond a (unless_spent m (served m bytes from)) (cond t (done (repressing m bytes from))
            (cond b (sweep_answered m bytes m.sweep) (request_answered m bytes (pending_for m bytes)))))
        by_tests true t b e f h =
            let asks = (and_parts (not (is_response bytes)) (number_in attribute_id bytes == sm_info) e).0 in
            let wrong : true ≡ false = sym asks ∙ ap not response in
            absurd (cc)
        by_tests false true b e f h =
            absurd (no_trap (and_parts (number_in method bytes == trap) _ (and_parts (is_live m.standing.conduct) _ f).1).0)
        by_tests false false true e f h = heard_by_sweep h m.sweep refl
        by_tests false false false e f h = by_pending h (pending_for m bytes) refl

  -- any other packet is nothing to the sweep
  asked_keeps : is_response bytes ≡ false → (fault : Option SmpFault) → KeepsSweep m (packet_taken m bytes from fault).manager
  asked_keeps asks (Some why) = record { sweep = refl; store = refl }
  asked_keeps asks None = by_tests (is_info_request bytes) (represses m bytes) (is_for_sweep bytes) refl
    where
      no_answer : (number_in method bytes == get_resp) ≡ true → ⊥
      no_answer e =
          let wrong : true ≡ false = sym (responds bytes (eqb-true (number_in method bytes) get_resp e)) ∙ asks in absurd (cc)

      by_pending : (o : Option Pending) → KeepsSweep m (request_answered m bytes o).manager
      by_pending None = record { sweep = refl; store = refl }
      by_pending (Some p) = request_keeps m p (Some (status bytes)) p.purpose

      by_tests : (a t b : Bool) → is_for_sweep bytes ≡ b
          → KeepsSweep m (cond a (unless_spent m (served m bytes from)) (cond t (done (repressing m bytes from))
          (cond b (sweep_answered m bytes m.sweep) (request_answered m bytes (pending_for m bytes))))).manager
      by_tests true t b h = served_keeps m bytes from
      by_tests false true b h = record { sweep = refl; store = refl }
      by_tests false false true h = absurd (no_answer (and_parts (number_in method bytes == get_resp) _ h).0)
      by_tests false false false h = by_pending (pending_for m bytes)

  pub asked_turn : is_response bytes ≡ false → Turn W (λ _. Unit {0}) m (after_call m (Call.Packet bytes from))
  asked_turn asks =
      beside_made W (λ _. Unit {0}) m k g (one_if (is_control bytes)) _ (packet_makes m (whole_of W m.sweep g) bytes from)
      (asked_keeps asks (fault_of bytes)) (λ _ _. tt)

  pub heard : is_response bytes ≡ true → Rising m.counter m.pending → Heard W m bytes (after_packet m bytes from)
  heard response rising = response_heard response rising (fault_of bytes)

-- a sweep begins -----------------------------------------------------------------------------------------------------------

module _ (W : ℕ → Type 0) (m : Manager) (k : KnowsSmall m.store) (g : Good W m.sweep) where
  pub begin_turn : Turn W (λ _. Unit {0}) m (after_call m Call.BeginSweep)
  begin_turn =
      cond_both (is_none (begin_fault m)) (after_begin_sweep m) m (Turn W (λ _. Unit {0}) m)
      (λ may. record {
        knows = k;
        keeps = λ t any. any_left t m.outgoing _ any;
        good = record {
          sent = refl;
          first = omega arith;
          few = few may;
          waits = (inr (any_right (transaction_of (next_generation m.store) 1) m.outgoing _ (inl (asks_it (next_generation m.store) first (few may) (omega arith)))), tt);
        };
      })
      (λ _. same W (λ _. Unit {0}) m k g (λ _ _. tt))
    where
      first : Request
      first = record { number = 1; question = ask.Node; path = []; context = Start }

      few : is_none (begin_fault m) ≡ true → next_generation m.store < 2 ^ 32
      few may =
          let newest = newest_small m.store k in
          let floor = floor_small m.store k in
          let other = spent (is_running m.sweep) (newest_held m.store == 2 ^ 32 - 1) may in
          let less : newest_held m.store ≡ 2 ^ 32 - 1 → ⊥ = eqb-false (newest_held m.store) (2 ^ 32 - 1) other in
          omega (arith, newest, floor, less)
        where
          spent : (runs most : Bool) → is_none (cond runs (Some fault.SweepRunning) (cond most (Some fault.GenerationsSpent) None)) ≡ true → most ≡ false
          spent true most e = absurd (cc)
          spent false true e = absurd (cc)
          spent false false e = refl

-- other calls ----------------------------------------------------------------------------------------------------------------

module _ (W : ℕ → Type 0) (m : Manager) (k : KnowsSmall m.store) (g : Good W m.sweep) where
  abbrev Any : ℕ → Type 0
  Any t = Unit {0}

  nothing : Turn W Any m m
  nothing = same W Any m k g (λ _ _. tt)

  queues : (after : Manager) (more : List Outgoing) → after.outgoing ≡ m.outgoing ++ more → after.sweep ≡ m.sweep → after.store ≡ m.store → Turn W Any m after
  queues after more outgoing sweep store = beside W Any m k g after more outgoing (record { sweep = sweep; store = store }) (λ _ _. tt)

  pub raise_turn : (floor : ℕ) → floor < 2 ^ 32 → Turn W Any m (after_call m (Call.Raise floor))
  raise_turn floor few =
      record {
        knows = raised_small m.store floor k few;
        keeps = λ t any. any;
        good = good_more W (λ t. (W t × Any t) ⊎ AnyAsks t m.outgoing) (λ t big w. inl (w, tt)) m.sweep g;
      }

  pub write_turn : Turn W Any m (after_call m Call.WriteSteps)
  write_turn =
      cond_both (is_none (writing_fault m)) (after_write_steps m) m (Turn W Any m) (λ _. queues (after_write_steps m) _ refl refl refl) (λ _. nothing)

  polls : (way : Option Way) → Turn W Any m (polled_by m way)
  polls None = nothing
  polls (Some way) = queues (polled_by m (Some way)) (poll_out m.counter way ∷ []) refl refl refl

  pub poll_turn : (lid : Option ℕ) → Turn W Any m (after_call m (Call.Poll lid))
  poll_turn lid =
      cond_both (is_none (poll_fault m lid)) (after_poll m lid) m (Turn W Any m) (λ _. polls (poll_way m lid)) (λ _. nothing)

  tells : (x : Manager) (way : Option Way) (message : Option Message) → x.outgoing ≡ m.outgoing → x.sweep ≡ m.sweep → x.store ≡ m.store
      → Turn W Any m (after_message x way message)
  tells x None message outgoing sweep store = queues x [] (outgoing ∙ sym (append-nil m.outgoing)) sweep store
  tells x (Some way) None outgoing sweep store = queues x [] (outgoing ∙ sym (append-nil m.outgoing)) sweep store
  tells x (Some way) (Some message) outgoing sweep store =
      let out = control_out x.standing x.counter way (control_of_message message) in
      queues (after_message x (Some way) (Some message)) (out ∷ []) (ap (λ packets. packets ++ out ∷ []) outgoing) sweep store

  hands : (way : Option Way) → Turn W Any m (handed_to m way)
  hands way = tells (record m { standing = moved_to (handover_move m).state m.standing }) way (handover_move m).message refl refl refl

  pub handover_turn : Turn W Any m (after_call m Call.Handover)
  handover_turn =
      cond_both (is_none (handover_fault m)) (after_handover m) m (Turn W Any m) (λ _. hands (successor_way m)) (λ _. nothing)

  pub yield_turn : Turn W Any m (after_call m Call.Yield)
  yield_turn = cond_both (is_none (yield_fault m)) (after_yield m) m (Turn W Any m) (λ _. hands (heir_way m)) (λ _. nothing)

  pub rediscover_turn : Turn W Any m (after_call m Call.Rediscover)
  rediscover_turn =
      cond_both (is_none (rediscover_fault m)) (after_rediscover m) m (Turn W Any m)
      (λ _. queues (after_rediscover m) [] (sym (append-nil m.outgoing)) refl refl) (λ _. nothing)
