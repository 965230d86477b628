-- A manager that sends only what is its own, on a scene of which as much is known as of its packets.
use Rattle.std.proofs.Common.{◌≡◌, ◌⊎◌, inl, inr, ℕ, zero, suc, ◌<◌, ◌≤◌, ◌^◌, true, false, cond, List, [], ◌∷◌, ◌++◌, length, map}
use Rattle.std.proofs.Common.{replicate, refl, sym, ap, ◌∙◌, subst, arith}
use Rattle.std.proofs.lemmas.Bool.{cond_both}
use Rattle.std.specs.Prelude.{Contains, Option, Some, None, slice_get}
use Rattle.fabric_model.specs.declared.cable.NodePort.{NodePort}
use Rattle.smp_bytes.specs.Header.{get, set}
use Rattle.smp_bytes.specs.Packet.{is_directed}
use Rattle.smp_bytes.specs.Requests.{answer_packet, directed}
use Rattle.smp_bytes.specs.ReadBack.{FitsRequest, HoldsRequest}
use Rattle.smp_bytes.proofs.Made.{directed_reads_back}
use Rattle.fabric_sim.specs.Simulation.{Simulation}
use Rattle.fabric_sim.specs.Delivery.{after_deliver}
use Rattle.fabric_sim.specs.ThereAndBack.{BeginsWith, directed_packet}
use Rattle.sweep.specs.Sweep.{attribute_asked, modifier_asked, transaction_of, packet_of as request_packet}
use Rattle.subnet_view.proofs.Members.{contains_here, contains_later}
use Rattle.lft_blocks.specs.Plan.{PlanValue}
use Rattle.plan_steps.specs.declared.step.Step.{Step}
use Rattle.plan_steps.specs.Step.{set_packet}
use Rattle.sm_manager.specs.declared.outgoing.Outgoing.{Outgoing}
use Rattle.sm_manager.specs.declared.pending.Pending.{Pending}
use Rattle.sm_manager.specs.Manager.{Manager, after_take_outgoing, taken_of}
use Rattle.sm_manager.specs.ManagerRequests.{is_step}
use Rattle.manager_laws.specs.Scene.{Handed, Scene, Sending, ByLid, ByPath, Answer, Event, Deliver, Lose, Repeat, Send, Emit, CanSend, CanHappen}
use Rattle.manager_laws.specs.Scene.{after_event, answered_from, answer_to, asks_manager, handed_by, sent, sent_from}
use Rattle.manager_laws.proofs.Answers.{Continues, continued}
use Rattle.manager_laws.proofs.Swept as swept
use Rattle.fabric_sim.proofs.TracedMore.{weaker_manager, weaker_all}
use Rattle.manager_laws.specs.Managing.{Managing, IsElsewhere, taking, packet_of, sending}
use Rattle.manager_laws.proofs.Numbered.{AreOnce, out_of}
use Rattle.manager_laws.proofs.Scenes.{IsEarlier, IsOld, IsOwn, IsOwnSending, Sends, SetsInfoAlone, Tells, WereTraced, IsTraced, Stays, sending_traced}
use Rattle.manager_laws.proofs.Scenes.{around_traced}
use Rattle.manager_laws.proofs.Steps.{StepSent, IsSendable}
use Rattle.manager_laws.proofs.WritingSweeps.{Ground, IsAsked, AreAsked, SweepSide}
use Rattle.manager_laws.proofs.WritingTaken.{IsGood, fits_step}

-- what was handed up ------------------------------------------------------------------------------------

-- it keeps its id as more is handed up
abbrev pub StaysHanded : List Handed → List Handed → Type 0
StaysHanded handed later = (which : ℕ) (h : Handed) → slice_get handed which ≡ Some h → slice_get later which ≡ Some h

still_there : (handed more : List Handed) → StaysHanded handed (handed ++ more)
still_there [] more which h e = absurd (cc)
still_there (x ∷ handed) more zero h e = e
still_there (x ∷ handed) more (suc which) h e = still_there handed more which h e

same_handed : (handed later : List Handed) → later ≡ handed → StaysHanded handed later
same_handed handed later same which h e = ap (λ xs. slice_get xs which) same ∙ e

sent_handed : (w : Scene) (from : NodePort) (sending : Sending) → (sent w from sending).handed ≡ w.handed
sent_handed w from (ByLid packet) = refl
sent_handed w from (ByPath method attribute modifier tid path payload) = refl
sent_handed w from (Answer which given payload) = by_request (slice_get w.handed which)
  where
    by_request : (m : Option Handed) → (answered_from w from given payload m).handed ≡ w.handed
    by_request None = refl
    by_request (Some h) = cond_both (asks_manager from h) _ _ (λ (x : Scene). x.handed ≡ w.handed) (λ _. refl) (λ _. refl)

pub stays_handed : (w : Scene) (event : Event) → StaysHanded w.handed (after_event w event).handed
stays_handed w (Deliver serial) = still_there w.handed (handed_by (after_deliver w.fabric serial).result)
stays_handed w (Lose serial) = same_handed w.handed w.handed refl
stays_handed w (Repeat serial) = same_handed w.handed w.handed refl
stays_handed w (Send from sending) = same_handed w.handed _ (sent_handed w from sending)
stays_handed w (Emit at (ByLid packet)) = same_handed w.handed w.handed refl
stays_handed w (Emit at (ByPath method attribute modifier tid path payload)) = same_handed w.handed w.handed refl
stays_handed w (Emit at (Answer which given payload)) = same_handed w.handed w.handed refl

module _ (start : Simulation) (seat : NodePort) (plan : PlanValue) where
  -- packets of its own ---------------------------------------------------------------------------------

  -- what a manager at the seat may send, from when so much was handed up
  pub record IsOwnPacket (c : ℕ) (all : List StepSent) (handed : List Handed) (o : Outgoing) : Type 0 where
    pub sending : Sending
    pub can : CanSend seat sending
    pub own : IsOwnSending start seat plan c all sending
    pub is : (w : Scene) → StaysHanded handed w.handed → sent w seat sending ≡ sent_from w seat (packet_of o)

  abbrev pub AreOwnPackets : ℕ → List StepSent → List Handed → List Outgoing → Type 0
  AreOwnPackets c all handed [] = Unit {0}
  AreOwnPackets c all handed (o ∷ out) = IsOwnPacket c all handed o × AreOwnPackets c all handed out

  pub own_more : (c : ℕ) (all : List StepSent) (handed : List Handed) (out more : List Outgoing) → AreOwnPackets c all handed out
      → AreOwnPackets c all handed more
      → AreOwnPackets c all handed (out ++ more)
  own_more c all handed [] more own also = also
  own_more c all handed (o ∷ out) more own also = (own.0, own_more c all handed out more own.1 also)

  pub own_there : (c : ℕ) (all : List StepSent) (handed : List Handed) (out : List Outgoing) (which : ℕ) (o : Outgoing) → AreOwnPackets c all handed out
      → slice_get out which ≡ Some o → IsOwnPacket c all handed o
  own_there c all handed [] which o own e = absurd (cc)
  own_there c all handed (x ∷ out) zero o own e = let same : x ≡ o = cc in subst (IsOwnPacket c all handed) same own.0
  own_there c all handed (x ∷ out) (suc which) o own e = own_there c all handed out which o own.1 e

  -- as more is handed up
  pub own_still : (c : ℕ) (all : List StepSent) (handed later : List Handed) (out : List Outgoing) → StaysHanded handed later → AreOwnPackets c all handed out
      → AreOwnPackets c all later out
  own_still c all handed later [] stays own = tt
  own_still c all handed later (o ∷ out) stays own = (
    record {
      sending = own.0.sending;
      can = own.0.can;
      own = own.0.own;
      is = λ w still. own.0.is w (λ which h e. still which h (stays which h e));
    },
    own_still c all handed later out stays own.1,
  )

  -- requests over a path
  pub path_own : (c : ℕ) (all : List StepSent) (handed : List Handed) (method attribute modifier tid : ℕ) (path payload : List ℕ)
      → FitsRequest method attribute modifier tid payload
      → method < 2 ^ 7 → length path ≤ 63 → BeginsWith seat.port path → IsOwn start seat plan c all (directed method attribute modifier tid path payload)
      → IsOwnPacket c all handed (record { packet = directed method attribute modifier tid path payload; to = None })
  path_own c all handed method attribute modifier tid path payload fits low short begins own =
      record { sending = ByPath method attribute modifier tid path payload; can = (fits, low, short, begins); own = own; is = λ w still. refl }

  -- what goes by LIDs
  pub lid_own : (c : ℕ) (all : List StepSent) (handed : List Handed) (o : Outgoing) → length o.packet ≡ 256 → is_directed o.packet ≡ false
      → SetsInfoAlone o.packet → IsOwnPacket c all handed o
  lid_own c all handed o count other sets = record { sending = ByLid (packet_of o); can = (count, other); own = sets; is = λ w still. refl }

  -- the answer to a directed request for SMInfo
  pub answer_own : (c : ℕ) (all : List StepSent) (handed : List Handed) (which : ℕ) (h : Handed) (given : ℕ) (payload : List ℕ)
      → slice_get handed which ≡ Some h
      → asks_manager seat h ≡ true → is_directed h.packet.bytes ≡ true → given < 2 ^ 15 → length payload ≡ 64
      → IsOwnPacket c all handed (record { packet = answer_packet h.packet.bytes given payload; to = None })
  answer_own c all handed which h given payload there asks way small whole =
      record {
        sending = Answer which given payload;
        can = (small, whole);
        own = tt;
        is = λ w still. ap (answered_from w seat given payload) (still which h there)
            ∙ ap (λ b. cond b (sent_from w seat (answer_to h.packet given payload)) w) asks
            ∙ ap (λ b. sent_from w seat (cond b (directed_packet (answer_packet h.packet.bytes given payload))
            (record { bytes = answer_packet h.packet.bytes given payload; slid = h.packet.dlid; dlid = h.packet.slid }))) way;
      }

  -- a sweep's requests
  asked_is_own : (c : ℕ) (all : List StepSent) (handed : List Handed) (g : Ground start seat) (o : Outgoing) → IsAsked start seat o → IsOwnPacket c all handed o
  asked_is_own c all handed g o a =
      subst (IsOwnPacket c all handed) (sym a.is)
      (path_own c all handed get (attribute_asked a.request.question) (modifier_asked a.request.question) (transaction_of a.generation a.request.number)
      a.request.path (replicate 64 0) fits (omega arith) a.sound.sound.short a.sound.sound.own
      (inl (inr (
        inl (let number = reads.transaction_id in let few = a.few.0 in omega (arith, number, few)),
        λ sets. let clash : get ≡ set = sym reads.method ∙ sets in absurd (omega (arith, clash)),
      ))))
    where
      fits : FitsRequest get (attribute_asked a.request.question) (modifier_asked a.request.question) (transaction_of a.generation a.request.number)
          (replicate 64 0)
      fits = swept.fits g.cables g.counts g.can g.cabled a.generation a.request a.few.1 a.sound

      reads : HoldsRequest (request_packet a.generation a.request) get (attribute_asked a.request.question) (modifier_asked a.request.question)
          (transaction_of a.generation a.request.number) (replicate 64 0)
      reads =
          (directed_reads_back get (attribute_asked a.request.question) (modifier_asked a.request.question) (transaction_of a.generation a.request.number)
          a.request.path (replicate 64 0) fits a.sound.sound.short).0

  pub asked_are_own : (c : ℕ) (all : List StepSent) (handed : List Handed) → Ground start seat → (out : List Outgoing) → AreAsked start seat out
      → AreOwnPackets c all handed out
  asked_are_own c all handed g [] asked = tt
  asked_are_own c all handed g (o ∷ out) asked = (asked_is_own c all handed g o asked.0, asked_are_own c all handed g out asked.1)

  -- a writing's steps
  pub record CanGo (s : Step) : Type 0 where
    pub sendable : IsSendable s
    pub own : BeginsWith seat.port s.path
    pub short : length s.path ≤ 63

  pub step_is_own : (c : ℕ) (all : List StepSent) (handed : List Handed) (x : StepSent) → CanGo x.step → x.number < 2 ^ 32 → (x.number < c) ⊎ Contains all x
      → IsOwnPacket c all handed (out_of x)
  step_is_own c all handed x can small known =
      path_own c all handed set x.step.attribute x.step.modifier x.number x.step.path x.step.payload (fits_step x can.sendable small)
      (omega arith) can.short can.own
      (elim known [
        | inl low ↦ inl (inl (let number = reads.transaction_id in omega (arith, number, low)))
        | inr there ↦ inr (record { step = x; there = there; small = small; is = refl })
      ])
    where
      reads : HoldsRequest (set_packet x.number x.step) set x.step.attribute x.step.modifier x.number x.step.payload
      reads = (directed_reads_back set x.step.attribute x.step.modifier x.number x.step.path x.step.payload (fits_step x can.sendable small) can.short).0

  pub own_steps : (c : ℕ) (all : List StepSent) (handed : List Handed) (xs : List StepSent)
      → ((x : StepSent) → Contains xs x → IsOwnPacket c all handed (out_of x)) → AreOwnPackets c all handed (map out_of xs)
  own_steps c all handed [] own = tt
  own_steps c all handed (x ∷ xs) own = (own x (contains_here x xs), own_steps c all handed xs (λ y there. own y (contains_later x y xs there)))

  -- a fair world ----------------------------------------------------------------------------------------

  pub record IsFair (old : Type 0) (c : ℕ) (all : List StepSent) (w : Managing) : Type 0 where
    pub scene : Continues start w.scene
    pub traced : IsTraced start seat plan c all w.scene
    pub seat_is : w.seat ≡ seat
    pub side : SweepSide start seat old w.manager
    pub once : AreOnce w.manager.counter w.manager.pending
    pub outgoing : AreOwnPackets c all w.scene.handed w.manager.outgoing
    pub out : AreOwnPackets c all w.scene.handed w.out

  -- a call that ends and begins no step: it may send something, and what it asks may wait
  pub record BesideCall (old : Type 0) (handed : List Handed) (m after : Manager) : Type 0 where
    pub writing : after.writing ≡ m.writing
    pub steps_stay : (p : Pending) → Contains m.pending p → is_step p ≡ true → Contains after.pending p
    pub steps_were : (p : Pending) → Contains after.pending p → is_step p ≡ true → Contains m.pending p
    pub upto : m.counter ≤ after.counter
    pub once : AreOnce after.counter after.pending
    pub more : List Outgoing
    pub outgoing : after.outgoing ≡ m.outgoing ++ more
    pub own : (c : ℕ) (all : List StepSent) → AreOwnPackets c all handed more
    pub side : SweepSide start seat old after

  pub fair_beside : (old then : Type 0) (c : ℕ) (all : List StepSent) (w : Managing) (after : Manager) → IsFair old c all w
      → BesideCall then w.scene.handed w.manager after
      → IsFair then c all (record w { manager = after })
  fair_beside old then c all w after fair call =
      record {
        scene = fair.scene;
        traced = fair.traced;
        seat_is = fair.seat_is;
        side = call.side;
        once = call.once;
        outgoing = subst (AreOwnPackets c all w.scene.handed) (sym call.outgoing)
            (own_more c all w.scene.handed w.manager.outgoing call.more fair.outgoing (call.own c all));
        out = fair.out;
      }

  -- by its first packet, which it gives out
  pub fair_taken : (old : Type 0) (c : ℕ) (all : List StepSent) (w : Managing) → IsFair old c all w
      → IsFair old c all (taking w (after_take_outgoing w.manager))
  fair_taken old c all w fair = by_first w.manager.outgoing fair.outgoing
    where
      by_first : (out : List Outgoing) → AreOwnPackets c all w.scene.handed out → IsFair old c all (taking w (taken_of w.manager out))
      by_first [] own = fair
      by_first (o ∷ out) own =
          record {
            scene = fair.scene;
            traced = fair.traced;
            seat_is = fair.seat_is;
            side = record { port = fair.side.port; lmc = fair.side.lmc; sweep = fair.side.sweep; knows = fair.side.knows };
            once = fair.once;
            outgoing = own.1;
            out = own_more c all w.scene.handed w.out (o ∷ []) fair.out (own.0, tt);
          }

  module _ (g : Ground start seat) where
    -- by a packet that it gave out, which is sent
    pub fair_sent : (old : Type 0) (c : ℕ) (all : List StepSent) (w : Managing) (which : ℕ) → ((x : StepSent) → Contains all x → IsGood start seat plan x)
        → IsFair old c all w → IsFair old c all (sending w (slice_get w.out which))
    fair_sent old c all w which good fair = by_packet (slice_get w.out which) refl
      where
        goes : (o : Outgoing) → IsOwnPacket c all w.scene.handed o → IsFair old c all (sending w (Some o))
        goes o own =
            let still : sent w.scene seat own.sending ≡ sent_from w.scene seat (packet_of o) = own.is w.scene (λ k h e. e) in
            let same : sent w.scene seat own.sending ≡ sent_from w.scene w.seat (packet_of o) =
            still ∙ ap (λ p. sent_from w.scene p (packet_of o)) (sym fair.seat_is) in
            record {
              scene = subst (Continues start) same (continued g.cables g.counts w.scene (Send seat own.sending) fair.scene own.can);
              traced = subst (IsTraced start seat plan c all) same
                  (sending_traced start seat plan c all g.cables g.counts good w.scene seat own.sending fair.scene fair.traced own.can (λ _. own.own));
              seat_is = fair.seat_is;
              side = fair.side;
              once = fair.once;
              outgoing = fair.outgoing;
              out = fair.out;
            }

        by_packet : (m : Option Outgoing) → slice_get w.out which ≡ m → IsFair old c all (sending w m)
        by_packet None e = fair
        by_packet (Some o) e = goes o (own_there c all w.scene.handed w.out which o fair.out e)

    -- by what happens around
    pub fair_around : (old : Type 0) (c : ℕ) (all : List StepSent) (w : Managing) (event : Event) → ((x : StepSent) → Contains all x → IsGood start seat plan x)
        → IsFair old c all w → CanHappen event → IsElsewhere seat event → Stays start seat plan c all w.scene.fabric (after_event w.scene event).fabric
        → IsFair old c all (record w { scene = after_event w.scene event })
    fair_around old c all w event good fair can elsewhere stays =
        let still = stays_handed w.scene event in
        record {
          scene = continued g.cables g.counts w.scene event fair.scene can;
          traced = around_traced start seat plan c all g.cables g.counts good w.scene event fair.scene fair.traced can elsewhere stays;
          seat_is = fair.seat_is;
          side = fair.side;
          once = fair.once;
          outgoing = own_still c all w.scene.handed (after_event w.scene event).handed w.manager.outgoing still fair.outgoing;
          out = own_still c all w.scene.handed (after_event w.scene event).handed w.out still fair.out;
        }

  -- with more numbers used up, and more steps -------------------------------------------------------------

  module _ (c later : ℕ) (all more : List StepSent) (upto : c ≤ later) (among : (x : StepSent) → Contains all x → Contains more x) where
    older : (bytes : List ℕ) → IsOld start seat plan c all bytes → IsOld start seat plan later more bytes
    older bytes (inl low) = inl (omega (arith, low, upto))
    older bytes (inr high) = inr high

    earlier : (request : List ℕ) → IsEarlier start seat plan c all request → IsEarlier start seat plan later more request
    earlier request (inl low) = inl (omega (arith, low, upto))
    earlier request (inr high) = inr high

    own_of : (request : List ℕ) → IsOwn start seat plan c all request → IsOwn start seat plan later more request
    own_of request (inl old) = inl (earlier request old)
    own_of request (inr x) = inr (record { step = x.step; there = among x.step x.there; small = x.small; is = x.is })

    sends_of : (origin : NodePort) (request : List ℕ) → Sends start seat plan c all origin request → Sends start seat plan later more origin request
    sends_of origin request sent same = own_of request (sent same)

    tells_of : (s : Simulation) (origin end : NodePort) (answer : List ℕ) → Tells start seat plan c all s origin end answer
        → Tells start seat plan later more s origin end answer
    tells_of s origin end answer told same =
        elim (told same) [
          | inl old ↦ inl (older answer old)
          | inr x ↦ inr (record { step = x.step; there = among x.step x.there; number = x.number; asked = x.asked; is_done = x.is_done })
        ]

    traced_of : (s : Simulation) (handed : List Handed) → WereTraced start seat plan c all s handed → WereTraced start seat plan later more s handed
    traced_of s [] were = tt
    traced_of s (h ∷ handed) were = (
      weaker_manager (Sends start seat plan c all) (Tells start seat plan c all s) (Sends start seat plan later more) (Tells start seat plan later more s) start
          sends_of (tells_of s) h.at h.packet.bytes were.0,
      traced_of s handed were.1,
    )

    sending_of : (s : Sending) → IsOwnSending start seat plan c all s → IsOwnSending start seat plan later more s
    sending_of (ByLid packet) own = own
    sending_of (ByPath method attribute modifier tid path payload) own = own_of (directed method attribute modifier tid path payload) own
    sending_of (Answer which given payload) own = tt

    pub packets_of : (handed : List Handed) (out : List Outgoing) → AreOwnPackets c all handed out → AreOwnPackets later more handed out
    packets_of handed [] own = tt
    packets_of handed (o ∷ out) own = (
      record { sending = own.0.sending; can = own.0.can; own = sending_of own.0.sending own.0.own; is = own.0.is },
      packets_of handed out own.1,
    )

    pub fair_later : (old : Type 0) (w : Managing) → IsFair old c all w → IsFair old later more w
    fair_later old w fair =
        record {
          scene = fair.scene;
          traced = record {
            flights = weaker_all (Sends start seat plan c all) (Tells start seat plan c all w.scene.fabric) (Sends start seat plan later more)
                (Tells start seat plan later more w.scene.fabric) start sends_of (tells_of w.scene.fabric) w.scene.fabric.flights fair.traced.flights;
            handed = traced_of w.scene.fabric w.scene.handed fair.traced.handed;
          };
          seat_is = fair.seat_is;
          side = fair.side;
          once = fair.once;
          outgoing = packets_of w.scene.handed w.manager.outgoing fair.outgoing;
          out = packets_of w.scene.handed w.out fair.out;
        }
