-- A sweep makes few requests, and ends.
use Rattle.std.proofs.Common.{◌≡◌, ◌⊎◌, inl, inr, ℕ, zero, suc, ◌+◌, ◌*◌, ◌≤◌, ◌&&◌, Bool, true, false, cond, List, [], ◌∷◌, ◌++◌, length, refl, arith, ap, sym, ◌∙◌, subst, length-append}
use Rattle.std.proofs.lemmas.List.Elements.{All-head, All-tail}
use Rattle.std.specs.Prelude.{All, Option, Some, None, Result, Ok, Err, ◌==◌, find, is_some, slice_get}
use Rattle.std.specs.List.{AllByRecursion}
use Rattle.std.proofs.lemmas.Bool.{cond_both, eq-eqb}
use Rattle.std.proofs.lemmas.Option.{same_Some}
use Rattle.fabric_model.specs.declared.cable.NodePort.{NodePort}
use Rattle.fabric_model.specs.Cables.{is_same_port}
use Rattle.fabric_model.specs.Fabric.{Fabric, Node}
use Rattle.fabric_sim.specs.Simulation.{Simulation, fabric_of}
use Rattle.fabric_sim.proofs.Courses.{IsForManager}
use Rattle.sweep.specs.declared.answer.Answer.{Answer}
use Rattle.sweep.specs.declared.fault.SweepFault.{SweepFault}
use Rattle.sweep.specs.declared.request.Request.{Request}
use Rattle.sweep.specs.declared.vertex.Vertex.{Vertex}
use Rattle.sweep.specs.Finding.{finding}
use Rattle.sweep.specs.Questions.{questions}
use Rattle.sweep.specs.Replies.{after_reply, after_reply_to, belongs, judged, request_of}
use Rattle.sweep.specs.Sweep.{Sweep, after_next_request_of, after_timeout_of, is_done, is_none_left, numbered, packet_of, request_with, started, transaction_of, without_number}
use Rattle.sweep.proofs.Asked.{length_numbered}
use Rattle.manager_laws.specs.Scene.{Handed}
use Rattle.manager_laws.specs.Sweeping.{Around, Ask, Begins, CanBe, Hear, Send, SweepEvent, Sweeping, TimeOut}
use Rattle.manager_laws.specs.Sweeping.{after_sweep_event, after_sweep_events, asking_more, hearing, one_more, sending, with_answer}
use Rattle.manager_laws.specs.Truth.{AreGuidsDistinct}
use Rattle.manager_laws.proofs.Lists.{Has, found_has}
use Rattle.manager_laws.proofs.Answers.{was_there}
use Rattle.manager_laws.proofs.Swept as swept
use Rattle.manager_laws.proofs.Swept.{Goes, at_seat, cabled_there, can_sweep, few_ports_there, goes_first, goes_on}
use Rattle.manager_laws.specs.SweepEnds.{CanStep, Ends, SweepsAskFew, SweepsEnd, accepts, hears, most_requests, requests_made, step_by, steps_in}
use Rattle.manager_laws.proofs.sweep_ends.Asked.{AreDistinct, cost_of, gone, ports_append, ports_in, ports_numbered, reply_costs}
use Rattle.manager_laws.proofs.sweep_ends.Here.{AreHere, IsHere, reply_here}
use Rattle.manager_laws.proofs.sweep_ends.Nodes.{Fits, IsAmong, most_is, nodes_cost}

-- the sweep alone -----------------------------------------------------------------------------------------

-- a sweep after `steps` steps, whose requests are numbered from `first` on, and which gave out `out` of them
record IsFair (first steps out : ℕ) (s : Sweep) : Type 0 where
  -- each number was given to a request that was given out or is queued
  pub made : first + (out + length s.queued) ≡ s.next
  -- the vertices pay for the requests
  pub paid : s.next + 2 * (ports_in s.outstanding + ports_in s.queued) ≤ first + 1 + cost_of s.reached
  -- two steps for each request, of which a queued one has taken none, and an outstanding one has taken one
  pub taken : 2 * first + steps + (2 * length s.queued + length s.outstanding) ≤ 2 * s.next
  pub distinct : AreDistinct s.reached

-- no step
stays : (first steps out : ℕ) (s : Sweep) → IsFair first steps out s → IsFair first (steps + 0) out s
stays first steps out s is =
    let taken = is.taken in
    record { made = is.made; paid = is.paid; taken = omega (arith, taken); distinct = is.distinct }

-- the next request is given out
gives_out : (first steps : ℕ) (asked : List (List ℕ)) (s : Sweep) (q : List Request) → s.queued ≡ q → IsFair first steps (length asked) s
    → IsFair first (steps + cond (is_none_left q) 0 1) (length (one_more asked (after_next_request_of s q).packet)) (after_next_request_of s q).sweep
gives_out first steps asked s [] e is = stays first steps (length asked) s is
gives_out first steps asked s (r ∷ q) e is =
    let long = ap length e in
    let ports = ap ports_in e in
    let out = length-append s.outstanding (r ∷ []) in
    let asks = ports_append s.outstanding (r ∷ []) in
    let more = length-append asked (packet_of s.generation r ∷ []) in
    let made = is.made in
    let paid = is.paid in
    let taken = is.taken in
    record {
      made = omega (arith, made, long, more);
      paid = omega (arith, paid, ports, asks);
      taken = omega (arith, taken, long, out);
      distinct = is.distinct;
    }

-- a request is given up
gives_up : (first steps out : ℕ) (s : Sweep) (r : Request) → Has (λ x. x ≡ r) s.outstanding → IsFair first steps out s
    → IsFair first (steps + 1) out (after_timeout_of s (Some r))
gives_up first steps out s r there is =
    let less = gone r s.outstanding there in
    let ports = less.ports in
    let long = less.long in
    let paid = is.paid in
    let taken = is.taken in
    record { made = is.made; paid = omega (arith, paid, ports); taken = omega (arith, taken, long); distinct = is.distinct }

-- a reply is accepted
replies : (first steps out : ℕ) (s : Sweep) (r : Request) (packet : List ℕ) → Has (λ x. x ≡ r) s.outstanding → IsFair first steps out s
    → IsFair first (steps + 1) out (after_reply_to s packet (Some r))
replies first steps out s r packet there is =
    let asked = questions r.path (finding s r packet) in
    let less = gone r s.outstanding there in
    let ports = less.ports in
    let long = less.long in
    let costs = reply_costs s r packet r.question is.distinct in
    let enough = costs.enough in
    let more = length-append s.queued (numbered s.next asked) in
    let count = length_numbered s.next asked in
    let asks = ports_append s.queued (numbered s.next asked) in
    let asks_more = ports_numbered s.next asked in
    let made = is.made in
    let paid = is.paid in
    let taken = is.taken in
    record {
      made = omega (arith, made, more, count);
      paid = omega (arith, paid, ports, enough, asks, asks_more);
      taken = omega (arith, taken, long, more, count);
      distinct = costs.distinct;
    }

times_out : (first steps out : ℕ) (s : Sweep) (transaction : ℕ) (m : Option Request) → request_with s.generation transaction s.outstanding ≡ m
    → IsFair first steps out s → IsFair first (steps + cond (is_some m) 1 0) out (after_timeout_of s m)
times_out first steps out s transaction None e is = stays first steps out s is
times_out first steps out s transaction (Some r) e is =
    gives_up first steps out s r (found_has (λ (x : Request). transaction_of s.generation x.number == transaction) s.outstanding r e).0 is

-- the sweep on its fabric -----------------------------------------------------------------------------------

module _ (begun : Sweeping) (generation first : ℕ) (begins : Begins begun generation first) where
  abbrev start : Simulation
  start = begun.scene.fabric

  abbrev f : Fabric
  f = fabric_of start

  abbrev IsGoing : Sweeping → Type 0
  IsGoing w =
      Goes begins.quiet.fabric.cables (few_ports_there begun generation first begins) (can_sweep begun generation first begins)
      (cabled_there begun generation first begins) w

  record IsGood (steps : ℕ) (w : Sweeping) : Type 0 where
    pub fair : IsFair first steps (length w.asked) w.sweep
    pub here : AreHere f w.sweep.reached

  sent_good : (steps : ℕ) (w : Sweeping) (m : Option (List ℕ)) → IsGood steps w → IsGood (steps + 0) (sending w m)
  sent_good steps w None is = record { fair = stays first steps (length w.asked) w.sweep is.fair; here = is.here }
  sent_good steps w (Some packet) is = record { fair = stays first steps (length w.asked) w.sweep is.fair; here = is.here }

  asked_good : (steps : ℕ) (w : Sweeping) (q : List Request) → w.sweep.queued ≡ q → IsGood steps w
      → IsGood (steps + cond (is_none_left q) 0 1) (asking_more w (after_next_request_of w.sweep q))
  asked_good steps w [] e is = record { fair = gives_out first steps w.asked w.sweep [] e is.fair; here = is.here }
  asked_good steps w (r ∷ q) e is = record { fair = gives_out first steps w.asked w.sweep (r ∷ q) e is.fair; here = is.here }

  given_up_good : (steps : ℕ) (w : Sweeping) (transaction : ℕ) (m : Option Request)
      → request_with w.sweep.generation transaction w.sweep.outstanding ≡ m → IsGood steps w
      → IsGood (steps + cond (is_some m) 1 0) (record w { sweep = after_timeout_of w.sweep m })
  given_up_good steps w transaction None e is = record { fair = times_out first steps (length w.asked) w.sweep transaction None e is.fair; here = is.here }
  given_up_good steps w transaction (Some r) e is =
      record { fair = times_out first steps (length w.asked) w.sweep transaction (Some r) e is.fair; here = is.here }

  -- a reply
  module _ (steps : ℕ) (w : Sweeping) (goes : IsGoing w) (is : IsGood steps w) (bytes : List ℕ) (for : IsForManager start begun.seat bytes) where
    reply_good : (answer : Answer) → judged w.sweep bytes ≡ Ok answer → IsGood (steps + 1) (with_answer w bytes (Ok answer))
    reply_good answer taken =
        let cables = begins.quiet.fabric.cables in
        let counts = few_ports_there begun generation first begins in
        let can = can_sweep begun generation first begins in
        let cabled = cabled_there begun generation first begins in
        let a = swept.accepted_as cables counts can cabled w.sweep goes.sound bytes for answer taken in
        let r = a.request in
        let there = (found_has (belongs w.sweep.generation bytes) w.sweep.outstanding r a.belongs).0 in
        record {
          fair =
              subst (λ m. IsFair first (steps + 1) (length w.asked) (after_reply_to w.sweep bytes m)) (sym a.belongs)
              (replies first steps (length w.asked) w.sweep r bytes there is.fair);
          here =
              subst (λ m. AreHere f (after_reply_to w.sweep bytes m).reached) (sym a.belongs)
              (reply_here f can.distinct w.sweep is.here (swept.told cables counts can cabled w.sweep goes.sound bytes for answer taken).end r bytes
              (swept.says cables counts can cabled w.sweep goes.sound bytes for answer taken)
              (swept.for cables counts can cabled w.sweep goes.sound bytes for answer taken)
              (swept.node_good cables counts can cabled w.sweep goes.sound bytes for answer taken) r.question refl);
        }

    judged_good : (result : Result Answer SweepFault) → judged w.sweep bytes ≡ result → IsGood (steps + accepts result) (with_answer w bytes result)
    judged_good (Ok answer) e = reply_good answer e
    judged_good (Err why) e = record { fair = stays first steps (length w.asked) w.sweep is.fair; here = is.here }

  heard_good : (steps : ℕ) (w : Sweeping) (m : Option Handed) → IsGoing w → IsGood steps w
      → ((h : Handed) → m ≡ Some h → IsForManager start h.at h.packet.bytes) → IsGood (steps + hears w m) (hearing w m)
  heard_good steps w None goes is were = record { fair = stays first steps (length w.asked) w.sweep is.fair; here = is.here }
  heard_good steps w (Some h) goes is were = by_port (is_same_port h.at w.seat) refl
    where
      by_port : (b : Bool) → is_same_port h.at w.seat ≡ b
          → IsGood (steps + cond b (accepts (judged w.sweep h.packet.bytes)) 0) (cond b (with_answer w h.packet.bytes (judged w.sweep h.packet.bytes)) w)
      by_port true same =
          judged_good steps w goes is h.packet.bytes
          (at_seat begins.quiet.fabric.cables (few_ports_there begun generation first begins) (can_sweep begun generation first begins)
          (cabled_there begun generation first begins) w h goes same (were h refl))
          (judged w.sweep h.packet.bytes) refl
      by_port false same = record { fair = stays first steps (length w.asked) w.sweep is.fair; here = is.here }

  event_good : (steps : ℕ) (w : Sweeping) (event : SweepEvent) → IsGoing w → IsGood steps w
      → IsGood (steps + step_by w event) (after_sweep_event w event)
  event_good steps w (Around event) goes is = record { fair = stays first steps (length w.asked) w.sweep is.fair; here = is.here }
  event_good steps w Ask goes is = asked_good steps w w.sweep.queued refl is
  event_good steps w (Send which) goes is = sent_good steps w (slice_get w.asked which) is
  event_good steps w (Hear which) goes is =
      heard_good steps w (slice_get w.scene.handed which) goes is (λ h e. was_there start w.scene.handed which h goes.scene.handed e)
  event_good steps w (TimeOut transaction) goes is =
      given_up_good steps w transaction (request_with w.sweep.generation transaction w.sweep.outstanding) refl is

  all_good : (events : List SweepEvent) (steps : ℕ) (w : Sweeping) → IsGoing w → IsGood steps w → All CanBe events
      → IsGood (steps + steps_in events w) (after_sweep_events events w)
  all_good [] steps w goes is all = record { fair = stays first steps (length w.asked) w.sweep is.fair; here = is.here }
  all_good (event ∷ events) steps w goes is all =
      let later = after_sweep_event w event in
      let sum : steps + step_by w event + steps_in events later ≡ steps + (step_by w event + steps_in events later) = omega arith in
      subst (λ n. IsGood n (after_sweep_events events later)) sum
      (all_good events (steps + step_by w event) later
      (goes_on begins.quiet.fabric.cables (few_ports_there begun generation first begins) (can_sweep begun generation first begins)
      (cabled_there begun generation first begins) w event goes (All-head CanBe event events all))
      (event_good steps w event goes is) (All-tail CanBe event events all))

  good_first : IsGood 0 begun
  good_first =
      let sweep : IsFair first 0 0 (started begun.seat.port generation first begins.keeps) =
      record { made = omega arith; paid = omega arith; taken = omega arith; distinct = tt } in
      record {
        fair =
            subst (λ (x : Sweep × List (List ℕ)). IsFair first 0 (length x.1) x.0) (λ i. (sym begins.sweep i, sym begins.asked i)) sweep;
        here = subst (λ (s : Sweep). AreHere f s.reached) (sym begins.sweep) tt;
      }

  -- vertices are those of the nodes
  has_at : (P : Node → Type 0) (nodes : List Node) (i : ℕ) (n : Node) → slice_get nodes i ≡ Some n → P n → Has P nodes
  has_at P [] i n e is = absurd (cc)
  has_at P (m ∷ nodes) zero n e is = inl (subst P (sym (same_Some m n e)) is)
  has_at P (m ∷ nodes) (suc i) n e is = inr (has_at P nodes i n e is)

  all_at : (P : Node → Type 0) (nodes : List Node) → ((i : ℕ) (n : Node) → slice_get nodes i ≡ Some n → P n) → AllByRecursion P nodes
  all_at P [] each = tt
  all_at P (n ∷ nodes) each = (each 0 n refl, all_at P nodes (λ i m e. each (suc i) m e))

  among : (v : Vertex) → IsHere f v → IsAmong f.nodes v
  among v is =
      record {
        some = has_at (λ (n : Node). n.guid ≡ v.guid) f.nodes is.id is.node is.has.there is.has.named;
        fits = all_at (λ (n : Node). n.guid ≡ v.guid → Fits n v) f.nodes (λ i n there same. fit i n there same);
      }
    where
      fit : (i : ℕ) (n : Node) → slice_get f.nodes i ≡ Some n → n.guid ≡ v.guid → Fits n v
      fit i n there same =
          let id : is.id ≡ i = begins.distinct is.id i is.node n is.has.there there (is.has.named ∙ sym same) in
          let node : is.node ≡ n = same_Some is.node n (sym is.has.there ∙ ap (slice_get f.nodes) id ∙ there) in
          subst (λ (m : Node). Fits m v) node (record { kind = is.kind; ports = is.ports; within = is.within; zero = is.zero })

  all_among : (reached : List Vertex) → AreHere f reached → AllByRecursion (IsAmong f.nodes) reached
  all_among [] all = tt
  all_among (v ∷ reached) all = (among v all.0, all_among reached all.1)

  -- the laws
  module _ (events : List SweepEvent) (all : All CanBe events) where
    abbrev ended : Sweeping
    ended = after_sweep_events events begun

    good : IsGood (0 + steps_in events begun) ended
    good = all_good events 0 begun (goes_first begun generation first begins) good_first all

    pub few_requests : requests_made ended ≤ most_requests f
    few_requests =
        let made = good.fair.made in
        let paid = good.fair.paid in
        let cost = nodes_cost f.nodes ended.sweep.reached good.fair.distinct (all_among ended.sweep.reached good.here) in
        let most = most_is f.nodes in
        omega (arith, made, paid, cost, most)

    pub few_steps : steps_in events begun ≤ 2 * most_requests f
    few_steps =
        let made = good.fair.made in
        let taken = good.fair.taken in
        let few = few_requests in
        omega (arith, made, taken, few)

can_step : (w : Sweeping) (queued outstanding : List Request) → w.sweep.queued ≡ queued → w.sweep.outstanding ≡ outstanding
    → is_none_left queued && is_none_left outstanding ≡ false → CanStep w
can_step w (r ∷ queued) outstanding e h left = (Ask, tt, ap (λ q. cond (is_none_left q) 0 1) e)
can_step w [] [] e h left = absurd (cc)
can_step w [] (r ∷ outstanding) e h left =
    let t = transaction_of w.sweep.generation r.number in
    let test : Request → Bool = λ x. transaction_of w.sweep.generation x.number == t in
    let found : request_with w.sweep.generation t (r ∷ outstanding) ≡ Some r =
    ap (λ b. cond b (Some r) (find test outstanding)) (eq-eqb t t refl) in
    (TimeOut t, tt, ap (λ m. cond (is_some m) 1 0) (ap (request_with w.sweep.generation t) h ∙ found))

pub sweeps_ask_few : SweepsAskFew
sweeps_ask_few w generation first events begins all = few_requests w generation first begins events all

pub sweeps_end : SweepsEnd
sweeps_end w generation first events begins all =
    let ended = after_sweep_events events w in
    record {
      few = few_steps w generation first begins events all;
      goes_on = λ left. can_step ended ended.sweep.queued ended.sweep.outstanding refl refl left;
    }
