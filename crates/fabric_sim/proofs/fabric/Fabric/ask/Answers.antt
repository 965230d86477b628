use Rattle.std.proofs.Common.{◌≡◌, ◌<◌, ◌^◌, ℕ, true, [], ◌∷◌, ◌++◌, ap, sym, ◌∙◌, subst, rules, get_or}
use Rattle.std.specs.Prelude.{remove, slice_get, slice_set, option_map, Some}
use Rattle.fabric_sim.specs.declared.flight.Flight.{Flight}
use Rattle.fabric_sim.specs.Simulation.{Simulation, next_serial, has_cable_port, port_of, answer_whereabouts}
use Rattle.fabric_sim.specs.declared.envelope.Envelope.{Envelope}
use Rattle.fabric_sim.specs.Called.{refused, Called}
use Rattle.fabric_sim.specs.Delivery.{asked, flight_in}
use Rattle.fabric_sim.specs.declared.fabric_fault.FabricFault.TheVariants.{SerialsSpent}
use Rattle.fabric_sim.specs.declared.delivered.Delivered.{Delivered}
use Rattle.std.proofs.lemmas.Bool.{cond-false}
use Rattle.fabric_sim.proofs.Written.{removed, next_after, waiting_at, asks, asked_now, asked_valid, is_left}
use Rattle.fabric_sim.proofs.Envelopes.{OfEnvelope, of_envelope}
use Rattle.fabric_sim.proofs.fabric.Fabric.ask.Goals as goal

fits : (c : goal.After-self-2-1) → c.in-Some.serial < 2 ^ 64
fits c = search rules

-- the request that waits there
there : (c : goal.After-self-2-1) → OfEnvelope c.args.self.now.flights c.args.i c.args.envelope.now
there c = of_envelope _ _ _ c.requires.at

at : (c : goal.After-self-2-1) → slice_get c.self.inside.flights.items c.args.i ≡ Some (there c).flight
at c = let P : Simulation → Type 0 = λ s. slice_get s.flights c.args.i ≡ Some (there c).flight in subst P (sym c.self.view_is) (there c).at

port_there : (c : goal.After-self-2-1) → c.port-at.result ≡ port_of (there c).flight.whereabouts
port_there c = c.port-at.ensures ∙ ap (λ (e : Envelope). port_of e.whereabouts) (sym (there c).same)

answer_there : (c : goal.After-self-2-1) → c.answer_whereabouts.result ≡ answer_whereabouts (there c).flight.whereabouts
answer_there c = c.answer_whereabouts.ensures ∙ ap (λ (e : Envelope). answer_whereabouts e.whereabouts) (sym (there c).same)

left : (c : goal.After-self-2-1) → c.remove.new.self.items ≡ remove c.self.inside.flights.items c.args.i
left c = removed _ _ c.args.i (there c).flight.serial _ _ c.self.inside.flights.ok.0 (ap (option_map (λ (f : Flight). f.serial)) (at c))
    c.remove.ensures.succeeds c.remove.ensures.items

more : (c : goal.After-self-2-1) → c.push_back_reserved.new.self.items ≡ remove c.self.inside.flights.items c.args.i
    ++ record {
      serial = c.in-Some.serial;
      whereabouts = answer_whereabouts (there c).flight.whereabouts;
      packet =
          record { bytes = c.answer-answer.result; slid = c.args.slid; dlid = c.args.dlid };
    } ∷ []
more c =
    c.push_back_reserved.ensures.items
    ∙ (ap (λ fs. fs ++ record {
      serial = c.in-Some.serial;
      whereabouts = c.answer_whereabouts.result;
      packet =
          record { bytes = c.bytes.result.now; slid = c.args.slid; dlid = c.args.dlid };
    } ∷ []) (left c)
    ∙ (ap (λ p. remove c.self.inside.flights.items c.args.i
    ++ record { serial = c.in-Some.serial; whereabouts = p; packet = record { bytes = c.bytes.result.now; slid = c.args.slid; dlid = c.args.dlid } }
    ∷ []) (answer_there c)
    ∙ ap (λ b. remove c.self.inside.flights.items c.args.i
    ++ record {
      serial = c.in-Some.serial;
      whereabouts = answer_whereabouts (there c).flight.whereabouts;
      packet =
          record { bytes = b; slid = c.args.slid; dlid = c.args.dlid };
    } ∷ []) c.bytes.ensures.bytes))

port : (c : goal.After-self-2-1) → has_cable_port c.self.inside.agents.items (port_of (there c).flight.whereabouts) ≡ true
port c = (waiting_at _ c.args.i (there c).flight c.self.invariant (at c)).whereabouts.port

-- the fabric then, by the id of the node that answers
abbrev now_at : goal.After-self-2-1 → ℕ → Simulation
now_at c id =
    record {
      agents = slice_set c.self.inside.agents.items id c.answer-answer.new.self;
      peers = c.self.inside.peers.items;
      flights = c.push_back_reserved.new.self.items;
      next = next_serial c.checked_add-self-inside.result;
      traps = c.self.inside.traps;
    }

written : (c : goal.After-self-2-1) → ◌≡◌ {A = Simulation}
    (record {
      agents = slice_set c.self.inside.agents.items c.number.result c.answer-answer.new.self;
      peers = c.self.inside.peers.items;
      flights =
          c.push_back_reserved.new.self.items;
      next = next_serial c.checked_add-self-inside.result;
      traps = c.self.inside.traps;
    })
    (asked c.args.self.now (there c).flight c.args.request.now c.args.slid c.args.dlid)
written c =
    let read : c.index_mut-agent.result.now ≡ get_or c.self.inside.agents.items c.port-at.result.node c.index_mut-agent.result.now =
    subst (λ (n : ℕ). c.index_mut-agent.result.now
    ≡ get_or c.self.inside.agents.items n c.index_mut-agent.result.now) c.number.ensures c.index_mut-agent.ensures.value in
    let done = asks (record {
      agents = c.self.inside.agents.items;
      peers = c.self.inside.peers.items;
      flights = c.self.inside.flights.items;
      next =
          next_serial c.self.inside.next;
      traps = c.self.inside.traps;
    }) (there c).flight c.args.request.now c.answer-answer.result c.port-at.result c.index_mut-agent.result.now
    c.answer-answer.new.self (port c) (port_there c) read c.answer-answer.ensures.state c.answer-answer.ensures.answer in
    ap (λ (n : ℕ). now_at c n) c.number.ensures
    ∙ asked_now _ _ c.self.view_is c.args.i c.in-Some.serial _ c.args.slid c.args.dlid (there c).flight c.args.request.now c.answer-answer.result
    c.port-at.result.node c.answer-answer.new.self _ c.self.invariant (there c).at
    (ap (λ p. p.node) (port_there c)) done (ap next_serial c.in-Some.is) (more c) (next_after c.in-Some.serial _ (fits c) c.checked_add-self-inside.ensures)

pub invariant_of-self : goal.invariant_of-self
invariant_of-self c =
    asked_valid _ _ c.self.view_is c.args.i c.args.slid c.args.dlid (there c).flight c.args.request.now _ c.self.invariant (there c).at
    (subst (λ n. n < 2 ^ 64) (sym (ap next_serial c.in-Some.is)) (fits c)) (written c)

-- it is answered alike, whatever bytes it had
asked_alike : (c : goal.After-self-2-1) → asked c.args.self.now (there c).flight c.args.request.now c.args.slid c.args.dlid
    ≡ asked c.args.self.now (flight_in c.args.envelope.now c.args.request.now) c.args.request.now c.args.slid c.args.dlid
asked_alike c =
    ap (λ (e : Envelope). asked c.args.self.now (flight_in e c.args.request.now) c.args.request.now c.args.slid c.args.dlid) (there c).same

pub returns-clause-fabric : goal.returns-clause-fabric
returns-clause-fabric c =
    written c ∙ asked_alike c ∙ sym (ap (λ (done : Called Delivered). done.fabric)
    (cond-false _ (refused c.args.self.now SerialsSpent) _ (is_left _ _ c.in-Some.serial c.self.view_is (ap next_serial c.in-Some.is) (fits c))))
