-- What holds of packets also holds if more may be sent, and answers may tell more.
use Rattle.std.proofs.Common.{inl, inr, ℕ, List, [], ◌∷◌}
use Rattle.fabric_model.specs.declared.cable.NodePort.{NodePort}
use Rattle.fabric_sim.specs.declared.flight.Flight.{Flight}
use Rattle.fabric_sim.specs.Simulation.{Simulation, port_of}
use Rattle.fabric_sim.proofs.Traced.{IsRequestFor, IsAnswerFrom, IsOnCourse, IsForManager}
use Rattle.fabric_sim.proofs.TracedCalls.{AreTraced}

module _ (Sends : NodePort → List ℕ → Type 0) (Tells : NodePort → NodePort → List ℕ → Type 0)
    (Sends' : NodePort → List ℕ → Type 0) (Tells' : NodePort → NodePort → List ℕ → Type 0) (start : Simulation)
    (sent : (origin : NodePort) (request : List ℕ) → Sends origin request → Sends' origin request)
    (told : (origin end : NodePort) (answer : List ℕ) → Tells origin end answer → Tells' origin end answer) where
  weaker_for : (at : NodePort) (bytes : List ℕ) → IsRequestFor Sends Tells start at bytes → IsRequestFor Sends' Tells' start at bytes
  weaker_for at bytes r =
      record {
        origin = r.origin;
        path = r.path;
        request = r.request;
        over = r.over;
        own = r.own;
        leads = r.leads;
        within = r.within;
        bytes_are = r.bytes_are;
        sent = sent r.origin r.request r.sent;
      }

  weaker_from : (origin : NodePort) (path answer : List ℕ) → IsAnswerFrom Sends Tells start origin path answer
      → IsAnswerFrom Sends' Tells' start origin path answer
  weaker_from origin path answer r =
      record {
        reads = r.reads;
        response = r.response;
        count = r.count;
        own = r.own;
        end = r.end;
        leads = r.leads;
        ports = r.ports;
        tells = told origin r.end answer r.tells;
      }

  pub weaker_on : (at : NodePort) (bytes : List ℕ) → IsOnCourse Sends Tells start at bytes → IsOnCourse Sends' Tells' start at bytes
  weaker_on at bytes on =
      record {
        count = on.count;
        course = λ directed. let (hops, is) = on.course directed in (
          hops,
          elim is [
            | inl r ↦ inl (record {
              origin = r.origin;
              path = r.path;
              request = r.request;
              over = r.over;
              own = r.own;
              most = r.most;
              there = r.there;
              within = r.within;
              bytes_are = r.bytes_are;
              sent = sent r.origin r.request r.sent;
            })
            | inr r ↦ inr (record {
              origin = r.origin;
              path = r.path;
              answer = r.answer;
              is = weaker_from r.origin r.path r.answer r.is;
              most = r.most;
              here = r.here;
              there = r.there;
              node = r.node;
              home = r.home;
              bytes_are = r.bytes_are;
            })
          ],
        );
      }

  pub weaker_manager : (at : NodePort) (bytes : List ℕ) → IsForManager Sends Tells start at bytes → IsForManager Sends' Tells' start at bytes
  weaker_manager at bytes is =
      record {
        whole = is.whole;
        course = λ directed. elim (is.course directed) [
          | inl r ↦ inl (weaker_for at bytes r)
          | inr r ↦ inr (record { path = r.path; answer = r.answer; is = weaker_from at r.path r.answer r.is; kept = r.kept; count = r.count })
        ];
      }

  pub weaker_all : (flights : List Flight) → AreTraced Sends Tells start flights → AreTraced Sends' Tells' start flights
  weaker_all [] all = tt
  weaker_all (f ∷ flights) all = (weaker_on (port_of f.whereabouts) f.packet.bytes all.0, weaker_all flights all.1)
