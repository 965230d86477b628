-- One more request is sent.
use Rattle.std.proofs.Common.{◌≡◌, ℕ, ◌+◌, List, [], ◌∷◌, ◌++◌, length, refl, sym, ap, ◌∙◌, arith}
use Rattle.std.proofs.lemmas.List.{append_assoc}
use Rattle.std.proofs.lemmas.Option.{same_Some}
use Rattle.std.specs.Prelude.{Some, None}
use Rattle.sweep.specs.declared.request.Request.{Request}
use Rattle.sweep.specs.Sweep.{Sweep, packet_of, after_next_request_of, after_next_request}
use Rattle.sm_manager.specs.Manager.{requests_out, with_all_sent}

-- the first of the queue went out, and waits
pub record HasSent (s : Sweep) (packet : List ℕ) (t : Sweep) : Type 0 where
  pub all : with_all_sent t ≡ with_all_sent s
  pub out : requests_out s.generation s.queued ≡ record { packet = packet; to = None } ∷ requests_out t.generation t.queued
  pub less : length s.queued ≡ length t.queued + 1

pub sent_one : (s : Sweep) (packet : List ℕ) → (after_next_request s).packet ≡ Some packet → HasSent s packet (after_next_request s).sweep
sent_one s packet e = by_queue s.queued refl e
  where
    by_queue : (queue : List Request) → s.queued ≡ queue → (after_next_request_of s queue).packet ≡ Some packet
        → HasSent s packet (after_next_request_of s queue).sweep
    by_queue [] is h = cc
    by_queue (r ∷ queue) is h =
        let same : packet_of s.generation r ≡ packet = same_Some _ _ h in
        let waiting : (s.outstanding ++ r ∷ []) ++ queue ≡ s.outstanding ++ s.queued =
        append_assoc s.outstanding (r ∷ []) queue ∙ ap (λ q. s.outstanding ++ q) (sym is) in
        record {
          all = λ j. record s { queued = []; outstanding = waiting j };
          out = ap (requests_out s.generation) is ∙ ap (λ p. record { packet = p; to = None } ∷ requests_out s.generation queue) same;
          less = let count = ap length is in omega (arith, count);
        }
