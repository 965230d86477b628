-- A writing that is given up is dropped whole.
use Rattle.std.proofs.Common.{◌≡◌, ◌∙◌, ◌+◌, ℕ, zero, suc, List, [], ◌∷◌, Option, None, Some, arith, drop, length, refl, sym, ap}
use Rattle.std.proofs.Math.Seq.{drop-length}
use Rattle.std.proofs.lemmas.List.{drop-drop}
use Rattle.sm_manager.specs.declared.outgoing.Outgoing.{Outgoing}
use Rattle.request_window.specs.Window.{unanswered_of, unsent_of}
use Rattle.request_window.specs.declared.out.Out.{Out}
use Rattle.acting_manager.specs.Acting.{Acting}
use Rattle.acting_manager.specs.ActingLaws.{DropsAll}
use Rattle.acting_manager.specs.Working.{dropped_one, out_dropped, queued_dropped, repeated}

-- `b` is `a` with so many requests dropped, of those that wait for their turn and of those that are out
record IsWithout (waiting out : ℕ) (a b : Acting) : Type 0 where
  queued : b.window.queued ≡ drop waiting a.window.queued
  outs : b.window.outs ≡ drop out a.window.outs
  ready : b.ready ≡ a.ready

-- dropping a request changes no request on its way
one_dropped : (request : Option Outgoing) (b : Acting) (waiting out : ℕ) (a : Acting) → IsWithout waiting out a b
    → IsWithout waiting out a (dropped_one request b)
one_dropped None b waiting out a is = is
one_dropped (Some request) b waiting out a is = record { queued = is.queued; outs = is.outs; ready = is.ready }

queued_of : (a : Acting) (queue : List Outgoing) → a.window.queued ≡ queue
    → IsWithout 1 0 a (dropped_one (unsent_of a.window queue).request (record a { window = (unsent_of a.window queue).window }))
queued_of a [] e = record { queued = e ∙ ap (drop 1) (sym e); outs = refl; ready = refl }
queued_of a (out ∷ later) e = record { queued = ap (drop 1) (sym e); outs = refl; ready = refl }

outs_of : (a : Acting) (outs : List Out) → a.window.outs ≡ outs
    → IsWithout 0 1 a (dropped_one (unanswered_of a.window outs).request (record a { window = (unanswered_of a.window outs).window }))
outs_of a [] e = record { queued = refl; outs = e ∙ ap (drop 1) (sym e); ready = refl }
outs_of a (out ∷ later) e = record { queued = refl; outs = ap (drop 1) (sym e); ready = refl }

then : {w o w' o' : ℕ} (a b c : Acting) → IsWithout w o a b → IsWithout w' o' b c → IsWithout (w + w') (o + o') a c
then {w} {o} {w'} {o'} a b c r s = record {
  queued = s.queued ∙ ap (drop w') r.queued ∙ drop-drop w' w a.window.queued;
  outs = s.outs ∙ ap (drop o') r.outs ∙ drop-drop o' o a.window.outs;
  ready = s.ready ∙ r.ready;
}

more : {w o w' o' : ℕ} (a b : Acting) → w ≡ w' → o ≡ o' → IsWithout w o a b → IsWithout w' o' a b
more a b e f is = record {
  queued = is.queued ∙ ap (λ n. drop n a.window.queued) e;
  outs = is.outs ∙ ap (λ n. drop n a.window.outs) f;
  ready = is.ready;
}

all_queued : (n : ℕ) (a : Acting) → IsWithout n 0 a (repeated n queued_dropped a)
all_queued zero a = record { queued = refl; outs = refl; ready = refl }
all_queued (suc n) a =
    let b = repeated n queued_dropped a in
    more a (queued_dropped b) (omega arith) refl (then a b (queued_dropped b) (all_queued n a) (queued_of b b.window.queued refl))

all_outs : (n : ℕ) (a : Acting) → IsWithout 0 n a (repeated n out_dropped a)
all_outs zero a = record { queued = refl; outs = refl; ready = refl }
all_outs (suc n) a =
    let b = repeated n out_dropped a in
    more a (out_dropped b) refl (omega arith) (then a b (out_dropped b) (all_outs n a) (outs_of b b.window.outs refl))

pub drops_all : DropsAll
drops_all a =
    let unqueued = repeated (length a.window.queued) queued_dropped a in
    let first = all_queued (length a.window.queued) a in
    let later = all_outs (length unqueued.window.outs) unqueued in
    record {
      none_waits = later.queued ∙ first.queued ∙ drop-length a.window.queued;
      none_out = later.outs ∙ drop-length unqueued.window.outs;
      nothing_sent = later.ready ∙ first.ready;
    }
