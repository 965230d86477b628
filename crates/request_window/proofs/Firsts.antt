-- The first request of a list that passes a test, by its index.
use Rattle.std.proofs.Common.{◌≡◌, ℕ, zero, suc, ◌+◌, ◌<◌, ◌≤◌, Bool, true, false, cond, List, [], ◌∷◌, length, get_or, set, refl, sym, ap, ◌∙◌, subst, arith}
use Rattle.std.specs.Prelude.{Some, None, position, remove}
use Rattle.std.specs.List.{position_from}
use Rattle.std.proofs.lemmas.Iterator.Adapters.{position_from-zero}
use Rattle.std.proofs.lemmas.List.Quantifiers.{position-Some}
use Rattle.std.proofs.lemmas.Bool.{cond-true, cond-false}
use Rattle.request_window.specs.declared.limits.Limits.{Limits}
use Rattle.request_window.specs.declared.out.Out.{Out}
use Rattle.request_window.specs.declared.late.Late.TheVariants.{Again, GivenUp}
use Rattle.request_window.specs.Window.{LateOutcome, behind, first_out, is_late, is_sent_again, judged_late, kept_behind, late_in, out_at}

-- the first that passes a test ---------------------------------------------------------------------

none_from : (test : Out → Bool) (i : ℕ) (outs : List Out) → position_from test i outs ≡ None
    → first_out test outs ≡ record { outs = outs; request = None }
none_from test i [] e = refl
none_from test i (out ∷ outs) e = by (test out) (none_from test (i + 1) outs) e
  where
    by : (b : Bool)
        → (position_from test (i + 1) outs ≡ None → first_out test outs ≡ record { outs = outs; request = None })
        → cond b (Some i) (position_from test (i + 1) outs) ≡ None
        → cond b (record { outs = outs; request = Some out.request }) (kept_behind out (first_out test outs))
        ≡ record { outs = out ∷ outs; request = None }
    by true later e = cc
    by false later e = ap (kept_behind out) (later e)

pub none_passes : (test : Out → Bool) (outs : List Out) → position test outs ≡ None
    → first_out test outs ≡ record { outs = outs; request = None }
none_passes test outs e = none_from test 0 outs (sym (position_from-zero test outs) ∙ e)

found : (test : Out → Bool) (outs : List Out) (n : ℕ) (x : Out) → n < length outs → get_or outs n x ≡ x → test x ≡ true
    → ((k : ℕ) → k < n → test (get_or outs k x) ≡ false)
    → first_out test outs ≡ record { outs = remove outs n; request = Some x.request }
found test [] n x within at passes before = absurd (omega arith)
found test (out ∷ outs) zero x within at passes before =
    subst (λ (o : Out). first_out test (o ∷ outs) ≡ record { outs = outs; request = Some x.request }) (sym at)
    (cond-true (test x) (record { outs = outs; request = Some x.request }) (kept_behind x (first_out test outs)) passes)
found test (out ∷ outs) (suc n) x within at passes before =
    cond-false (test out) (record { outs = outs; request = Some out.request }) (kept_behind out (first_out test outs)) (before 0 (omega arith))
    ∙ ap (kept_behind out) (found test outs n x (omega arith) at passes (λ k less. before (suc k) (omega arith)))

pub passes_at : (test : Out → Bool) (outs : List Out) (n : ℕ) (x : Out) → position test outs ≡ Some n → x ≡ get_or outs n x
    → first_out test outs ≡ record { outs = remove outs n; request = Some x.request }
passes_at test outs n x e at =
    let there = position-Some test outs n x e in
    found test outs n x there.0 (sym at) (ap test at ∙ there.1) there.2

-- the first that is late ---------------------------------------------------------------------------

module _ (limits : Limits) (time : ℕ) where
  none_late_from : (i : ℕ) (outs : List Out) → position_from (is_late time) i outs ≡ None
      → late_in limits time outs ≡ record { outs = outs; late = None }
  none_late_from i [] e = refl
  none_late_from i (out ∷ outs) e = by (is_late time out) (none_late_from (i + 1) outs) e
    where
      by : (b : Bool)
          → (position_from (is_late time) (i + 1) outs ≡ None → late_in limits time outs ≡ record { outs = outs; late = None })
          → cond b (Some i) (position_from (is_late time) (i + 1) outs) ≡ None
          → cond b (judged_late limits time out outs) (behind out (late_in limits time outs))
          ≡ record { outs = out ∷ outs; late = None }
      by true later e = cc
      by false later e = ap (behind out) (later e)

  pub none_is_late : (outs : List Out) → position (is_late time) outs ≡ None
      → late_in limits time outs ≡ record { outs = outs; late = None }
  none_is_late outs e = none_late_from 0 outs (sym (position_from-zero (is_late time) outs) ∙ e)

  -- the request `x` at index `n` is sent again
  abbrev pub again_at : List Out → ℕ → Out → LateOutcome
  again_at outs n x =
      record { outs = set outs n (out_at limits time (x.tries + 1) x.request); late = Some (Again x.request) }

  -- the request `x` at index `n` is given up
  abbrev pub given_up_at : List Out → ℕ → Out → LateOutcome
  given_up_at outs n x = record { outs = remove outs n; late = Some (GivenUp x.request) }

  one_more : (b : Bool) (out : Out) (outs : List Out) (n : ℕ) (x : Out)
      → behind out (cond b (again_at outs n x) (given_up_at outs n x))
      ≡ cond b (again_at (out ∷ outs) (suc n) x) (given_up_at (out ∷ outs) (suc n) x)
  one_more true out outs n x = refl
  one_more false out outs n x = refl

  late_found : (outs : List Out) (n : ℕ) (x : Out) → n < length outs → get_or outs n x ≡ x → is_late time x ≡ true
      → ((k : ℕ) → k < n → is_late time (get_or outs k x) ≡ false)
      → late_in limits time outs ≡ cond (is_sent_again limits x) (again_at outs n x) (given_up_at outs n x)
  late_found [] n x within at late before = absurd (omega arith)
  late_found (out ∷ outs) zero x within at late before =
      subst (λ (o : Out). late_in limits time (o ∷ outs) ≡ judged_late limits time x outs) (sym at)
      (cond-true (is_late time x) (judged_late limits time x outs) (behind x (late_in limits time outs)) late)
  late_found (out ∷ outs) (suc n) x within at late before =
      cond-false (is_late time out) (judged_late limits time out outs) (behind out (late_in limits time outs)) (before 0 (omega arith))
      ∙ ap (behind out) (late_found outs n x (omega arith) at late (λ k less. before (suc k) (omega arith)))
      ∙ one_more (is_sent_again limits x) out outs n x

  late_at : (outs : List Out) (n : ℕ) (x : Out) → position (is_late time) outs ≡ Some n → x ≡ get_or outs n x
      → late_in limits time outs ≡ cond (is_sent_again limits x) (again_at outs n x) (given_up_at outs n x)
  late_at outs n x e at =
      let there = position-Some (is_late time) outs n x e in
      late_found outs n x there.0 (sym at) (ap (is_late time) at ∙ there.1) there.2

  pub first_again : (outs : List Out) (n : ℕ) (x : Out) → position (is_late time) outs ≡ Some n → x ≡ get_or outs n x
      → is_sent_again limits x ≡ true → late_in limits time outs ≡ again_at outs n x
  first_again outs n x e at again =
      late_at outs n x e at ∙ cond-true (is_sent_again limits x) (again_at outs n x) (given_up_at outs n x) again

  pub first_given_up : (outs : List Out) (n : ℕ) (x : Out) → position (is_late time) outs ≡ Some n → x ≡ get_or outs n x
      → is_sent_again limits x ≡ false → late_in limits time outs ≡ given_up_at outs n x
  first_given_up outs n x e at over =
      late_at outs n x e at ∙ cond-false (is_sent_again limits x) (again_at outs n x) (given_up_at outs n x) over
