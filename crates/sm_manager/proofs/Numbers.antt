-- Which request a packet can answer, and how many requests are steps as requests come and go.
use Rattle.std.proofs.Common.{◌≡◌, ◌≢◌, ℕ, zero, suc, ◌+◌, ◌-◌, ◌≤◌, Bool, true, false, ◌&&◌, List, [], ◌∷◌, ◌++◌, length, refl, arith, ap, sym, ◌∙◌}
use Rattle.std.specs.Prelude.{Some, filter, remove, slice_get, ◌==◌}
use Rattle.std.proofs.lemmas.Bool.{cond-true, cond-false, ne_eqb}
use Rattle.request_table.proofs.Indices.{some_is}
use Rattle.smp_bytes.specs.Answers.{is_of}
use Rattle.smp_bytes.specs.Field.{number_in}
use Rattle.smp_bytes.specs.Header.{get_resp}
use Rattle.smp_bytes.specs.Packet.{method, transaction_id}
use Rattle.sm_manager.specs.declared.pending.Pending.{Pending}
use Rattle.sm_manager.specs.declared.pending.Purpose.{Purpose}
use Rattle.sm_manager.specs.declared.pending.Purpose.TheVariants.{Poll, Control, Step}
use Rattle.sm_manager.specs.Packets.{answers}
use Rattle.sm_manager.specs.ManagerRequests.{AreCounted, counts, counts_as, how_many, is_for_step, is_step}

later_false : (a b c : Bool) → b ≡ false → (a && (b && c)) ≡ false
later_false true b c e = ap (λ x. x && c) e
later_false false b c e = refl

-- only the request of its TransactionID is answered by a packet
pub only_answered : (packet : List ℕ) (p : Pending) → p.number ≢ number_in transaction_id packet → answers packet p ≡ false
only_answered packet p ne =
    later_false (number_in method packet == get_resp) (p.number == number_in transaction_id packet) (is_of packet p.attribute p.modifier p.path)
    (ne_eqb _ _ ne)

-- how many pass a test ------------------------------------------------------------------------------

abbrev pub one_if : Bool → ℕ
one_if true = 1
one_if false = 0

module _ (test : Pending → Bool) where
  head_counts : (p : Pending) (ps : List Pending) → how_many test (p ∷ ps) ≡ how_many test ps + one_if (test p)
  head_counts p ps = by (test p) refl
    where
      by : (b : Bool) → test p ≡ b → how_many test (p ∷ ps) ≡ how_many test ps + one_if b
      by true e = ap length (cond-true (test p) (p ∷ filter test ps) (filter test ps) e) ∙ omega arith
      by false e = ap length (cond-false (test p) (p ∷ filter test ps) (filter test ps) e) ∙ omega arith

  -- one more at the end
  pub many_pushed : (ps : List Pending) (p : Pending) → how_many test (ps ++ p ∷ []) ≡ how_many test ps + one_if (test p)
  many_pushed [] p = head_counts p []
  many_pushed (q ∷ ps) p =
      let before = head_counts q ps in
      let after = head_counts q (ps ++ p ∷ []) in
      let rest = many_pushed ps p in
      omega (arith, before, after, rest)

  -- one less
  pub many_without : (ps : List Pending) (i : ℕ) (p : Pending) → slice_get ps i ≡ Some p
      → how_many test (remove ps i) + one_if (test p) ≡ how_many test ps
  many_without [] i p at = absurd (cc)
  many_without (q ∷ ps) zero p at =
      let same : one_if (test q) ≡ one_if (test p) = ap (λ x. one_if (test x)) (some_is q p at) in
      let whole = head_counts q ps in
      omega (arith, same, whole)
  many_without (q ∷ ps) (suc i) p at =
      let before = head_counts q (remove ps i) in
      let after = head_counts q ps in
      let rest = many_without ps i p at in
      omega (arith, before, after, rest)

  pub many_at_most : (ps : List Pending) → how_many test ps ≤ length ps
  many_at_most [] = omega arith
  many_at_most (p ∷ ps) = by (test p) (head_counts p ps) (many_at_most ps)
    where
      by : (b : Bool) → how_many test (p ∷ ps) ≡ how_many test ps + one_if b → how_many test ps ≤ length ps → how_many test (p ∷ ps) ≤ suc (length ps)
      by true e rest = omega (arith, e, rest)
      by false e rest = omega (arith, e, rest)

-- with one request less, the counts of steps and of counting steps are still right
pub counted_without : (ps after : List Pending) (i : ℕ) (p : Pending) (steps counting s k : ℕ) → AreCounted ps steps counting
    → slice_get ps i ≡ Some p → after ≡ remove ps i → s ≡ steps - one_if (is_step p) → k ≡ counting - one_if (counts p) → AreCounted after s k
counted_without ps after i p steps counting s k counted at gone e f =
    let steps_less = many_without is_step ps i p at in
    let counting_less = many_without counts ps i p at in
    record {
      steps_are = omega (arith, counted.steps_are, steps_less, e) ∙ sym (ap (how_many is_step) gone);
      counting_are = omega (arith, counted.counting_are, counting_less, f) ∙ sym (ap (how_many counts) gone);
    }

pub less_one : (n : ℕ) (b : Bool) → b ≡ true → n - 1 ≡ n - one_if b
less_one n b e = ap (λ x. n - one_if x) (sym e)

pub less_none : (n : ℕ) (b : Bool) → b ≡ false → n ≡ n - one_if b
less_none n b e = omega arith ∙ ap (λ x. n - one_if x) (sym e)

-- with one request more, the counts are still right
pub counted_with : (ps after : List Pending) (p : Pending) (steps counting s k : ℕ) → AreCounted ps steps counting → after ≡ ps ++ p ∷ []
    → s ≡ steps + one_if (is_step p) → k ≡ counting + one_if (counts p) → AreCounted after s k
counted_with ps after p steps counting s k counted more e f =
    let steps_more = many_pushed is_step ps p in
    let counting_more = many_pushed counts ps p in
    record {
      steps_are = omega (arith, counted.steps_are, steps_more, e) ∙ sym (ap (how_many is_step) more);
      counting_are = omega (arith, counted.counting_are, counting_more, f) ∙ sym (ap (how_many counts) more);
    }

pub one_more : (n : ℕ) (b : Bool) → b ≡ true → n + 1 ≡ n + one_if b
one_more n b e = ap (λ x. n + one_if x) (sym e)

pub none_more : (n : ℕ) (b : Bool) → b ≡ false → n ≡ n + one_if b
none_more n b e = omega arith ∙ ap (λ x. n + one_if x) (sym e)

-- a request that is not a step does not count
pub counts_for_none : (why : Purpose) → is_for_step why ≡ false → counts_as why ≡ false
counts_for_none Poll e = refl
counts_for_none Control e = refl
counts_for_none (Step counts) e = absurd (cc)
