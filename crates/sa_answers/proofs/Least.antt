-- The least of what ports let through is that of one of them, and no other lets less through.
use Rattle.std.proofs.Common.{◌≡◌, ◌≤◌, ◌⊎◌, ℕ, inl, inr, List, [], ◌∷◌, refl, sym, ap, ◌∙◌, arith}
use Rattle.std.specs.Prelude.{Contains, min}
use Rattle.subnet_view.specs.declared.end_port.EndPort.{EndPort}
use Rattle.subnet_view.proofs.Members.{contains_cases, contains_here, contains_later, contains_none}
use Rattle.sa_answers.specs.Bound.{bound_at, lesser}
use Rattle.sa_answers.specs.PathLaws.{IsLeastOf, IsPassed}
use Rattle.sa_answers.specs.Told.{Told}
use Rattle.sa_answers.specs.Way.{Wire, least_of, ports_of}
use Rattle.sa_answers.specs.declared.bound.Bound.{Bound}

min_is : (n m : ℕ) → (min n m ≡ n) ⊎ (min n m ≡ m)
min_is n m = grind arith

-- the least of a start and of the values of some ports
record Low (value : ℕ × ℕ → ℕ) (start least : ℕ) (ports : List (ℕ × ℕ)) : Type 0 where
  is : (least ≡ start) ⊎ ((p : ℕ × ℕ) × Contains ports p × (value p ≡ least))
  to_start : least ≤ start
  to_each : (p : ℕ × ℕ) → Contains ports p → least ≤ value p

module _ (told : Told) (pick : Bound → ℕ) (picks : (a b : Bound) → pick (lesser a b) ≡ min (pick a) (pick b)) where
  abbrev value : ℕ × ℕ → ℕ
  value p = pick (bound_at told p)

  low : (start : Bound) (ports : List (ℕ × ℕ)) → Low value (pick start) (pick (least_of told start ports)) ports
  low start [] = record { is = inl refl; to_start = omega arith; to_each = λ p h. absurd (contains_none p h) }
  low start (x ∷ ports) =
      let rest = low (lesser start (bound_at told x)) ports in
      let both = picks start (bound_at told x) in
      let least = pick (least_of told (lesser start (bound_at told x)) ports) in
      record {
        is = (elim rest.is [
          | inl e ↦ (elim (min_is (pick start) (value x)) [
            | inl m ↦ inl (e ∙ both ∙ m)
            | inr m ↦ inr (x, contains_here x ports, sym (e ∙ both ∙ m))
          ])
          | inr h ↦ inr (h.0, contains_later x h.0 ports h.1, h.2)
        ]);
        to_start = omega (arith, rest.to_start, both);
        to_each = λ p h. (elim (contains_cases x p ports h) [
          | inl e ↦ (let same : value x ≡ value p = ap value e in omega (arith, rest.to_start, both, same))
          | inr l ↦ rest.to_each p l
        ]);
      }

  -- of both ways
  pub least_of_both : (source target : EndPort) (there back : List Wire) (one other : Bound)
      → one ≡ least_of told (lesser (bound_at told (source.node, source.port)) (bound_at told (target.node, target.port))) (ports_of there)
      → other ≡ least_of told (lesser (bound_at told (target.node, target.port)) (bound_at told (source.node, source.port))) (ports_of back)
      → IsLeastOf value (IsPassed source target there back) (pick (lesser one other))
  least_of_both source target there back one other one_is other_is =
      let s : ℕ × ℕ = (source.node, source.port) in
      let t : ℕ × ℕ = (target.node, target.port) in
      let first = low (lesser (bound_at told s) (bound_at told t)) (ports_of there) in
      let second = low (lesser (bound_at told t) (bound_at told s)) (ports_of back) in
      let a = ap pick one_is in
      let b = ap pick other_is in
      let st = picks (bound_at told s) (bound_at told t) in
      let ts = picks (bound_at told t) (bound_at told s) in
      let all = picks one other in
      let below : (p : ℕ × ℕ) → IsPassed source target there back p → pick (lesser one other) ≤ value p =
      λ p h. (elim h [
        | inl e ↦ (let same : value p ≡ value s = ap value e in omega (arith, first.to_start, st, a, all, same))
        | inr (inl e) ↦ (let same : value p ≡ value t = ap value e in omega (arith, first.to_start, st, a, all, same))
        | inr (inr (inl l)) ↦ (let near = first.to_each p l in omega (arith, near, a, all))
        | inr (inr (inr l)) ↦ (let near = second.to_each p l in omega (arith, near, b, all))
      ]) in
      let ends : (n : ℕ) → pick (lesser one other) ≡ n → n ≡ min (value s) (value t) → IsLeastOf value (IsPassed source target there back) (pick (lesser one other)) =
      λ n e m. (elim (min_is (value s) (value t)) [
        | inl k ↦ record { port = s; passed = inl refl; is_its = sym (e ∙ m ∙ k); none_less = below }
        | inr k ↦ record { port = t; passed = inr (inl refl); is_its = sym (e ∙ m ∙ k); none_less = below }
      ]) in
      elim (min_is (pick one) (pick other)) [
        | inl k ↦ (elim first.is [
          | inl e ↦ ends (pick one) (all ∙ k) (a ∙ e ∙ st)
          | inr l ↦ record { port = l.0; passed = inr (inr (inl l.1)); is_its = l.2 ∙ sym a ∙ sym k ∙ sym all; none_less = below }
        ])
        | inr k ↦ (elim second.is [
          | inl e ↦ (let turned : min (value t) (value s) ≡ min (value s) (value t) = grind arith in ends (pick other) (all ∙ k) (b ∙ e ∙ ts ∙ turned))
          | inr l ↦ record { port = l.0; passed = inr (inr (inr l.1)); is_its = l.2 ∙ sym b ∙ sym k ∙ sym all; none_less = below }
        ])
      ]
