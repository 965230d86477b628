-- Routes that are counted several times.
use Rattle.std.proofs.Common.{◌≡◌, ◌<◌, ◌≤◌, ◌+◌, ◌*◌, ℕ, zero, suc, true, false, cond, List, [], ◌∷◌, length, get_or, set, take, map, replicate, refl, sym, ap, ◌∙◌, arith}
use Rattle.std.specs.Prelude.{max, nat_lt, ◌↔◌}
use Rattle.std.specs.List.{sum_by}
use Rattle.std.proofs.lemmas.Bool.{le-ltb, ltb-false}
use Rattle.std.proofs.lemmas.List.Sums.{sum_by-cons, sum-map}
use Rattle.audit_ways.specs.declared.mean.Total.{Total}
use Rattle.audit_ways.specs.declared.way_tally.WayTally.{WayTally}
use Rattle.audit_ways.specs.Figures.{IsTotal, figures_by, figures_of, greatest}
use Rattle.audit_ways.specs.WayTally.{IsCounted, IsCountedWith, Sum, over, weighed}
use Rattle.audit_ways.specs.Ways.{Way, times_on}

-- numbers over a bound ------------------------------------------------------------------

not_over : (bound number : ℕ) → number ≤ bound → over bound number ≡ 0
not_over bound number h = ap (λ t. cond t 1 0) (le-ltb bound number h)

within_bound : (bound number times : ℕ) → 1 ≤ times → times * over bound number ≡ 0 → number ≤ bound
within_bound bound number times some e =
    elim (nat_lt bound number) as (λ t. nat_lt bound number ≡ t → number ≤ bound) [
      | true ↦ λ is.
          let one : over bound number ≡ 1 = ap (λ t. cond t 1 0) is in
          let all : times * over bound number ≡ times * 1 = ap (λ n. times * n) one in
          absurd (omega (arith, all))
      | false ↦ λ is. ltb-false bound number is
    ] refl

-- the greatest of two numbers and the bounds over both
pub both_within : (old number new times total bound : ℕ) → 1 ≤ times → new ≡ max old number → (old ≤ bound) ↔ (total ≡ 0)
    → (new ≤ bound) ↔ (total + times * over bound number ≡ 0)
both_within old number new times total bound some is h = (there, back)
  where
    there : new ≤ bound → total + times * over bound number ≡ 0
    there le =
        let none : total ≡ 0 = h.0 (omega arith) in
        let zero_over : times * over bound number ≡ times * 0 = ap (λ n. times * n) (not_over bound number (omega arith)) in
        let nothing : times * 0 ≡ 0 = omega arith in
        omega (arith, none, zero_over, nothing)

    back : total + times * over bound number ≡ 0 → new ≤ bound
    back e =
        let old_within : old ≤ bound = h.1 (omega arith) in
        let within : number ≤ bound = within_bound bound number times some (omega arith) in
        omega arith

-- a way more ----------------------------------------------------------------------------

pub counted_with : (channels : ℕ) (sums : Sum) (old new : WayTally) (way : Way) (times : ℕ) → 1 ≤ times → IsCounted channels sums old
    → IsCountedWith old way times new
    → IsCounted channels (λ number. sums number + times * number way) new
counted_with channels sums old new way times some h w = record {
  as_many = w.loads.as_many ∙ h.as_many;
  count = (let count = w.count in let was = h.count in omega arith);
  wires = w.wires ∙ ap (λ n. n + times * way.wires) h.wires;
  most = λ bound. both_within old.hops.most way.wires new.hops.most times (sums (λ x. over bound x.wires)) bound some w.most (h.most bound);
  loads = λ channel. w.loads.load channel ∙ ap (λ n. n + times * times_on channel way) (h.loads channel);
}

-- the same by another sum
pub counted_as : (channels : ℕ) (sums others : Sum) (tally : WayTally) → ((number : Way → ℕ) → sums number ≡ others number) → IsCounted channels sums tally
    → IsCounted channels others tally
counted_as channels sums others tally same h = record {
  as_many = h.as_many;
  count = h.count ∙ same (λ way. 1);
  wires = h.wires ∙ same (λ way. way.wires);
  most = λ bound. (
    (λ le. sym (same (λ way. over bound way.wires)) ∙ (h.most bound).0 le),
    (λ e. (h.most bound).1 (same (λ way. over bound way.wires) ∙ e)),
  );
  loads = λ channel. h.loads channel ∙ same (times_on channel);
}

-- no way --------------------------------------------------------------------------------

zeros : (n i : ℕ) → ◌≡◌ {A = ℕ} (get_or (replicate {A = ℕ} n 0) i 0) 0
zeros zero i = refl
zeros (suc n) zero = refl
zeros (suc n) (suc i) = zeros n i

long : (n : ℕ) → length (replicate {A = ℕ} n 0) ≡ n
long zero = refl
long (suc n) = ap suc (long n)

pub none_counted : (channels : ℕ) (tally : WayTally) → IsTotal [] tally.hops → tally.loads.items ≡ replicate channels 0 → IsCounted channels (λ _. 0) tally
none_counted channels tally none are = record {
  as_many = ap length are ∙ long channels;
  count = none.count;
  wires = none.sum;
  most = λ bound. ((λ le. refl), (λ e. let most = none.most in omega arith));
  loads = λ channel. ap (λ (xs : List ℕ). get_or xs channel 0) are ∙ zeros channels channel;
}

-- each of some numbers, as often as its weight says ---------------------------------------

pub none_weighed : (number : ℕ → ℕ) (n : ℕ) → weighed number (replicate {A = ℕ} n 0) ≡ 0
none_weighed number zero = refl
none_weighed number (suc n) = let rest = none_weighed (λ i. number (suc i)) n in omega (arith, rest)

pub weighed_set : (number : ℕ → ℕ) (weights : List ℕ) (i : ℕ) → i < length weights
    → weighed number (set weights i (get_or weights i 0 + 1)) ≡ weighed number weights + number i
weighed_set number [] i less = absurd (omega arith)
weighed_set number (w ∷ weights) zero less =
    let one : (w + 1) * number 0 ≡ w * number 0 + number 0 = omega arith in omega (arith, one)
weighed_set number (w ∷ weights) (suc i) less =
    let rest = weighed_set (λ k. number (suc k)) weights i (omega arith) in omega (arith, rest)

pub weighed_more : (number : ℕ → ℕ) (weights : List ℕ) (i d : ℕ) → i < length weights
    → weighed number (take (i + 1) weights) ≡ weighed number (take i weights) + get_or weights i d * number i
weighed_more number [] i d less = absurd (omega arith)
weighed_more number (w ∷ weights) zero d less = omega arith
weighed_more number (w ∷ weights) (suc i) d less =
    let rest = weighed_more (λ k. number (suc k)) weights i d (omega arith) in
    let e : suc i + 1 ≡ suc (i + 1) = omega arith in
    ap (λ n. weighed number (take n (w ∷ weights))) e ∙ omega (arith, rest)

-- what is told of numbers -----------------------------------------------------------------

greatest_within : (bound : ℕ) (ways : List Way) → sum_by (λ w. over bound w.wires) ways ≡ 0 → greatest (map (λ w. w.wires) ways) ≤ bound
greatest_within bound [] e = omega arith
greatest_within bound (way ∷ ways) e =
    let split = sum_by-cons (λ (w : Way). over bound w.wires) way ways in
    let rest = greatest_within bound ways (omega (arith, split, e)) in
    let this = within_bound bound way.wires 1 (omega arith) (omega (arith, split, e)) in
    omega arith

none_over : (bound : ℕ) (ways : List Way) → greatest (map (λ w. w.wires) ways) ≤ bound → sum_by (λ w. over bound w.wires) ways ≡ 0
none_over bound [] h = refl
none_over bound (way ∷ ways) h =
    let split = sum_by-cons (λ (w : Way). over bound w.wires) way ways in
    let rest = none_over bound ways (omega arith) in
    let this = not_over bound way.wires (omega arith) in
    omega (arith, split, rest, this)

ones : (ways : List Way) → sum_by (λ (w : Way). 1) ways ≡ length (map (λ (w : Way). w.wires) ways)
ones [] = refl
ones (way ∷ ways) =
    let rest = ones ways in let one : 1 + sum_by (λ (w : Way). 1) ways ≡ suc (length (map (λ (w : Way). w.wires) ways)) = omega (arith, rest) in
    sum_by-cons (λ (w : Way). 1) way ways ∙ one

pub hops_are : (channels : ℕ) (ways : List Way) (tally : WayTally) → IsCounted channels (λ number. sum_by number ways) tally
    → figures_by tally.hops.count tally.hops.sum tally.hops.most ≡ figures_of (map (λ w. w.wires) ways)
hops_are channels ways tally h =
    let most_is = greatest (map (λ (w : Way). w.wires) ways) in
    let least : most_is ≤ tally.hops.most = greatest_within tally.hops.most ways ((h.most tally.hops.most).0 (omega arith)) in
    let bound : tally.hops.most ≤ most_is = (h.most most_is).1 (none_over most_is ways (omega arith)) in
    let most : tally.hops.most ≡ most_is = omega (arith, least, bound) in
    let count = h.count ∙ ones ways in
    let wires = h.wires ∙ sym (sum-map (λ (w : Way). w.wires) ways) in
    λ i. figures_by (count i) (wires i) (most i)

pub figures_are : (ns : List ℕ) (total : Total) → IsTotal ns total → figures_by total.count total.sum total.most ≡ figures_of ns
figures_are ns total h = λ i. figures_by (h.count i) (h.sum i) (h.most i)
