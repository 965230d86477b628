-- Grouped packets, switch by switch.
use Rattle.std.proofs.Common.{◌≡◌, ◌<◌, ◌≤◌, ◌+◌, ◌*◌, ℕ, List, length, get_or, take, refl, ap, ◌∙◌, arith}
use Rattle.std.specs.Prelude.{Option}
use Rattle.std.proofs.lemmas.List.{take_all}
use Rattle.port_graph.specs.declared.edge.Edge.{Edge}
use Rattle.audit_ways.specs.declared.way_tally.WayTally.{WayTally}
use Rattle.audit_ways.specs.WayTally.{IsCounted, IsCountedMore, IsCountedWith, Sum, grouped, weighed}
use Rattle.audit_ways.specs.Ways.{Way, one_wire, way_from}
use Rattle.audit_ways.proofs.Counted.{counted_as, counted_with, weighed_more}

module _ (edges : List (Option Edge)) (old : WayTally) (weights : List ℕ) where
  abbrev channels : ℕ
  channels = 256 * length edges

  -- those from the first switches
  abbrev from_first : ℕ → Sum
  from_first n number = weighed (λ i. number (way_from edges i)) (take n weights)

  pub record AddedSoFar (n : ℕ) (tally : WayTally) : Type 0 where
    pub as_many : length tally.loads.items ≡ length old.loads.items
    pub counted : (sums : Sum) → IsCounted channels sums old → IsCounted channels (λ number. sums number + from_first n number) tally

  pub none_added : AddedSoFar 0 old
  none_added = record {
    as_many = refl;
    counted = λ sums h. counted_as channels sums (λ number. sums number + from_first 0 number) old (λ number. omega arith) h;
  }

  abbrev weight : ℕ → ℕ
  weight n = get_or weights n 0

  one_more : (n : ℕ) (number : Way → ℕ) → n < length weights → from_first (n + 1) number ≡ from_first n number + weight n * number (way_from edges n)
  one_more n number less = weighed_more (λ i. number (way_from edges i)) weights n 0 less

  pub one_added : (n : ℕ) (tally new : WayTally) → AddedSoFar n tally → n < length weights → 1 ≤ weight n
      → IsCountedWith tally (way_from edges n) (weight n) new → AddedSoFar (n + 1) new
  one_added n tally new h less some w = record {
    as_many = w.loads.as_many ∙ h.as_many;
    counted = λ sums before.
        counted_as channels (λ number. (sums number + from_first n number) + weight n * number (way_from edges n)) (λ number. sums number
        + from_first (n + 1) number) new
        (λ number. (let more = one_more n number less in omega (arith, more)))
        (counted_with channels (λ number. sums number + from_first n number) tally new (way_from edges n) (weight n) some (h.counted sums before) w);
  }

  pub none_more : (n : ℕ) (tally : WayTally) → AddedSoFar n tally → n < length weights → weight n ≤ 0 → AddedSoFar (n + 1) tally
  none_more n tally h less none = record {
    as_many = h.as_many;
    counted = λ sums before.
        counted_as channels (λ number. sums number + from_first n number) (λ number. sums number + from_first (n + 1) number) tally
        (λ number. (
        let more = one_more n number less in
        let nothing : weight n ≡ 0 = omega arith in
        let product : weight n * number (way_from edges n) ≡ 0 =
        ap (λ w. w * number (way_from edges n)) nothing ∙ (let z : 0 * number (way_from edges n) ≡ 0 = omega arith in z) in
        omega (arith, more, product)))
        (h.counted sums before);
  }

  all_from : (n : ℕ) (number : Way → ℕ) → length weights ≤ n → from_first n number ≡ weighed (λ i. number (way_from edges i)) weights
  all_from n number past = ap (weighed (λ i. number (way_from edges i))) (take_all n weights past)

  pub with_direct : (n : ℕ) (tally new : WayTally) (direct : ℕ) → AddedSoFar n tally → length weights ≤ n → 1 ≤ direct
      → IsCountedWith tally one_wire direct new → IsCountedMore channels old (grouped edges weights direct) new
  with_direct n tally new direct h past some w = λ sums before.
      counted_as channels (λ number. (sums number + from_first n number) + direct * number one_wire) (λ number. sums number
      + grouped edges weights direct number) new
      (λ number. (
      let all = all_from n number past in
      omega (arith, all)))
      (counted_with channels (λ number. sums number + from_first n number) tally new one_wire direct some (h.counted sums before) w)

  pub without_direct : (n : ℕ) (tally : WayTally) (direct : ℕ) → AddedSoFar n tally → length weights ≤ n → direct ≤ 0
      → IsCountedMore channels old (grouped edges weights direct) tally
  without_direct n tally direct h past none = λ sums before.
      counted_as channels (λ number. sums number + from_first n number) (λ number. sums number + grouped edges weights direct number) tally
      (λ number. (
      let all = all_from n number past in
      let nothing : direct ≡ 0 = omega arith in
      let product : direct * number one_wire ≡ 0 =
      ap (λ d. d * number one_wire) nothing ∙ (let z : 0 * number one_wire ≡ 0 = omega arith in z) in
      omega (arith, all, product)))
      (h.counted sums before)
