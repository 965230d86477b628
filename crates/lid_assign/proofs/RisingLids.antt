-- The rising LIDs are those that are given.
use Rattle.std.proofs.Common.{◌<◌, ℕ, List, [], ◌∷◌, arith, ◌==◌}
use Rattle.std.proofs.lemmas.Bool.{eq-eqb, eqb-true}
use Rattle.std.proofs.lemmas.List.Kept.{AllPairs-cons}
use Rattle.std.specs.Prelude.{Contains}
use Rattle.std.specs.List.{AllPairs}
use Rattle.subnet_view.specs.declared.end_port.EndPort.{EndPort}
use Rattle.subnet_view.proofs.Members.{contains_filter, contains-from_filter, contains_as, list_any_true, list_any_at}
use Rattle.subnet_view.proofs.Taken.{all_from}
use Rattle.lid_assign.specs.Lids.{Given, count_up, is_lid, top_of, end_of, rising_lids}
use Rattle.lid_assign.specs.LidLaws.{RisingLidsLaw}
use Rattle.lid_assign.proofs.Ranges.{some_width}
use Rattle.lid_assign.proofs.Rising.{Rising, rising-filter, rising-count_up, contains-count_up}
use Rattle.lid_assign.proofs.Tops.{below_end}

pairs_from_rising : (ns : List ℕ) → Rising ns → AllPairs (λ m n. m < n) ns
pairs_from_rising [] r = λ i j d p q. absurd (omega (arith, q))
pairs_from_rising (n ∷ ns) r = AllPairs-cons (λ m n. m < n) n ns (all_from (λ m. n < m) ns r.0) (pairs_from_rising ns r.1)

module _ (given : Given) where
  is_given : (n : ℕ) → Contains (rising_lids given) n → (e : EndPort) × Contains given.ports (e, n)
  is_given n h =
      let test = (contains-from_filter (is_lid given.ports) (count_up 0 (end_of (top_of given))) n h).1 in
      let x = list_any_at (λ y. y.1 == n) given.ports test in
      (x.0.0, contains_as given.ports (λ i. (x.0.0, eqb-true x.0.1 n x.2 i)) x.1)

  is_among : (n : ℕ) → (e : EndPort) × Contains given.ports (e, n) → Contains (rising_lids given) n
  is_among n (e, h) =
      let below = below_end given.lmc given.ports (end_of (top_of given)) (λ i. end_of (top_of given)) e n h in
      contains_filter (is_lid given.ports) (count_up 0 (end_of (top_of given))) n
      (contains-count_up 0 (end_of (top_of given)) n (omega arith) (omega (arith, below, some_width given.lmc e)))
      (list_any_true (λ y. y.1 == n) given.ports (e, n) h (eq-eqb n n (λ i. n)))

pub rising_lids_law : RisingLidsLaw
rising_lids_law given = (
  λ n. (is_given given n, is_among given n),
  pairs_from_rising (rising_lids given) (rising-filter (is_lid given.ports) (count_up 0 (end_of (top_of given))) (rising-count_up 0 (end_of (top_of given)))),
)
