-- An end port owns a number exactly if it has the number.
use Rattle.std.proofs.Common.{◌≡◌, ◌≤◌, ℕ, refl, sym, ap, ◌∙◌, subst, arith, true, cond, ◌==◌, ◌&&◌, map}
use Rattle.std.proofs.lemmas.Bool.{eqb-true, eq-eqb, ne_eqb, and_parts, and_from}
use Rattle.std.specs.Prelude.{Contains, Option, None, Some, option_map}
use Rattle.std.specs.List.{find}
use Rattle.smp_bytes.specs.LidRange.{has_lid}
use Rattle.fact_store.specs.View.{Facts, cells_of}
use Rattle.subnet_view.specs.declared.end_port.EndPort.{EndPort}
use Rattle.subnet_view.proofs.Apart.{Apart, found_there, find_only, same_from_apart}
use Rattle.subnet_view.proofs.Members.{contains_as}
use Rattle.lid_assign.specs.Ranges.{lmc_at, range_at, is_in, IsIn}
use Rattle.lid_assign.specs.Lids.{Given, IsNoRoom, lids, has_number, owner_of, is_end_port_at, lid_of}
use Rattle.lid_assign.specs.LidLaws.{OwnersAreInverse}
use Rattle.lid_assign.proofs.Ranges.{in_from_test, test_from_in, meets_at}
use Rattle.lid_assign.proofs.HandOut.{PairsApart, same_from_pairs}
use Rattle.lid_assign.proofs.LidLaws.{handed, each_fits, pairs, ports_apart}

module _ {X Y : Type 0} where
  mapped : (f : X → Y) (o : Option X) (y : Y) → option_map f o ≡ Some y → (x : X) × (o ≡ Some x) × (f x ≡ y)
  mapped f None y e = absurd (cc)
  mapped f (Some x) y e = (x, refl, cc)

same_end_port : (e f : EndPort) → (e.node == f.node && e.port == f.port) ≡ true → f ≡ e
same_end_port e f h =
    let p = and_parts (e.node == f.node) (e.port == f.port) h in
    λ i. record { node = sym (eqb-true e.node f.node p.0) i; port = sym (eqb-true e.port f.port p.1) i }

module _ (given : Given) where
  pub given-from_owner : (e : EndPort) (n : ℕ) → owner_of given n ≡ Some e → (lid : ℕ) × Contains given.ports (e, lid) × IsIn (range_at given.lmc e lid) n
  given-from_owner e n h =
      let m = mapped (λ (x : EndPort × ℕ). x.0) (find (has_number given.lmc n) given.ports) e h in
      let f = found_there (has_number given.lmc n) given.ports m.0 m.1 in (
        m.0.1,
        contains_as given.ports (λ i. (m.2 i, m.0.1)) f.0,
        subst (λ (d : EndPort). IsIn (range_at given.lmc d m.0.1) n) m.2 (in_from_test (range_at given.lmc m.0.0 m.0.1) n f.1),
      )

  pub given-from_lid : (e : EndPort) (lid : ℕ) → lid_of given e ≡ Some lid → Contains given.ports (e, lid)
  given-from_lid e lid h =
      let m = mapped (λ (x : EndPort × ℕ). x.1) (find (is_end_port_at e) given.ports) lid h in
      let f = found_there (is_end_port_at e) given.ports m.0 m.1 in
      contains_as given.ports (λ i. (same_end_port e m.0.0 f.1 i, m.2 i)) f.0

  pub owner-from_given : PairsApart given.lmc given.ports → (e : EndPort) (lid n : ℕ) → Contains given.ports (e, lid) → IsIn (range_at given.lmc e lid) n
      → owner_of given n ≡ Some e
  owner-from_given apart e lid n h i =
      ap (option_map (λ (x : EndPort × ℕ). x.0)) (find_only (has_number given.lmc n) given.ports (e, lid) h (test_from_in (range_at given.lmc e lid) n i)
      (λ y k q. same_from_pairs 0 given.lmc given.ports apart y (e, lid) k h
      (meets_at (range_at given.lmc y.0 y.1) (range_at given.lmc e lid) n (in_from_test (range_at given.lmc y.0 y.1) n q) i)))

  pub lid-from_given : Apart (map (λ x. x.0) given.ports) → (e : EndPort) (lid : ℕ) → Contains given.ports (e, lid) → lid_of given e ≡ Some lid
  lid-from_given apart e lid h =
      let itself = and_from (e.node == e.node) (e.port == e.port) (eq-eqb e.node e.node refl) (eq-eqb e.port e.port refl) in
      ap (option_map (λ (x : EndPort × ℕ). x.1)) (find_only (is_end_port_at e) given.ports (e, lid) h itself
      (λ y k q. same_from_apart (λ (x : EndPort × ℕ). x.0) given.ports y (e, lid) apart k h (same_end_port e y.0 q)))

-- a LID that is not 0 has its numbers by one test
pub has_is_in : (lmc : ℕ) (e : EndPort) (lid n : ℕ) → 1 ≤ lid → has_lid lid (lmc_at lmc e) n ≡ is_in (range_at lmc e lid) n
has_is_in lmc e lid n some = ap (λ t. cond t (n == 0) (is_in (range_at lmc e lid) n)) (ne_eqb lid 0 (λ q. absurd (omega (arith, q, some))))

module _ (lmc : ℕ) (facts : Facts) (room_for_all : ¬ (IsNoRoom lmc (cells_of facts))) where
  some_lid : (e : EndPort) (lid : ℕ) → Contains (lids lmc (cells_of facts)).ports (e, lid) → 1 ≤ lid
  some_lid e lid h = (each_fits lmc (cells_of facts) (lids lmc (cells_of facts)).ports (handed lmc (cells_of facts) room_for_all) e lid h).not_0

  all_pairs : PairsApart lmc (lids lmc (cells_of facts)).ports
  all_pairs = pairs lmc (cells_of facts) (lids lmc (cells_of facts)).ports (handed lmc (cells_of facts) room_for_all)

pub owners_are_inverse : OwnersAreInverse
owners_are_inverse lmc facts room_for_all e n =
    let given = lids lmc (cells_of facts) in (
      λ h.
          let g = given-from_owner given e n h in (
            g.0,
            lid-from_given given (ports_apart lmc facts room_for_all) e g.0 g.1,
            has_is_in lmc e g.0 n (some_lid lmc facts room_for_all e g.0 g.1) ∙ test_from_in (range_at lmc e g.0) n g.2,
          ),
      λ h.
          let there = given-from_lid given e h.0 h.1 in
          let test = sym (has_is_in lmc e h.0 n (some_lid lmc facts room_for_all e h.0 there)) ∙ h.2 in
          owner-from_given given (all_pairs lmc facts room_for_all) e h.0 n there (in_from_test (range_at lmc e h.0) n test),
    )
