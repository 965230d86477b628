-- The coding of sets of facts as numbers, which lets a set of facts be the value of a store.
use mathlib.Core.HLevel.{Σ_prop_path}
use base.Stored.{coded_via}
use Rattle.std.proofs.Common.{◌≡◌, ℕ}
use Rattle.std.proofs.Math.Dec.{T_prop}
use Rattle.std.specs.Coded.{Coded, coded×, coded_ℕ}
use Rattle.std.specs.Prelude.{T}
use Rattle.std.specs.FinMap as map
use Rattle.fact_store.specs.Floor.{has_floor}
use Rattle.fact_store.specs.Seen.{CellMap}
use Rattle.fact_store.specs.View.{Facts}
use Rattle.reply_facts.specs.contracts.key.Key as key
use Rattle.reply_facts.specs.contracts.value.Value as value
use Rattle.fact_join.specs.contracts.cell.Cell as cell

-- sets of facts with equal floors and equal cells are equal
pub same_facts : (x y : Facts) → x.floor ≡ y.floor → x.found ≡ y.found → x ≡ y
same_facts x y e f =
    let pairs : ◌≡◌ {A = (p : ℕ × CellMap)
    × T (has_floor p.0 p.1)} ((x.floor, x.found), x.above) ((y.floor, y.found), y.above) =
    Σ_prop_path (λ p. T_prop _) (λ i. (e i, f i)) in
    λ i. record { floor = (pairs i).0.0; found = (pairs i).0.1; above = (pairs i).1 }

-- the coding of sets of facts, from the codings of their floors, of their keys and of their cells
abbrev pub facts_code : Coded Facts
facts_code = coded_via (coded× coded_ℕ (map.code (key.the_row).coded (cell.the_row value.the_row).coded))
    (λ x. (x.floor, x.found)) (λ x y p. same_facts x y (λ i. (p i).0) (λ i. (p i).1))
