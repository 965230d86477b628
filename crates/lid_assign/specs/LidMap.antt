-- The tables that give the owner of a number and the LID of an end port.
use Rattle.std.specs.Prelude.{◌≡◌, ◌≤◌, ◌+◌, ◌-◌, ℕ, List, Contains, Bool, false, Option, None, Some, filter, length, slice_index_or, if◌then◌else◌}
use Rattle.smp_bytes.specs.Ports.{node_port_cmp}
use Rattle.subnet_view.specs.declared.end_port.EndPort.{EndPort}
use Rattle.std.specs.BTreeMap.{BTreeMap, get}
use Rattle.lid_assign.specs.Ranges.{width_of, Range, is_in}
use Rattle.lid_assign.specs.Lids.{Given, count_up, owner_of, lid_among, top_of, rising_lids, is_lid}

-- `owners` has, for each number, the end port that owns it, or None if no end port does. Numbers past the end of
-- `owners` have no owner
abbrev pub AreOwners : Given → List (Option EndPort) → Type 0
AreOwners given owners = (n : ℕ) → slice_index_or owners n None ≡ owner_of given n

-- `new` is `old` with the end port `e` written at each number of the range `r`
pub record AreOwnersMore (e : EndPort) (r : Range) (old new : List (Option EndPort)) : Type 0 where
  pub all : length new ≡ length old
  pub each : (n : ℕ) → slice_index_or new n None ≡ (if is_in r n then Some e else slice_index_or old n None)

-- `marks` has true at a number exactly when the number is an end port's LID
abbrev pub AreLidMarks : List (EndPort × ℕ) → List Bool → Type 0
AreLidMarks given marks = (n : ℕ) → slice_index_or marks n false ≡ is_lid given n

-- the marked numbers that are at least `first`, in ascending order
abbrev pub marked_from : List Bool → ℕ → List ℕ
marked_from marks first = filter (λ n. slice_index_or marks n false) (count_up first (length marks - first))

-- under the LMC `lmc`, the last number of each end port's range is below `bound`
abbrev pub AreBelow : ℕ → ℕ → List (EndPort × ℕ) → Type 0
AreBelow bound lmc given = (e : EndPort) (n : ℕ) → Contains given (e, n) → n + width_of lmc e ≤ bound

-- `lids` has the LID of each end port of `given` under its node and port, and no other LID of an end port
abbrev pub ByPort : List (EndPort × ℕ) → BTreeMap (ℕ × ℕ) ℕ → Type 0
ByPort given lids = (e : EndPort) → get node_port_cmp lids (e.node, e.port) ≡ lid_among given e

-- the tables are those of `given`: the owner of each number, the LID of each end port, the greatest number, and the
-- LIDs in ascending order. All numbers are below 0xC000, where unicast LIDs end
pub record IsIndexed (given : Given) (owners : List (Option EndPort)) (lids : BTreeMap (ℕ × ℕ) ℕ) (top : Option ℕ)
    (rising : List ℕ) : Type 0 where
  pub owned : AreOwners given owners
  pub has_lids : ByPort given.ports lids
  pub greatest : top ≡ top_of given
  pub rise : rising ≡ rising_lids given
  pub unicast : AreBelow 0xC000 given.lmc given.ports
