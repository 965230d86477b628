-- When LIDs stay the same: if the end ports claim them, even if other end ports are added.
use Rattle.std.specs.Prelude.{◌≡◌, ◌≢◌, ◌<◌, ◌⊎◌, ℕ, Contains, None, Some}
use Rattle.reply_facts.specs.declared.key.Key.{Key}
use Rattle.reply_facts.specs.declared.key.Key.TheVariants.{Claim}
use Rattle.fact_store.specs.View.{Facts, cell_for, cells_of}
use Rattle.subnet_view.specs.declared.end_port.EndPort.{EndPort}
use Rattle.reply_facts.specs.Known.{claim_of}
use Rattle.subnet_view.specs.Reading.{Cells}
use Rattle.subnet_view.specs.EndPort.{end_ports}
use Rattle.lid_assign.specs.Lids.{IsNoRoom, lids, lid_of, top_of}
use Rattle.lid_assign.specs.Claims.{room}

-- the sets of facts `x` and `y` have equal cells for all keys except claims
abbrev pub DifferInClaims : Facts → Facts → Type 0
DifferInClaims x y = (key : Key) → ((g p : ℕ) → key ≢ Claim g p) → cell_for x key ≡ cell_for y key

-- each end port that has a LID according to the cells `x` claims this LID in the cells `y`
abbrev pub ClaimLids : ℕ → Cells → Cells → Type 0
ClaimLids lmc x y = (e : EndPort) (lid : ℕ) → lid_of (lids lmc x) e ≡ Some lid → claim_of y e.node e.port ≡ Some lid

-- the sets of facts `x` and `y` differ only in claims (`DifferInClaims`), and in `y` each end port claims the LID
-- that it has under `x`
pub record IsClaimed (lmc : ℕ) (x y : Facts) : Type 0 where
  pub same : DifferInClaims x y
  pub claimed : ClaimLids lmc (cells_of x) (cells_of y)

-- if each end port finds a LID under `x`, and claims this LID in `y` (`IsClaimed`), then each end port finds a LID
-- under `y`, and the LIDs are the same as under `x`
abbrev pub LidsSettle : Type 0
LidsSettle = (lmc : ℕ) (x y : Facts) → ¬ (IsNoRoom lmc (cells_of x)) → IsClaimed lmc x y
    → ¬ (IsNoRoom lmc (cells_of y)) × (lids lmc (cells_of y) ≡ lids lmc (cells_of x))

-- the end port `e` is not known to claim a LID, or claims 0
abbrev pub ClaimsNothing : Cells → EndPort → Type 0
ClaimsNothing cells e = (claim_of cells e.node e.port ≡ None) ⊎ (claim_of cells e.node e.port ≡ Some 0)

-- the cells `z` have the end ports of `x`, and each of these claims in `z` the LID that it has under `x`. Other end
-- ports of `z` claim nothing or 0. The room of `z` is above the greatest number in the range of an end port under `x`
pub record GrowsFrom (lmc : ℕ) (x z : Cells) : Type 0 where
  pub has : (e : EndPort) → Contains (end_ports x) e → Contains (end_ports z) e
  pub claimed : ClaimLids lmc x z
  pub others : (e : EndPort) → Contains (end_ports z) e → (Contains (end_ports x) e → ⊥) → ClaimsNothing z e
  pub in_room : (top : ℕ) → top_of (lids lmc x) ≡ Some top → top < room z

-- if `z` grows from `x` (`GrowsFrom`) and all end ports of both find LIDs, each end port that has a LID under `x` has
-- the same LID under `z`
abbrev pub LidsStay : Type 0
LidsStay = (lmc : ℕ) (x z : Facts) → ¬ (IsNoRoom lmc (cells_of x)) → ¬ (IsNoRoom lmc (cells_of z))
    → GrowsFrom lmc (cells_of x) (cells_of z)
    → (e : EndPort) (lid : ℕ) → lid_of (lids lmc (cells_of x)) e ≡ Some lid → lid_of (lids lmc (cells_of z)) e
    ≡ Some lid
