-- The laws of the LIDs that end ports get.
use Rattle.std.specs.Prelude.{◌≡◌, ◌↔◌, ◌⊎◌, ◌<◌, ◌≤◌, ◌+◌, ℕ, List, ◌∷◌, ◌++◌, map, length, Contains, Some, IsTrue}
use Rattle.std.specs.List.{AllPairs}
use Rattle.subnet_view.specs.declared.end_port.EndPort.{EndPort}
use Rattle.fact_store.specs.View.{Facts, cells_of}
use Rattle.reply_facts.specs.Known.{claim_of}
use Rattle.subnet_view.specs.Reading.{Cells}
use Rattle.subnet_view.specs.EndPort.{end_ports}
use Rattle.smp_bytes.specs.LidRange.{has_lid}
use Rattle.lid_assign.specs.Ranges.{width_of, range_at, IsIn, IsInBoth, Fits}
use Rattle.lid_assign.specs.Claims.{room}
use Rattle.lid_assign.specs.Lids.{Given, lids, IsNoRoom, owner_of, lid_of, lmc_of, rising_lids}

-- `x` stands in the list `all` after `earlier` and before `later`
abbrev pub Stands : {X : Type 0} → List X → X → List X → List X → Type 0
Stands earlier x later all = all ≡ earlier ++ x ∷ later

-- the end port `e` claims the number `c`, and the range of `e` that begins at `c` fits
pub record ClaimsFitting (lmc : ℕ) (cells : Cells) (e : EndPort) (c : ℕ) : Type 0 where
  pub claimed : claim_of cells e.node e.port ≡ Some c
  pub claim_fits : Fits (room cells) (range_at lmc e c)

-- the end port `e` keeps the claim `c`: `e` claims `c`, the range of `e` that begins at `c` fits, and no end port
-- before `e` claims a range that fits and has a number in common with that range. True if `e` is not an end port
abbrev pub Keeps : ℕ → Cells → EndPort → ℕ → Type 0
Keeps lmc cells e c =
    (earlier later : List EndPort) → Stands earlier e later (end_ports cells) → ClaimsFitting lmc cells e c
    × ((x : EndPort) (d n : ℕ) → Contains earlier x → ClaimsFitting lmc cells x d
    → IsInBoth (range_at lmc e c) (range_at lmc x d) n → ⊥)

-- the end port `e` keeps no claim
abbrev pub KeepsNothing : ℕ → Cells → EndPort → Type 0
KeepsNothing lmc cells e = (c : ℕ) → Keeps lmc cells e c → ⊥

-- the number `n` is in the range of an end port of `given`, and this end port is in `earlier` or keeps its claim
pub record WasTaken (lmc : ℕ) (cells : Cells) (earlier given : List (EndPort × ℕ)) (n : ℕ) : Type 0 where
  pub by : EndPort
  pub lid : ℕ
  pub is_given : Contains given (by, lid)
  pub is_before : Contains earlier (by, lid) ⊎ Keeps lmc cells by lid
  pub is_its : IsIn (range_at lmc by lid) n

-- `given` has the end ports in the order of `end_ports`, each with a LID. Their ranges fit and have no number in
-- common. An end port has the claim that it keeps. If it keeps none, it has the least number from which its range
-- fits and has no number that was taken (`WasTaken`)
pub record AreLids (lmc : ℕ) (cells : Cells) (given : List (EndPort × ℕ)) : Type 0 where
  pub end_ports_in_order : map (λ x. x.0) given ≡ end_ports cells
  pub each_fits : (e : EndPort) (n : ℕ) → Contains given (e, n) → Fits (room cells) (range_at lmc e n)
  pub apart : (e f : EndPort) (n m k : ℕ) → Contains given (e, n) → Contains given (f, m)
      → IsInBoth (range_at lmc e n) (range_at lmc f m) k → e ≡ f
  pub kept_stay : (e : EndPort) (n c : ℕ) → Contains given (e, n) → Keeps lmc cells e c → n ≡ c
  pub none_skipped : (earlier later : List (EndPort × ℕ)) (e : EndPort) (n m : ℕ) → Stands earlier (e, n) later given
      → KeepsNothing lmc cells e
      → Fits (room cells) (range_at lmc e m) → m < n → (k : ℕ) × IsIn (range_at lmc e m) k
      × WasTaken lmc cells earlier given k

-- if each end port finds a LID, the LIDs that are assigned satisfy `AreLids`
abbrev pub LidsLaw : Type 0
LidsLaw = (lmc : ℕ) (facts : Facts) → ¬ (IsNoRoom lmc (cells_of facts))
    → AreLids lmc (cells_of facts) (lids lmc (cells_of facts)).ports

-- only the LIDs that are assigned satisfy `AreLids`
abbrev pub LidsAreUnique : Type 0
LidsAreUnique = (lmc : ℕ) (facts : Facts) (given : List (EndPort × ℕ)) → AreLids lmc (cells_of facts) given
    → given ≡ (lids lmc (cells_of facts)).ports

-- some end port finds no LID exactly when no LIDs satisfy `AreLids`
abbrev pub NoRoomLaw : Type 0
NoRoomLaw = (lmc : ℕ) (facts : Facts) → IsNoRoom lmc (cells_of facts)
    ↔ ((given : List (EndPort × ℕ)) → AreLids lmc (cells_of facts) given → ⊥)

-- under LMC 0, some end port finds no LID exactly when there is an end port and the number of end ports is at least the
-- room
abbrev pub NoRoomAtLmc0 : Type 0
NoRoomAtLmc0 = (cells : Cells) → IsNoRoom 0 cells
    ↔ ((0 < length (end_ports cells)) × (room cells ≤ length (end_ports cells)))

-- of two end ports that have equal widths and keep no claim, the one that comes first has the lesser LID
abbrev pub OthersRise : Type 0
OthersRise = (lmc : ℕ) (facts : Facts) (given earlier middle later : List (EndPort × ℕ)) (e f : EndPort) (n m : ℕ)
    → AreLids lmc (cells_of facts) given
    → given ≡ earlier ++ (e, n) ∷ middle ++ (f, m) ∷ later → width_of lmc e ≡ width_of lmc f
    → KeepsNothing lmc (cells_of facts) e → KeepsNothing lmc (cells_of facts) f → n < m

-- if each end port finds a LID, an end port is the owner of a number exactly when the number is one of its LIDs
abbrev pub OwnersAreInverse : Type 0
OwnersAreInverse = (lmc : ℕ) (facts : Facts) → ¬ (IsNoRoom lmc (cells_of facts)) → (e : EndPort) (n : ℕ)
    → (owner_of (lids lmc (cells_of facts)) n ≡ Some e)
    ↔ ((lid : ℕ) × (lid_of (lids lmc (cells_of facts)) e ≡ Some lid)
    × IsTrue (has_lid lid (lmc_of (lids lmc (cells_of facts)) e) n))

-- `rising_lids` has exactly the LIDs of end ports, each once, in ascending order
abbrev pub RisingLidsLaw : Type 0
RisingLidsLaw = (given : Given)
    → ((n : ℕ) → Contains (rising_lids given) n ↔ ((e : EndPort) × Contains given.ports (e, n)))
    × AllPairs (λ m n. m < n) (rising_lids given)
