-- Packets that have a service level are carried, if each level that is given has a lane.
use Rattle.std.proofs.Common.{◌≡◌, ◌<◌, ◌⊎◌, ◌/◌, ◌%◌, ℕ, Bool, true, false, cond, ◌||◌, List, [], ◌∷◌, Option, Some, inl, inr, refl, ap, ◌∙◌, subst, arith}
use Rattle.std.specs.Prelude.{Contains, IfSome, find, nat_lt, not, slice_index, ◌==◌}
use Rattle.std.specs.List.{list_all, list_any, range_with_len}
use Rattle.std.proofs.lemmas.Bool.{and_parts, eq-eqb, ltb-true}
use Rattle.std.proofs.lemmas.List.Folds.{list_any-from_Any}
use Rattle.std.proofs.lemmas.List.FromFn.{get_or-range_with_len, length-range_with_len}
use Rattle.std.proofs.lemmas.Option.{same_Some}
use Rattle.smp_bytes.proofs.Members.{list_all_at}
use Rattle.lanes_file.specs.declared.lanes.LaneMap.{LaneMap}
use Rattle.lanes_file.specs.declared.lanes.LevelBlock.{LevelBlock}
use Rattle.lanes_file.specs.Carried.{CarriesAll, carries, carries_all, has_lane, map_has_lane}
use Rattle.lanes_file.specs.Lanes.{block_gives, gives, is_level, LanesSaid, is_block, is_map, lane_of, lanes_by}
use Rattle.lanes_file.specs.Lanes.{level_by}
use Rattle.lanes_file.specs.WellFormed.{IsWellFormed}

-- a number below n is one of the first n
below : (n p : ℕ) → p < n → Contains (range_with_len 0 n) p
below n p less = (p, omega (arith, length-range_with_len 0 n), get_or-range_with_len 0 n p p less ∙ omega arith)

-- a level has a lane by the map that is found, or without one
has_lane_by : (level : ℕ) (lanes : List ℕ) (test : LaneMap → Bool) (maps : List LaneMap) → has_lane level lanes ≡ true
    → list_all (map_has_lane level) maps ≡ true → has_lane level (lanes_by lanes (find test maps)) ≡ true
has_lane_by level lanes test [] alone each = alone
has_lane_by level lanes test (map ∷ maps) alone each =
    let parts = and_parts (map_has_lane level map) (list_all (map_has_lane level) maps) each in
    elim (test map) as (λ t. has_lane level (lanes_by lanes (cond t (Some map) (find test maps))) ≡ true) [
      | true ↦ parts.0
      | false ↦ has_lane_by level lanes test maps alone parts.1
    ]

-- packets have this level: it is that of all packets, or a block gives it
abbrev IsGiven : Option ℕ → ℕ → List LevelBlock → Type 0
IsGiven own level blocks = (own ≡ Some level) ⊎ ((list_any (block_gives level) blocks ≡ true) × (level < 16))

given_by : (own : Option ℕ) (level index : ℕ) (block : LevelBlock) (blocks : List LevelBlock) → index < 64
    → level_by own index (Some block) ≡ Some level → IsGiven own level (block ∷ blocks)
given_by own level index block blocks less e =
    let byte = slice_index block.levels index in
    elim (nat_lt byte 16) as (λ t. nat_lt byte 16 ≡ t → cond t (Some byte) own ≡ Some level → IsGiven own level (block ∷ blocks)) [
      | true ↦ λ t k.
          let same : byte ≡ level = same_Some byte level k in
          let (nth, within, there) = below 64 index less in
          let gives : block_gives level block ≡ true =
          list_any-from_Any (λ i. slice_index block.levels i == level) (range_with_len 0 64) (nth, index, within, there, eq-eqb byte level same) in
          inr (ap (λ b. b || list_any (block_gives level) blocks) gives, subst (λ (n : ℕ). n < 16) same (ltb-true byte 16 t))
      | false ↦ λ t k. inl k
    ] refl e

given_later : (own : Option ℕ) (level : ℕ) (block : LevelBlock) (blocks : List LevelBlock) → IsGiven own level blocks → IsGiven own level (block ∷ blocks)
given_later own level block blocks (inl e) = inl e
given_later own level block blocks (inr later) =
    inr (elim (block_gives level block) as (λ t. (t || list_any (block_gives level) blocks) ≡ true) [ true ↦ refl | false ↦ later.0 ], later.1)

given : (own : Option ℕ) (level index : ℕ) (test : LevelBlock → Bool) (blocks : List LevelBlock) → index < 64
    → level_by own index (find test blocks) ≡ Some level → IsGiven own level blocks
given own level index test [] less e = inl e
given own level index test (block ∷ blocks) less e =
    elim (test block) as (λ t. level_by own index (cond t (Some block) (find test blocks)) ≡ Some level → IsGiven own level (block ∷ blocks)) [
      | true ↦ λ k. given_by own level index block blocks less k
      | false ↦ λ k. given_later own level block blocks (given own level index test blocks less k)
    ] e

-- so it is a level that some packets have
level_given : (said : LanesSaid) (level : ℕ) → IsWellFormed said → IsGiven said.level level said.levels → (gives said.level said.levels level ≡ true)
    × (level < 16)
level_given said level is (inl e) = (
  ap (λ o. is_level o level || list_any (block_gives level) said.levels) e
      ∙ ap (λ b. b || list_any (block_gives level) said.levels) (eq-eqb level level refl),
  subst (λ (o : Option ℕ). IfSome o (λ s. s < 16)) e is.level,
)
level_given said level is (inr given) =
    (elim (is_level said.level level) as (λ t. (t || list_any (block_gives level) said.levels) ≡ true) [ true ↦ refl | false ↦ given.0 ], given.1)

-- what has a level is carried if that level is not given or has a lane
carried_if_given : (carried given : Bool) → (carried || not given) ≡ true → given ≡ true → carried ≡ true
carried_if_given true given e g = refl
carried_if_given false true e g = e
carried_if_given false false e g = absurd (cc)

pub all_carried : (said : LanesSaid) → IsWellFormed said → carries_all said ≡ true → CarriesAll said
all_carried said is each node port lid level e switch into out =
    let (some, small) = level_given said level is (given said.level level (lid % 64) (is_block node port (lid / 64)) said.levels (omega arith) e) in
    let one = list_all_at (λ l. carries said.lanes said.maps l || not (gives said.level said.levels l)) (range_with_len 0 16) each level
    (below 16 level small) in
    let parts = and_parts (has_lane level said.lanes) (list_all (map_has_lane level) said.maps)
    (carried_if_given (carries said.lanes said.maps level) (gives said.level said.levels level) one some) in
    ltb-true (lane_of said switch into out level) 15 (has_lane_by level said.lanes (is_map switch into out) said.maps parts.0 parts.1)
