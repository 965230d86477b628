-- Which service levels packets have: their own or, if answers are followed, those of packets that they answer.
use Rattle.std.specs.Prelude.{◌≡◌, ◌⊎◌, ℕ, Bool, true, List, Some, filter, map, slice_get}
use Rattle.subnet_view.specs.declared.end_port.EndPort.{EndPort}
use Rattle.held_tables.specs.declared.held.HeldLid.{HeldLid}
use Rattle.held_tables.specs.Held.{HeldPlan}
use Rattle.held_tables.specs.Tables.{is_same_end, lines_of, owners_of}
use Rattle.lanes_file.specs.Lanes.{LanesSaid, level_of}

-- the LIDs that end port `e` holds according to `lines`
abbrev pub lids_on : List HeldLid → EndPort → List ℕ
lids_on lines e = map (λ x. x.lid) (filter (λ x. is_same_end x.port e) lines)

-- the LIDs that end port `e` holds under the held tables
abbrev pub lids_held : HeldPlan → EndPort → List ℕ
lids_held held e = lids_on (lines_of held) e

-- one of `owners` sends packets of `level` for one of `lids`
pub record IsAsked (said : LanesSaid) (owners : List EndPort) (lids : List ℕ) (level : ℕ) : Type 0 where
  pub asker : EndPort
  pub nth : ℕ
  pub asker_is : slice_get owners nth ≡ Some asker
  pub asked : ℕ
  pub index : ℕ
  pub asked_is : slice_get lids index ≡ Some asked
  pub level_is : level_of said asker.node asker.port asked ≡ Some level

-- end port `e` sends packets of `level` for `lid`: the text gives them this level or, if `answers` is true, they answer
-- packets of this level, which an end port that holds `lid` sends for a LID of `e`
abbrev pub HasLevel : LanesSaid → Bool → HeldPlan → EndPort → ℕ → ℕ → Type 0
HasLevel said answers held e lid level =
    (level_of said e.node e.port lid ≡ Some level)
    ⊎ ((answers ≡ true) × IsAsked said (owners_of held lid) (lids_held held e) level)
