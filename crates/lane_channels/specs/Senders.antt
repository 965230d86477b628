-- The packets that end ports send for a LID, by level and by where they begin.
use Rattle.std.specs.Prelude.{◌≡◌, ◌<◌, ℕ, Bool, List, [], Option, None, Some, map, replicate, slice_get, true}
use Rattle.fact_store.specs.View.{cells_of}
use Rattle.subnet_view.specs.EndPort.{end_ports}
use Rattle.subnet_view.specs.declared.end_port.EndPort.{EndPort}
use Rattle.lanes_file.specs.Lanes.{LanesSaid, level_of}
use Rattle.lane_channels.specs.declared.held_by.Asked.{Asked}
use Rattle.lane_channels.specs.LaneNetwork.{SeenByLane, lists_of}
use Rattle.lane_channels.specs.Levels.{HasLevel, IsAsked, lids_held}
use Rattle.lane_channels.specs.Stops.{first_stop}
use Rattle.lane_channels.specs.Walk.{Walked}

-- `begin` is `first`, and packets of `level` that begin there answer packets that `asker` sends for one of the first
-- `count` of `lids`
pub record AnswersOf (said : LanesSaid) (asker : EndPort) (lids : List ℕ) (count : ℕ) (first : Option ℕ) (level : ℕ)
    (begin : Option ℕ) : Type 0 where
  pub begins : begin ≡ first
  pub asked : ℕ
  pub index : ℕ
  pub below : index < count
  pub asked_is : slice_get lids index ≡ Some asked
  pub level_is : level_of said asker.node asker.port asked ≡ Some level

-- `begin` is `first`, and packets of `level` that begin there answer packets that one of `owners` sends for one of
-- `lids`
abbrev pub AnswersTo : LanesSaid → List EndPort → List ℕ → Option ℕ → ℕ → Option ℕ → Type 0
AnswersTo said owners lids first level begin = (begin ≡ first) × IsAsked said owners lids level

-- the end port at `index` sends packets of `level` for `lid`, and they first reach a usable switch at the stop
-- `begin`; if this is None, they reach no usable switch
pub record SentFrom (s : SeenByLane) (answers : Bool) (lid index level : ℕ) (begin : Option ℕ) : Type 0 where
  pub source : EndPort
  pub source_is : slice_get (end_ports (cells_of s.seen.facts)) index ≡ Some source
  pub has_level : HasLevel s.said answers s.seen.held source lid level
  pub begins : begin ≡ first_stop (cells_of s.seen.facts) source

-- some end port sends packets of `level` for `lid`, and they first reach a usable switch at the stop `begin`; if this
-- is None, they reach no usable switch
abbrev pub SentFor : SeenByLane → Bool → ℕ → ℕ → Option ℕ → Type 0
SentFor s answers lid level begin = (index : ℕ) × SentFrom s answers lid index level begin

-- if answers are followed, `asked` has, for each end port, the LIDs that this end port holds
abbrev pub HasAsked : SeenByLane → Asked → Type 0
HasAsked s asked =
    asked.answers ≡ true
    → lists_of asked.held_by.items ≡ map (lids_held s.seen.held) (end_ports (cells_of s.seen.facts))

-- no packets were followed: no marks, no channels that follow others, and no dropped packet
pub record IsNothing (count : ℕ) (w : Walked) : Type 0 where
  pub waits : w.waits ≡ replicate count []
  pub marks : w.marks ≡ replicate count 0
  pub dropped : w.dropped ≡ None
