-- The LIDs for which packets wait in a credit loop of a step.
use Rattle.std.specs.Prelude.{◌≡◌, ◌==◌, ◌⊎◌, ◌<◌, ◌≤◌, ◌/◌, ℕ, Bool, List, [], ◌∷◌, ◌++◌, Option, length, not, slice_index_or}
use Rattle.std.specs.List.{list_all}
use Rattle.port_graph.specs.declared.edge.Edge.{Edge}
use Rattle.subnet_view.specs.Reading.{Cells}
use Rattle.held_tables.specs.Held.{HeldPlan}
use Rattle.audit_channels.specs.Column.{TakesAcross}
use Rattle.next_tables.specs.Mixtures.{WaitsInStep}

-- `lid` is the least LID for which, in the step, packets that hold channel `a` wait for channel `b`
pub record IsLeastLid (cells : Cells) (held next : HeldPlan) (a b lid : ℕ) : Type 0 where
  pub is_lid : 1 ≤ lid
  pub waits : WaitsInStep cells held next lid a b
  pub least : (other : ℕ) → 1 ≤ other → WaitsInStep cells held next other a b → lid ≤ other

-- for each channel of a cycle, the next one; for the last, the first
abbrev pub turned : List ℕ → List ℕ
turned [] = []
turned (channel ∷ later) = later ++ channel ∷ []

-- `lids` has, for each channel of `cycle`, the least LID for which, in the step, packets that hold this channel wait
-- for the next one; after the last channel comes the first
pub record AreLoopLids (cells : Cells) (held next : HeldPlan) (cycle lids : List ℕ) : Type 0 where
  pub as_many : length lids ≡ length cycle
  pub each : (i : ℕ) → i < length cycle
      → IsLeastLid cells held next (slice_index_or cycle i 0) (slice_index_or (turned cycle) i 0)
      (slice_index_or lids i 0)

-- each of `lids` is known: it is not 0
abbrev pub are_known : List ℕ → Bool
are_known lids = list_all (λ lid. not (lid == 0)) lids

-- packets for one LID ----------------------------------------------------------------------------

-- packets leave the switch of channel `a` on `a`, along the switch's edge in `before`, and the next switch on channel
-- `b`, along that switch's edge in `now`
abbrev pub TakesFrom : List (Option Edge) → List (Option Edge) → ℕ → ℕ → Type 0
TakesFrom before now a b = TakesAcross before now (a / 256) a b

-- packets take channel `a` and then `b`, each along an edge of `held` or of `next`
abbrev pub TakesHere : List (Option Edge) → List (Option Edge) → ℕ → ℕ → Type 0
TakesHere held next a b =
    TakesFrom held held a b ⊎ (TakesFrom held next a b ⊎ (TakesFrom next held a b ⊎ TakesFrom next next a b))

-- `new` is `lid` if `known` is 0 (no LID) and packets for `lid` hold channel `a` and wait for `b`, otherwise `known`
abbrev pub IsNoted : List (Option Edge) → List (Option Edge) → ℕ → ℕ → ℕ → ℕ → ℕ → Type 0
IsNoted held next lid a b known new =
    ((known ≡ 0) × TakesHere held next a b × (new ≡ lid)) ⊎ ((new ≡ known) × (known ≡ 0 → ¬ (TakesHere held next a b)))

-- `new` is `known` with `lid` noted for each channel of `cycle` without a LID, if packets for `lid` hold this channel
-- and wait for the channel at the same index of `after`
pub record AreNoted (held next : List (Option Edge)) (lid : ℕ) (cycle after known new : List ℕ) : Type 0 where
  pub as_many : length new ≡ length known
  pub each : (i : ℕ) → i < length known
      → IsNoted held next lid (slice_index_or cycle i 0) (slice_index_or after i 0) (slice_index_or known i 0)
      (slice_index_or new i 0)
