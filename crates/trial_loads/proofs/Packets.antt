-- Packets, share by share.
use Rattle.std.proofs.Common.{◌≡◌, ◌<◌, ◌+◌, ◌-◌, ◌^◌, ◌++◌, ℕ, suc, List, [], ◌∷◌, length, get_or, map, take}
use Rattle.std.proofs.Common.{refl, sym, ap, ◌∙◌, add-one, add-zero, arith, true, false, Bool, cond}
use Rattle.std.proofs.lemmas.List.{set-get_or, take_more}
use Rattle.std.proofs.Math.Nat.{min-eq_left, zero-div}
use Rattle.std.specs.Prelude.{filter, min, not, slice_set}
use Rattle.port_graph.specs.declared.edge.Edge.{Edge}
use Rattle.spread_labels.specs.Labels.{candidates}
use Rattle.spread_labels.specs.Orders.{numbers_from}
use Rattle.balanced_choices.specs.Ways.{channel_by}
use Rattle.trial_loads.specs.TrialLoads.{Packets, carried_between, carried_to, first_had, goes_up}
use Rattle.trial_loads.specs.TrialLoads.{share, shared, with_more, with_shares}

-- 0 more changes no number that is at most 2^64 - 1
pub none_more : (is numbers : List ℕ) → ((i : ℕ) → get_or numbers i 0 < 2 ^ 64) → with_more 0 numbers is ≡ numbers
none_more [] numbers fit = refl
none_more (i ∷ is) numbers fit =
    let same : min (get_or numbers i 0 + 0) (2 ^ 64 - 1) ≡ get_or numbers i 0 =
    ap (λ n. min n (2 ^ 64 - 1)) (add-zero (get_or numbers i 0)) ∙ min-eq_left (omega (arith, fit i)) in
    ap (λ ns. with_more 0 ns is) (ap (slice_set numbers i) same ∙ set-get_or numbers i 0) ∙ none_more is numbers fit

-- a vertex that has had none shares nothing
pub nothing_shared : (s : ℕ) (es : List Edge) (packets : Packets) → get_or packets.had s 0 ≡ 0
    → ((i : ℕ) → get_or packets.had i 0 < 2 ^ 64) → ((i : ℕ) → get_or packets.carried i 0 < 2 ^ 64)
    → packets ≡ with_shares s es packets
nothing_shared s es packets none had carried =
    let is : share (get_or packets.had s 0) es ≡ 0 = ap (λ n. share n es) none ∙ zero-div (length es) in
    (λ i. record {
      had = (sym (ap (λ n. with_more n packets.had (map (λ e. e.to) es)) is ∙ none_more (map (λ e. e.to) es) packets.had had)) i;
      carried = (sym (ap (λ n. with_more n packets.carried (map (channel_by s) es)) is ∙ none_more (map (channel_by s) es) packets.carried carried)) i;
    })

pub none_shared : (s : ℕ) (es : List Edge) (packets : Packets) → length es ≡ 0 → packets ≡ with_shares s es packets
none_shared s [] packets none = refl
none_shared s (e ∷ es) packets none = absurd (omega arith)

pub shared_both : (towards : ℕ → List Edge) (xs ys : List ℕ) (packets : Packets)
    → shared towards (xs ++ ys) packets ≡ shared towards ys (shared towards xs packets)
shared_both towards [] ys packets = refl
shared_both towards (x ∷ xs) ys packets = shared_both towards xs ys _

-- of those that do not go up, one vertex and then those that are left
or_shared : (towards : ℕ → List Edge) (s : ℕ) (ss : List ℕ) (packets : Packets) (up : Bool)
    → shared towards (cond (not up) (s ∷ ss) ss) packets ≡ shared towards ss (cond up packets (with_shares s (towards s) packets))
or_shared towards s ss packets true = refl
or_shared towards s ss packets false = refl

pub from_next : (towards : ℕ → List Edge) (s n : ℕ) (packets : Packets) → s < n
    → shared towards (filter (λ s. not (goes_up towards s)) (numbers_from s (n - s))) packets
    ≡ shared towards (filter (λ s. not (goes_up towards s)) (numbers_from (s + 1) (n - (s + 1))))
    (cond (goes_up towards s) packets (with_shares s (towards s) packets))
from_next towards s n packets h =
    let left : n - s ≡ suc (n - (s + 1)) = omega (arith, h) in
    let from : ℕ → List ℕ = λ k. filter (λ s. not (goes_up towards s)) (numbers_from k (n - (s + 1))) in
    ap (λ m. shared towards (filter (λ s. not (goes_up towards s)) (numbers_from s m)) packets) left
    ∙ or_shared towards s (from (suc s)) packets (goes_up towards s)
    ∙ ap (λ k. shared towards (from k) (cond (goes_up towards s) packets (with_shares s (towards s) packets))) (sym (add-one s))

-- target by target
module _ (graph : List (List Edge)) (adapters : List ℕ) where
  pub between_both : (xs ys carried : List ℕ)
      → carried_between graph adapters carried (xs ++ ys) ≡ carried_between graph adapters (carried_between graph adapters carried xs) ys
  between_both [] ys carried = refl
  between_both (x ∷ xs) ys carried = between_both xs ys _

  pub between_more : (carried ts : List ℕ) (i : ℕ) → i < length ts
      → carried_to (candidates graph (get_or ts i 0)) (length graph) (first_had (get_or adapters (get_or ts i 0) 0) adapters)
      (carried_between graph adapters carried (take i ts))
      ≡ carried_between graph adapters carried (take (i + 1) ts)
  between_more carried ts i h =
      sym (between_both (take i ts) (get_or ts i 0 ∷ []) carried)
      ∙ ap (carried_between graph adapters carried) (sym (take_more ts i 0 h))
