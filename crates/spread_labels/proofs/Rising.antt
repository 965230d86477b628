-- Channel numbers rise along each way up and then down.
use Rattle.std.proofs.Common.{◌≡◌, ◌≤◌, ◌<◌, ◌+◌, ◌-◌, ℕ, zero, suc, List, [], ◌∷◌}
use Rattle.std.proofs.Common.{◌++◌, inl, inr, refl, sym, ap, ◌∙◌, subst, arith, cond, length}
use Rattle.std.proofs.lemmas.Bool.{lt-ltb, le-ltb}
use Rattle.std.proofs.lemmas.Option.{same_Some}
use Rattle.std.specs.Prelude.{None, Some, Contains, slice_index}
use Rattle.std.specs.List.Sorted.{IsStrictlyIncreasing}
use Rattle.smp_bytes.proofs.Members.{contains_none}
use Rattle.port_graph.specs.declared.edge.Edge.{Edge}
use Rattle.port_graph.specs.Heads.{LeadToVertices}
use Rattle.spread_labels.specs.declared.label.Mark.{Mark}
use Rattle.spread_labels.specs.Labels.{marks, candidates_by, candidates}
use Rattle.spread_labels.specs.LabelLaws.{IsStep}
use Rattle.spread_labels.specs.Ways.{Climbs, Descends, channel_number, channels_along}
use Rattle.spread_labels.specs.Ways.{ChannelsLaw, Channel, MayWait, MayWaitInTurn, NoCycleLaw}
use Rattle.spread_labels.proofs.Steps.{step_at}

-- each is above the one before it, and the first above a number
abbrev RisesFrom : ℕ → List ℕ → Type 0
RisesFrom m [] = Unit {0}
RisesFrom m (x ∷ xs) = (m < x) × RisesFrom x xs

risen_with : (m : ℕ) (xs : List ℕ) → RisesFrom m xs → IsStrictlyIncreasing (m ∷ xs)
risen_with m [] r k h = absurd (omega arith)
risen_with m (x ∷ xs) r zero h = r.0
risen_with m (x ∷ xs) r (suc k) h =
    let e : suc (k + 1) ≡ suc k + 1 = omega arith in
    subst (λ (n : ℕ). slice_index (x ∷ xs) k < slice_index (m ∷ x ∷ xs) n) e (risen_with x xs r.1 k (omega arith))

rising_tail : (x : ℕ) (xs : List ℕ) → IsStrictlyIncreasing (x ∷ xs) → IsStrictlyIncreasing xs
rising_tail x xs s k h =
    let e : suc k + 1 ≡ suc (k + 1) = omega arith in
    subst (λ (n : ℕ). slice_index xs k < slice_index (x ∷ xs) n) e (s (suc k) (omega arith))

channel_up : (n a b : ℕ) → b < a → channel_number n a b ≡ n - b
channel_up n a b h = ap (λ t. cond t (n - b) (n + b)) (lt-ltb b a h)

channel_down : (n a b : ℕ) → a < b → channel_number n a b ≡ n + b
channel_down n a b h = ap (λ t. cond t (n - b) (n + b)) (le-ltb b a (omega arith))

module _ (edges : List (List Edge)) (lead : LeadToVertices edges) where
  down_rises : (es : List Edge) (m s t : ℕ) → m ≤ length edges + s → Descends edges s es t → RisesFrom m (channels_along (length edges) s es)
  down_rises [] m s t l d = tt
  down_rises (e ∷ es) m s t l d =
      let c = channel_down (length edges) s e.to d.1 in
      (omega (arith, c, d.1), down_rises es (channel_number (length edges) s e.to) e.to t (omega (arith, c)) d.2)

  way_rises : (es downs : List Edge) (m s u t : ℕ) → m ≤ length edges - s → Climbs edges s es u → Descends edges u downs t
      → RisesFrom m (channels_along (length edges) s (es ++ downs))
  way_rises [] downs m s u t l c d = down_rises downs m s t (omega arith) (subst (λ (x : ℕ). Descends edges x downs t) (sym c) d)
  way_rises (e ∷ es) downs m s u t l c d =
      let n = channel_up (length edges) s e.to c.1 in
      (omega (arith, n, c.1, lead s e c.0), way_rises es downs (channel_number (length edges) s e.to) e.to u t (omega (arith, n)) c.2 d)

  -- a channel and the next
  wait_rises : (a b : Channel) → MayWait edges a b → channel_number (length edges) a.0 a.1.to < channel_number (length edges) b.0 b.1.to
  wait_rises a b w =
      let p = with_mark w.target a.0 a.1 w.holds in
      let q = with_mark w.target b.0 b.1 w.wants in
      let n = length edges in
      let within : a.1.to < n = lead a.0 a.1 p.1.edge in
      let there : a.1.to ≡ b.0 = w.there in
      let same : p.1.to ≡ q.0.0 = same_Some p.1.to q.0.0 (sym p.1.labelled ∙ ap (marks edges w.target) w.there ∙ q.0.1) in
      elim p.1.up_or_down [
        | inl up ↦
            let c = channel_up n a.0 a.1.to up in
            (elim q.1.up_or_down [
              | inl higher ↦ (let d = channel_up n b.0 b.1.to higher in omega arith)
              | inr lower ↦ (let d = channel_down n b.0 b.1.to lower.0 in let l = lower.0 in omega arith)
            ])
        | inr down ↦
            let c = channel_down n a.0 a.1.to down.0 in
            let l = (q.1.from_down (sym (ap (λ (x : Mark). x.label) same) ∙ down.1)).0 in
            let d = channel_down n b.0 b.1.to l in
            omega arith
      ]
    where
      with_mark : (t s : ℕ) (e : Edge) → Contains (candidates edges t s) e → (m : (n : Mark) × (marks edges t s ≡ Some n)) × IsStep edges t s m.0 e
      with_mark t s e h =
          elim (marks edges t s) as (λ o. marks edges t s ≡ o → Contains (candidates_by edges t s o) e → (m : (n : Mark) × (marks edges t s ≡ Some n))
          × IsStep edges t s m.0 e) [
            | None ↦ λ k c. absurd (contains_none e c)
            | Some m ↦ λ k c. ((m, k), step_at edges t s m k e h)
          ] refl h

  turn_rises : (k : ℕ) (a b : Channel) → MayWaitInTurn edges k a b → channel_number (length edges) a.0 a.1.to + k ≤ channel_number (length edges) b.0 b.1.to
  turn_rises zero a b e = let same = ap (λ (c : Channel). channel_number (length edges) c.0 c.1.to) e in omega arith
  turn_rises (suc k) a b w = omega (arith, wait_rises a w.0 w.1, turn_rises k w.0 b w.2)

pub channels_in_words : ChannelsLaw
channels_in_words edges lead s u t ups downs c d =
    rising_tail 0 (channels_along (length edges) s (ups ++ downs))
    (risen_with 0 (channels_along (length edges) s (ups ++ downs)) (way_rises edges lead ups downs 0 s u t (omega arith) c d))

pub no_cycle_in_words : NoCycleLaw
no_cycle_in_words edges lead n a w = omega (arith, turn_rises edges lead (suc n) a a w)
