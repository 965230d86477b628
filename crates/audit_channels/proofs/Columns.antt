-- Two columns, with one vertex more.
use Rattle.std.proofs.Common.{◌≡◌, ◌<◌, ◌+◌, ℕ, zero, suc, List, [], ◌∷◌, length, refl, sym, ap, ◌∙◌, subst, arith, inl, inr, ◌⊎◌}
use Rattle.std.specs.Prelude.{Option, None, Some, slice_index_or}
use Rattle.std.proofs.lemmas.Bool.{cases_lt}
use Rattle.port_graph.specs.declared.edge.Edge.{Edge}
use Rattle.audit_channels.specs.ChannelOrders.{Follows, IsWith}
use Rattle.audit_channels.specs.Column.{number_of, TakesAcross, TakesNone, IsTurn, TakesAmong, IsWithSome}
use Rattle.audit_channels.specs.declared.column.Turn.{Turn}

pub same_edge : (e f : Edge) → Some e ≡ Some f → e ≡ f
same_edge e f h = cc

module _ (old : List (List ℕ)) (before now : List (Option Edge)) where
  pub none_so_far : IsWithSome 0 old before now old
  none_so_far = record { as_many = refl; follows = λ a b. ((λ h. inl h), back a b) }
    where
      back : (a b : ℕ) → Follows old a b ⊎ TakesAmong 0 before now a b → Follows old a b
      back a b (inl h) = h
      back a b (inr t) = let less = t.1 in absurd (omega arith)

  -- a vertex from which no two are taken in turn
  pub nothing_more : (waits : List (List ℕ)) (vertex : ℕ) → IsWithSome vertex old before now waits
      → TakesNone before now vertex → IsWithSome (vertex + 1) old before now waits
  nothing_more waits vertex h none = record {
    as_many = h.as_many;
    follows = λ a b. ((λ f. more a b ((h.follows a b).0 f)), (λ t. (h.follows a b).1 (less a b t)));
  }
    where
      more : (a b : ℕ) → Follows old a b ⊎ TakesAmong vertex before now a b → Follows old a b ⊎ TakesAmong (vertex + 1) before now a b
      more a b (inl f) = inl f
      more a b (inr t) = let below = t.1 in inr (t.0, omega arith, t.2)

      less : (a b : ℕ) → Follows old a b ⊎ TakesAmong (vertex + 1) before now a b → Follows old a b ⊎ TakesAmong vertex before now a b
      less a b (inl f) = inl f
      less a b (inr t) =
          elim (cases_lt t.0 vertex) [
            | inl below ↦ inr (t.0, below, t.2)
            | inr past ↦
                let below = t.1 in
                let at : t.0 ≡ vertex = omega arith in
                absurd (none a b (subst (λ (v : ℕ). TakesAcross before now v a b) at t.2))
          ]

  -- one from which two are
  pub one_more : (waits new : List (List ℕ)) (vertex : ℕ) (turn : Turn) → IsWithSome vertex old before now waits
      → IsTurn before now vertex turn → IsWith waits turn.channel turn.next new → IsWithSome (vertex + 1) old before now new
  one_more waits new vertex turn h is with_it = record {
    as_many = with_it.as_many ∙ h.as_many;
    follows = λ a b. ((λ f. more a b ((with_it.follows a b).0 f)), (λ t. (with_it.follows a b).1 (less a b t)));
  }
    where
      earlier : (a b : ℕ) → Follows old a b ⊎ TakesAmong vertex before now a b → Follows old a b ⊎ TakesAmong (vertex + 1) before now a b
      earlier a b (inl f) = inl f
      earlier a b (inr t) = let below = t.1 in inr (t.0, omega arith, t.2)

      more : (a b : ℕ) → Follows waits a b ⊎ ((a ≡ turn.channel) × (b ≡ turn.next)) → Follows old a b ⊎ TakesAmong (vertex + 1) before now a b
      more a b (inl f) = earlier a b ((h.follows a b).0 f)
      more a b (inr e) =
          let first = subst (λ (n : ℕ). TakesAcross before now vertex n turn.next) (sym e.0) is.takes in
          inr (vertex, omega arith, subst (λ (n : ℕ). TakesAcross before now vertex a n) (sym e.1) first)

      less : (a b : ℕ) → Follows old a b ⊎ TakesAmong (vertex + 1) before now a b → Follows waits a b ⊎ ((a ≡ turn.channel) × (b ≡ turn.next))
      less a b (inl f) = inl ((h.follows a b).1 (inl f))
      less a b (inr t) =
          elim (cases_lt t.0 vertex) [
            | inl below ↦ inl ((h.follows a b).1 (inr (t.0, below, t.2)))
            | inr past ↦
                let below = t.1 in
                let at : t.0 ≡ vertex = omega arith in
                let this = subst (λ (v : ℕ). TakesAcross before now v a b) at t.2 in
                let that = is.takes in
                let one : this.first ≡ that.first = same_edge this.first that.first (sym this.leaves ∙ that.leaves) in
                let to : this.first.to ≡ that.first.to = ap (λ (e : Edge). e.to) one in
                let two : this.second ≡ that.second =
                same_edge this.second that.second (sym this.leaves_there ∙ ap (λ (v : ℕ). slice_index_or now v None) to ∙ that.leaves_there) in
                inr (this.channel_is ∙ ap (number_of vertex) one ∙ sym that.channel_is, this.next_is ∙ (λ i. number_of (to i) (two i)) ∙ sym that.next_is)
          ]

-- a vertex with an edge is one of the column
pub within : (column : List (Option Edge)) (vertex : ℕ) (edge : Edge) → slice_index_or column vertex None ≡ Some edge → vertex < length column
within [] vertex edge h = cc
within (x ∷ column) zero edge h = omega arith
within (x ∷ column) (suc vertex) edge h = let less = within column vertex edge h in omega arith
