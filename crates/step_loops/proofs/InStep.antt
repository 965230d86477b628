-- The channels that wait for each other in a step, LID by LID up to the greatest top of both tables.
use Rattle.std.proofs.Common.{◌≡◌, ◌<◌, ◌≤◌, ◌+◌, ◌*◌, ℕ, List, [], ◌∷◌, length, replicate, sym, ap, ◌∙◌, subst, arith, max, inl, inr, ◌⊎◌}
use Rattle.std.specs.Prelude.{Contains, Option, None, slice_index_or, ◌↔◌}
use Rattle.std.proofs.lemmas.Bool.{cases_lt}
use Rattle.std.proofs.lemmas.List.{length-replicate}
use Rattle.smp_bytes.proofs.Members.{contains_none}
use Rattle.port_graph.specs.declared.edge.Edge.{Edge}
use Rattle.subnet_view.specs.Reading.{Cells, switches}
use Rattle.held_tables.specs.Held.{HeldPlan}
use Rattle.packet_walks.specs.Edges.{edges_of, greatest_top}
use Rattle.packet_walks.proofs.Tops.{none_above}
use Rattle.audit_channels.proofs.Waiting.{blank}
use Rattle.audit_channels.specs.ChannelOrders.{AreWaits, Follows}
use Rattle.audit_channels.specs.Waiting.{channel_count}
use Rattle.next_tables.specs.Mixtures.{TakesBy, TakesInStep, WaitsInStep}
use Rattle.step_loops.specs.StepOrder.{IsWithStep, WaitsFor}

-- by one of the LIDs from 1 to a count
pub record WaitsUpTo (count : ℕ) (cells : Cells) (held next : HeldPlan) (a b : ℕ) : Type 0 where
  lid : ℕ
  low : 1 ≤ lid
  most : lid ≤ count
  waits : WaitsInStep cells held next lid a b

-- those of these LIDs
pub record SoFar (count : ℕ) (cells : Cells) (held next : HeldPlan) (waits : List (List ℕ)) : Type 0 where
  pub as_many : length waits ≡ 256 * length (switches cells)
  pub follows : (a b : ℕ) → Follows waits a b ↔ WaitsUpTo count cells held next a b

moved : (x y z w : List (Option Edge)) (a b : ℕ) → x ≡ z → y ≡ w → TakesInStep x y a b → TakesInStep z w a b
moved x y z w a b e h t =
    subst (λ (c : List (Option Edge)). TakesInStep z c a b) h (subst (λ (c : List (Option Edge)). TakesInStep c y a b) e t)

module _ (cells : Cells) (held next : HeldPlan) where
  pub none_so_far : (n : ℕ) (waits : List (List ℕ)) → waits ≡ replicate n [] → n ≡ 256 * length (switches cells) → SoFar 0 cells held next waits
  none_so_far n waits e all =
      subst (SoFar 0 cells held next) (sym e)
      (record {
        as_many = length-replicate n [] ∙ all;
        follows = λ a b. (
          λ f. absurd (contains_none b (subst (λ (xs : List ℕ). Contains xs b) (blank n a) f)),
          λ t. (let low = t.low in let most = t.most in
              absurd (omega arith)),
        );
      })

  pub more : (count lid : ℕ) (waits new : List (List ℕ)) (before after : List (Option Edge)) → SoFar count cells held next waits
      → lid ≡ count + 1 → before ≡ edges_of cells held lid → after ≡ edges_of cells next lid → IsWithStep waits before after new
      → SoFar (count + 1) cells held next new
  more count lid waits new before after so lid_is b_is a_is with_it =
      record {
        as_many = with_it.as_many ∙ so.as_many;
        follows = λ a b. ((λ f. there a b ((with_it.follows a b).0 f)), (λ t. (with_it.follows a b).1 (back a b t)));
      }
    where
      there : (a b : ℕ) → Follows waits a b ⊎ TakesInStep before after a b → WaitsUpTo (count + 1) cells held next a b
      there a b (inl f) =
          let t = (so.follows a b).0 f in
          let most = t.most in record { lid = t.lid; low = t.low; most = omega arith; waits = t.waits }
      there a b (inr t) =
          record {
            lid = lid;
            low = omega arith;
            most = omega arith;
            waits =
                moved before after (edges_of cells held lid) (edges_of cells next lid) a b b_is a_is t;
          }

      back : (a b : ℕ) → WaitsUpTo (count + 1) cells held next a b → Follows waits a b ⊎ TakesInStep before after a b
      back a b t =
          elim (cases_lt count t.lid) [
            | inr within ↦ inl ((so.follows a b).1 (record { lid = t.lid; low = t.low; most = within; waits = t.waits }))
            | inl past ↦
                let most = t.most in
                let same : t.lid ≡ lid = omega arith in
                inr (moved (edges_of cells held t.lid) (edges_of cells next t.lid) before after a b
                (ap (edges_of cells held) same ∙ sym b_is) (ap (edges_of cells next) same ∙ sym a_is) t.waits)
          ]

  -- above both tops nothing is taken
  pub above_both : (lid a b : ℕ) → max (greatest_top cells held) (greatest_top cells next) < lid → WaitsInStep cells held next lid a b → ⊥
  above_both lid a b past w =
      let one : greatest_top cells held < lid = omega arith in
      let other : greatest_top cells next < lid = omega arith in
      nothing w (λ i. none_above cells held lid one i) (λ i. none_above cells next lid other i)
    where
      no_turn : (before now : List (Option Edge)) → ((i : ℕ) → slice_index_or before i None ≡ None) → TakesBy before now a b → ⊥
      no_turn before now none t = let leaves = t.1.leaves in let blank = none t.0 in cc

      nothing : {x y : List (Option Edge)} → TakesInStep x y a b → ((i : ℕ) → slice_index_or x i None ≡ None) → ((i : ℕ) → slice_index_or y i None ≡ None) → ⊥
      nothing {x} {y} (inl t) h k = no_turn x x h t
      nothing {x} {y} (inr (inl t)) h k = no_turn x y h t
      nothing {x} {y} (inr (inr (inl t))) h k = no_turn y x k t
      nothing {x} {y} (inr (inr (inr t))) h k = no_turn y y k t

  pub all : (count : ℕ) (waits : List (List ℕ)) → SoFar count cells held next waits
      → max (greatest_top cells held) (greatest_top cells next) ≤ count → AreWaits (WaitsFor cells held next) (channel_count cells) waits
  all count waits h past = record {
    as_many = h.as_many;
    follows = λ a b. ((λ f. there a b ((h.follows a b).0 f)), (λ w. (h.follows a b).1 (back a b w)));
  }
    where
      there : (a b : ℕ) → WaitsUpTo count cells held next a b → WaitsFor cells held next a b
      there a b t = record { lid = t.lid; is_lid = t.low; waits = t.waits }

      back : (a b : ℕ) → WaitsFor cells held next a b → WaitsUpTo count cells held next a b
      back a b w =
          elim (cases_lt (max (greatest_top cells held) (greatest_top cells next)) w.lid) [
            | inr within ↦ record { lid = w.lid; low = w.is_lid; most = omega arith; waits = w.waits }
            | inl over ↦ absurd (above_both w.lid a b over w.waits)
          ]
