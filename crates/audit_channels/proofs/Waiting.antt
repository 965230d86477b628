-- The channels that packets take next, LID by LID up to the greatest top.
use Rattle.std.proofs.Common.{◌≡◌, ◌<◌, ◌≤◌, ◌+◌, ◌*◌, ℕ, zero, suc, List, [], ◌∷◌, length, replicate, refl, sym, ap, ◌∙◌, subst, arith, inl, inr, ◌⊎◌}
use Rattle.std.specs.Prelude.{Contains, Option, None, Some, map, slice_index_or, ◌↔◌}
use Rattle.std.specs.Option.{SomeIff}
use Rattle.std.proofs.lemmas.Bool.{cases_lt}
use Rattle.std.proofs.lemmas.List.{length-replicate}
use Rattle.std.proofs.lemmas.Option.{same_Some}
use Rattle.smp_bytes.proofs.Members.{contains_none}
use Rattle.port_graph.specs.declared.edge.Edge.{Edge}
use Rattle.audit_channels.specs.ChannelOrders.{AreWaits, Follows}
use Rattle.audit_channels.specs.Column.{TakesInTurn, IsWithColumn}
use Rattle.audit_channels.proofs.Columns.{within}
use Rattle.subnet_view.specs.Reading.{Cells, switches}
use Rattle.packet_walks.specs.Held.{HeldPlan}
use Rattle.packet_walks.specs.Edges.{edges_of, greatest_top}
use Rattle.packet_walks.proofs.Tops.{none_above}
use Rattle.audit_channels.specs.Waiting.{WaitsFor, IsAdded, channel_count}

-- a product that fits
pub some_is : (P : Type 0) (o : Option ℕ) (n v : ℕ) → SomeIff o P v → o ≡ Some n → n ≡ v
some_is P None n v h e = cc
some_is P (Some x) n v h e = sym (same_Some x n e) ∙ h.1

-- packets for one of the LIDs from 1 to a count take two channels in turn
pub record TakesBy (count : ℕ) (cells : Cells) (held : HeldPlan) (channel next : ℕ) : Type 0 where
  lid : ℕ
  low : 1 ≤ lid
  most : lid ≤ count
  switch : ℕ
  takes : TakesInTurn (edges_of cells held lid) switch channel next

-- those of these LIDs
pub record SoFar (count : ℕ) (cells : Cells) (held : HeldPlan) (waits : List (List ℕ)) : Type 0 where
  pub as_many : length waits ≡ 256 * length (switches cells)
  pub follows : (a b : ℕ) → Follows waits a b ↔ TakesBy count cells held a b

-- nothing follows a channel yet
pub blank : (n i : ℕ) → slice_index_or (replicate {A = List ℕ} n []) i [] ≡ []
blank zero i = refl
blank (suc n) zero = refl
blank (suc n) (suc i) = blank n i

pub none_so_far : (cells : Cells) (held : HeldPlan) (n : ℕ) (waits : List (List ℕ))
    → waits ≡ replicate n [] → n ≡ 256 * length (switches cells) → SoFar 0 cells held waits
none_so_far cells held n waits e all =
    subst (SoFar 0 cells held) (sym e)
    (record {
      as_many = length-replicate n [] ∙ all;
      follows = λ a b. (
        λ f. absurd (contains_none b (subst (λ (xs : List ℕ). Contains xs b) (blank n a) f)),
        λ t. (let low = t.low in let most = t.most in
            absurd (omega arith)),
      );
    })

mapped : {X Y : Type 0} (f : X → Y) (xs : List X) → length (map f xs) ≡ length xs
mapped f [] = refl
mapped f (x ∷ xs) = ap suc (mapped f xs)

pub column_long : (cells : Cells) (held : HeldPlan) (lid : ℕ) → length (edges_of cells held lid) ≡ length (switches cells)
column_long cells held lid = mapped _ (switches cells)

pub more : (cells : Cells) (held : HeldPlan) (count lid : ℕ) (waits new : List (List ℕ)) (column : List (Option Edge)) → SoFar count cells held waits
    → lid ≡ count + 1 → column ≡ edges_of cells held lid → IsWithColumn waits column new → SoFar (count + 1) cells held new
more cells held count lid waits new column h lid_is column_is with_it = record {
  as_many = with_it.as_many ∙ h.as_many;
  follows = λ a b. ((λ f. there a b ((with_it.follows a b).0 f)), (λ t. (with_it.follows a b).1 (back a b t)));
}
  where
    there : (a b : ℕ) → Follows waits a b ⊎ ((vertex : ℕ) × (vertex < length column) × TakesInTurn column vertex a b) → TakesBy (count + 1) cells held a b
    there a b (inl f) =
        let t = (h.follows a b).0 f in
        let most = t.most in record { lid = t.lid; low = t.low; most = omega arith; switch = t.switch; takes = t.takes }
    there a b (inr t) = record {
      lid = lid;
      low = omega arith;
      most = omega arith;
      switch = t.0;
      takes = subst (λ (xs : List (Option Edge)). TakesInTurn xs t.0 a b) column_is t.2;
    }

    back : (a b : ℕ) → TakesBy (count + 1) cells held a b → Follows waits a b ⊎ ((vertex : ℕ) × (vertex < length column) × TakesInTurn column vertex a b)
    back a b t =
        elim (cases_lt count t.lid) [
          | inr within ↦ inl ((h.follows a b).1 (record { lid = t.lid; low = t.low; most = within; switch = t.switch; takes = t.takes }))
          | inl past ↦
              let most = t.most in
              let same : t.lid ≡ lid = omega arith in
              let its : TakesInTurn column t.switch a b =
              subst (λ (xs : List (Option Edge)). TakesInTurn xs t.switch a b) (ap (edges_of cells held) same ∙ sym column_is) t.takes in
              inr (t.switch, within column t.switch its.first its.leaves, its)
        ]

-- a column that has been added, and again
pub none_added : (waits : List (List ℕ)) → IsAdded [] waits
none_added waits switch channel next t = let leaves = t.leaves in absurd (cc)

pub again : (column : List (Option Edge)) (waits : List (List ℕ)) → IsAdded column waits → IsWithColumn waits column waits
again column waits h = record { as_many = refl; follows = λ a b. ((λ f. inl f), back a b) }
  where
    back : (a b : ℕ) → Follows waits a b ⊎ ((vertex : ℕ) × (vertex < length column) × TakesInTurn column vertex a b) → Follows waits a b
    back a b (inl f) = f
    back a b (inr t) = h t.0 a b t.2

pub is_added : (column : List (Option Edge)) (old new : List (List ℕ)) → IsWithColumn old column new → IsAdded column new
is_added column old new h switch channel next t = (h.follows channel next).1 (inr (switch, within column switch t.first t.leaves, t))

-- two columns that agree at each index
pub same_columns : (column other : List (Option Edge)) → length column ≡ length other
    → ((k : ℕ) → k < length column → slice_index_or column k None ≡ slice_index_or other k None) → column ≡ other
same_columns [] [] e h = refl
same_columns [] (x ∷ other) e h = absurd (omega arith)
same_columns (x ∷ column) [] e h = absurd (omega arith)
same_columns (x ∷ column) (y ∷ other) e h =
    let first : x ≡ y = h 0 (omega arith) in
    let rest = same_columns column other (omega arith) (λ k less. h (suc k) (omega arith)) in
    λ i. first i ∷ rest i

-- above the greatest top nothing follows
pub all : (cells : Cells) (held : HeldPlan) (count : ℕ) (waits : List (List ℕ)) → SoFar count cells held waits
    → greatest_top cells held ≤ count → AreWaits (WaitsFor cells held) (channel_count cells) waits
all cells held count waits h past = record {
  as_many = h.as_many;
  follows = λ a b. ((λ f. there a b ((h.follows a b).0 f)), (λ w. (h.follows a b).1 (back a b w)));
}
  where
    there : (a b : ℕ) → TakesBy count cells held a b → WaitsFor cells held a b
    there a b t = record { lid = t.lid; is_lid = t.low; switch = t.switch; takes = t.takes }

    back : (a b : ℕ) → WaitsFor cells held a b → TakesBy count cells held a b
    back a b w =
        elim (cases_lt (greatest_top cells held) w.lid) [
          | inl above ↦
              let takes = w.takes in
              let none = none_above cells held w.lid above w.switch in
              let leaves = takes.leaves in
              absurd (cc)
          | inr within ↦ record { lid = w.lid; low = w.is_lid; most = omega arith; switch = w.switch; takes = w.takes }
        ]
