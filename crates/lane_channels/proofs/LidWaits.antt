-- All packets for a LID followed, and then LID by LID up to the greatest top.
use Rattle.std.proofs.Common.{◌≡◌, ◌<◌, ◌≤◌, ◌+◌, ◌*◌, ◌/◌, ℕ, zero, suc, Bool, List, [], ◌∷◌, length, replicate, refl, sym, ap, ◌∙◌, subst, arith, inl, inr}
use Rattle.std.proofs.Common.{◌⊎◌}
use Rattle.std.specs.Prelude.{Contains, Option, None, Some, map, slice_index_or, ◌↔◌}
use Rattle.std.proofs.lemmas.Bool.{cases_lt}
use Rattle.std.proofs.lemmas.List.{length-replicate}
use Rattle.port_graph.specs.declared.edge.Edge.{Edge}
use Rattle.fact_store.specs.View.{cells_of}
use Rattle.subnet_view.specs.Reading.{Cells, switches}
use Rattle.held_tables.specs.Held.{HeldPlan}
use Rattle.packet_walks.specs.Edges.{edges_of, greatest_top}
use Rattle.packet_walks.proofs.Tops.{none_above}
use Rattle.smp_bytes.proofs.Members.{contains_none}
use Rattle.audit_channels.specs.ChannelOrders.{AreWaits, Follows}
use Rattle.audit_channels.proofs.Waiting.{blank, column_long}
use Rattle.lanes_file.specs.Lanes.{LanesSaid}
use Rattle.lane_channels.specs.AnyTables.{IsDroppedByAny, IsSomeDropByAny, WaitsByAny, columns_for, lane_channel_count}
use Rattle.lane_channels.specs.declared.dropped.Dropped.{Dropped}
use Rattle.lane_channels.specs.LaneNetwork.{SeenByLane}
use Rattle.lane_channels.specs.Senders.{IsNothing, SentFor}
use Rattle.lane_channels.specs.Stops.{AreWithin, Columns, ComesAfter, HasEdge, edge_by}
use Rattle.lane_channels.specs.Walk.{AreFollowed, Beginnings, IsDone, IsDroppedOne, IsMarked, IsWhole, OneTakes, Walked}
use Rattle.lane_channels.proofs.Visits.{index_within, no_column}

module _ (said : LanesSaid) (cells : Cells) (columns : Columns) (lid : ℕ) (these : Beginnings) (old new : Walked) (within : AreWithin cells columns)
    (f : AreFollowed said cells columns lid these old new) (fresh : (i : ℕ) → slice_index_or old.marks i 0 < lid) where
  unmarked : (level : ℕ) (stop : ℕ) → IsMarked lid old.marks level stop → ⊥
  unmarked level stop m = let less = fresh (16 * stop + level) in omega arith

  whole : IsWhole said cells columns lid new
  whole = f.whole (record {
    closed = λ level stop next a m. absurd (unmarked level stop m);
    recorded = λ level stop a b c m. absurd (unmarked level stop m);
    noted = λ e level stop out a m. absurd (unmarked level stop m);
  })

  -- past the last switch there is no edge
  no_edge : (stop : ℕ) (edge : Edge) → 256 * length (switches cells) ≤ stop → HasEdge columns (stop / 256) edge → ⊥
  no_edge stop edge past has = let less = index_within cells columns (stop / 256) edge within has in omega arith

  done_along : (count level : ℕ) (first : Option ℕ) (stop : ℕ) → these level first
      → ComesAfter said cells columns level count first stop → IsDone (length (switches cells)) lid new.marks level stop
  done_along zero level first stop begins there = f.begun level first stop begins there
  done_along (suc count) level first stop begins there =
      elim (done_along count level first there.0 begins there.1) [
        | inl m ↦ whole.closed level there.0 stop (f.small level first begins) m there.2
        | inr past ↦ absurd (no_edge there.0 there.2.edge past there.2.leaves)
      ]

  pub takes_follow : (a b : ℕ) → OneTakes said cells columns these a b → Follows new.waits a b
  takes_follow a b t =
      let r = t.reaches in
      let d = done_along r.count t.level r.first t.stop r.begins r.is_there in
      elim d [
        | inl m ↦ whole.recorded t.level t.stop a b (f.small t.level r.first r.begins) m t.takes
        | inr past ↦ absurd (no_edge t.stop t.takes.first past t.takes.leaves)
      ]

  pub none_dropped : new.dropped ≡ None → (d : Dropped) → IsDroppedOne said cells columns these lid d → ⊥
  none_dropped none d one =
      let r = one.reaches in
      let e = done_along r.count d.level r.first d.stop r.begins r.is_there in
      elim e [
        | inl m ↦ whole.noted none d.level d.stop d.out (f.small d.level r.first r.begins) m one.drops
        | inr past ↦ no_edge d.stop one.drops.edge past one.drops.leaves
      ]

-- the columns of tables have an edge for each usable switch at most
pub columns_within : (cells : Cells) (tables : List HeldPlan) (lid : ℕ) → AreWithin cells (map (λ held. edges_of cells held lid) tables)
columns_within cells [] lid nth = omega arith
columns_within cells (held ∷ tables) lid zero = let long = column_long cells held lid in omega arith
columns_within cells (held ∷ tables) lid (suc nth) = columns_within cells tables lid nth

-- the greatest tops of all tables are at most a number
abbrev pub AreTopsBelow : Cells → List HeldPlan → ℕ → Type 0
AreTopsBelow cells [] count = Unit {0}
AreTopsBelow cells (held ∷ tables) count = (greatest_top cells held ≤ count) × AreTopsBelow cells tables count

-- no packet is forwarded for a LID above the greatest tops
none_past : (cells : Cells) (tables : List HeldPlan) (count lid index nth : ℕ) (edge : Edge) → AreTopsBelow cells tables count → count < lid
    → edge_by (map (λ held. edges_of cells held lid) tables) index nth ≡ Some edge → ⊥
none_past cells [] count lid index nth edge tops above e = no_column index edge e
none_past cells (held ∷ tables) count lid index zero edge tops above e =
    let top = tops.0 in
    let none : slice_index_or (edges_of cells held lid) index None ≡ None = none_above cells held lid (omega arith) index in
    cc
none_past cells (held ∷ tables) count lid index (suc nth) edge tops above e = none_past cells tables count lid index nth edge tops.1 above e

module _ (s : SeenByLane) (others : List HeldPlan) (answers : Bool) where
  abbrev cells : Cells
  cells = cells_of s.seen.facts

  -- packets for one of the LIDs from 1 to a count take two channels in turn
  pub record TakesBy (count channel next : ℕ) : Type 0 where
    pub lid : ℕ
    pub low : 1 ≤ lid
    pub most : lid ≤ count
    pub takes : OneTakes s.said cells (columns_for s others lid) (SentFor s answers lid) channel next

  -- what is kept of the packets for these LIDs
  pub record SoFar (count : ℕ) (w : Walked) : Type 0 where
    pub as_many : length w.waits ≡ 4096 * length (switches cells)
    pub as_many_marks : length w.marks ≡ 4096 * length (switches cells)
    pub marked : (i : ℕ) → slice_index_or w.marks i 0 ≤ count
    pub follows : (a b : ℕ) → Follows w.waits a b ↔ TakesBy count a b
    pub dropped : (d : Dropped) → w.dropped ≡ Some d → IsDroppedByAny s others answers d
    pub none_dropped : w.dropped ≡ None → (d : Dropped) → IsDroppedByAny s others answers d → d.lid ≤ count → ⊥

  zeros : (n i : ℕ) → slice_index_or (replicate n 0) i 0 ≤ 0
  zeros zero i = omega arith
  zeros (suc n) zero = omega arith
  zeros (suc n) (suc i) = zeros n i

  pub none_so_far : (n : ℕ) (w : Walked) → IsNothing n w → n ≡ 4096 * length (switches cells) → SoFar 0 w
  none_so_far n w nothing all = record {
    as_many = ap length nothing.waits ∙ length-replicate n [] ∙ all;
    as_many_marks = ap length nothing.marks ∙ length-replicate n 0 ∙ all;
    marked = λ i. subst (λ (xs : List ℕ). slice_index_or xs i 0 ≤ 0) (sym nothing.marks) (zeros n i);
    follows = λ a b. (
      λ f.
          absurd (contains_none b (subst (λ (xs : List ℕ). Contains xs b) (ap (λ (xs : List (List ℕ)). slice_index_or xs a []) nothing.waits ∙ blank n a) f)),
      λ t. (let low = t.low in let most = t.most in
          absurd (omega arith)),
    );
    dropped = λ d e. (let none = nothing.dropped in
        absurd (cc));
    none_dropped = λ e d one most. (let low = one.is_lid in
        omega arith);
  }

  pub more : (count lid : ℕ) (w new : Walked) (columns : Columns) → SoFar count w → lid ≡ count + 1 → columns ≡ columns_for s others lid
      → AreFollowed s.said cells columns lid (SentFor s answers lid) w new → SoFar (count + 1) new
  more count lid w new columns h lid_is columns_are followed = record {
    as_many = f.as_many ∙ h.as_many;
    as_many_marks = f.as_many_marks ∙ h.as_many_marks;
    marked = λ i. (let most = f.no_later (λ k. (let m = h.marked k in
        omega arith)) i in
        omega arith);
    follows = λ a b. (there a b, back a b);
    dropped = λ d e. drops d (f.dropped_only d e);
    none_dropped = λ e d one most. none e d one most;
  }
    where
      f : AreFollowed s.said cells (columns_for s others lid) lid (SentFor s answers lid) w new
      f = subst (λ (xs : Columns). AreFollowed s.said cells xs lid (SentFor s answers lid) w new) columns_are followed

      within : AreWithin cells (columns_for s others lid)
      within = columns_within cells (s.seen.held ∷ others) lid

      fresh : (i : ℕ) → slice_index_or w.marks i 0 < lid
      fresh i = let m = h.marked i in omega arith

      there : (a b : ℕ) → Follows new.waits a b → TakesBy (count + 1) a b
      there a b follow =
          elim (f.waits_only a b follow) [
            | inl earlier ↦
                let t = (h.follows a b).0 earlier in
                let most = t.most in record { lid = t.lid; low = t.low; most = omega arith; takes = t.takes }
            | inr t ↦ record { lid = lid; low = omega arith; most = omega arith; takes = t }
          ]

      back : (a b : ℕ) → TakesBy (count + 1) a b → Follows new.waits a b
      back a b t =
          elim (cases_lt count t.lid) [
            | inr within_count ↦ f.waits_kept a b ((h.follows a b).1 (record { lid = t.lid; low = t.low; most = within_count; takes = t.takes }))
            | inl past ↦
                let most = t.most in
                let same : t.lid ≡ lid = omega arith in
                takes_follow s.said cells (columns_for s others lid) lid (SentFor s answers lid) w new within f fresh a b
                (subst (λ (l : ℕ). OneTakes s.said cells (columns_for s others l) (SentFor s answers l) a b) same t.takes)
          ]

      drops : (d : Dropped) → (w.dropped ≡ Some d) ⊎ IsDroppedOne s.said cells (columns_for s others lid) (SentFor s answers lid) lid d
          → IsDroppedByAny s others answers d
      drops d (inl e) = h.dropped d e
      drops d (inr one) =
          let same = one.lid_is in
          record {
            is_lid = omega arith;
            one = subst (λ (l : ℕ). IsDroppedOne s.said cells (columns_for s others l) (SentFor s answers l) l d) (sym one.lid_is) one;
          }

      -- a dropped packet that is noted stays noted
      earlier_none : (o : Option Dropped) → w.dropped ≡ o → new.dropped ≡ None → w.dropped ≡ None
      earlier_none None e none = e
      earlier_none (Some d) e none = absurd (f.dropped_kept d e none)

      none : new.dropped ≡ None → (d : Dropped) → IsDroppedByAny s others answers d → d.lid ≤ count + 1 → ⊥
      none e d one most =
          elim (cases_lt count d.lid) [
            | inr within_count ↦ h.none_dropped (earlier_none w.dropped refl e) d one within_count
            | inl past ↦
                let same : d.lid ≡ lid = omega arith in
                none_dropped s.said cells (columns_for s others lid) lid (SentFor s answers lid) w new within f fresh e d
                (subst (λ (l : ℕ). IsDroppedOne s.said cells (columns_for s others l) (SentFor s answers l) l d) same one.one)
          ]

  module _ (count : ℕ) (w : Walked) (h : SoFar count w) (past : AreTopsBelow cells (s.seen.held ∷ others) count) where
    -- no packet is forwarded for a LID above the greatest tops
    nowhere : (lid index : ℕ) (edge : Edge) → count < lid → HasEdge (columns_for s others lid) index edge → ⊥
    nowhere lid index edge above has = none_past cells (s.seen.held ∷ others) count lid index has.0 edge past above has.1

    back : (a b : ℕ) → WaitsByAny s others answers a b → TakesBy count a b
    back a b t =
        elim (cases_lt count t.lid) [
          | inl above ↦ let takes = t.takes.takes in absurd (nowhere t.lid (t.takes.stop / 256) takes.first above takes.leaves)
          | inr most ↦ record { lid = t.lid; low = t.is_lid; most = most; takes = t.takes }
        ]

    pub all_waits : AreWaits (WaitsByAny s others answers) (lane_channel_count s) w.waits
    all_waits = record {
      as_many = h.as_many;
      follows = λ a b. (
        (λ f. (let t = (h.follows a b).0 f in
            record { lid = t.lid; is_lid = t.low; takes = t.takes })),
        (λ t. (h.follows a b).1 (back a b t)),
      );
    }

    none_at_all : w.dropped ≡ None → (d : Dropped) → IsDroppedByAny s others answers d → ⊥
    none_at_all none d one =
        elim (cases_lt count d.lid) [
          | inl above ↦ let drops = one.one.drops in nowhere d.lid (d.stop / 256) drops.edge above drops.leaves
          | inr most ↦ h.none_dropped none d one most
        ]

    pub some_drop : IsSomeDropByAny s others answers w.dropped
    some_drop = elim w.dropped as (λ o. w.dropped ≡ o → IsSomeDropByAny s others answers o) [ None ↦ λ e. none_at_all e | Some d ↦ λ e. h.dropped d e ] refl
