-- What packets do at a stop, edge by edge.
use Rattle.std.proofs.Common.{◌≡◌, ◌<◌, ◌≤◌, ◌+◌, ◌/◌, ℕ, zero, suc, Bool, true, false, cond, List, [], ◌∷◌, ◌++◌, length, refl, sym, ap, ◌∙◌, subst, arith}
use Rattle.std.proofs.Common.{inl, inr, ◌⊎◌}
use Rattle.std.specs.Prelude.{Contains, Option, None, Some, slice_index_or, nat_lt, ◌&&◌}
use Rattle.std.specs.Option.{option_or}
use Rattle.std.proofs.lemmas.Option.{same_Some}
use Rattle.std.proofs.lemmas.Bool.{and_from, cases_lt, lt-ltb, ltb-true, ltb-false}
use Rattle.std.proofs.lemmas.List.Elements.{Contains-append_left, Contains-push, Contains-push_cases}
use Rattle.port_graph.specs.declared.edge.Edge.{Edge}
use Rattle.subnet_view.specs.Reading.{Cells, switches}
use Rattle.audit_channels.specs.ChannelOrders.{Follows, IsWith}
use Rattle.audit_channels.proofs.Columns.{within}
use Rattle.lanes_file.specs.Lanes.{LanesSaid}
use Rattle.lane_channels.specs.declared.dropped.Dropped.{Dropped}
use Rattle.lane_channels.specs.Stops.{AreWithin, Columns, HasEdge, carried, edge_by, lane_between, lane_by, lane_if_carried, lane_number, port_across, stop_at}
use Rattle.lane_channels.specs.LaneTurns.{TakesByLane}
use Rattle.lane_channels.specs.Visit.{AreLeft, DropsAlong, Edges, FirstEdges, GoesAlong, IsNoOther, IsWithNexts, LeavesAlong, TakesAlong, Walking}

-- a lane, if packets on it are carried
pub is_carried : (lane n : ℕ) → lane_if_carried lane ≡ Some n → (n ≡ lane) × (lane < 15)
is_carried lane n e = by (nat_lt lane 15) refl e
  where
    by : (t : Bool) → nat_lt lane 15 ≡ t → cond t (Some lane) None ≡ Some n → (n ≡ lane) × (lane < 15)
    by true q k = (sym (same_Some lane n k), ltb-true lane 15 q)
    by false q k = absurd (cc)

pub is_not_carried : (lane : ℕ) → lane_if_carried lane ≡ None → 15 ≤ lane
is_not_carried lane e = by (nat_lt lane 15) refl e
  where
    by : (t : Bool) → nat_lt lane 15 ≡ t → cond t (Some lane) None ≡ None → 15 ≤ lane
    by true q k = absurd (cc)
    by false q k = ltb-false lane 15 q

pub no_column : (index : ℕ) (edge : Edge) → slice_index_or [] index None ≡ Some edge → ⊥
no_column index edge e = cc

-- an edge is that of a column of the list
pub below_columns : (columns : Columns) (index nth : ℕ) (edge : Edge) → edge_by columns index nth ≡ Some edge → nth < length columns
below_columns [] index nth edge e = absurd (no_column index edge e)
below_columns (column ∷ columns) index zero edge e = omega arith
below_columns (column ∷ columns) index (suc nth) edge e = let less = below_columns columns index nth edge e in omega arith

-- a switch that has an edge is one of the usable switches
pub index_within : (cells : Cells) (columns : Columns) (index : ℕ) (edge : Edge) → AreWithin cells columns → HasEdge columns index edge
    → index < length (switches cells)
index_within cells columns index edge all h =
    let less = within (slice_index_or columns h.0 []) index edge h.1 in
    let most = all h.0 in
    omega arith

-- the edges of the first columns
pub first_more : (columns : Columns) (index nth : ℕ) (e : Edge) → FirstEdges columns index (nth + 1) e
    → FirstEdges columns index nth e ⊎ (edge_by columns index nth ≡ Some e)
first_more columns index nth e f =
    elim (cases_lt f.0 nth) [
      | inl less ↦ inl (f.0, less, f.2)
      | inr past ↦ let below = f.1 in let at : f.0 ≡ nth = omega arith in inr (ap (edge_by columns index) (sym at) ∙ f.2)
    ]

pub first_kept : (columns : Columns) (index nth : ℕ) (e : Edge) → FirstEdges columns index nth e → FirstEdges columns index (nth + 1) e
first_kept columns index nth e f = let below = f.1 in (f.0, omega arith, f.2)

pub first_last : (columns : Columns) (index nth : ℕ) (e : Edge) → edge_by columns index nth ≡ Some e → FirstEdges columns index (nth + 1) e
first_last columns index nth e is = (nth, omega arith, is)

pub all_first : (columns : Columns) (index count : ℕ) (e : Edge) → count ≡ length columns → HasEdge columns index e → FirstEdges columns index count e
all_first columns index count e all h = let less = below_columns columns index h.0 e h.1 in (h.0, omega arith, h.1)

pub first_all : (columns : Columns) (index count : ℕ) (e : Edge) → FirstEdges columns index count e → HasEdge columns index e
first_all columns index count e f = (f.0, f.2)

-- channels that follow one channel ----------------------------------------------------------------

pub nexts_none : (old : List (List ℕ)) (channel : ℕ) (nexts : ℕ → Type 0) → ((b : ℕ) → nexts b → ⊥) → IsWithNexts old channel nexts old
nexts_none old channel nexts none =
    record {
      as_many = refl;
      follows = λ a b. ((λ f. inl f), (λ f. (elim f [ inl g ↦ g | inr t ↦ absurd (none b t.1) ])));
    }

pub nexts_then : (old mid new : List (List ℕ)) (channel : ℕ) (these those all : ℕ → Type 0) → IsWithNexts old channel these mid
    → IsWithNexts mid channel those new
    → ((b : ℕ) → all b → these b ⊎ those b) → ((b : ℕ) → these b → all b) → ((b : ℕ) → those b → all b) → IsWithNexts old channel all new
nexts_then old mid new channel these those all f g either one other =
    record { as_many = g.as_many ∙ f.as_many; follows = λ a b. ((λ h. to a b ((g.follows a b).0 h)), back a b) }
  where
    before : (a b : ℕ) → Follows old a b ⊎ ((a ≡ channel) × these b) → Follows old a b ⊎ ((a ≡ channel) × all b)
    before a b (inl h) = inl h
    before a b (inr t) = inr (t.0, one b t.1)

    to : (a b : ℕ) → Follows mid a b ⊎ ((a ≡ channel) × those b) → Follows old a b ⊎ ((a ≡ channel) × all b)
    to a b (inl h) = before a b ((f.follows a b).0 h)
    to a b (inr t) = inr (t.0, other b t.1)

    back : (a b : ℕ) → Follows old a b ⊎ ((a ≡ channel) × all b) → Follows new a b
    back a b (inl h) = (g.follows a b).1 (inl ((f.follows a b).1 (inl h)))
    back a b (inr t) =
        elim (either b t.1) [
          | inl h ↦ (g.follows a b).1 (inl ((f.follows a b).1 (inr (t.0, h))))
          | inr h ↦ (g.follows a b).1 (inr (t.0, h))
        ]

pub nexts_as : (old new : List (List ℕ)) (channel : ℕ) (these all : ℕ → Type 0) → IsWithNexts old channel these new
    → ((b : ℕ) → all b → these b) → ((b : ℕ) → these b → all b) → IsWithNexts old channel all new
nexts_as old new channel these all f back to =
    nexts_then old new new channel these (λ b. ⊥) all f (nexts_none new channel (λ b. ⊥) (λ b none. none)) (λ b h. inl (back b h)) to (λ b none. absurd none)

module _ (said : LanesSaid) (cells : Cells) (level index into channel : ℕ) where
  abbrev Along : Edges → ℕ → Type 0
  Along these = LeavesAlong said cells these level index into

  pub along_too : (these those : Edges) → ((e : Edge) → these e → those e) → (b : ℕ) → Along these b → Along those b
  along_too these those to b l = record { edge = l.edge; is_one = to l.edge l.is_one; lane_is = l.lane_is; channel_is = l.channel_is }

  -- along one edge, by whose lane packets are carried
  pub one_along : (old new : List (List ℕ)) (edge : Edge) (lane next : ℕ) → lane_if_carried (lane_between said cells level index into edge.port) ≡ Some lane
      → next ≡ lane_number index edge.port lane → IsWith old channel next new → IsWithNexts old channel (Along (λ e. e ≡ edge)) new
  one_along old new edge lane next carries is h =
      record { as_many = h.as_many; follows = λ a b. ((λ f. to a b ((h.follows a b).0 f)), (λ f. (h.follows a b).1 (back a b f))) }
    where
      lane_is : (lane ≡ lane_between said cells level index into edge.port) × (lane_between said cells level index into edge.port < 15)
      lane_is = is_carried (lane_between said cells level index into edge.port) lane carries

      next_is : next ≡ lane_number index edge.port (lane_between said cells level index into edge.port)
      next_is = is ∙ ap (lane_number index edge.port) lane_is.0

      to : (a b : ℕ) → Follows old a b ⊎ ((a ≡ channel) × (b ≡ next)) → Follows old a b ⊎ ((a ≡ channel) × Along (λ e. e ≡ edge) b)
      to a b (inl f) = inl f
      to a b (inr t) = inr (t.0, record { edge = edge; is_one = refl; lane_is = lane_is.1; channel_is = t.1 ∙ next_is })

      back : (a b : ℕ) → Follows old a b ⊎ ((a ≡ channel) × Along (λ e. e ≡ edge) b) → Follows old a b ⊎ ((a ≡ channel) × (b ≡ next))
      back a b (inl f) = inl f
      back a b (inr t) =
          let l = t.1 in
          let port : l.edge.port ≡ edge.port = ap (λ (e : Edge). e.port) l.is_one in
          inr (t.0, l.channel_is ∙ ap (λ p. lane_number index p (lane_between said cells level index into p)) port ∙ sym next_is)

  pub none_along : (old : List (List ℕ)) (edge : Edge) → lane_if_carried (lane_between said cells level index into edge.port) ≡ None
      → IsWithNexts old channel (Along (λ e. e ≡ edge)) old
  none_along old edge drops =
      nexts_none old channel (Along (λ e. e ≡ edge)) (λ b l. (
      let past = is_not_carried (lane_between said cells level index into edge.port) drops in
      let less = subst (λ (e : Edge). lane_between said cells level index into e.port < 15) l.is_one l.lane_is in
      omega arith))

  -- along the edge of a column more
  pub column_along : (columns : Columns) (nth : ℕ) (edge : Edge) (old mid new : List (List ℕ)) → edge_by columns index nth ≡ Some edge
      → IsWithNexts old channel (Along (FirstEdges columns index nth)) mid → IsWithNexts mid channel (Along (λ e. e ≡ edge)) new
      → IsWithNexts old channel (Along (FirstEdges columns index (nth + 1))) new
  column_along columns nth edge old mid new is f g =
      nexts_then old mid new channel (Along (FirstEdges columns index nth)) (Along (λ e. e ≡ edge)) (Along (FirstEdges columns index (nth + 1))) f g either
      (along_too (FirstEdges columns index nth) (FirstEdges columns index (nth + 1)) (first_kept columns index nth))
      (along_too (λ e. e ≡ edge) (FirstEdges columns index (nth + 1)) (λ e same. first_last columns index nth e (is ∙ ap Some (sym same))))
    where
      either : (b : ℕ) → Along (FirstEdges columns index (nth + 1)) b → Along (FirstEdges columns index nth) b ⊎ Along (λ e. e ≡ edge) b
      either b l =
          elim (first_more columns index nth l.edge l.is_one) [
            | inl first ↦ inl (record { edge = l.edge; is_one = first; lane_is = l.lane_is; channel_is = l.channel_is })
            | inr last ↦ inr (record { edge = l.edge; is_one = same_Some l.edge edge (sym last ∙ is); lane_is = l.lane_is; channel_is = l.channel_is })
          ]

  pub no_column_along : (columns : Columns) (nth : ℕ) (old new : List (List ℕ)) → IsNoOther columns index nth
      → IsWithNexts old channel (Along (FirstEdges columns index nth)) new → IsWithNexts old channel (Along (FirstEdges columns index (nth + 1))) new
  no_column_along columns nth old new none f =
      nexts_as old new channel (Along (FirstEdges columns index nth)) (Along (FirstEdges columns index (nth + 1))) f
      (along_too (FirstEdges columns index (nth + 1)) (FirstEdges columns index nth) (λ e h. (elim (first_more columns index nth e h) [
        | inl first ↦ first
        | inr last ↦ none e last
      ])))
      (along_too (FirstEdges columns index nth) (FirstEdges columns index (nth + 1)) (first_kept columns index nth))

  pub none_yet : (columns : Columns) (old : List (List ℕ)) → IsWithNexts old channel (Along (FirstEdges columns index 0)) old
  none_yet columns old =
      nexts_none old channel (Along (FirstEdges columns index 0)) (λ b l. (let below = l.is_one.1 in omega arith))

  pub all_along : (columns : Columns) (count : ℕ) (old new : List (List ℕ)) → count ≡ length columns
      → IsWithNexts old channel (Along (FirstEdges columns index count)) new → IsWithNexts old channel (Along (HasEdge columns index)) new
  all_along columns count old new all f =
      nexts_as old new channel (Along (FirstEdges columns index count)) (Along (HasEdge columns index)) f
      (along_too (HasEdge columns index) (FirstEdges columns index count) (λ e. all_first columns index count e all))
      (along_too (FirstEdges columns index count) (HasEdge columns index) (λ e. first_all columns index count e))

-- what a packet does at a stop ---------------------------------------------------------------------

module _ (said : LanesSaid) (cells : Cells) (columns : Columns) (lid level stop : ℕ) where
  abbrev Left : Edges → Walking → Walking → Type 0
  Left these = AreLeft said cells columns lid level stop these

  pub left_none : (these : Edges) (w : Walking) → ((e : Edge) → these e → ⊥) → Left these w w
  left_none these w none = record {
    as_many = refl;
    follows = λ a b. ((λ f. inl f), (λ f. (elim f [ inl g ↦ g | inr t ↦ absurd (none t.0.first t.1) ])));
    none_dropped = λ e. (e, λ out d. none d.0.edge d.1);
    dropped = λ d e. inl e;
    stops = λ s. ((λ c. inl c), (λ c. (elim c [ inl g ↦ g | inr n ↦ absurd (none n.0.edge n.1) ])));
  }

  pub left_then : (these those all : Edges) (old mid new : Walking) → Left these old mid → Left those mid new → ((e : Edge) → all e → these e ⊎ those e)
      → ((e : Edge) → these e → all e) → ((e : Edge) → those e → all e) → Left all old new
  left_then these those all old mid new f g either one other = record {
    as_many = g.as_many ∙ f.as_many;
    follows = λ a b. ((λ h. follows a b ((g.follows a b).0 h)), follows_back a b);
    none_dropped = λ e. (let none = g.none_dropped e in
        let earlier = f.none_dropped none.0 in
        (earlier.0, λ out d. (elim (either d.0.edge d.1) [ inl t ↦ earlier.1 out (d.0, t) | inr t ↦ none.1 out (d.0, t) ])));
    dropped = λ d e. dropped d (g.dropped d e);
    stops = λ s. ((λ c. stops s ((g.stops s).0 c)), stops_back s);
  }
    where
      follows_before : (a b : ℕ) → Follows old.kept.waits a b ⊎ TakesAlong said cells columns these level stop a b
          → Follows old.kept.waits a b ⊎ TakesAlong said cells columns all level stop a b
      follows_before a b (inl h) = inl h
      follows_before a b (inr t) = inr (t.0, one t.0.first t.1)

      follows : (a b : ℕ) → Follows mid.kept.waits a b ⊎ TakesAlong said cells columns those level stop a b
          → Follows old.kept.waits a b ⊎ TakesAlong said cells columns all level stop a b
      follows a b (inl h) = follows_before a b ((f.follows a b).0 h)
      follows a b (inr t) = inr (t.0, other t.0.first t.1)

      follows_back : (a b : ℕ) → Follows old.kept.waits a b ⊎ TakesAlong said cells columns all level stop a b → Follows new.kept.waits a b
      follows_back a b (inl h) = (g.follows a b).1 (inl ((f.follows a b).1 (inl h)))
      follows_back a b (inr t) =
          elim (either t.0.first t.1) [
            | inl h ↦ (g.follows a b).1 (inl ((f.follows a b).1 (inr (t.0, h))))
            | inr h ↦ (g.follows a b).1 (inr (t.0, h))
          ]

      dropped_before : (d : Dropped) → (old.kept.dropped ≡ Some d)
          ⊎ ((d.lid ≡ lid) × (d.level ≡ level) × (d.stop ≡ stop) × DropsAlong said cells columns these level stop d.out)
          → (old.kept.dropped ≡ Some d)
          ⊎ ((d.lid ≡ lid) × (d.level ≡ level) × (d.stop ≡ stop) × DropsAlong said cells columns all level stop d.out)
      dropped_before d (inl e) = inl e
      dropped_before d (inr t) = inr (t.0, t.1, t.2, (t.3.0, one t.3.0.edge t.3.1))

      dropped : (d : Dropped) → (mid.kept.dropped ≡ Some d)
          ⊎ ((d.lid ≡ lid) × (d.level ≡ level) × (d.stop ≡ stop) × DropsAlong said cells columns those level stop d.out)
          → (old.kept.dropped ≡ Some d)
          ⊎ ((d.lid ≡ lid) × (d.level ≡ level) × (d.stop ≡ stop) × DropsAlong said cells columns all level stop d.out)
      dropped d (inl e) = dropped_before d (f.dropped d e)
      dropped d (inr t) = inr (t.0, t.1, t.2, (t.3.0, other t.3.0.edge t.3.1))

      stops_before : (s : ℕ) → Contains old.stops s ⊎ GoesAlong said cells columns these level stop s
          → Contains old.stops s ⊎ GoesAlong said cells columns all level stop s
      stops_before s (inl h) = inl h
      stops_before s (inr t) = inr (t.0, one t.0.edge t.1)

      stops : (s : ℕ) → Contains mid.stops s ⊎ GoesAlong said cells columns those level stop s
          → Contains old.stops s ⊎ GoesAlong said cells columns all level stop s
      stops s (inl h) = stops_before s ((f.stops s).0 h)
      stops s (inr t) = inr (t.0, other t.0.edge t.1)

      stops_back : (s : ℕ) → Contains old.stops s ⊎ GoesAlong said cells columns all level stop s → Contains new.stops s
      stops_back s (inl h) = (g.stops s).1 (inl ((f.stops s).1 (inl h)))
      stops_back s (inr t) =
          elim (either t.0.edge t.1) [
            | inl h ↦ (g.stops s).1 (inl ((f.stops s).1 (inr (t.0, h))))
            | inr h ↦ (g.stops s).1 (inr (t.0, h))
          ]

  pub left_as : (these all : Edges) (old new : Walking) → Left these old new → ((e : Edge) → all e → these e) → ((e : Edge) → these e → all e)
      → Left all old new
  left_as these all old new f back to =
      left_then these (λ e. ⊥) all old new new f (left_none (λ e. ⊥) new (λ e none. none)) (λ e h. inl (back e h)) to (λ e none. absurd none)

  abbrev at : ℕ
  at = stop / 256

  -- along the edge of a column more
  pub column_left : (nth : ℕ) (edge : Edge) (old mid new : Walking) → edge_by columns at nth ≡ Some edge
      → Left (FirstEdges columns at nth) old mid → Left (λ e. e ≡ edge) mid new → Left (FirstEdges columns at (nth + 1)) old new
  column_left nth edge old mid new is f g =
      left_then (FirstEdges columns at nth) (λ e. e ≡ edge) (FirstEdges columns at (nth + 1)) old mid new f g either (first_kept columns at nth)
      (λ e same. first_last columns at nth e (is ∙ ap Some (sym same)))
    where
      either : (e : Edge) → FirstEdges columns at (nth + 1) e → FirstEdges columns at nth e ⊎ (e ≡ edge)
      either e h = elim (first_more columns at nth e h) [ inl first ↦ inl first | inr last ↦ inr (same_Some e edge (sym last ∙ is)) ]

  pub no_column_left : (nth : ℕ) (old new : Walking) → IsNoOther columns at nth → Left (FirstEdges columns at nth) old new
      → Left (FirstEdges columns at (nth + 1)) old new
  no_column_left nth old new none f =
      left_as (FirstEdges columns at nth) (FirstEdges columns at (nth + 1)) old new f
      (λ e h. (elim (first_more columns at nth e h) [ inl first ↦ first | inr last ↦ none e last ])) (first_kept columns at nth)

  pub none_left : (w : Walking) → Left (FirstEdges columns at 0) w w
  none_left w = left_none (FirstEdges columns at 0) w (λ e f. (let below = f.1 in omega arith))

  pub all_left : (count : ℕ) (old new : Walking) → count ≡ length columns → Left (FirstEdges columns at count) old new
      → Left (HasEdge columns at) old new
  all_left count old new all f =
      left_as (FirstEdges columns at count) (HasEdge columns at) old new f (λ e. all_first columns at count e all) (λ e. first_all columns at count e)

  -- a packet goes on along an edge if it is not dropped and the edge leads to a usable switch
  carried_on : (e : Edge) (s : ℕ) → carried said cells level stop e ≡ Some s
      → (e.to < length (switches cells)) × (lane_by said cells level stop e < 15) × (s ≡ stop_at e.to (port_across cells at e.port))
  carried_on e s k = by (nat_lt e.to (length (switches cells))) (nat_lt (lane_by said cells level stop e) 15) refl refl k
    where
      by : (a b : Bool) → nat_lt e.to (length (switches cells)) ≡ a → nat_lt (lane_by said cells level stop e) 15 ≡ b
          → cond (a && b) (Some (stop_at e.to (port_across cells at e.port))) None ≡ Some s
          → (e.to < length (switches cells)) × (lane_by said cells level stop e < 15) × (s ≡ stop_at e.to (port_across cells at e.port))
      by true true q r k = (ltb-true _ _ q, ltb-true _ _ r, sym (same_Some _ s k))
      by true false q r k = absurd (cc)
      by false b q r k = absurd (cc)

  goes_on : (e : Edge) → e.to < length (switches cells) → lane_by said cells level stop e < 15
      → carried said cells level stop e ≡ Some (stop_at e.to (port_across cells at e.port))
  goes_on e below less =
      ap (λ t. cond t (Some (stop_at e.to (port_across cells at e.port))) None)
      (and_from (nat_lt e.to (length (switches cells))) (nat_lt (lane_by said cells level stop e) 15) (lt-ltb _ _ below) (lt-ltb _ _ less))

  -- along one edge
  module _ (edge : Edge) (has : HasEdge columns at edge) where
    abbrev lane_here : ℕ
    lane_here = lane_by said cells level stop edge

    abbrev into_there : ℕ
    into_there = port_across cells at edge.port

    not_carried : (e : Edge) → e ≡ edge → 15 ≤ lane_here → lane_by said cells level stop e < 15 → ⊥
    not_carried e same past less =
        let here = subst (λ (x : Edge). lane_by said cells level stop x < 15) same less in omega arith

    some_noted : (o : Option Dropped) (d : Dropped) → option_or o (Some d) ≡ None → ⊥
    some_noted None d e = cc
    some_noted (Some x) d e = cc

    pub dropped_there : (old new : Walking) (d : Dropped) → 15 ≤ lane_here → d ≡ record { lid = lid; level = level; stop = stop; out = edge.port }
        → new.kept.waits ≡ old.kept.waits → new.stops ≡ old.stops → new.kept.dropped ≡ option_or old.kept.dropped (Some d) → Left (λ e. e ≡ edge) old new
    dropped_there old new d past d_is same_waits same_stops noted = record {
      as_many = ap length same_waits;
      follows = λ a b. (
        (λ f. inl (subst (λ (xs : List (List ℕ)). Follows xs a b) same_waits f)),
        (λ f. (elim f [
          | inl g ↦ subst (λ (xs : List (List ℕ)). Follows xs a b) (sym same_waits) g
          | inr t ↦ absurd (not_carried t.0.first t.1 past t.0.lane_is)
        ])),
      );
      none_dropped = λ e. absurd (some_noted old.kept.dropped d (sym noted ∙ e));
      dropped = λ x e. dropped x old.kept.dropped refl (sym noted ∙ e);
      stops = λ s. (
        (λ c. inl (subst (λ (xs : List ℕ). Contains xs s) same_stops c)),
        (λ c. (elim c [
          | inl g ↦ subst (λ (xs : List ℕ). Contains xs s) (sym same_stops) g
          | inr n ↦ absurd (not_carried n.0.edge n.1 past (carried_on n.0.edge s n.0.carried_is).1)
        ])),
      );
    }
      where
        here : DropsAlong said cells columns (λ e. e ≡ edge) level stop edge.port
        here = (record { edge = edge; leaves = has; lane_is = past; out_is = refl }, refl)

        dropped : (x : Dropped) (o : Option Dropped) → old.kept.dropped ≡ o → option_or o (Some d) ≡ Some x → (old.kept.dropped ≡ Some x)
            ⊎ ((x.lid ≡ lid) × (x.level ≡ level) × (x.stop ≡ stop) × DropsAlong said cells columns (λ e. e ≡ edge) level stop x.out)
        dropped x (Some y) is e = inl (is ∙ e)
        dropped x None is e =
            let same : x ≡ record { lid = lid; level = level; stop = stop; out = edge.port } = sym (same_Some d x e) ∙ d_is in
            inr (
              ap (λ (y : Dropped). y.lid) same,
              ap (λ (y : Dropped). y.level) same,
              ap (λ (y : Dropped). y.stop) same,
              subst (λ (out : ℕ). DropsAlong said cells columns (λ e. e ≡ edge) level stop out) (sym (ap (λ (y : Dropped). y.out) same)) here,
            )

    -- the stop beyond the edge is added, if the edge leads to a usable switch
    abbrev pub AddsStop : List ℕ → List ℕ → Type 0
    AddsStop old new =
        ((edge.to < length (switches cells)) × (new ≡ old ++ stop_at edge.to into_there ∷ []))
        ⊎ ((length (switches cells) ≤ edge.to) × (new ≡ old))

    pub carried_there : (old new : Walking) (channel : ℕ) → lane_here < 15 → channel ≡ lane_number at edge.port lane_here
        → IsWithNexts old.kept.waits channel (LeavesAlong said cells (HasEdge columns edge.to) level edge.to into_there) new.kept.waits
        → new.kept.dropped ≡ old.kept.dropped → AddsStop old.stops new.stops → Left (λ e. e ≡ edge) old new
    carried_there old new channel less channel_is nexts same adds = record {
      as_many = nexts.as_many;
      follows = λ a b. ((λ f. to a b ((nexts.follows a b).0 f)), (λ f. (nexts.follows a b).1 (back a b f)));
      none_dropped = λ e. (sym same ∙ e, λ out d. carries d.0.edge d.1 d.0.lane_is);
      dropped = λ d e. inl (sym same ∙ e);
      stops = λ s. ((λ c. goes s adds c), (λ c. comes s adds c));
    }
      where
        carries : (e : Edge) → e ≡ edge → 15 ≤ lane_by said cells level stop e → ⊥
        carries e is past = let here = subst (λ (x : Edge). 15 ≤ lane_by said cells level stop x) is past in omega arith

        to : (a b : ℕ) → Follows old.kept.waits a b
            ⊎ ((a ≡ channel) × LeavesAlong said cells (HasEdge columns edge.to) level edge.to into_there b)
            → Follows old.kept.waits a b ⊎ TakesAlong said cells columns (λ e. e ≡ edge) level stop a b
        to a b (inl f) = inl f
        to a b (inr t) =
            let l = t.1 in
            inr (
              record {
                first = edge;
                second = l.edge;
                leaves = has;
                lane_is = less;
                leaves_there = l.is_one;
                lane_there_is = l.lane_is;
                channel_is = t.0 ∙ channel_is;
                next_is = l.channel_is;
              },
              refl,
            )

        takes : (a b : ℕ) (first : Edge) → first ≡ edge → (t : TakesByLane said cells columns level stop a b) → t.first ≡ first
            → (a ≡ channel) × LeavesAlong said cells (HasEdge columns edge.to) level edge.to into_there b
        takes a b first e t is =
            let same_edge : t.first ≡ edge = is ∙ e in
            let port : t.first.port ≡ edge.port = ap (λ (x : Edge). x.port) same_edge in
            let to_there : t.first.to ≡ edge.to = ap (λ (x : Edge). x.to) same_edge in
            let lane : lane_between said cells level t.first.to (port_across cells at t.first.port) t.second.port
            ≡ lane_between said cells level edge.to into_there t.second.port =
            λ i. lane_between said cells level (to_there i) (port_across cells at (port i)) t.second.port in (
              t.channel_is ∙ ap (λ (x : Edge). lane_number at x.port (lane_by said cells level stop x)) same_edge ∙ sym channel_is,
              record {
                edge = t.second;
                is_one = subst (λ (k : ℕ). HasEdge columns k t.second) to_there t.leaves_there;
                lane_is = subst (λ (k : ℕ). k < 15) lane t.lane_there_is;
                channel_is = t.next_is ∙ (λ i. lane_number (to_there i) t.second.port (lane i));
              },
            )

        back : (a b : ℕ) → Follows old.kept.waits a b ⊎ TakesAlong said cells columns (λ e. e ≡ edge) level stop a b
            → Follows old.kept.waits a b
            ⊎ ((a ≡ channel) × LeavesAlong said cells (HasEdge columns edge.to) level edge.to into_there b)
        back a b (inl f) = inl f
        back a b (inr t) = inr (takes a b edge refl t.0 t.1)

        goes : (s : ℕ) → AddsStop old.stops new.stops → Contains new.stops s
            → Contains old.stops s ⊎ GoesAlong said cells columns (λ e. e ≡ edge) level stop s
        goes s (inr past) c = inl (subst (λ (xs : List ℕ). Contains xs s) past.1 c)
        goes s (inl below) c =
            elim (Contains-push_cases old.stops (stop_at edge.to into_there) s (subst (λ (xs : List ℕ). Contains xs s) below.1 c)) [
              | inl h ↦ inl h
              | inr e ↦ inr (record { edge = edge; leaves = has; carried_is = goes_on edge below.0 less ∙ ap Some e }, refl)
            ]

        comes : (s : ℕ) → AddsStop old.stops new.stops → Contains old.stops s ⊎ GoesAlong said cells columns (λ e. e ≡ edge) level stop s
            → Contains new.stops s
        comes s (inr past) (inl c) = subst (λ (xs : List ℕ). Contains xs s) (sym past.1) c
        comes s (inr past) (inr n) =
            let on = carried_on n.0.edge s n.0.carried_is in
            let there = subst (λ (x : Edge). x.to < length (switches cells)) n.1 on.0 in
            absurd (omega (arith, past.0, there))
        comes s (inl below) (inl c) =
            subst (λ (xs : List ℕ). Contains xs s) (sym below.1) (Contains-append_left old.stops (stop_at edge.to into_there ∷ []) s c)
        comes s (inl below) (inr n) =
            let on = carried_on n.0.edge s n.0.carried_is in
            let s_is : s ≡ stop_at edge.to into_there =
            on.2 ∙ ap (λ (x : Edge). stop_at x.to (port_across cells at x.port)) n.1 in
            subst (λ (xs : List ℕ). Contains xs s) (sym below.1)
            (subst (λ (k : ℕ). Contains (old.stops ++ stop_at edge.to into_there ∷ []) k) (sym s_is) (Contains-push old.stops (stop_at edge.to into_there)))
