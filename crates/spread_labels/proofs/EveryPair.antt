-- Each two vertices of a component have a way.
use Rattle.std.proofs.Common.{◌<◌, ℕ, sym, subst, length}
use Rattle.port_graph.specs.Heads.{heads}
use Rattle.port_graph.specs.Walks.{Walk}
use Rattle.spread_labels.specs.Orders.{order, position_of}
use Rattle.spread_labels.specs.EveryPair.{grown, EveryPairLaw}
use Rattle.spread_labels.proofs.Reach.{reached_in_words}
use Rattle.spread_labels.proofs.Following.{ways_in_words}
use Rattle.spread_labels.proofs.ByPositions.{orders_in_words, walk_by_positions, position_within}

pub every_pair_in_words : EveryPairLaw
every_pair_in_words edges before lead symmetric home pick picks lid s t n hs ht w at =
    let vertices = order edges before in
    let o = orders_in_words edges before lead symmetric in
    let within : home lid < length (grown edges before) =
    subst (λ (x : ℕ). x < length (grown edges before)) (sym at) (position_within edges vertices lead symmetric o.is_grown t ht) in
    let walk : Walk (heads (grown edges before)) (position_of vertices s) (home lid) n =
    subst (λ (x : ℕ). Walk (heads (grown edges before)) (position_of vertices s) x n) (sym at)
    (walk_by_positions edges vertices lead symmetric o.is_grown n s t hs w) in
    let r = reached_in_words (grown edges before) (home lid) o.graph within in
    let m = r.component (position_of vertices s) n walk in
    record {
      mark = m.0;
      labelled = m.1;
      bounded = r.bounded (position_of vertices s) m.0 m.1;
      way =
          ways_in_words (grown edges before) home pick picks lid (position_of vertices s) m.0 m.1;
    }
