-- The packets for a LID, grouped by the switches that they reach first, end port by end port.
use Rattle.std.proofs.Common.{◌≡◌, ◌<◌, ◌≤◌, ◌+◌, ◌*◌, ℕ, zero, suc, Bool, true, false, cond, List, [], ◌∷◌, ◌++◌, length, get_or, set, take, map, replicate, refl, sym, ap, ◌∙◌, subst, arith}
use Rattle.std.specs.Prelude.{filter, Option, None, Some, ◌==◌}
use Rattle.std.specs.List.{sum_by}
use Rattle.std.proofs.lemmas.List.{append-nil, length-set, take_all, take_more}
use Rattle.std.proofs.lemmas.List.Elements.{filter-append}
use Rattle.std.proofs.lemmas.List.Sums.{sum_by-cons, sum_by_push}
use Rattle.std.proofs.lemmas.List.Quantifiers.{position-Some}
use Rattle.subnet_view.specs.declared.end_port.EndPort.{EndPort}
use Rattle.subnet_view.specs.EndPort.{end_ports}
use Rattle.subnet_view.specs.Reading.{Cells, switches}
use Rattle.subnet_view.specs.Wires.{across}
use Rattle.held_tables.specs.declared.held.HeldLid.{HeldLid}
use Rattle.held_tables.specs.Held.{HeldPlan}
use Rattle.port_graph.specs.declared.edge.Edge.{Edge}
use Rattle.held_tables.specs.declared.far_end.Far.{Far}
use Rattle.held_tables.specs.declared.far_end.Far.TheVariants.{Nothing, Switch, Port}
use Rattle.packet_walks.specs.Edges.{edge_by, edges_of}
use Rattle.held_tables.specs.Switches.{far_at, far_of, far_to, index_in, row_of, sender_of, switch_over}
use Rattle.packet_walks.specs.declared.packet_end.End.{End}
use Rattle.held_tables.specs.declared.senders.Sender.{Sender}
use Rattle.packet_walks.specs.HopsByTables.{AreBrought, end_for, is_at}
use Rattle.held_tables.specs.Tables.{entry_for}
use Rattle.packet_walks.proofs.InTime.{found_at}
use Rattle.port_graph.proofs.Counts.{length_map}
use Rattle.packet_walks.proofs.FarRows.{far_within}
use Rattle.audit_ways.specs.declared.way_tally.WayTally.{WayTally}
use Rattle.audit_ways.specs.declared.sender_groups.Groups.{Groups}
use Rattle.audit_ways.specs.SenderGroups.{AreGrouped, IsGroupedWith, IsWithin, by_switch, packets_at}
use Rattle.audit_ways.specs.WayTally.{IsCounted, IsCountedMore, Sum, grouped, weighed}
use Rattle.audit_ways.specs.Ways.{Way, one_wire, reaches, reaches_if, way_from, way_of, way_over, ways_to}
use Rattle.audit_ways.proofs.Counted.{counted_as, none_weighed, weighed_set}

-- a wire that leads to no switch
over_none : (far : Far) → ((index : ℕ) → far ≡ Switch index → ⊥) → switch_over far ≡ None
over_none Nothing h = refl
over_none (Switch index) h = absurd (h index refl)
over_none (Port e) h = refl

-- the end port at an index, as a source
pub record IsSourceAt (cells : Cells) (n : ℕ) (source : Sender) : Type 0 where
  pub less : n < length (end_ports cells)
  pub port_is : source.port ≡ get_or (end_ports cells) n source.port
  pub far_is : source.far ≡ far_of cells source.port.node source.port.port

source_there : (cells : Cells) (ports : List EndPort) (n : ℕ) (source : Sender) (d : EndPort) → n < length ports
    → source ≡ get_or (map (sender_of cells) ports) n source → source ≡ sender_of cells (get_or ports n d)
source_there cells [] n source d less is = absurd (omega arith)
source_there cells (x ∷ ports) zero source d less is = is
source_there cells (x ∷ ports) (suc n) source d less is = source_there cells ports n source d (omega arith) is

pub source_at : (cells : Cells) (sources : List Sender) (n : ℕ) (source : Sender) → sources ≡ map (sender_of cells) (end_ports cells) → n < length sources
    → source ≡ get_or sources n source → IsSourceAt cells n source
source_at cells sources n source are within is =
    let ports = end_ports cells in
    let long = ap length are ∙ length_map (sender_of cells) ports in
    let less : n < length ports = omega (arith, long, within) in
    let at = source_there cells ports n source source.port less (is ∙ ap (λ (xs : List Sender). get_or xs n source) are) in
    let port_is : source.port ≡ get_or ports n source.port = ap (λ (s : Sender). s.port) at in
    record {
      less = less;
      port_is = port_is;
      far_is = ap (λ (s : Sender). s.far) at ∙ ap (λ (e : EndPort). far_of cells e.node e.port) (sym port_is);
    }

-- the lengths of what is grouped
pub edges_long : (cells : Cells) (held : HeldPlan) (lid : ℕ) → length (edges_of cells held lid) ≡ length (switches cells)
edges_long cells held lid = length_map (λ g. edge_by (row_of cells g) (entry_for held lid g)) (switches cells)

pub is_within : (cells : Cells) (groups : Groups) (ports : List EndPort) (far : Far) (g p : ℕ) → AreGrouped cells ports groups → far ≡ far_of cells g p
    → IsWithin (length groups.weights.items) far
is_within cells groups ports far g p h leads index is =
    let less = far_within cells g p index (sym leads ∙ is) in
    let long = h.as_many in
    omega (arith, less, long)

-- no packets
pub none_grouped : (cells : Cells) (groups : Groups) (n : ℕ) → groups.weights.items ≡ replicate n 0 → groups.direct ≡ 0 → n ≡ length (switches cells)
    → AreGrouped cells [] groups
none_grouped cells groups n are none all = record {
  as_many = ap length are ∙ long n ∙ all;
  sums = λ number. (
      let nothing = none_weighed (λ i. number (Some i)) n in
      let same = ap (weighed (λ i. number (Some i))) are in
      let product : groups.direct * number None ≡ 0 = ap (λ d. d * number None) none ∙ (let z : 0 * number None ≡ 0 = omega arith in z) in
      omega (arith, nothing, same, product));
}
  where
    long : (k : ℕ) → length (replicate {A = ℕ} k 0) ≡ k
    long zero = refl
    long (suc k) = ap suc (long k)

-- one packet more at a switch
pub one_at_switch : (old new : Groups) (far : Far) (index : ℕ) → far ≡ Switch index → index < length old.weights.items
    → new.weights.items ≡ set old.weights.items index (get_or old.weights.items index 0 + 1) → new.direct ≡ old.direct → IsGroupedWith old far new
one_at_switch old new far index is within put stays = record {
  as_many = ap length put ∙ length-set old.weights.items index (get_or old.weights.items index 0 + 1);
  sums = λ number. (
      let there : number (switch_over far) ≡ number (Some index) = ap (λ f. number (switch_over f)) is in
      let same = ap (weighed (λ i. number (Some i))) put in
      let one = weighed_set (λ i. number (Some i)) old.weights.items index within in
      let direct_same = ap (λ d. d * number None) stays in
      omega (arith, there, same, one, direct_same));
}

-- or over one wire
pub one_direct : (old new : Groups) (far : Far) → ((index : ℕ) → far ≡ Switch index → ⊥) → new.weights.items ≡ old.weights.items → new.direct ≡ old.direct + 1
    → IsGroupedWith old far new
one_direct old new far not_switch stays put = record {
  as_many = ap length stays;
  sums = λ number. (
      let there : number (switch_over far) ≡ number None = ap number (over_none far not_switch) in
      let same = ap (weighed (λ i. number (Some i))) stays in
      let one : (old.direct + 1) * number None ≡ old.direct * number None + number None = omega arith in
      let direct_more = ap (λ d. d * number None) put in
      omega (arith, there, same, one, direct_more));
}

-- what is over 0 is in the list
pub in_list : (weights : List ℕ) (index : ℕ) → 1 ≤ get_or weights index 0 → index < length weights
in_list [] index some = absurd (omega arith)
in_list (w ∷ weights) zero some = omega arith
in_list (w ∷ weights) (suc index) some = let rest = in_list weights index some in omega arith

-- a packet at a switch
pub at_switch : (groups : Groups) (far : Far) (index : ℕ) → far ≡ Switch index → 1 ≤ packets_at groups (switch_over far) → 1
    ≤ get_or groups.weights.items index 0
at_switch groups far index is some = subst (λ (f : Far). 1 ≤ packets_at groups (switch_over f)) is some

-- the first end ports that pass a test
module _ (cells : Cells) (test : EndPort → Bool) where
  abbrev pub first_of : ℕ → List EndPort
  first_of n = filter test (take n (end_ports cells))

  first_more : (n : ℕ) (e : EndPort) → n < length (end_ports cells) → e ≡ get_or (end_ports cells) n e → first_of (n + 1) ≡ first_of n
      ++ cond (test e) (e ∷ []) []
  first_more n e less is =
      ap (filter test) (take_more (end_ports cells) n e less ∙ ap (λ x. take n (end_ports cells) ++ x ∷ []) (sym is))
      ∙ filter-append test (take n (end_ports cells)) (e ∷ [])

  pub one_more : (n : ℕ) (e : EndPort) (far : Far) (old new : Groups) → AreGrouped cells (first_of n) old → n < length (end_ports cells) → e
      ≡ get_or (end_ports cells) n e
      → test e ≡ true → far ≡ far_of cells e.node e.port → IsGroupedWith old far new → AreGrouped cells (first_of (n + 1)) new
  one_more n e far old new h less is does leads w = record {
    as_many = w.as_many ∙ h.as_many;
    sums = λ number. (
        let its : EndPort → ℕ = by_switch cells number in
        let more = ap (sum_by its) (first_more n e less is ∙ ap (λ t. first_of n ++ cond t (e ∷ []) []) does) ∙ sum_by_push its (first_of n) e in
        let own : number (switch_over far) ≡ its e = ap (λ f. number (switch_over f)) leads in
        let before = h.sums number in
        let with_it = w.sums number in
        omega (arith, more, own, before, with_it));
  }

  pub none_more : (n : ℕ) (e : EndPort) (groups : Groups) → AreGrouped cells (first_of n) groups → n < length (end_ports cells) → e
      ≡ get_or (end_ports cells) n e
      → test e ≡ false → AreGrouped cells (first_of (n + 1)) groups
  none_more n e groups h less is does_not =
      subst (λ (ps : List EndPort). AreGrouped cells ps groups)
      (sym (first_more n e less is ∙ ap (λ t. first_of n ++ cond t (e ∷ []) []) does_not ∙ append-nil (first_of n))) h

  pub all_more : (n : ℕ) (groups : Groups) → AreGrouped cells (first_of n) groups → length (end_ports cells) ≤ n
      → AreGrouped cells (filter test (end_ports cells)) groups
  all_more n groups h past = subst (λ (ps : List EndPort). AreGrouped cells (filter test ps) groups) (take_all n (end_ports cells) past) h

pub past_all : (cells : Cells) (sources : List Sender) (n : ℕ) → sources ≡ map (sender_of cells) (end_ports cells) → length sources ≤ n
    → length (end_ports cells) ≤ n
past_all cells sources n are past = let long = ap length are ∙ length_map (sender_of cells) (end_ports cells) in omega (arith, long, past)

module _ (cells : Cells) (held : HeldPlan) (line : HeldLid) where
  abbrev edges : List (Option Edge)
  edges = edges_of cells held line.lid

  -- the packets that are delivered
  abbrev pub delivered : List EndPort
  delivered = filter (reaches cells held line) (end_ports cells)

  -- whether the packet of an end port arrives, by the end that is found
  pub arrives_there : (port : EndPort) (ends : List (Option End)) (n : ℕ) (e : EndPort) (arrives : Bool) → AreBrought cells held line.lid ends → port
      ≡ line.port
      → n < length (end_ports cells) → e ≡ get_or (end_ports cells) n e → arrives ≡ is_at port (get_or ends n None)
      → reaches cells held line e ≡ reaches_if line e arrives
  arrives_there port ends n e arrives h own less is found =
      let end = found_at cells held line.lid ends n e h less ∙ ap (end_for cells held line.lid) (sym is) in
      ap (reaches_if line e) (ap (is_at line.port) (sym end) ∙ ap (λ p. is_at p (get_or ends n None)) (sym own) ∙ sym found)

  -- the number for the way of a packet
  abbrev over_ways : (Way → ℕ) → Option ℕ → ℕ
  over_ways number None = number one_wire
  over_ways number (Some index) = number (way_from edges index)

  by_way : (number : Way → ℕ) (far : Far) → number (way_over edges far) ≡ over_ways number (switch_over far)
  by_way number Nothing = refl
  by_way number (Switch index) = refl
  by_way number (Port e) = refl

  over_ports : (number : Way → ℕ) (ports : List EndPort) → sum_by number (map (way_of cells held line) ports)
      ≡ sum_by (by_switch cells (over_ways number)) ports
  over_ports number [] = refl
  over_ports number (e ∷ ports) =
      let rest = over_ports number ports in
      let here = by_way number (far_of cells e.node e.port) in
      let ways = sum_by-cons number (way_of cells held line e) (map (way_of cells held line) ports) in
      let these = sum_by-cons (by_switch cells (over_ways number)) e ports in
      omega (arith, rest, here, ways, these)

  -- the groups are counted
  pub counted_ways : (column : List (Option Edge)) (weights : List ℕ) (groups : Groups) (old new : WayTally) → column ≡ edges → weights ≡ groups.weights.items
      → AreGrouped cells delivered groups → IsCountedMore (256 * length column) old (grouped column weights groups.direct) new
      → IsCountedMore (256 * length (switches cells)) old (λ number. sum_by number (ways_to cells held line)) new
  counted_ways column weights groups old new are same g more = λ sums before.
      let all : 256 * length edges ≡ 256 * length (switches cells) = ap (λ n. 256 * n) (edges_long cells held line.lid) in
      let these : Sum = grouped edges weights groups.direct in
      let here : IsCountedMore (256 * length edges) old these new =
      subst (λ (xs : List (Option Edge)). IsCountedMore (256 * length xs) old (grouped xs weights groups.direct) new) are more in
      counted_as (256 * length (switches cells)) (λ number. sums number + these number)
      (λ number. sums number + sum_by number (ways_to cells held line)) new
      (λ number. ap (λ k. sums number + k)
      (ap (λ ws. grouped edges ws groups.direct number) same ∙ sym (over_ports number delivered ∙ g.sums (over_ways number))))
      (subst (λ (k : ℕ). IsCounted k (λ number. sums number + these number) new) all
      (here sums (subst (λ (k : ℕ). IsCounted k sums old) (sym all) before)))
