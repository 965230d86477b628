-- Each packet for a LID is delivered or lost, and never both.
use Rattle.std.proofs.lemmas.List.Sums.{sum_by-cons}
use Rattle.std.proofs.Common.{cond, ◌≡◌, ℕ, zero, suc, ◌+◌, ◌*◌, ◌≤◌, ◌<◌, Bool, true, false, List, [], ◌∷◌, length, map, inl, inr, ◌⊎◌, refl, arith, ap, sym, ◌∙◌, subst}
use Rattle.std.specs.Prelude.{Option, Some, None, slice_get, count_by}
use Rattle.std.specs.Option.{option_map_or}
use Rattle.fabric_model.specs.declared.cable.NodePort.{NodePort}
use Rattle.fabric_model.specs.declared.course.Course.{Course}
use Rattle.fabric_model.specs.declared.course.Course.TheVariants.{Delivers, LeavesBy, Drops}
use Rattle.smp_bytes.specs.NodeType.{is_switch}
use Rattle.fabric_model.specs.Fabric.{Node, Fabric, is_switch_at, owns, switch_count}
use Rattle.fabric_model.specs.Forwarding.{Standing, arrived_at, course, adapter_course, switch_course, Hop, Goes, IsStuck, IsDelivered, IsLost}
use Rattle.fabric_model.specs.FabricLaws.{PacketsEndOnce}

-- counting marks ------------------------------------------------------------------

-- how many nodes are marked
abbrev marks : List Bool → ℕ
marks [] = 0
marks (b ∷ bs) = cond b 1 0 + marks bs

-- the marks without that of a node
abbrev cleared : List Bool → ℕ → List Bool
cleared [] number = []
cleared (b ∷ bs) zero = false ∷ bs
cleared (b ∷ bs) (suc number) = b ∷ cleared bs number

one_mark_less : (bs : List Bool) (number : ℕ) → slice_get bs number ≡ Some true → marks bs ≡ suc (marks (cleared bs number))
one_mark_less [] number h = cc
one_mark_less (true ∷ bs) zero h = omega arith
one_mark_less (false ∷ bs) zero h = cc
one_mark_less (b ∷ bs) (suc number) h = omega (arith, one_mark_less bs number h)

other_marks_stay : (bs : List Bool) (number other : ℕ) → (other ≡ number → ⊥) → slice_get bs other ≡ Some true → slice_get (cleared bs number) other ≡ Some true
other_marks_stay [] number other apart h = h
other_marks_stay (b ∷ bs) zero zero apart h = absurd (apart refl)
other_marks_stay (b ∷ bs) zero (suc other) apart h = h
other_marks_stay (b ∷ bs) (suc number) zero apart h = h
other_marks_stay (b ∷ bs) (suc number) (suc other) apart h = other_marks_stay bs number other (λ e. apart (ap suc e)) h

abbrev switch_marks : List Node → List Bool
switch_marks nodes = map (λ node. is_switch node.kind) nodes

switch_marks-count : (nodes : List Node) → marks (switch_marks nodes) ≡ count_by (λ node. is_switch node.kind) nodes
switch_marks-count [] = refl
switch_marks-count (n ∷ nodes) =
    ap (λ x. cond (is_switch n.kind) 1 0 + x) (switch_marks-count nodes)
    ∙ sym (sum_by-cons (λ (x : Node). cond (is_switch x.kind) 1 0) n nodes)

switch_is_marked : (nodes : List Node) (number : ℕ) → option_map_or (λ (n : Node). is_switch n.kind) (slice_get nodes number) false ≡ true
    → slice_get (switch_marks nodes) number ≡ Some true
switch_is_marked [] number h = cc
switch_is_marked (n ∷ nodes) zero h = ap (λ b. Some b) h
switch_is_marked (n ∷ nodes) (suc number) h = switch_is_marked nodes number h

-- what a node does ------------------------------------------------------------------

abbrev of_node : Fabric → ℕ → Standing → Option Node → Course
of_node f lid s o =
    option_map_or
    (λ (node : Node).
    let number = s.at.node in
    cond (is_switch node.kind) (switch_course node.ports number (f.top number) lid (f.entry number lid)) (adapter_course (owns f s.at lid) s))
    o
    Drops

abbrev is_switch_here : Option Node → Bool
is_switch_here o = option_map_or (λ (n : Node). is_switch n.kind) o false

module _ (f : Fabric) (lid : ℕ) where
  -- a switch does the same with a packet at each of its ports
  same_at_switch : (number : ℕ) (s t : Standing) → is_switch_at f number ≡ true → s.at.node ≡ number → t.at.node ≡ number → course f lid s ≡ course f lid t
  same_at_switch number s t h at there =
      by_node (slice_get f.nodes number) h (ap (slice_get f.nodes) at) (ap (slice_get f.nodes) there)
    where
      by_kind : (b : Bool) → b ≡ true → (x y u v : Course) → x ≡ y → cond b x u ≡ cond b y v
      by_kind true h x y u v e = e
      by_kind false h x y u v e = cc

      by_node : (o : Option Node) → is_switch_here o ≡ true → slice_get f.nodes s.at.node ≡ o → slice_get f.nodes t.at.node ≡ o
          → course f lid s ≡ course f lid t
      by_node None h e d = cc
      by_node (Some n) h e d =
          ap (of_node f lid s) e
          ∙ by_kind (is_switch n.kind) h _ _ _ _ (ap (λ p. switch_course n.ports p (f.top p) lid (f.entry p lid)) (at ∙ sym there))
          ∙ sym (ap (of_node f lid t) d)

  -- only a switch passes a packet on that came by a wire
  passed_on_by_switch : (q out : NodePort) → course f lid (arrived_at q) ≡ LeavesBy out → is_switch_at f q.node ≡ true
  passed_on_by_switch q out h = by_node (slice_get f.nodes q.node) refl
    where
      never_leaves : (own : Bool) → adapter_course own (arrived_at q) ≡ LeavesBy out → ⊥
      never_leaves true e = cc
      never_leaves false e = cc

      by_kind : (b : Bool) (x : Course) → cond b x (adapter_course (owns f q lid) (arrived_at q)) ≡ LeavesBy out → b ≡ true
      by_kind true x e = refl
      by_kind false x e = absurd (never_leaves (owns f q lid) e)

      by_node : (o : Option Node) → slice_get f.nodes q.node ≡ o → is_switch_at f q.node ≡ true
      by_node None e = absurd (cc (h, ap (of_node f lid (arrived_at q)) e))
      by_node (Some n) e = ap is_switch_here e ∙ by_kind (is_switch n.kind) _ (sym (ap (of_node f lid (arrived_at q)) e) ∙ h)

  -- ways ------------------------------------------------------------------

  -- a packet at a standing is delivered over these wires
  record Arrives (s : Standing) (hops : List Hop) : Type 0 where
    pub end : Standing
    pub target : NodePort
    pub goes : Goes f lid s hops end
    pub delivers : course f lid end ≡ Delivers target

  delivered_here : (s : Standing) (a : Arrives s []) → course f lid s ≡ Delivers a.target
  delivered_here s a = ap (course f lid) a.goes ∙ a.delivers

  rest_of : (s : Standing) (h : Hop) (hops : List Hop) → Arrives s (h ∷ hops) → Arrives (arrived_at h.into) hops
  rest_of s h hops a = record { end = a.end; target = a.target; goes = a.goes.2; delivers = a.delivers }

  same_out : (p q : NodePort) → LeavesBy p ≡ LeavesBy q → p ≡ q
  same_out p q e = cc

  -- out of one port into one other
  same_into : (c d : Course) (h k : Hop) → c ≡ d → c ≡ LeavesBy h.out → d ≡ LeavesBy k.out → f.across h.out ≡ Some h.into → f.across k.out ≡ Some k.into
      → h.into ≡ k.into
  same_into c d h k e leaves other wire its =
      let out : h.out ≡ k.out = same_out h.out k.out (sym leaves ∙ e ∙ other) in
      let some : Some h.into ≡ Some k.into = sym wire ∙ ap f.across out ∙ its in
      cc

  -- from standings where the same is done, as many wires
  same_length : (hops others : List Hop) (s t : Standing) → course f lid s ≡ course f lid t → Arrives s hops → Arrives t others → length hops ≡ length others
  same_length [] [] s t e a b = refl
  same_length [] (k ∷ others) s t e a b = absurd (cc (delivered_here s a, e, b.goes.0))
  same_length (h ∷ hops) [] s t e a b = absurd (cc (delivered_here t b, e, a.goes.0))
  same_length (h ∷ hops) (k ∷ others) s t e a b =
      let into = same_into (course f lid s) (course f lid t) h k e a.goes.0 b.goes.0 a.goes.1 b.goes.1 in
      ap suc (same_length hops others (arrived_at h.into) (arrived_at k.into)
      (ap (λ x. course f lid (arrived_at x)) into) (rest_of s h hops a) (rest_of t k others b))

  -- each switch from which a packet has so few wires to go is marked
  abbrev AreMarked : List Bool → ℕ → Type 0
  AreMarked bs most = (q : NodePort) (h : Hop) (hops : List Hop) → Arrives (arrived_at q) (h ∷ hops) → length hops < most → slice_get bs q.node ≡ Some true

  -- a packet that came by a wire goes on over at most as many wires as switches are marked
  few_wires : (hops : List Hop) (bs : List Bool) (q : NodePort) → Arrives (arrived_at q) hops → AreMarked bs (length hops) → length hops ≤ marks bs
  few_wires [] bs q a marked = omega arith
  few_wires (h ∷ hops) bs q a marked =
      let here = marked q h hops a (omega arith) in
      let rest = few_wires hops (cleared bs q.node) h.into (rest_of (arrived_at q) h hops a) (λ r k others b few.
      other_marks_stay bs q.node r.node
      (λ at. let e = same_length (h ∷ hops) (k ∷ others) (arrived_at q) (arrived_at r)
      (same_at_switch q.node (arrived_at q) (arrived_at r) (passed_on_by_switch q h.out a.goes.0) refl at) a b in omega (arith, e, few))
      (marked r k others b (omega (arith, few)))) in
      omega (arith, rest, one_mark_less bs q.node here)

  -- over at most one wire more than there are switches
  few_in_all : (s : Standing) (hops : List Hop) → Arrives s hops → length hops ≤ switch_count f + 1
  few_in_all s [] a = omega arith
  few_in_all s (h ∷ hops) a =
      let few = few_wires hops (switch_marks f.nodes) h.into (rest_of s h hops a)
      (λ q k others b less. switch_is_marked f.nodes q.node (passed_on_by_switch q k.out b.goes.0)) in
      omega (arith, few, switch_marks-count f.nodes)

  -- a way that is taken is no longer than that of a packet that is delivered
  no_longer : (hops others : List Hop) (s end : Standing) → Arrives s hops → Goes f lid s others end → length others ≤ length hops
  no_longer hops [] s end a g = omega arith
  no_longer [] (k ∷ others) s end a g = absurd (cc (delivered_here s a, g.0))
  no_longer (h ∷ hops) (k ∷ others) s end a g =
      let into = same_into (course f lid s) (course f lid s) h k refl a.goes.0 g.0 a.goes.1 g.1 in
      omega (arith, no_longer hops others (arrived_at h.into) end (rest_of s h hops a) (subst (λ x. Goes f lid (arrived_at x) others end) (sym into) g.2))

  -- a packet that is delivered is stuck nowhere
  never_stuck : (hops others : List Hop) (s end : Standing) → Arrives s hops → Goes f lid s others end → IsStuck f lid end → ⊥
  never_stuck [] [] s end a g (inl drops) = cc (delivered_here s a, ap (course f lid) g, drops)
  never_stuck [] [] s end a g (inr (p, leaves, none)) = cc (delivered_here s a, ap (course f lid) g, leaves)
  never_stuck [] (k ∷ others) s end a g stuck = cc (delivered_here s a, g.0)
  never_stuck (h ∷ hops) [] s end a g (inl drops) = cc (a.goes.0, ap (course f lid) g, drops)
  never_stuck (h ∷ hops) [] s end a g (inr (p, leaves, none)) =
      let out : h.out ≡ p = same_out h.out p (sym a.goes.0 ∙ ap (course f lid) g ∙ leaves) in
      cc (a.goes.1, ap f.across out, none)
  never_stuck (h ∷ hops) (k ∷ others) s end a g stuck =
      let into = same_into (course f lid s) (course f lid s) h k refl a.goes.0 g.0 a.goes.1 g.1 in
      never_stuck hops others (arrived_at h.into) end (rest_of s h hops a) (subst (λ x. Goes f lid (arrived_at x) others end) (sym into) g.2) stuck

  -- how a packet ends ------------------------------------------------------------------

  record IsGivenUp (s : Standing) (most : ℕ) : Type 0 where
    pub hops : List Hop
    pub end : Standing
    pub goes : Goes f lid s hops end
    pub why : IsStuck f lid end ⊎ (length hops ≡ most)

  abbrev Ends : Standing → ℕ → Type 0
  Ends s most = ((hops : List Hop) × Arrives s hops) ⊎ IsGivenUp s most

  crosses : (s : Standing) (p q : NodePort) (most : ℕ) → course f lid s ≡ LeavesBy p → f.across p ≡ Some q → Ends (arrived_at q) most → Ends s (suc most)
  crosses s p q most leaves wire (inl (hops, a)) =
      inl (record { out = p; into = q } ∷ hops, record { end = a.end; target = a.target; goes = (leaves, wire, a.goes); delivers = a.delivers })
  crosses s p q most leaves wire (inr g) =
      inr (record { hops = record { out = p; into = q } ∷ g.hops; end = g.end; goes = (leaves, wire, g.goes); why = as_before g.why })
    where
      as_before : IsStuck f lid g.end ⊎ (length g.hops ≡ most) → IsStuck f lid g.end ⊎ (suc (length g.hops) ≡ suc most)
      as_before (inl stuck) = inl stuck
      as_before (inr e) = inr (ap suc e)

  ends : (most : ℕ) (s : Standing) → Ends s most
  ends zero s = inr (record { hops = []; end = s; goes = refl; why = inr refl })
  ends (suc most) s = by_course (λ q. ends most (arrived_at q)) (course f lid s) refl
    where
      by_wire : ((q : NodePort) → Ends (arrived_at q) most) → (p : NodePort) (o : Option NodePort) → course f lid s ≡ LeavesBy p → f.across p ≡ o
          → Ends s (suc most)
      by_wire further p None leaves none = inr (record { hops = []; end = s; goes = refl; why = inl (inr (p, leaves, none)) })
      by_wire further p (Some q) leaves wire = crosses s p q most leaves wire (further q)

      by_course : ((q : NodePort) → Ends (arrived_at q) most) → (c : Course) → course f lid s ≡ c → Ends s (suc most)
      by_course further (Delivers p) e = inl ([], record { end = s; target = p; goes = refl; delivers = e })
      by_course further (LeavesBy p) e = by_wire further p (f.across p) e refl
      by_course further Drops e = inr (record { hops = []; end = s; goes = refl; why = inl (inl e) })

abbrev start : NodePort → Standing
start source = record { at = source; by_wire = false }

-- one of the two
as_ended : (f : Fabric) (lid : ℕ) (source : NodePort) → Ends f lid (start source) (2 * switch_count f + 2)
    → ((hops : List Hop) × (target : NodePort) × IsDelivered f lid source hops target) ⊎ ((hops : List Hop) × (number : ℕ) × IsLost f lid source hops number)
as_ended f lid source (inl (hops, a)) = inl (hops, a.target, (a.end, a.goes, a.delivers))
as_ended f lid source (inr g) = inr (g.hops, g.end.at.node, (g.end, g.goes, refl, g.why))

never_both : (f : Fabric) (lid : ℕ) (source : NodePort) (hops others : List Hop) (end : Standing) → Arrives f lid (start source) hops
    → Goes f lid (start source) others end → IsStuck f lid end ⊎ (length others ≡ 2 * switch_count f + 2) → ⊥
never_both f lid source hops others end a g (inl stuck) = never_stuck f lid hops others (start source) end a g stuck
never_both f lid source hops others end a g (inr long) =
    omega (arith, no_longer f lid hops others (start source) end a g, few_in_all f lid (start source) hops a, long)

pub packets_end_once : PacketsEndOnce
packets_end_once f lid source = (
  as_ended f lid source (ends f lid (2 * switch_count f + 2) (start source)),
  λ hops others target number d l. never_both f lid source hops others l.0 (record { end = d.0; target = target; goes = d.1; delivers = d.2 }) l.1 l.3,
)

-- a packet that is delivered takes at most one wire more than there are switches
pub few_wires_in_all : (f : Fabric) (lid : ℕ) (source target : NodePort) (hops : List Hop) → IsDelivered f lid source hops target
    → length hops ≤ switch_count f + 1
few_wires_in_all f lid source target hops d = few_in_all f lid (start source) hops (record { end = d.0; target = target; goes = d.1; delivers = d.2 })
