-- What a sweep has covered, as long as nothing but SMInfo is left unanswered and nothing is too far: each question that
-- a vertex brings up waits, is to be sent or has its facts, and each cable that leads on from there is asked across or
-- crossed.
use Rattle.std.proofs.Common.{◌≡◌, ◌⊎◌, inl, inr, ℕ, ◌≤◌, Bool, true, not, ◌&&◌, ◌||◌, List, [], ◌∷◌, ◌++◌}
use Rattle.std.specs.Prelude.{Some, slice_get, MatchBool, ◌==◌}
use Rattle.std.specs.Option.{option_map_or}
use Rattle.std.specs.List.{AllByRecursion}
use Rattle.fabric_model.specs.declared.cable.NodePort.{NodePort}
use Rattle.smp_bytes.specs.NodeType.{is_switch}
use Rattle.fabric_model.specs.Fabric as fabric
use Rattle.fabric_model.specs.Fabric.{Fabric, is_switch_at}
use Rattle.fabric_model.specs.FabricWalks.{vertex_of, IsJoinedTo}
use Rattle.fabric_model.specs.DirectedWalk.{directed_end}
use Rattle.fabric_model.proofs.FabricWalks.{port_at}
use Rattle.fact_join.specs.declared.cell.Cell.{Cell}
use Rattle.fact_join.specs.declared.cell.Cell.TheVariants.{Known, Disputed}
use Rattle.reply_facts.specs.declared.key.Key.{Key}
use Rattle.reply_facts.specs.declared.key.Key.TheVariants.{Node, PortGuid, Link, Port, Cap}
use Rattle.reply_facts.specs.declared.value.Value.{Value}
use Rattle.reply_facts.specs.declared.value.Value.TheVariants.{Kind, Guid}
use Rattle.reply_facts.specs.declared.report.Context.{Context}
use Rattle.reply_facts.specs.declared.report.Context.TheVariants.{Start, Via, About}
use Rattle.reply_facts.specs.Report.{Sightings, guid_port}
use Rattle.sweep.specs.declared.question.Question.{Question}
use Rattle.sweep.specs.declared.question.Question.TheVariants as ask
use Rattle.sweep.specs.declared.request.Request.{Request}
use Rattle.sweep.specs.declared.vertex.Vertex.{Vertex}
use Rattle.sweep.specs.Images.{Images}
use Rattle.sweep.specs.Sweep.{Sweep, Asking, AreRising, first_question, first_vertex}
use Rattle.sweep.specs.Finding.{is_start}
use Rattle.manager_laws.specs.Truth.{HasNode}
use Rattle.manager_laws.proofs.Asked.{IsPending}
use Rattle.manager_laws.proofs.Known.{HasKey}
use Rattle.manager_laws.proofs.Lists.{Has}

-- the requests that wait or are to be sent, the vertices that were reached, and what was told
pub record Having : Type 0 where
  pub requests : List Request
  pub reached : List Vertex
  pub told : Sightings

-- those of a sweep
abbrev pub having : Sweep → Sightings → Having
having s told = record { requests = s.outstanding ++ s.queued; reached = s.reached; told = told }

-- a question about a vertex, over its path
abbrev pub about : Vertex → Question → Asking
about v q = record { question = q; path = v.path; context = About v.guid }

-- the question for the node across a port
abbrev pub beyond : List ℕ → ℕ → ℕ → Asking
beyond path guid port = record { question = ask.Node; path = path ++ port ∷ []; context = Via guid port }

-- the ports of a vertex that are asked for
abbrev pub IsItsPort : Vertex → ℕ → Type 0
IsItsPort v port = MatchBool (is_switch v.kind) (port ≤ v.ports) (port ≡ v.port)

module _ (f : Fabric) (seat : NodePort) where
  abbrev pub guid_at : ℕ → ℕ
  guid_at id = option_map_or (λ (n : fabric.Node). n.guid) (slice_get f.nodes id) 0

  -- a vertex of the fabric is among those that were reached
  abbrev pub IsReached : List Vertex → NodePort → Type 0
  IsReached reached p = Has (λ v. (v.guid ≡ guid_at p.node) × (v.port ≡ p.port)) reached

  -- the cable from a port to another: its link was told from both ends, and its other end was reached
  pub record Crossed (h : Having) (from to : NodePort) : Type 0 where
    pub there : HasKey h.told (Link (guid_at from.node) from.port)
    pub back : HasKey h.told (Link (guid_at to.node) to.port)
    pub end : IsReached h.reached (vertex_of f to)

  -- a port that the sweep goes on by: the seat's own, or one of a switch that it did not come by
  abbrev pub leads_on : Vertex → ℕ → Bool
  leads_on v port = (is_start v.path && port == seat.port) || (is_switch v.kind && (not (port == 0) && not (port == v.arrival)))

  -- the vertex that the sweep began at
  abbrev pub IsOrigin : Vertex → Type 0
  IsOrigin v = (v.guid ≡ guid_at seat.node) × (v.port ≡ seat.port) × (v.path ≡ [])

  module _ (h : Having) where
    -- what its reply leaves; of what a manager tells nothing is kept
    abbrev pub IsAnswered : ℕ → Vertex → Question → Type 0
    IsAnswered id v ask.Node = Unit {0}
    IsAnswered id v ask.Switch = HasKey h.told (Cap v.guid)
    IsAnswered id v (ask.Manager guid port) = Unit {0}
    IsAnswered id v (ask.Port port) =
        HasKey h.told (Port v.guid port)
        × ((far : NodePort) → f.across (port_at id port) ≡ Some far → leads_on v port ≡ true
        → IsPending h.requests (beyond v.path v.guid port) ⊎ Crossed h (port_at id port) far)

    abbrev pub IsMet : ℕ → Vertex → Question → Type 0
    IsMet id v q = IsPending h.requests (about v q) ⊎ IsAnswered id v q

    abbrev pub CameFrom : ℕ → Vertex → Type 0
    CameFrom id v = (from : NodePort) × (f.across (port_at id v.arrival) ≡ Some from) × Crossed h (port_at id v.arrival) from

    pub record Covers (v : Vertex) : Type 0 where
      pub id : ℕ
      pub node : fabric.Node
      pub has : HasNode f v.guid id node
      pub kind : v.kind ≡ node.kind
      pub ports : v.ports ≡ node.ports
      pub port : v.port ≡ guid_port v.kind v.arrival
      pub leads : directed_end f seat v.path ≡ Some (port_at id v.arrival)
      pub joined : IsJoinedTo f seat (port_at id v.port)
      pub node_told : HasKey h.told (Node v.guid)
      pub guid_told : HasKey h.told (PortGuid v.guid v.port)
      pub only : is_switch v.kind ≡ true → first_vertex h.reached v.guid ≡ Some v
      pub came : IsOrigin v ⊎ CameFrom id v
      pub switch : is_switch v.kind ≡ true → IsMet id v ask.Switch
      pub its_ports : (p : ℕ) → IsItsPort v p → IsMet id v (ask.Port p)

  -- a port that the sweep leaves by: its vertex is joined, and it is the seat's or a switch's
  abbrev pub Leaves : NodePort → Type 0
  Leaves p = IsJoinedTo f seat (vertex_of f p) × ((p ≡ seat) ⊎ (is_switch_at f p.node ≡ true))

  pub record LeavesBy (reached : List Vertex) (guid port : ℕ) : Type 0 where
    pub id : ℕ
    pub node : fabric.Node
    pub has : HasNode f guid id node
    pub from : IsReached reached (vertex_of f (port_at id port))
    pub leaves : Leaves (port_at id port)

  -- what a request speaks of was reached
  abbrev pub IsRooted : List Vertex → Context → Type 0
  IsRooted reached Start = Unit {0}
  IsRooted reached (Via guid port) = LeavesBy reached guid port
  IsRooted reached (About guid) = Has (λ v. v.guid ≡ guid) reached

  -- what was told is of vertices that are joined to the seat
  pub record IsJoinedPort (guid port : ℕ) : Type 0 where
    pub id : ℕ
    pub node : fabric.Node
    pub has : HasNode f guid id node
    pub joined : IsJoinedTo f seat (port_at id port)

  abbrev pub IsJoinedOf : Key → Value → Type 0
  IsJoinedOf (Node guid) (Kind kind ports) = is_switch kind ≡ true → IsJoinedPort guid 0
  IsJoinedOf (PortGuid guid port) (Guid value) = IsJoinedPort guid port
  IsJoinedOf _ _ = Unit {0}

  abbrev pub IsJoinedSighting : Key × Cell Value → Type 0
  IsJoinedSighting (key, Known generation value) = IsJoinedOf key value
  IsJoinedSighting (key, Disputed generation) = Unit {0}

  pub record Covered (s : Sweep) (told : Sightings) : Type 0 where
    pub rising : AreRising 0 (s.outstanding ++ s.queued) s.next
    pub rooted : AllByRecursion (λ r. IsRooted s.reached r.context) (s.outstanding ++ s.queued)
    pub vertices : AllByRecursion (Covers (having s told)) s.reached
    pub joined : AllByRecursion IsJoinedSighting told
    pub start : (IsPending (s.outstanding ++ s.queued) first_question × (s.reached ≡ [])) ⊎ Has IsOrigin s.reached

  -- whatever the sweep keeps of what it reads
  pub covered_with_images : (images : Images) {s : Sweep} {told : Sightings} → Covered s told → Covered (record s { images = images }) told
  covered_with_images images c =
      record {
        rising = c.rising;
        rooted = c.rooted;
        vertices = c.vertices;
        joined = c.joined;
        start = c.start;
      }

  -- what goes on ------------------------------------------------------------------------------------------

  -- one request has ended, and what it asked has its answer; all else is there still
  pub record Grows (old new : Having) (ended : Asking) : Type 1 where
    pub pending : (a : Asking) → IsPending old.requests a → (ended ≡ a) ⊎ IsPending new.requests a
    pub reached : (P : Vertex → Type 0) → Has P old.reached → Has P new.reached
    pub told : (key : Key) → HasKey old.told key → HasKey new.told key
    pub first : (v : Vertex) → is_switch v.kind ≡ true → first_vertex old.reached v.guid ≡ Some v → first_vertex new.reached v.guid ≡ Some v
    pub switch : (v : Vertex) → ended ≡ about v ask.Switch → HasKey new.told (Cap v.guid)
    pub port : (v : Vertex) (c : Covers old v) (p : ℕ) → ended ≡ about v (ask.Port p) → IsAnswered new c.id v (ask.Port p)
    pub node : (path : List ℕ) (guid id p : ℕ) (n : fabric.Node) (far : NodePort) → HasNode f guid id n → ended ≡ beyond path guid p
        → f.across (port_at id p) ≡ Some far → Crossed new (port_at id p) far

  module _ {old new : Having} {ended : Asking} (g : Grows old new ended) where
    pub crossed_on : (from to : NodePort) → Crossed old from to → Crossed new from to
    crossed_on from to c = record { there = g.told _ c.there; back = g.told _ c.back; end = g.reached _ c.end }

    pub covers_on : (v : Vertex) → Covers old v → Covers new v
    covers_on v c =
        record {
          id = c.id;
          node = c.node;
          has = c.has;
          kind = c.kind;
          ports = c.ports;
          port = c.port;
          leads = c.leads;
          joined = c.joined;
          node_told = g.told _ c.node_told;
          guid_told = g.told _ c.guid_told;
          only = λ switch. g.first v switch (c.only switch);
          came = elim c.came [
            | inl origin ↦ inl origin
            | inr from ↦ inr (from.0, from.1, crossed_on _ _ from.2)
          ];
          switch = λ is. (elim (c.switch is) [
            | inl p ↦ (elim (g.pending _ p) [ inl e ↦ inr (g.switch v e) | inr k ↦ inl k ])
            | inr a ↦ inr (g.told _ a)
          ]);
          its_ports = λ p its. (elim (c.its_ports p its) [
            | inl k ↦ (elim (g.pending _ k) [ inl e ↦ inr (g.port v c p e) | inr l ↦ inl l ])
            | inr a ↦ inr (g.told _ a.0, λ far cable on. onward p far cable (a.1 far cable on))
          ]);
        }
      where
        onward : (p : ℕ) (far : NodePort) → f.across (port_at c.id p) ≡ Some far
            → IsPending old.requests (beyond v.path v.guid p) ⊎ Crossed old (port_at c.id p) far
            → IsPending new.requests (beyond v.path v.guid p) ⊎ Crossed new (port_at c.id p) far
        onward p far cable (inl k) = elim (g.pending _ k) [ inl e ↦ inr (g.node v.path v.guid c.id p c.node far c.has e cable) | inr l ↦ inl l ]
        onward p far cable (inr x) = inr (crossed_on _ _ x)

    pub rooted_on : (c : Context) → IsRooted old.reached c → IsRooted new.reached c
    rooted_on Start h = tt
    rooted_on (Via guid port) h = record { id = h.id; node = h.node; has = h.has; from = g.reached _ h.from; leaves = h.leaves }
    rooted_on (About guid) h = g.reached _ h
