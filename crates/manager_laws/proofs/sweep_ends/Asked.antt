-- How many questions a reply brings up, against the vertices that it adds: a vertex brings up its questions, and each of
-- its questions for PortInfo two more at most.
use Rattle.std.proofs.Common.{◌≡◌, ◌⊎◌, inl, inr, ℕ, zero, suc, ◌+◌, ◌*◌, ◌≤◌, Bool, true, false, cond, List, [], ◌∷◌, ◌++◌, length, refl, arith, ap, sym, ◌∙◌, subst, length-append}
use Rattle.std.specs.Prelude.{Option, Some, None, ◌==◌, ◌||◌, nat_lt, not, is_some}
use Rattle.std.specs.List.{AllByRecursion}
use Rattle.std.proofs.lemmas.Bool.{cond_both, eq-eqb}
use Rattle.smp_bytes.specs.declared.node_type.NodeType.{NodeType}
use Rattle.smp_bytes.specs.NodeType.{is_switch}
use Rattle.attr_codec.specs.declared.node_info.NodeInfo.{NodeInfo}
use Rattle.attr_codec.specs.NodeTypeNumber.{type_of_number}
use Rattle.reply_facts.specs.declared.report.Context.{Context}
use Rattle.reply_facts.specs.declared.report.Context.TheVariants.{About}
use Rattle.reply_facts.specs.Report.{about_of, node_info_of, payload_of}
use Rattle.sweep.specs.declared.question.Question.{Question}
use Rattle.sweep.specs.declared.question.Question.TheVariants as ask
use Rattle.sweep.specs.declared.request.Request.{Request}
use Rattle.sweep.specs.declared.vertex.Vertex.{Vertex}
use Rattle.smp_bytes.specs.Packet.{max_hops}
use Rattle.sweep.specs.Finding.{asks_manager, finding_of, found_again, found_anew, leads_on, node_found_of, onward, port_found, vertex_of, with_vertex}
use Rattle.sweep.specs.Order.{is_before, placed}
use Rattle.sweep.specs.Questions.{onward_questions, port_questions, questions, vertex_questions}
use Rattle.sweep.specs.Sweep.{Asking, Sweep, first_vertex, numbered, vertex_at, vertex_key, without_number}
use Rattle.sweep.proofs.Asked.{length_ports}
use Rattle.sweep.proofs.Keys.{level_same}
use Rattle.manager_laws.proofs.Lists.{Has, all_as}
use Rattle.manager_laws.proofs.Vertices.{IsNew, at_none, first_none, placed_all}

-- questions for PortInfo ----------------------------------------------------------------------------

abbrev pub asks_port : Question → ℕ
asks_port ask.Node = 0
asks_port ask.Switch = 0
asks_port (ask.Port port) = 1
asks_port (ask.Manager guid port) = 0

abbrev pub ports_in : List Request → ℕ
ports_in [] = 0
ports_in (r ∷ requests) = asks_port r.question + ports_in requests

abbrev pub ports_asked : List Asking → ℕ
ports_asked [] = 0
ports_asked (a ∷ asked) = asks_port a.question + ports_asked asked

pub ports_append : (xs ys : List Request) → ports_in (xs ++ ys) ≡ ports_in xs + ports_in ys
ports_append [] ys = let sum : ports_in ys ≡ 0 + ports_in ys = omega arith in sum
ports_append (r ∷ xs) ys = let later = ports_append xs ys in omega (arith, later)

pub ports_numbered : (n : ℕ) (asked : List Asking) → ports_in (numbered n asked) ≡ ports_asked asked
ports_numbered n [] = refl
ports_numbered n (a ∷ asked) = ap (λ k. asks_port a.question + k) (ports_numbered (n + 1) asked)

asked_append : (xs ys : List Asking) → ports_asked (xs ++ ys) ≡ ports_asked xs + ports_asked ys
asked_append [] ys = let sum : ports_asked ys ≡ 0 + ports_asked ys = omega arith in sum
asked_append (a ∷ xs) ys = let later = asked_append xs ys in omega (arith, later)

-- a request that is over ------------------------------------------------------------------------------

-- `rest` is `requests` without the request `r`
pub record Less (r : Request) (rest requests : List Request) : Type 0 where
  pub ports : ports_in rest + asks_port r.question ≤ ports_in requests
  pub long : length rest + 1 ≤ length requests

-- `rest` is at most `requests`
record AtMost (rest requests : List Request) : Type 0 where
  pub ports : ports_in rest ≤ ports_in requests
  pub long : length rest ≤ length requests

kept : (n : ℕ) (requests : List Request) → AtMost (without_number n requests) requests
kept n [] = record { ports = omega arith; long = omega arith }
kept n (r ∷ requests) =
    let later = kept n requests in
    let rest = without_number n requests in
    elim (not (r.number == n)) as (λ b. AtMost (cond b (r ∷ rest) rest) (r ∷ requests)) [
      | true ↦ record { ports = omega (arith, later.ports); long = omega (arith, later.long) }
      | false ↦ record { ports = omega (arith, later.ports); long = omega (arith, later.long) }
    ]

pub gone : (r : Request) (requests : List Request) → Has (λ y. y ≡ r) requests → Less r (without_number r.number requests) requests
gone r [] h = absurd h
gone r (y ∷ requests) (inl e) =
    let same : (y.number == r.number) ≡ true = eq-eqb y.number r.number (ap (λ (x : Request). x.number) e) in
    let asks : asks_port y.question ≡ asks_port r.question = ap (λ (x : Request). asks_port x.question) e in
    let most = kept r.number requests in
    let rest = without_number r.number requests in
    subst (λ (b : Bool). Less r (cond (not b) (y ∷ rest) rest) (y ∷ requests)) (sym same)
    (record { ports = omega (arith, most.ports, asks); long = omega (arith, most.long) })
gone r (y ∷ requests) (inr h) =
    let later = gone r requests h in
    let rest = without_number r.number requests in
    elim (not (y.number == r.number)) as (λ b. Less r (cond b (y ∷ rest) rest) (y ∷ requests)) [
      | true ↦ record { ports = omega (arith, later.ports); long = omega (arith, later.long) }
      | false ↦ record { ports = omega (arith, later.ports); long = omega (arith, later.long) }
    ]

-- the questions of a vertex -----------------------------------------------------------------------------

ports_counted : (port n : ℕ) (path : List ℕ) (context : Context) → ports_asked (port_questions port n path context) ≡ n
ports_counted port zero path context = refl
ports_counted port (suc n) path context =
    let later = ports_counted (port + 1) n path context in
    let sum : 1 + ports_asked (port_questions (port + 1) n path context) ≡ suc n = omega (arith, later) in
    sum

-- what a vertex costs: its questions, and two more for each of these that is for PortInfo
abbrev pub weight : Vertex → ℕ
weight v = cond (is_switch v.kind) (3 * (v.ports + 1) + 1) 3

abbrev pub cost_of : List Vertex → ℕ
cost_of [] = 0
cost_of (v ∷ reached) = weight v + cost_of reached

vertex_weight : (v : Vertex) → length (vertex_questions v) + 2 * ports_asked (vertex_questions v) ≡ weight v
vertex_weight v =
    let ports = port_questions 0 (v.ports + 1) v.path (About v.guid) in
    let asks_switch : Asking = record { question = ask.Switch; path = v.path; context = About v.guid } in
    let asks_own : Asking = record { question = ask.Port v.port; path = v.path; context = About v.guid } in
    let long = length_ports 0 (v.ports + 1) v.path (About v.guid) in
    let counted = ports_counted 0 (v.ports + 1) v.path (About v.guid) in
    elim (is_switch v.kind) as (λ b. length (cond b (asks_switch ∷ ports) (asks_own ∷ []))
    + 2 * ports_asked (cond b (asks_switch ∷ ports) (asks_own ∷ [])) ≡ cond b (3 * (v.ports + 1) + 1) 3) [
      | true ↦ omega (arith, long, counted)
      | false ↦ refl
    ]

-- vertices ------------------------------------------------------------------------------------------------

-- no two vertices have the same GUID and port
abbrev pub AreDistinct : List Vertex → Type 0
AreDistinct [] = Unit {0}
AreDistinct (v ∷ reached) = IsNew v reached × AreDistinct reached

placed_sum : (v : Vertex) (reached : List Vertex) → IsNew v reached → cost_of (placed vertex_key v reached) ≡ weight v + cost_of reached
placed_sum v [] new = refl
placed_sum v (y ∷ reached) new =
    by_order (is_before (vertex_key y) (vertex_key v)) (is_before (vertex_key v) (vertex_key y)) refl refl (placed_sum v reached new.1)
  where
    by_order : (b c : Bool) → is_before (vertex_key y) (vertex_key v) ≡ b → is_before (vertex_key v) (vertex_key y) ≡ c
        → cost_of (placed vertex_key v reached) ≡ weight v + cost_of reached
        → cost_of (cond b (y ∷ placed vertex_key v reached) (cond c (v ∷ (y ∷ reached)) (y ∷ reached))) ≡ weight v + (weight y + cost_of reached)
    by_order true c e h later = omega (arith, later)
    by_order false true e h later = refl
    by_order false false e h later = let same = level_same (vertex_key y) (vertex_key v) e h in absurd (new.0 same.0 same.1)

placed_distinct : (v : Vertex) (reached : List Vertex) → IsNew v reached → AreDistinct reached → AreDistinct (placed vertex_key v reached)
placed_distinct v [] new all = (tt, tt)
placed_distinct v (y ∷ reached) new all =
    by_order (is_before (vertex_key y) (vertex_key v)) (is_before (vertex_key v) (vertex_key y)) (placed_distinct v reached new.1 all.1)
  where
    by_order : (b c : Bool) → AreDistinct (placed vertex_key v reached)
        → AreDistinct (cond b (y ∷ placed vertex_key v reached) (cond c (v ∷ (y ∷ reached)) (y ∷ reached)))
    by_order true c later =
        (placed_all (λ x. x.guid ≡ y.guid → x.port ≡ y.port → ⊥) v reached (λ e h. new.0 (sym e) (sym h)) all.0, later)
    by_order false true later = (new, all)
    by_order false false later = all

-- what a reply brings up ------------------------------------------------------------------------------------

-- questions that follow cost no more than the vertex that is added, and two questions for a reply with PortInfo
pub record Costs (asked : ℕ) (later : List Asking) (old new : List Vertex) : Type 0 where
  pub enough : length later + 2 * ports_asked later + cost_of old ≤ 2 * asked + cost_of new
  pub distinct : AreDistinct new

nothing_costs : (asked : ℕ) (reached : List Vertex) → AreDistinct reached → Costs asked [] reached reached
nothing_costs asked reached all = record { enough = omega arith; distinct = all }

vertex_costs : (v : Vertex) (reached : List Vertex) → IsNew v reached → AreDistinct reached
    → Costs 0 (vertex_questions v) reached (placed vertex_key v reached)
vertex_costs v reached new all =
    let cost = vertex_weight v in
    let sum = placed_sum v reached new in
    record { enough = omega (arith, cost, sum); distinct = placed_distinct v reached new all }

anew_costs : (path : List ℕ) (info : NodeInfo) (kind : Option NodeType) (reached : List Vertex) → first_vertex reached info.node_guid ≡ None
    → AreDistinct reached → Costs 0 (questions path (found_anew path info kind)) reached (with_vertex (found_anew path info kind) reached)
anew_costs path info None reached none all = nothing_costs 0 reached all
anew_costs path info (Some kind) reached none all =
    let v = vertex_of path info kind info.num_ports in
    vertex_costs v reached
    (all_as (λ (y : Vertex). y.guid ≡ info.node_guid → ⊥) (λ y. y.guid ≡ v.guid → y.port ≡ v.port → ⊥) (λ y other e h. other e) reached
    (first_none reached info.node_guid none))
    all

neither : (a b : Bool) → (a || b) ≡ false → (a ≡ false) × (b ≡ false)
neither false false e = (refl, refl)
neither false true e = absurd (cc)
neither true b e = absurd (cc)

none_there : {X : Type 0} (m : Option X) → is_some m ≡ false → m ≡ None
none_there None e = refl
none_there (Some x) e = absurd (cc)

again_costs : (s : Sweep) (path : List ℕ) (info : NodeInfo) (first : Vertex) → AreDistinct s.reached
    → Costs 0 (questions path (found_again s path info first)) s.reached (with_vertex (found_again s path info first) s.reached)
again_costs s path info first all =
    cond_both (is_switch first.kind || is_some (vertex_at s.reached info.node_guid info.local_port_num)) _ _
    (λ o. Costs 0 (questions path o) s.reached (with_vertex o s.reached))
    (λ _. nothing_costs 0 s.reached all)
    (λ new. fresh (neither (is_switch first.kind) _ new))
  where
    v : Vertex
    v = vertex_of path info first.kind first.ports

    fresh : (is_switch first.kind ≡ false) × (is_some (vertex_at s.reached info.node_guid info.local_port_num) ≡ false)
        → Costs 0 (vertex_questions v) s.reached (placed vertex_key v s.reached)
    fresh new =
        let port : v.port ≡ info.local_port_num = ap (λ b. cond b 0 info.local_port_num) new.0 in
        vertex_costs v s.reached
        (all_as (λ (y : Vertex). y.guid ≡ info.node_guid → y.port ≡ info.local_port_num → ⊥) (λ y. y.guid ≡ v.guid → y.port ≡ v.port → ⊥)
        (λ y other same_guid same_port. other same_guid (same_port ∙ port)) s.reached
        (at_none s.reached info.node_guid info.local_port_num (none_there (vertex_at s.reached info.node_guid info.local_port_num) new.1)))
        all

node_costs : (s : Sweep) (path : List ℕ) (info : NodeInfo) (m : Option Vertex) → first_vertex s.reached info.node_guid ≡ m → AreDistinct s.reached
    → Costs 0 (questions path (node_found_of s path info m)) s.reached (with_vertex (node_found_of s path info m) s.reached)
node_costs s path info None e all = anew_costs path info (type_of_number info.node_type) s.reached e all
node_costs s path info (Some first) e all = again_costs s path info first all

-- at most so many questions, none of them for PortInfo
record AreFew (most : ℕ) (asked : List Asking) : Type 0 where
  pub few : length asked ≤ most
  pub no_ports : ports_asked asked ≡ 0

manager_few : (b : Bool) (guid port : ℕ) (path : List ℕ)
    → AreFew 1 (cond b (record { question = ask.Manager guid port; path = path; context = About guid } ∷ []) [])
manager_few true guid port path = record { few = omega arith; no_ports = refl }
manager_few false guid port path = record { few = omega arith; no_ports = refl }

onward_few : (s : Sweep) (path : List ℕ) (guid port : ℕ) (info : List ℕ) → AreFew 1 (onward_questions path guid port (onward s path guid port info))
onward_few s path guid port info =
    cond_both (not (leads_on s path guid port info)) _ _ (λ way. AreFew 1 (onward_questions path guid port way))
    (λ _. record { few = omega arith; no_ports = refl })
    (λ _. cond_both (nat_lt (length path) max_hops) _ _ (λ way. AreFew 1 (onward_questions path guid port way))
    (λ _. record { few = omega arith; no_ports = refl })
    (λ _. record { few = omega arith; no_ports = refl }))

few_append : (xs ys : List Asking) → AreFew 1 xs → AreFew 1 ys → AreFew 2 (xs ++ ys)
few_append xs ys one other =
    let long = length-append xs ys in
    let ports = asked_append xs ys in
    let few = one.few in
    let few_later = other.few in
    let none = one.no_ports in
    let none_later = other.no_ports in
    record { few = omega (arith, few, few_later, long); no_ports = omega (arith, none, none_later, ports) }

port_costs : (s : Sweep) (path : List ℕ) (about : Option ℕ) (port : ℕ) (info : List ℕ) → AreDistinct s.reached
    → Costs 1 (questions path (port_found s path about port info)) s.reached (with_vertex (port_found s path about port info) s.reached)
port_costs s path None port info all = nothing_costs 1 s.reached all
port_costs s path (Some guid) port info all =
    let both = few_append _ _ (manager_few (asks_manager s path guid info) guid port path) (onward_few s path guid port info) in
    let few = both.few in
    let none = both.no_ports in
    record { enough = omega (arith, few, none); distinct = all }

-- whatever the reply is
pub reply_costs : (s : Sweep) (r : Request) (packet : List ℕ) (q : Question) → AreDistinct s.reached
    → Costs (asks_port q) (questions r.path (finding_of s r packet q)) s.reached (with_vertex (finding_of s r packet q) s.reached)
reply_costs s r packet ask.Node all = node_costs s r.path (node_info_of packet) (first_vertex s.reached (node_info_of packet).node_guid) refl all
reply_costs s r packet ask.Switch all = nothing_costs 0 s.reached all
reply_costs s r packet (ask.Port port) all = port_costs s r.path (about_of r.context) port (payload_of packet) all
reply_costs s r packet (ask.Manager guid port) all = nothing_costs 0 s.reached all
