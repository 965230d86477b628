-- Different vertices of the nodes of a fabric cost no more than the nodes.
use Rattle.std.proofs.Common.{◌≡◌, ◌⊎◌, inl, inr, ℕ, zero, suc, ◌+◌, ◌*◌, ◌<◌, ◌≤◌, Bool, true, false, cond, List, [], ◌∷◌, length, refl, arith, ap, sym, ◌∙◌, subst}
use Rattle.std.specs.Prelude.{◌==◌, filter, map, not, sum_by}
use Rattle.std.specs.List.{AllByRecursion}
use Rattle.std.proofs.lemmas.Bool.{eq-eqb, eqb-false, eqb-true}
use Rattle.std.proofs.lemmas.List.Sums.{sum_by-cons}
use Rattle.smp_bytes.specs.NodeType.{is_switch}
use Rattle.fabric_model.specs.Fabric.{Node}
use Rattle.sweep.specs.declared.vertex.Vertex.{Vertex}
use Rattle.manager_laws.proofs.Lists.{Has, all_as, all_filter}
use Rattle.manager_laws.proofs.Vertices.{IsNew}
use Rattle.manager_laws.proofs.sweep_ends.Asked.{AreDistinct, cost_of, weight}

-- numbers that differ and are below a bound are at most as many ----------------------------------------

abbrev Differ : List ℕ → Type 0
Differ [] = Unit {0}
Differ (x ∷ xs) = AllByRecursion (λ y. y ≡ x → ⊥) xs × Differ xs

-- without one number
abbrev without : ℕ → List ℕ → List ℕ
without m xs = filter (λ x. not (x == m)) xs

differ_without : (m : ℕ) (xs : List ℕ) → Differ xs → Differ (without m xs)
differ_without m [] all = tt
differ_without m (x ∷ xs) all =
    let later = differ_without m xs all.1 in
    elim (not (x == m)) as (λ b. Differ (cond b (x ∷ without m xs) (without m xs))) [
      | true ↦ (all_filter (λ y. y ≡ x → ⊥) (λ y. not (y == m)) xs all.0, later)
      | false ↦ later
    ]

below_without : (m : ℕ) (xs : List ℕ) → AllByRecursion (λ x. x < suc m) xs → AllByRecursion (λ x. x < m) (without m xs)
below_without m [] all = tt
below_without m (x ∷ xs) all = by_test (x == m) refl (below_without m xs all.1)
  where
    by_test : (b : Bool) → (x == m) ≡ b → AllByRecursion (λ y. y < m) (without m xs)
        → AllByRecursion (λ y. y < m) (cond (not b) (x ∷ without m xs) (without m xs))
    by_test true e rest = rest
    by_test false e rest =
        let other = eqb-false x m e in
        let most = all.0 in
        (omega (arith, other, most), rest)

none_gone : (m : ℕ) (xs : List ℕ) → AllByRecursion (λ y. y ≡ m → ⊥) xs → length xs ≤ length (without m xs)
none_gone m [] all = omega arith
none_gone m (x ∷ xs) all = by_test (x == m) refl (none_gone m xs all.1)
  where
    by_test : (b : Bool) → (x == m) ≡ b → length xs ≤ length (without m xs)
        → suc (length xs) ≤ length (cond (not b) (x ∷ without m xs) (without m xs))
    by_test true e later = absurd (all.0 (eqb-true x m e))
    by_test false e later = let more : suc (length xs) ≤ suc (length (without m xs)) = omega (arith, later) in more

one_gone : (m : ℕ) (xs : List ℕ) → Differ xs → length xs ≤ length (without m xs) + 1
one_gone m [] all = omega arith
one_gone m (x ∷ xs) all = by_test (x == m) refl (one_gone m xs all.1)
  where
    by_test : (b : Bool) → (x == m) ≡ b → length xs ≤ length (without m xs) + 1
        → suc (length xs) ≤ length (cond (not b) (x ∷ without m xs) (without m xs)) + 1
    by_test true e later =
        let same : x ≡ m = eqb-true x m e in
        let rest = none_gone m xs (subst (λ n. AllByRecursion (λ y. y ≡ n → ⊥) xs) same all.0) in
        let more : suc (length xs) ≤ length (without m xs) + 1 = omega (arith, rest) in
        more
    by_test false e later = let more : suc (length xs) ≤ suc (length (without m xs)) + 1 = omega (arith, later) in more

few_below : (m : ℕ) (xs : List ℕ) → Differ xs → AllByRecursion (λ x. x < m) xs → length xs ≤ m
few_below zero [] differ below = omega arith
few_below zero (x ∷ xs) differ below = let none = below.0 in absurd (omega (arith, none))
few_below (suc m) xs differ below =
    let later = few_below m (without m xs) (differ_without m xs differ) (below_without m xs below) in
    let gone = one_gone m xs differ in
    omega (arith, later, gone)

-- vertices of one node ------------------------------------------------------------------------------------

-- the vertex is as those of the node are
pub record Fits (n : Node) (v : Vertex) : Type 0 where
  pub kind : v.kind ≡ n.kind
  pub ports : v.ports ≡ n.ports
  pub within : v.port ≤ n.ports
  pub zero : is_switch n.kind ≡ true → v.port ≡ 0

-- a vertex of the node
abbrev IsOf : Node → Vertex → Type 0
IsOf n v = (n.guid ≡ v.guid) × Fits n v

abbrev ports_of : List Vertex → List ℕ
ports_of own = map (λ (v : Vertex). v.port) own

ports_differ : (n : Node) (own : List Vertex) → AreDistinct own → AllByRecursion (IsOf n) own → Differ (ports_of own)
ports_differ n [] distinct all = tt
ports_differ n (v ∷ own) distinct all = (apart own distinct.0 all.1, ports_differ n own distinct.1 all.1)
  where
    apart : (own : List Vertex) → IsNew v own → AllByRecursion (IsOf n) own → AllByRecursion (λ y. y ≡ v.port → ⊥) (ports_of own)
    apart [] new are = tt
    apart (u ∷ own) new are = (λ same. new.0 (sym are.0.0 ∙ all.0.0) same, apart own new.1 are.1)

ports_below : (n : Node) (own : List Vertex) → AllByRecursion (IsOf n) own → AllByRecursion (λ x. x < suc n.ports) (ports_of own)
ports_below n [] all = tt
ports_below n (v ∷ own) all = let most = all.0.1.within in (omega (arith, most), ports_below n own all.1)

length_ports : (own : List Vertex) → length (ports_of own) ≡ length own
length_ports [] = refl
length_ports (v ∷ own) = ap suc (length_ports own)

-- three for each vertex of a node that is no switch
adapters_cost : (n : Node) (own : List Vertex) → is_switch n.kind ≡ false → AllByRecursion (IsOf n) own → cost_of own ≡ 3 * length own
adapters_cost n [] other all = refl
adapters_cost n (v ∷ own) other all =
    let one : weight v ≡ 3 = ap (λ b. cond b (3 * (v.ports + 1) + 1) 3) (ap is_switch all.0.1.kind ∙ other) in
    let later = adapters_cost n own other all.1 in
    let sum : weight v + cost_of own ≡ 3 * suc (length own) = omega (arith, one, later) in
    sum

-- a switch has one vertex
switch_costs : (n : Node) (own : List Vertex) → is_switch n.kind ≡ true → AreDistinct own → AllByRecursion (IsOf n) own
    → cost_of own ≤ 3 * n.ports + 4
switch_costs n [] is distinct all = let none : 0 ≤ 3 * n.ports + 4 = omega arith in none
switch_costs n (v ∷ []) is distinct all =
    let one : weight v ≡ 3 * (v.ports + 1) + 1 = ap (λ b. cond b (3 * (v.ports + 1) + 1) 3) (ap is_switch all.0.1.kind ∙ is) in
    let ports = all.0.1.ports in
    let sum : weight v + 0 ≤ 3 * n.ports + 4 = omega (arith, one, ports) in
    sum
switch_costs n (v ∷ (u ∷ own)) is distinct all =
    absurd (distinct.0.0 (sym all.1.0.0 ∙ all.0.0) (all.1.0.1.zero is ∙ sym (all.0.1.zero is)))

own_cost : (n : Node) (own : List Vertex) → AreDistinct own → AllByRecursion (IsOf n) own → cost_of own ≤ 3 * n.ports + 4
own_cost n own distinct all = by_kind (is_switch n.kind) refl
  where
    by_kind : (b : Bool) → is_switch n.kind ≡ b → cost_of own ≤ 3 * n.ports + 4
    by_kind true e = switch_costs n own e distinct all
    by_kind false e =
        let sum = adapters_cost n own e all in
        let few = few_below (suc n.ports) (ports_of own) (ports_differ n own distinct all) (ports_below n own all) in
        let long = length_ports own in
        omega (arith, sum, few, long)

-- vertices of all nodes -----------------------------------------------------------------------------------

-- some node has the vertex's GUID, and each node that has it is the vertex's
pub record IsAmong (nodes : List Node) (v : Vertex) : Type 0 where
  pub some : Has (λ n. n.guid ≡ v.guid) nodes
  pub fits : AllByRecursion (λ n. n.guid ≡ v.guid → Fits n v) nodes

abbrev is_its : Node → Vertex → Bool
is_its n v = n.guid == v.guid

pub distinct_filter : (t : Vertex → Bool) (xs : List Vertex) → AreDistinct xs → AreDistinct (filter t xs)
distinct_filter t [] all = tt
distinct_filter t (v ∷ xs) all =
    let later = distinct_filter t xs all.1 in
    elim (t v) as (λ b. AreDistinct (cond b (v ∷ filter t xs) (filter t xs))) [
      | true ↦ (all_filter (λ y. y.guid ≡ v.guid → y.port ≡ v.port → ⊥) t xs all.0, later)
      | false ↦ later
    ]

split_sum : (t : Vertex → Bool) (xs : List Vertex)
    → cost_of xs ≡ cost_of (filter t xs) + cost_of (filter (λ v. not (t v)) xs)
split_sum t [] = refl
split_sum t (v ∷ xs) = by_test (t v) (split_sum t xs)
  where
    by_test : (b : Bool) → cost_of xs ≡ cost_of (filter t xs) + cost_of (filter (λ u. not (t u)) xs)
        → weight v + cost_of xs ≡ cost_of (cond b (v ∷ filter t xs) (filter t xs))
        + cost_of (cond (not b) (v ∷ filter (λ u. not (t u)) xs) (filter (λ u. not (t u)) xs))
    by_test true later =
        let sum : weight v + cost_of xs ≡ (weight v + cost_of (filter t xs)) + cost_of (filter (λ u. not (t u)) xs) =
        omega (arith, later) in
        sum
    by_test false later =
        let sum : weight v + cost_of xs ≡ cost_of (filter t xs) + (weight v + cost_of (filter (λ u. not (t u)) xs)) =
        omega (arith, later) in
        sum

own_are : (n : Node) (nodes : List Node) (xs : List Vertex) → AllByRecursion (IsAmong (n ∷ nodes)) xs
    → AllByRecursion (IsOf n) (filter (is_its n) xs)
own_are n nodes [] all = tt
own_are n nodes (v ∷ xs) all = by_test (is_its n v) refl (own_are n nodes xs all.1)
  where
    by_test : (b : Bool) → is_its n v ≡ b → AllByRecursion (IsOf n) (filter (is_its n) xs)
        → AllByRecursion (IsOf n) (cond b (v ∷ filter (is_its n) xs) (filter (is_its n) xs))
    by_test true e rest = let same : n.guid ≡ v.guid = eqb-true n.guid v.guid e in ((same, all.0.fits.0 same), rest)
    by_test false e rest = rest

others_are : (n : Node) (nodes : List Node) (xs : List Vertex) → AllByRecursion (IsAmong (n ∷ nodes)) xs
    → AllByRecursion (IsAmong nodes) (filter (λ v. not (is_its n v)) xs)
others_are n nodes [] all = tt
others_are n nodes (v ∷ xs) all = by_test (is_its n v) refl (others_are n nodes xs all.1)
  where
    later : is_its n v ≡ false → Has (λ m. m.guid ≡ v.guid) (n ∷ nodes) → Has (λ m. m.guid ≡ v.guid) nodes
    later e (inl same) = absurd (cc (sym e ∙ eq-eqb n.guid v.guid same))
    later e (inr h) = h

    by_test : (b : Bool) → is_its n v ≡ b → AllByRecursion (IsAmong nodes) (filter (λ u. not (is_its n u)) xs)
        → AllByRecursion (IsAmong nodes) (cond (not b) (v ∷ filter (λ u. not (is_its n u)) xs) (filter (λ u. not (is_its n u)) xs))
    by_test true e rest = rest
    by_test false e rest = (record { some = later e all.0.some; fits = all.0.fits.1 }, rest)

abbrev pub most_of : List Node → ℕ
most_of [] = 0
most_of (n ∷ nodes) = 3 * n.ports + 4 + most_of nodes

pub nodes_cost : (nodes : List Node) (xs : List Vertex) → AreDistinct xs → AllByRecursion (IsAmong nodes) xs
    → cost_of xs ≤ most_of nodes
nodes_cost [] [] distinct all = omega arith
nodes_cost [] (v ∷ xs) distinct all = absurd all.0.some
nodes_cost (n ∷ nodes) xs distinct all =
    let sum = split_sum (is_its n) xs in
    let own = own_cost n (filter (is_its n) xs) (distinct_filter (is_its n) xs distinct) (own_are n nodes xs all) in
    let others = nodes_cost nodes (filter (λ v. not (is_its n v)) xs) (distinct_filter (λ v. not (is_its n v)) xs distinct)
    (others_are n nodes xs all) in
    let whole : cost_of xs ≤ (3 * n.ports + 4) + most_of nodes = omega (arith, sum, own, others) in
    whole

pub most_is : (nodes : List Node) → most_of nodes ≡ sum_by (λ (n : Node). 3 * n.ports + 4) nodes
most_is [] = refl
most_is (n ∷ nodes) =
    ap (λ rest. 3 * n.ports + 4 + rest) (most_is nodes) ∙ sym (sum_by-cons (λ (m : Node). 3 * m.ports + 4) n nodes)
