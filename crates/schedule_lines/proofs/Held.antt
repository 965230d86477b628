-- The LIDs that ports hold, port by port and node by node.
use Rattle.std.proofs.Common.{◌≡◌, ◌∙◌, ℕ, ◌+◌, Bool, true, false, cond, not, ◌==◌, List, [], ◌∷◌, ◌++◌, Some, map, take, append_assoc, refl, sym, ap, arith}
use Rattle.std.specs.List.{filter, flat_map, range_with_len, slice_get}
use Rattle.std.proofs.lemmas.Bool.{eq-eqb, eqb-true, false_from_ne_true}
use Rattle.std.proofs.lemmas.List.{append-nil, take_more}
use Rattle.std.proofs.lemmas.List.Concat.{flat_map-append}
use Rattle.std.proofs.lemmas.List.Elements.{filter-append}
use Rattle.std.proofs.lemmas.List.FromFn.{filter_of_map_range_with_len_more}
use Rattle.std.proofs.lemmas.Option.{get_or_from_slice_get, slice_get_within}
use Rattle.std.proofs.lemmas.Cmp.{nat_cmp_total, on_total, then_total}
use Rattle.std.proofs.lemmas.List.Sorted.{ranks_by}
use Rattle.std.specs.Borrow.{Bor}
use Rattle.std.specs.Cmp.{IsStrictWeakOrder, IsTotalOrder}
use Rattle.std.specs.Ordering.{is_lt, nat_cmp}
use Rattle.node_agents.specs.Agent.{Agent, base_lid_at, lmc_at, is_switch}
use Rattle.schedule_lines.specs.Tables.{Held, held_by, held_cmp, key_cmp, in_order, put_in_order}

abbrev pub is_held : Held → Bool
is_held x = not (x.0 == 0)

abbrev pub held_at : Agent → ℕ → Held
held_at a port = (base_lid_at a port, a.node.guid, port, lmc_at a port)

-- one port more
pub held_more : (a : Agent) (old before now : List Held) (port : ℕ) → before ≡ old ++ filter is_held (map (held_at a) (range_with_len 0 port))
    → now ≡ before ++ cond (is_held (held_at a port)) (held_at a port ∷ []) []
    → now ≡ old ++ filter is_held (map (held_at a) (range_with_len 0 (port + 1)))
held_more a old before now port e f =
    f ∙ ap (λ t. t ++ cond (is_held (held_at a port)) (held_at a port ∷ []) []) e ∙ append_assoc old _ _
    ∙ ap (λ t. old ++ t) (sym (filter_of_map_range_with_len_more is_held (held_at a) 0 port port (omega arith)))

-- a port that holds a LID
pub holds : (a : Agent) (lid guid p lmc port : ℕ) (before : List Held) → lid ≡ base_lid_at a p → guid ≡ a.node.guid → p ≡ port → lmc ≡ lmc_at a p
    → ¬ (lid ≡ 0) → before ++ (lid, guid, p, lmc) ∷ [] ≡ before ++ cond (is_held (held_at a port)) (held_at a port ∷ []) []
holds a lid guid p lmc port before e f g m some =
    let Four : Type 0 = Held in
    let one : Four = (lid, guid, p, lmc) in
    let same : one ≡ held_at a port = λ i. ((e ∙ ap (base_lid_at a) g) i, f i, g i, (m ∙ ap (lmc_at a) g) i) in
    let is : is_held (held_at a port) ≡ true = ap is_held (sym same) ∙ ap not (false_from_ne_true (lid == 0) (λ t. some (eqb-true lid 0 t))) in
    ap (λ (x : Held). before ++ x ∷ []) same ∙ ap (λ b. before ++ cond b (held_at a port ∷ []) []) (sym is)

-- a port that holds none
pub holds_none : (a : Agent) (lid p port : ℕ) (before : List Held) → lid ≡ base_lid_at a p → p ≡ port → lid ≡ 0
    → before ≡ before ++ cond (is_held (held_at a port)) (held_at a port ∷ []) []
holds_none a lid p port before e g none =
    let is : is_held (held_at a port) ≡ false = ap not (eq-eqb (base_lid_at a port) 0 (ap (base_lid_at a) (sym g) ∙ sym e ∙ none)) in
    sym (append-nil before) ∙ ap (λ b. before ++ cond b (held_at a port ∷ []) []) (sym is)

-- a list with one element more
pub one_more : {X : Type 0} (xs : List X) (i : ℕ) (x : X) → slice_get xs i ≡ Some x → take (i + 1) xs ≡ take i xs ++ x ∷ []
one_more xs i x e =
    let h = slice_get_within xs i x e in
    take_more xs i x h ∙ ap (λ y. take i xs ++ y ∷ []) (get_or_from_slice_get xs i x x e)

-- one node more
pub more_held : (agents : List Agent) (number : ℕ) (a : Agent) (before now : List Held) → slice_get agents number ≡ Some a
    → before ≡ flat_map held_by (take number agents) → now ≡ before ++ held_by a → now ≡ flat_map held_by (take (number + 1) agents)
more_held agents number a before now there e f =
    f ∙ ap (λ t. t ++ held_by a) e ∙ ap (λ t. flat_map held_by (take number agents) ++ t) (sym (append-nil (held_by a)))
    ∙ sym (flat_map-append held_by (take number agents) (a ∷ [])) ∙ ap (flat_map held_by) (sym (one_more agents number a there))

-- one switch more
pub more_switches : (agents : List Agent) (number : ℕ) (a : Agent) (before now : List Agent) → slice_get agents number ≡ Some a
    → before ≡ filter is_switch (take number agents) → now ≡ before ++ cond (is_switch a) (a ∷ []) [] → now ≡ filter is_switch (take (number + 1) agents)
more_switches agents number a before now there e f =
    f ∙ ap (λ t. t ++ cond (is_switch a) (a ∷ []) []) e
    ∙ sym (filter-append is_switch (take number agents) (a ∷ [])) ∙ ap (filter is_switch) (sym (one_more agents number a there))

abbrev pub Key : Type 0
Key = ℕ × ℕ × ℕ

key_total : IsTotalOrder key_cmp
key_total = then_total (then_total (on_total (λ (x : Key). x.0) nat_cmp_total) (on_total (λ (x : Key). x.1) nat_cmp_total))
    (on_total (λ (x : Key). x.2) nat_cmp_total)

abbrev pub key_of : Held → Key
key_of x = (x.0, x.1, x.2)

-- LIDs that ports hold are in an order
pub held_ranks : IsStrictWeakOrder (λ x y. is_lt (held_cmp x y))
held_ranks = ranks_by key_total key_of

-- and so are switches by their GUIDs
abbrev pub guid_of : Bor Agent → ℕ
guid_of r = r.now.node.guid

pub guid_ranks : IsStrictWeakOrder (λ x y. is_lt (nat_cmp (guid_of x) (guid_of y)))
guid_ranks = ranks_by nat_cmp_total guid_of

-- an order of values by what a function tells of them
module _ {A B : Type 0} (f : A → B) (lt : B → B → Bool) where
  map_put : (x : A) (ys : List A) → map f (put_in_order (λ a b. lt (f a) (f b)) x ys) ≡ put_in_order lt (f x) (map f ys)
  map_put x [] = refl
  map_put x (y ∷ ys) =
      elim (lt (f y) (f x)) as (λ b. map f (cond b (y ∷ put_in_order (λ a b. lt (f a) (f b)) x ys) (x ∷ y ∷ ys))
      ≡ cond b (f y ∷ put_in_order lt (f x) (map f ys)) (f x ∷ f y ∷ map f ys)) [
        | true ↦ ap (λ t. f y ∷ t) (map_put x ys)
        | false ↦ refl
      ]

  pub map_in_order : (xs : List A) → map f (in_order (λ a b. lt (f a) (f b)) xs) ≡ in_order lt (map f xs)
  map_in_order [] = refl
  map_in_order (x ∷ xs) = map_put x (in_order (λ a b. lt (f a) (f b)) xs) ∙ ap (put_in_order lt (f x)) (map_in_order xs)
