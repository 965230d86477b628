-- The end ports of facts have no duplicates.
use Rattle.std.proofs.Common.{◌≡◌, ℕ, List, [], ◌∷◌, inl, inr, refl, sym, ap, ◌∙◌, Bool, true, false, cond, T, map}
use Rattle.std.proofs.lemmas.Bool.{and_parts}
use Rattle.std.specs.Prelude.{Contains, None, Some, option_map}
use Rattle.std.specs.List.{filter_map, cons_option}
use Rattle.std.specs.Ordering.{is_lt}
use Rattle.std.specs.Cmp.{tied_itself}
use Rattle.std.specs.FinMap.Entries.{is_sorted, below_all}
use Rattle.fact_join.specs.declared.cell.Cell.{Cell}
use Rattle.reply_facts.specs.declared.key.Key.{Key}
use Rattle.reply_facts.specs.declared.key.Key.TheVariants.{Node, PortGuid, Link, Port, Claim, Cap}
use Rattle.reply_facts.specs.declared.value.Value.{Value}
use Rattle.reply_facts.specs.Key.{key_cmp}
use Rattle.fact_store.specs.View.{Facts, cells_of}
use Rattle.fact_store.proofs.Entries.{cells_in_order}
use Rattle.subnet_view.specs.declared.end_port.EndPort.{EndPort}
use Rattle.reply_facts.specs.Known.{port_guid_of}
use Rattle.subnet_view.specs.Reading.{Cells}
use Rattle.subnet_view.specs.EndPort.{is_end_port_number, guid_and_port, comes_before, put_in_order, in_order, end_ports}
use Rattle.subnet_view.proofs.Apart.{Apart, apart-from_map}
use Rattle.reply_facts.proofs.Keys.{key_total}
use Rattle.subnet_view.proofs.Members.{contains_here, contains_later, contains_cases, contains_none, contains_as, contains_first}

-- keys in order --------------------------------------------------------------------

-- a test that holds is true
pub true_from : (b : Bool) → T b → b ≡ true
true_from true h = refl
true_from false h = absurd h

below_at : (k : Key) (es : Cells) (x : Key) → below_all key_cmp k es ≡ true → Contains (map (λ e. e.0) es) x → is_lt (key_cmp k x) ≡ true
below_at k [] x b h = absurd (contains_none x h)
below_at k (e ∷ es) x b h =
    let p = and_parts (is_lt (key_cmp k e.0)) (below_all key_cmp k es) b in
    elim (contains_cases e.0 x (map (λ e. e.0) es) h) [
      | inl i ↦ ap (λ y. is_lt (key_cmp k y)) (sym i) ∙ p.0
      | inr j ↦ below_at k es x p.1 j
    ]

not_below_itself : (k : Key) → is_lt (key_cmp k k) ≡ true → ⊥
not_below_itself k e = cc (ap is_lt (tied_itself key_total k))

keys_apart : (es : Cells) → is_sorted key_cmp es ≡ true → Apart (map (λ e. e.0) es)
keys_apart [] h = tt
keys_apart (e ∷ es) h =
    let p = and_parts (below_all key_cmp e.0 es) (is_sorted key_cmp es) h in
    (λ c. not_below_itself e.0 (below_at e.0 es e.0 p.0 c), keys_apart es p.1)

-- each end port comes from its own key -----------------------------------------------

one : {X : Type 0} (x y : X) → Some x ≡ Some y → x ≡ y
one x y e = cc

key_of : EndPort → Key
key_of e = PortGuid e.node e.port

port_key : (cells : Cells) (k : Key) (c : Cell Value) (x : ℕ × EndPort) → guid_and_port cells (k, c) ≡ Some x → k ≡ key_of x.1
unfolding key_of
port_key cells (PortGuid g p) c x e =
    elim (is_end_port_number cells g p) as (λ t. cond t (option_map (λ guid. (guid, record { node = g; port = p })) (port_guid_of cells g p)) None ≡ Some x
    → PortGuid g p ≡ PortGuid x.1.node x.1.port) [
      | true ↦ (elim (port_guid_of cells g p) as (λ o. option_map (λ guid. (guid, record { node = g; port = p })) o ≡ Some x
          → PortGuid g p ≡ PortGuid x.1.node x.1.port) [
            | None ↦ λ k. absurd (cc)
            | Some guid ↦ λ k. ap (λ (y : ℕ × EndPort). PortGuid y.1.node y.1.port) (one _ _ k)
          ])
      | false ↦ λ k. absurd (cc)
    ] e
port_key cells (Node g) c x e = absurd (cc)
port_key cells (Link g p) c x e = absurd (cc)
port_key cells (Port g p) c x e = absurd (cc)
port_key cells (Claim g p) c x e = absurd (cc)
port_key cells (Cap g) c x e = absurd (cc)

module _ (cells : Cells) where
  abbrev named : Cells → List EndPort
  named es = map (λ x. x.1) (filter_map (guid_and_port cells) es)

  named_by_keys : (es : Cells) (x : EndPort) → Contains (named es) x → Contains (map (λ e. e.0) es) (key_of x)
  named_by_keys [] x h = absurd (contains_none x h)
  named_by_keys (e ∷ es) x h =
      let rest = λ (k : Contains (named es) x). contains_later e.0 (key_of x) (map (λ e. e.0) es) (named_by_keys es x k) in
      elim (guid_and_port cells e) as (λ o. guid_and_port cells e ≡ o
      → Contains (map (λ y. y.1) (cons_option o (filter_map (guid_and_port cells) es))) x → Contains (e.0 ∷ map (λ e. e.0) es) (key_of x)) [
        | None ↦ λ q k. rest k
        | Some y ↦ λ q k. (elim (contains_cases y.1 x (named es) k) [
          | inl i ↦ contains_as (e.0 ∷ map (λ e. e.0) es) (port_key cells e.0 e.1 y q ∙ ap key_of i) (contains_here e.0 (map (λ e. e.0) es))
          | inr r ↦ rest r
        ])
      ] refl h

  named_apart : (es : Cells) → Apart (map (λ e. e.0) es) → Apart (named es)
  named_apart [] a = tt
  named_apart (e ∷ es) a =
      elim (guid_and_port cells e) as (λ o. guid_and_port cells e ≡ o → Apart (map (λ y. y.1) (cons_option o (filter_map (guid_and_port cells) es)))) [
        | None ↦ λ q. named_apart es a.1
        | Some y ↦ λ q. (λ h. a.0 (contains_as (map (λ e. e.0) es) (sym (port_key cells e.0 e.1 y q)) (named_by_keys es y.1 h)), named_apart es a.1)
      ] refl

-- their order ------------------------------------------------------------------------

put_from : (e : ℕ × EndPort) (xs : List (ℕ × EndPort)) (y : EndPort) → Contains (map (λ x. x.1) (put_in_order e xs)) y → Contains (e.1 ∷ map (λ x. x.1) xs) y
put_from e [] y h = h
put_from e (x ∷ xs) y h =
    elim (comes_before e x) as (λ t. Contains (map (λ x. x.1) (cond t (e ∷ x ∷ xs) (x ∷ put_in_order e xs))) y → Contains (e.1 ∷ x.1 ∷ map (λ x. x.1) xs) y) [
      | true ↦ λ k. k
      | false ↦ λ k. (elim (contains_cases x.1 y (map (λ x. x.1) (put_in_order e xs)) k) [
        | inl i ↦ contains_later e.1 y (x.1 ∷ map (λ x. x.1) xs) (contains_first (map (λ x. x.1) xs) i)
        | inr l ↦ (elim (contains_cases e.1 y (map (λ x. x.1) xs) (put_from e xs y l)) [
          | inl i ↦ contains_first (x.1 ∷ map (λ x. x.1) xs) i
          | inr m ↦ contains_later e.1 y (x.1 ∷ map (λ x. x.1) xs) (contains_later x.1 y (map (λ x. x.1) xs) m)
        ])
      ])
    ] h

put_apart : (e : ℕ × EndPort) (xs : List (ℕ × EndPort)) → Apart (e.1 ∷ map (λ x. x.1) xs) → Apart (map (λ x. x.1) (put_in_order e xs))
put_apart e [] a = a
put_apart e (x ∷ xs) a =
    elim (comes_before e x) as (λ t. Apart (map (λ x. x.1) (cond t (e ∷ x ∷ xs) (x ∷ put_in_order e xs)))) [
      | true ↦ a
      | false ↦ (
        λ h. (elim (contains_cases e.1 x.1 (map (λ x. x.1) xs) (put_from e xs x.1 h)) [
          | inl i ↦ a.0 (contains_as (x.1 ∷ map (λ x. x.1) xs) (sym i) (contains_here x.1 (map (λ x. x.1) xs)))
          | inr k ↦ a.1.0 k
        ]),
        put_apart e xs (λ h. a.0 (contains_later x.1 e.1 (map (λ x. x.1) xs) h), a.1.1),
      )
    ]

in_order_from : (xs : List (ℕ × EndPort)) (y : EndPort) → Contains (map (λ x. x.1) (in_order xs)) y → Contains (map (λ x. x.1) xs) y
in_order_from [] y h = h
in_order_from (x ∷ xs) y h =
    elim (contains_cases x.1 y (map (λ x. x.1) (in_order xs)) (put_from x (in_order xs) y h)) [
      | inl i ↦ contains_first (map (λ x. x.1) xs) i
      | inr k ↦ contains_later x.1 y (map (λ x. x.1) xs) (in_order_from xs y k)
    ]

in_order_apart : (xs : List (ℕ × EndPort)) → Apart (map (λ x. x.1) xs) → Apart (map (λ x. x.1) (in_order xs))
in_order_apart [] a = tt
in_order_apart (x ∷ xs) a = put_apart x (in_order xs) (λ h. a.0 (in_order_from xs x.1 h), in_order_apart xs a.1)

pub end_ports_apart : (facts : Facts) → Apart (end_ports (cells_of facts))
end_ports_apart facts =
    let keys = keys_apart (cells_of facts) (true_from _ (cells_in_order facts)) in
    in_order_apart (filter_map (guid_and_port (cells_of facts)) (cells_of facts)) (named_apart (cells_of facts) (cells_of facts) keys)

-- the end ports with their GUIDs, in the order of keys
abbrev pub found_end_ports : Facts → List (ℕ × EndPort)
found_end_ports facts = filter_map (guid_and_port (cells_of facts)) (cells_of facts)

-- no end port is found twice
pub found_apart : (facts : Facts) → Apart (found_end_ports facts)
found_apart facts =
    let keys = keys_apart (cells_of facts) (true_from _ (cells_in_order facts)) in
    apart-from_map (λ x. x.1) (found_end_ports facts) (named_apart (cells_of facts) (cells_of facts) keys)
