-- The manager's LID is the LID of its first end port by node GUID, since end ports come in that order.
use Rattle.std.proofs.Common.{◌≡◌, ◌<◌, ℕ, suc, List, [], ◌∷◌, inl, inr, refl, sym, ap, ◌∙◌, subst, Bool, true, false, cond, ◌==◌, map, arith}
use Rattle.std.proofs.lemmas.Bool.{eqb-true, eq-eqb, ltb-true, and_parts, and_from}
use Rattle.std.specs.Prelude.{Contains, Option, None, Some, nat_lt}
use Rattle.std.specs.Option.{option_map_or}
use Rattle.std.specs.List.{find, AllPairs}
use Rattle.std.specs.declared.cmp.Ordering.TheVariants.{Less, Equal, Greater}
use Rattle.std.specs.Ordering.{is_lt, ordering_then}
use Rattle.fact_store.specs.View.{cells_of}
use Rattle.subnet_view.specs.declared.end_port.EndPort.{EndPort}
use Rattle.reply_facts.specs.Known.{port_guid_of}
use Rattle.subnet_view.specs.Reading.{Cells}
use Rattle.subnet_view.specs.EndPort.{comes_before, ComesBefore}
use Rattle.subnet_view.proofs.EndPortList.{end_ports_law}
use Rattle.subnet_view.proofs.Members.{contains_here, contains_later, contains_cases, contains_none}
use Rattle.lid_assign.specs.Lids.{lids}
use Rattle.lid_assign.proofs.LidLaws.{ports-lids}
use Rattle.plan_steps.specs.LidSteps.{is_own_port, own_lid, IsOwnPort, IsOwnLidOr0, OwnLidLaw}

-- the order of end ports of one GUID and number ----------------------------------------------

by_node : (x y a b c d : Bool) → x ≡ false → c ≡ false
    → is_lt (ordering_then (cond x Less (cond y Equal Greater))
    (ordering_then (cond a Less (cond b Equal Greater)) (ordering_then (cond c Less (cond d Equal Greater)) Equal))) ≡ true → a ≡ true
by_node true y a b c d p q e = absurd (cc)
by_node false false a b c d p q e = absurd (cc)
by_node false true true b c d p q e = refl
by_node false true false false c d p q e = absurd (cc)
by_node false true false true true d p q e = absurd (cc)
by_node false true false true false true p q e = absurd (cc)
by_node false true false true false false p q e = absurd (cc)

not_below : (m n : ℕ) → m ≡ n → nat_lt m n ≡ false
not_below m n e =
    elim (nat_lt m n) as (λ t. nat_lt m n ≡ t → t ≡ false) [
      | true ↦ λ q. let h : m < n = ltb-true m n q in absurd (omega (arith, h, e))
      | false ↦ λ q. refl
    ] refl

node_below : (guid : ℕ) (a b : EndPort) → a.port ≡ b.port → comes_before (guid, a) (guid, b) ≡ true → a.node < b.node
node_below guid a b same e =
    ltb-true a.node b.node (by_node (nat_lt guid guid) (guid == guid) (nat_lt a.node b.node) (a.node == b.node) (nat_lt a.port b.port) (a.port == b.port)
    (not_below guid guid refl) (not_below a.port b.port same) e)

module _ {X : Type 0} (R : X → X → Type 0) (x : X) (xs : List X) (pairs : AllPairs R (x ∷ xs)) where
  before_later : (y : X) → Contains xs y → R x y
  before_later y h = subst (λ (z : X). R x z) h.2 (pairs 0 (suc h.0) y (omega arith) (omega (arith, h.1)))

  later_pairs : AllPairs R xs
  later_pairs i j d p q = pairs (suc i) (suc j) d (omega (arith, p)) (omega (arith, q))

-- the first that is found ----------------------------------------------------------------------

module _ (cells : Cells) (port_guid port : ℕ) where
  known_guid : (o : Option ℕ) → option_map_or (λ guid. guid == port_guid) o false ≡ true → o ≡ Some port_guid
  known_guid None e = absurd (cc)
  known_guid (Some guid) e = ap (λ n. Some n) (eqb-true guid port_guid e)

  own_from_test : (e : EndPort) → is_own_port cells port_guid port e ≡ true → IsOwnPort cells port_guid port e
  own_from_test e h =
      let a = and_parts (e.port == port) (option_map_or (λ guid. guid == port_guid) (port_guid_of cells e.node e.port) false) h in
      (eqb-true e.port port a.0, known_guid (port_guid_of cells e.node e.port) a.1)

  test_from_own : (e : EndPort) → IsOwnPort cells port_guid port e → is_own_port cells port_guid port e ≡ true
  test_from_own e h =
      and_from (e.port == port) (option_map_or (λ guid. guid == port_guid) (port_guid_of cells e.node e.port) false) (eq-eqb e.port port h.0)
      (ap (λ o. option_map_or (λ guid. guid == port_guid) o false) h.1 ∙ eq-eqb port_guid port_guid refl)

  contains_port : (given : List (EndPort × ℕ)) (e : EndPort) (n : ℕ) → Contains given (e, n) → Contains (map (λ x. x.0) given) e
  contains_port [] e n h = absurd (contains_none (e, n) h)
  contains_port (x ∷ given) e n h =
      elim (contains_cases x (e, n) given h) [
        | inl i ↦ subst (λ (y : EndPort × ℕ). Contains (y.0 ∷ map (λ z. z.0) given) e) (sym i) (contains_here e (map (λ z. z.0) given))
        | inr k ↦ contains_later x.0 e (map (λ z. z.0) given) (contains_port given e n k)
      ]

  own_lid_is : (given : List (EndPort × ℕ)) → AllPairs (ComesBefore cells) (map (λ x. x.0) given)
      → IsOwnLidOr0 cells given port_guid port (own_lid cells given port_guid port)
  own_lid_is [] pairs = inr (λ e n h own. contains_none (e, n) h, refl)
  own_lid_is (x ∷ given) pairs =
      elim (is_own_port cells port_guid port x.0) as (λ t. is_own_port cells port_guid port x.0 ≡ t
      → IsOwnLidOr0 cells (x ∷ given) port_guid port (option_map_or (λ y. y.1) (cond t (Some x) (find (λ y. is_own_port cells port_guid port y.0) given)) 0)) [
        | true ↦ λ q.
            let own = own_from_test x.0 q in
            inl (record {
              end = x.0;
              held = contains_here x given;
              own = own;
              first = λ e n h there. (elim (contains_cases x (e, n) given h) [
                | inl i ↦ let same : x.0.node ≡ e.node = ap (λ y. y.0.node) i in omega (arith, same)
                | inr k ↦
                    let comes = before_later (ComesBefore cells) x.0 (map (λ z. z.0) given) pairs e (contains_port given e n k) in
                    let below = node_below port_guid x.0 e (own.0 ∙ sym there.0) (comes port_guid port_guid own.1 there.1) in
                    omega (arith, below)
              ]);
            })
        | false ↦ λ q.
            let other : (e : EndPort) (n : ℕ) → x ≡ (e, n) → IsOwnPort cells port_guid port e → ⊥ =
            λ e n i own. let t : is_own_port cells port_guid port x.0 ≡ true =
            ap (λ y. is_own_port cells port_guid port y.0) i ∙ test_from_own e own in absurd (cc) in
            (elim (own_lid_is given (later_pairs (ComesBefore cells) x.0 (map (λ z. z.0) given) pairs)) [
              | inl r ↦ inl (record {
                end = r.end;
                held = contains_later x (r.end, own_lid cells given port_guid port) given r.held;
                own = r.own;
                first = λ e n h there. (elim (contains_cases x (e, n) given h) [
                  | inl i ↦ absurd (other e n i there)
                  | inr k ↦ r.first e n k there
                ]);
              })
              | inr r ↦ inr (
                λ e n h there. (elim (contains_cases x (e, n) given h) [ inl i ↦ other e n i there | inr k ↦ r.0 e n k there ]),
                r.1,
              )
            ])
      ] refl

pub own_lid_law : OwnLidLaw
own_lid_law lmc facts room_for_all port_guid port =
    own_lid_is (cells_of facts) port_guid port (lids lmc (cells_of facts)).ports
    (subst (λ (es : List EndPort). AllPairs (ComesBefore (cells_of facts)) es) (sym (ports-lids lmc (cells_of facts) room_for_all)) (end_ports_law facts).1)
