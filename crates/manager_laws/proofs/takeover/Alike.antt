-- Views that tell one subnet have the same end ports, switches and wires in every reading that a plan takes of them.
use Rattle.std.proofs.Common.{◌≡◌, ◌<◌, ◌⊎◌, inl, inr, ℕ, suc, List, [], ◌∷◌, refl, sym, ap, ◌∙◌, subst, arith, true}
use Rattle.std.specs.Prelude.{Option, None, Some, Contains, AllPairs, is_some}
use Rattle.std.specs.List.{filter_map, cons_option}
use Rattle.fact_store.specs.View.{Facts, cells_of}
use Rattle.subnet_view.specs.declared.end_port.EndPort.{EndPort}
use Rattle.reply_facts.specs.Known.{port_guid_of, cap_of}
use Rattle.subnet_view.specs.Reading.{is_usable, switches, IsUsable}
use Rattle.subnet_view.specs.EndPort.{end_ports, ComesBefore}
use Rattle.subnet_view.specs.Wires.{across}
use Rattle.subnet_view.proofs.EndPortList.{end_ports_law}
use Rattle.subnet_view.proofs.EndPortOrder.{one_way, less_from_test}
use Rattle.subnet_view.proofs.Members.{contains_here, contains_later, contains_cases, contains_none}
use Rattle.subnet_view.proofs.Components.{same_tests}
use Rattle.subnet_view.proofs.UsableSwitches.{switches_law, usable_law}
use Rattle.subnet_view.proofs.WireLaws.{wire_law}
use Rattle.lid_assign.specs.Claims.{room, least_room}
use Rattle.manager_laws.specs.OnePlan.{IsAlike}

-- two options that hold the same values are the same
same_option : {X : Type 0} (a b : Option X) → ((x : X) → a ≡ Some x → b ≡ Some x) → ((x : X) → b ≡ Some x → a ≡ Some x) → a ≡ b
same_option None None h k = refl
same_option (Some x) b h k = sym (h x refl)
same_option None (Some x) h k = k x refl

-- lists in which each comes before the later ones, with the same members, are the same
module _ {X : Type 0} (R S : X → X → Type 0) where
  heads : (x : X) (xs : List X) (T : X → X → Type 0) → AllPairs T (x ∷ xs) → (y : X) → Contains xs y → T x y
  heads x xs T pairs y h = subst (λ (z : X). T x z) h.2 (pairs 0 (suc h.0) y (omega arith) (omega (arith, h.1)))

  tails : (x : X) (xs : List X) (T : X → X → Type 0) → AllPairs T (x ∷ xs) → AllPairs T xs
  tails x xs T pairs i j d p q = pairs (suc i) (suc j) d (omega (arith, p)) (omega (arith, q))

  pub same_list : (xs ys : List X) → AllPairs R xs → AllPairs S ys → ((x : X) → Contains xs x → R x x → ⊥) → ((x : X) → Contains ys x → S x x → ⊥)
      → ((x y : X) → Contains xs x → Contains xs y → R x y → S y x → ⊥)
      → ((x : X) → Contains xs x → Contains ys x) → ((x : X) → Contains ys x → Contains xs x) → xs ≡ ys
  same_list [] [] r s ri si clash h k = refl
  same_list [] (y ∷ ys) r s ri si clash h k = absurd (contains_none y (k y (contains_here y ys)))
  same_list (x ∷ xs) [] r s ri si clash h k = absurd (contains_none x (h x (contains_here x xs)))
  same_list (x ∷ xs) (y ∷ ys) r s ri si clash h k =
      let same : x ≡ y = first (contains_cases y x ys (h x (contains_here x xs))) (contains_cases x y xs (k y (contains_here y ys))) in
      let rest = same_list xs ys (tails x xs R r) (tails y ys S s) (λ z m. ri z (contains_later x z xs m)) (λ z m. si z (contains_later y z ys m))
      (λ a b m n. clash a b (contains_later x a xs m) (contains_later x b xs n))
      (λ z m. from_ys z (contains_cases y z ys (h z (contains_later x z xs m)))
      (λ e. ri x (contains_here x xs) (subst (λ (w : X). R x w) (sym e ∙ sym same) (heads x xs R r z m))))
      (λ z m. from_xs z (contains_cases x z xs (k z (contains_later y z ys m)))
      (λ e. si y (contains_here y ys) (subst (λ (w : X). S y w) (sym e ∙ same) (heads y ys S s z m)))) in
      λ i. same i ∷ rest i
    where
      first : (y ≡ x) ⊎ Contains ys x → (x ≡ y) ⊎ Contains xs y → x ≡ y
      first (inl e) b = sym e
      first (inr m) (inl e) = e
      first (inr m) (inr n) = absurd (clash x y (contains_here x xs) (contains_later x y xs n) (heads x xs R r y n) (heads y ys S s x m))

      from_ys : (z : X) → (y ≡ z) ⊎ Contains ys z → (y ≡ z → ⊥) → Contains ys z
      from_ys z (inl e) n = absurd (n e)
      from_ys z (inr m) n = m

      from_xs : (z : X) → (x ≡ z) ⊎ Contains xs z → (x ≡ z → ⊥) → Contains xs z
      from_xs z (inl e) n = absurd (n e)
      from_xs z (inr m) n = m

-- readings of the elements of a list that are the same
pub filter_map_same : {X Y : Type 0} (f g : X → Option Y) (xs : List X) → ((x : X) → Contains xs x → f x ≡ g x) → filter_map f xs ≡ filter_map g xs
filter_map_same f g [] h = refl
filter_map_same f g (x ∷ xs) h =
    let one = h x (contains_here x xs) in let rest = filter_map_same f g xs (λ y m. h y (contains_later x y xs m)) in λ i. cons_option (one i) (rest i)

module _ (x y : Facts) (alike : IsAlike (cells_of x) (cells_of y)) where
  guid_in_x : (z : Facts) (e : EndPort) → Contains (end_ports (cells_of z)) e → (n : ℕ) × (port_guid_of (cells_of z) e.node e.port ≡ Some n)
  guid_in_x z e h =
      let (kind, ports, is, number, known) = ((end_ports_law z).0 e).0 h in
      by_known (port_guid_of (cells_of z) e.node e.port) refl known
    where
      by_known : (o : Option ℕ) → port_guid_of (cells_of z) e.node e.port ≡ o → is_some o ≡ true → (n : ℕ) × (port_guid_of (cells_of z) e.node e.port ≡ Some n)
      by_known None q k = absurd (cc)
      by_known (Some n) q k = (n, q)

  never_itself : (z : Facts) (e : EndPort) → Contains (end_ports (cells_of z)) e → ComesBefore (cells_of z) e e → ⊥
  never_itself z e h before =
      let (n, known) = guid_in_x z e h in
      let less = less_from_test _ (before n n known known) in
      one_way (n, e) (n, e) less less

  pub end_ports_same : end_ports (cells_of x) ≡ end_ports (cells_of y)
  end_ports_same =
      same_list (ComesBefore (cells_of x)) (ComesBefore (cells_of y)) (end_ports (cells_of x)) (end_ports (cells_of y)) (end_ports_law x).1 (end_ports_law y).1
      (never_itself x) (never_itself y) clash
      (λ e h. ((end_ports_law y).0 e).1 ((alike.end_ports e.node e.port).0 (((end_ports_law x).0 e).0 h)))
      (λ e h. ((end_ports_law x).0 e).1 ((alike.end_ports e.node e.port).1 (((end_ports_law y).0 e).0 h)))
    where
      clash : (a b : EndPort) → Contains (end_ports (cells_of x)) a → Contains (end_ports (cells_of x)) b → ComesBefore (cells_of x) a b
          → ComesBefore (cells_of y) b a → ⊥
      clash a b h k before after =
          let (m, one) = guid_in_x x a h in
          let (n, other) = guid_in_x x b k in
          let one_there = sym (alike.port_guids a.node a.port (((end_ports_law x).0 a).0 h)) ∙ one in
          let other_there = sym (alike.port_guids b.node b.port (((end_ports_law x).0 b).0 k)) ∙ other in
          one_way (m, a) (n, b) (less_from_test _ (before m n one other)) (less_from_test _ (after n m other_there one_there))

  pub switches_same : switches (cells_of x) ≡ switches (cells_of y)
  switches_same =
      same_list (λ a b. a < b) (λ a b. a < b) (switches (cells_of x)) (switches (cells_of y)) (switches_law x).1 (switches_law y).1
      (λ g h less. absurd (omega (arith, less))) (λ g h less. absurd (omega (arith, less))) (λ a b h k less more. absurd (omega (arith, less, more)))
      (λ g h. ((switches_law y).0 g).1 ((alike.switches g).0 (((switches_law x).0 g).0 h)))
      (λ g h. ((switches_law x).0 g).1 ((alike.switches g).1 (((switches_law y).0 g).0 h)))

  usable_there : (g : ℕ) → Contains (switches (cells_of x)) g → IsUsable (cells_of x) g
  usable_there g h = ((switches_law x).0 g).0 h

  pub usable_same : (g : ℕ) → is_usable (cells_of x) g ≡ is_usable (cells_of y) g
  usable_same g =
      same_tests (is_usable (cells_of x) g) (is_usable (cells_of y) g)
      (λ e. (usable_law (cells_of y) g).1 ((alike.switches g).0 ((usable_law (cells_of x) g).0 e)))
      (λ e. (usable_law (cells_of x) g).1 ((alike.switches g).1 ((usable_law (cells_of y) g).0 e)))

  pub across_same : (g p : ℕ) → across (cells_of x) g p ≡ across (cells_of y) g p
  across_same g p =
      same_option (across (cells_of x) g p) (across (cells_of y) g p)
      (λ q e. (wire_law (cells_of y) g p q.0 q.1).1 ((alike.wires g p q.0 q.1).0 ((wire_law (cells_of x) g p q.0 q.1).0 e)))
      (λ q e. (wire_law (cells_of x) g p q.0 q.1).1 ((alike.wires g p q.0 q.1).1 ((wire_law (cells_of y) g p q.0 q.1).0 e)))

  pub room_same : room (cells_of x) ≡ room (cells_of y)
  room_same =
      ap least_room (filter_map_same (cap_of (cells_of x)) (cap_of (cells_of y)) (switches (cells_of x)) (λ g h. alike.caps g (usable_there g h))
      ∙ ap (filter_map (cap_of (cells_of y))) switches_same)
