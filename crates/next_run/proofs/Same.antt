-- Lists are the same if a test of their items finds each two of them the same.
use Rattle.std.proofs.Common.{◌≡◌, ◌↔◌, ◌∙◌, ◌==◌, ◌&&◌, IsTrue, Bool, true, List, ap, sym}
use Rattle.std.specs.Cmp.Lexicographic.{pointwise, pointwise_decides, bytes_decides}
use Rattle.std.proofs.lemmas.Bool.{and_parts, eq-eqb, eqb-true}
use Rattle.held_tables.specs.declared.held.HeldLid.{HeldLid}
use Rattle.held_tables.specs.declared.held.HeldSwitch.{HeldSwitch}
use Rattle.held_tables.specs.declared.held.HeldBlock.{HeldBlock}

pub same_lists : {A : Type 0} (E : A → A → Bool) → ((x y : A) → (E x y ≡ true → x ≡ y) × (x ≡ y → E x y ≡ true)) → (xs ys : List A) (r : Bool)
    → r ≡ pointwise E xs ys → IsTrue r ↔ (xs ≡ ys)
same_lists E decides xs ys r is =
    let both = pointwise_decides decides xs ys in (λ t. both.0 (sym is ∙ t), λ e. is ∙ both.1 e)

pub same_lids : (x y : HeldLid)
    → (((x.lid == y.lid) && ((x.port.node == y.port.node) && (x.port.port == y.port.port))) ≡ true → x ≡ y)
    × (x ≡ y → ((x.lid == y.lid) && ((x.port.node == y.port.node) && (x.port.port == y.port.port))) ≡ true)
same_lids x y = (
  λ h. (
      let one = and_parts (x.lid == y.lid) _ h in
      let two = and_parts (x.port.node == y.port.node) _ one.1 in
      let lid = eqb-true x.lid y.lid one.0 in
      let node = eqb-true x.port.node y.port.node two.0 in
      let port = eqb-true x.port.port y.port.port two.1 in
      λ i. record { lid = lid i; port = record { node = node i; port = port i } }),
  λ e i. eq-eqb x.lid y.lid (ap (λ (l : HeldLid). l.lid) e) i
      && (eq-eqb x.port.node y.port.node (ap (λ (l : HeldLid). l.port.node) e) i && eq-eqb x.port.port y.port.port (ap (λ (l : HeldLid). l.port.port) e) i),
)

pub same_switches : (x y : HeldSwitch) → (((x.guid == y.guid) && (x.top == y.top)) ≡ true → x ≡ y) × (x ≡ y → ((x.guid == y.guid) && (x.top == y.top)) ≡ true)
same_switches x y = (
  λ h. (
      let both = and_parts (x.guid == y.guid) _ h in
      let guid = eqb-true x.guid y.guid both.0 in
      let top = eqb-true x.top y.top both.1 in
      λ i. record { guid = guid i; top = top i }),
  λ e i. eq-eqb x.guid y.guid (ap (λ (s : HeldSwitch). s.guid) e) i && eq-eqb x.top y.top (ap (λ (s : HeldSwitch). s.top) e) i,
)

pub same_blocks : (x y : HeldBlock)
    → (((x.switch == y.switch) && ((x.number == y.number) && pointwise (λ a b. a == b) x.entries y.entries)) ≡ true → x ≡ y)
    × (x ≡ y → ((x.switch == y.switch) && ((x.number == y.number) && pointwise (λ a b. a == b) x.entries y.entries)) ≡ true)
same_blocks x y = (
  λ h. (
      let one = and_parts (x.switch == y.switch) _ h in
      let two = and_parts (x.number == y.number) _ one.1 in
      let switch = eqb-true x.switch y.switch one.0 in
      let number = eqb-true x.number y.number two.0 in
      let entries = (bytes_decides x.entries y.entries).0 two.1 in
      λ i. record { switch = switch i; number = number i; entries = entries i }),
  λ e i. eq-eqb x.switch y.switch (ap (λ (b : HeldBlock). b.switch) e) i
      && (eq-eqb x.number y.number (ap (λ (b : HeldBlock). b.number) e) i && (bytes_decides x.entries y.entries).1 (ap (λ (b : HeldBlock). b.entries) e) i),
)
