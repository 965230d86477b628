-- A wire goes both ways.
use Rattle.std.proofs.Common.{◌≡◌, ℕ, refl, sym, ap, ◌∙◌, Bool, true, false, cond, ◌==◌, ◌&&◌, not}
use Rattle.std.proofs.lemmas.Bool.{eqb-true, eq-eqb}
use Rattle.std.specs.Prelude.{Option, None, Some, option_and_then}
use Rattle.std.specs.Option.{option_map_or}
use Rattle.reply_facts.specs.Known.{link_of}
use Rattle.subnet_view.specs.Reading.{Cells}
use Rattle.subnet_view.specs.Wires.{is_wire_end, is_at, is_wire, across, WiresGoBothWays}

and_first : (a b : Bool) → (a && b) ≡ true → a ≡ true
and_first true b e = refl
and_first false b e = cc

and_second : (a b : Bool) → (a && b) ≡ true → b ≡ true
and_second true b e = e
and_second false b e = cc

and_both : (a b : Bool) → a ≡ true → b ≡ true → (a && b) ≡ true
and_both a b e f = ap (λ x. x && b) e ∙ f

pub same_port : (g p : ℕ) (q : ℕ × ℕ) → is_at g p q ≡ true → q ≡ (g, p)
same_port g p q e =
    let a : g ≡ q.0 = eqb-true g q.0 (and_first (g == q.0) (p == q.1) e) in
    let b : p ≡ q.1 = eqb-true p q.1 (and_second (g == q.0) (p == q.1) e) in
    λ i. (sym a i, sym b i)

pub at_itself : (g p : ℕ) → is_at g p (g, p) ≡ true
at_itself g p = and_both (g == g) (p == p) (eq-eqb g g refl) (eq-eqb p p refl)

-- if the one isn't the other then the other isn't the one
turned : (g p : ℕ) (q : ℕ × ℕ) → not (is_at g p q) ≡ true → not (is_at q.0 q.1 (g, p)) ≡ true
turned g p q e =
    elim (is_at q.0 q.1 (g, p)) as (λ t. is_at q.0 q.1 (g, p) ≡ t → not t ≡ true) [
      | true ↦ λ k. let r : is_at g p q ≡ true = ap (is_at g p) (sym (same_port q.0 q.1 (g, p) k)) ∙ at_itself g p in absurd (cc)
      | false ↦ λ k. refl
    ] refl

pub record IsLinked (cells : Cells) (g p : ℕ) (q : ℕ × ℕ) : Type 0 where
  pub named_there : link_of cells g p ≡ Some q
  pub named_back : link_of cells q.0 q.1 ≡ Some (g, p)
  pub apart : not (is_at g p q) ≡ true
  pub here : is_wire_end cells g p ≡ true
  pub there : is_wire_end cells q.0 q.1 ≡ true

one : (x y : ℕ × ℕ) → Some x ≡ Some y → x ≡ y
one x y e = cc

named : (g p : ℕ) (o : Option (ℕ × ℕ)) → option_map_or (is_at g p) o false ≡ true → o ≡ Some (g, p)
named g p None e = absurd (cc)
named g p (Some q) e = ap (λ (x : ℕ × ℕ). Some x) (same_port g p q e)

-- the test says just that
pub linked : (cells : Cells) (g p : ℕ) (q : ℕ × ℕ) → across cells g p ≡ Some q → IsLinked cells g p q
linked cells g p q e =
    elim (link_of cells g p) as (λ o. link_of cells g p ≡ o → option_and_then (λ x. cond (is_wire cells g p x) (Some x) None) o ≡ Some q
    → IsLinked cells g p q) [
      | None ↦ λ k f. absurd (cc)
      | Some x ↦ λ k f. (elim (is_wire cells g p x) as (λ t. is_wire cells g p x ≡ t → cond t (Some x) None ≡ Some q → IsLinked cells g p q) [
        | true ↦ λ w h.
            let i : x ≡ q = one x q h in
            let v : is_wire cells g p q ≡ true = ap (is_wire cells g p) (sym i) ∙ w in
            let back = option_map_or (is_at g p) (link_of cells q.0 q.1) false in
            let front = (not (is_at g p q) && is_wire_end cells g p) && is_wire_end cells q.0 q.1 in
            let f3 = and_first front back v in
            let f2 = and_first (not (is_at g p q) && is_wire_end cells g p) (is_wire_end cells q.0 q.1) f3 in
            record {
              named_there = k ∙ ap (λ (y : ℕ × ℕ). Some y) i;
              named_back = named g p (link_of cells q.0 q.1) (and_second front back v);
              apart = and_first (not (is_at g p q)) (is_wire_end cells g p) f2;
              here = and_second (not (is_at g p q)) (is_wire_end cells g p) f2;
              there = and_second (not (is_at g p q) && is_wire_end cells g p) (is_wire_end cells q.0 q.1) f3;
            }
        | false ↦ λ w h. absurd (cc)
      ] refl f)
    ] refl e

pub across_from : (cells : Cells) (g p : ℕ) (q : ℕ × ℕ) → IsLinked cells g p q → across cells g p ≡ Some q
across_from cells g p q l =
    let back : option_map_or (is_at g p) (link_of cells q.0 q.1) false ≡ true = ap (λ o. option_map_or (is_at g p) o false) l.named_back ∙ at_itself g p in
    let w : is_wire cells g p q ≡ true =
    and_both ((not (is_at g p q) && is_wire_end cells g p)
    && is_wire_end cells q.0 q.1) (option_map_or (is_at g p) (link_of cells q.0 q.1) false) (and_both (not (is_at g p q)
    && is_wire_end cells g p) (is_wire_end cells q.0 q.1) (and_both (not (is_at g p q)) (is_wire_end cells g p) l.apart l.here) l.there) back in
    ap (option_and_then (λ x. cond (is_wire cells g p x) (Some x) None)) l.named_there ∙ ap (λ t. cond t (Some q) None) w

-- the wire in the other end leads back
pub across_back : (cells : Cells) (g p : ℕ) (q : ℕ × ℕ) → across cells g p ≡ Some q → across cells q.0 q.1 ≡ Some (g, p)
across_back cells g p q e =
    let l = linked cells g p q e in
    across_from cells q.0 q.1 (g, p) (record {
      named_there = l.named_back;
      named_back = l.named_there;
      apart = turned g p q l.apart;
      here = l.there;
      there =
          l.here;
    })

-- whatever the ends are called
pub wires_go_both_ways : WiresGoBothWays
wires_go_both_ways cells g p h q e = across_back cells g p (h, q) e
