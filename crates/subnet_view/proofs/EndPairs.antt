-- Wires, by the links of the ports that can have a wire.
use Rattle.std.proofs.Common.{◌≡◌, ℕ, Bool, true, false, cond, not, ◌&&◌, refl, sym, ap, ◌∙◌}
use Rattle.std.specs.Prelude.{Option, None, Some, option_and_then}
use Rattle.std.specs.Option.{option_map_or}
use Rattle.reply_facts.specs.Known.{link_of}
use Rattle.subnet_view.specs.Reading.{Cells}
use Rattle.subnet_view.specs.WireEnds.{end_link, is_pair}
use Rattle.subnet_view.specs.Wires.{across, is_at, is_wire, is_wire_end}

-- where the near port can have a wire, it has one where the links that lead there and back are those of such ports
one_side : (other near far : Bool) (link : Option (ℕ × ℕ)) (back : ℕ × ℕ → Bool) → near ≡ true
    → (other && near && far && option_map_or back link false) ≡ (other && option_map_or back (cond far link None) false)
one_side other near far link back e = ap (λ n. other && n && far && option_map_or back link false) e ∙ by_far other far
  where
    by_far : (other far : Bool)
        → (other && true && far && option_map_or back link false) ≡ (other && option_map_or back (cond far link None) false)
    by_far true true = refl
    by_far true false = refl
    by_far false far = refl

neither : (other near far back : Bool) → near ≡ false → (other && near && far && back) ≡ false
neither other near far back e = ap (λ n. other && n && far && back) e ∙ none other
  where
    none : (o : Bool) → (o && false && far && back) ≡ false
    none true = refl
    none false = refl

module _ (cells : Cells) (g p : ℕ) where
  abbrev with_back : ℕ × ℕ → Option (ℕ × ℕ)
  with_back q = cond (is_pair (g, p) q (end_link cells q.0 q.1)) (Some q) None

  -- what is across by the links of the ports that can have a wire
  pub across_by_ends : across cells g p ≡ option_and_then with_back (end_link cells g p)
  across_by_ends =
      elim (is_wire_end cells g p) as (λ t. is_wire_end cells g p ≡ t
      → across cells g p ≡ option_and_then with_back (cond t (link_of cells g p) None)) [
        | true ↦ λ e. (elim (link_of cells g p) as
            (λ o. option_and_then (λ q. cond (is_wire cells g p q) (Some q) None) o ≡ option_and_then with_back o) [
              | None ↦ refl
              | Some q ↦ ap (λ t. cond t (Some q) None)
                  (one_side (not (is_at g p q)) (is_wire_end cells g p) (is_wire_end cells q.0 q.1) (link_of cells q.0 q.1) (is_at g p) e)
            ])
        | false ↦ λ e. (elim (link_of cells g p) as (λ o. option_and_then (λ q. cond (is_wire cells g p q) (Some q) None) o ≡ None) [
          | None ↦ refl
          | Some q ↦ ap (λ t. cond t (Some q) None)
              (neither (not (is_at g p q)) (is_wire_end cells g p) (is_wire_end cells q.0 q.1)
              (option_map_or (is_at g p) (link_of cells q.0 q.1) false) e)
        ])
      ] refl

  -- a port without such a link has no wire
  pub no_end : end_link cells g p ≡ None → across cells g p ≡ None
  no_end e = across_by_ends ∙ ap (option_and_then with_back) e

  -- one that has a link has a wire as the test says
  pub across_at : (q : ℕ × ℕ) (b : Option (ℕ × ℕ)) (t : Bool) → end_link cells g p ≡ Some q → b ≡ end_link cells q.0 q.1
      → is_pair (g, p) q b ≡ t → across cells g p ≡ cond t (Some q) None
  across_at q b t e back test =
      across_by_ends ∙ ap (option_and_then with_back) e ∙ ap (λ (o : Option (ℕ × ℕ)). cond (is_pair (g, p) q o) (Some q) None) (sym back)
      ∙ ap (λ s. cond s (Some q) None) test
