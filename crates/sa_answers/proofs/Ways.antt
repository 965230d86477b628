-- A packet that is followed to its end goes along wires, and what was found is the least of what their ports let through.
-- A packet that goes along wires to its end is followed to it in one step more than there are wires.
use Rattle.std.proofs.Common.{◌≡◌, ◌<◌, ℕ, zero, suc, Bool, true, false, cond, List, [], ◌∷◌, length, Option, None, Some, refl, sym, ap, ◌∙◌, arith}
use Rattle.std.proofs.lemmas.Bool.{and_from, and_parts, eq-eqb, eqb-true}
use Rattle.std.proofs.lemmas.Option.{same_Some}
use Rattle.std.specs.Prelude.{◌==◌}
use Rattle.subnet_view.specs.declared.end_port.EndPort.{EndPort}
use Rattle.subnet_view.specs.Wires.{across}
use Rattle.sa_answers.specs.Told.{Told}
use Rattle.sa_answers.specs.Way.{GoesAlong, Wire, after_step, followed, gone_on, is_port, least_of, over, over_wire, ports_of, step_at}
use Rattle.sa_answers.specs.declared.bound.Bound.{Bound}
use Rattle.sa_answers.specs.declared.way.WayStep.TheVariants.{Takes, Leaves, Drops}

-- what is chosen under a test is there only if the test holds
there_if : (b : Bool) (least bound : Bound) → cond b (Some least) None ≡ Some bound → (b ≡ true) × (least ≡ bound)
there_if true least bound e = (refl, same_Some least bound e)
there_if false least bound e = absurd (cc)

module _ (told : Told) (lid : ℕ) (owner : EndPort) where
  -- a way that was found
  pub record Found (at : ℕ × ℕ) (by_wire : Bool) (least bound : Bound) : Type 0 where
    pub wires : List Wire
    pub goes : GoesAlong told lid owner at by_wire wires
    pub least_is : bound ≡ least_of told least (ports_of wires)

  abbrev onward : ℕ → ℕ × ℕ → Bound → Option Bound
  onward n into less = followed told lid owner n into true less

  pub found : (n : ℕ) (at : ℕ × ℕ) (by_wire : Bool) (least bound : Bound) → followed told lid owner n at by_wire least ≡ Some bound
      → Found at by_wire least bound
  found zero at by_wire least bound e = absurd (cc)
  found (suc n) at by_wire least bound e =
      elim (step_at told lid owner at by_wire) as (λ s. step_at told lid owner at by_wire ≡ s → gone_on (onward n) (after_step told owner at least s) ≡ Some bound
      → Found at by_wire least bound) [
        | Takes port ↦ λ s t.
            let (here, same) = there_if (is_port owner (at.0, port)) least bound t in
            let parts = and_parts (at.0 == owner.node) (port == owner.port) here in
            record {
              wires = [];
              goes = (s ∙ ap Takes (eqb-true port owner.port parts.1), eqb-true at.0 owner.node parts.0);
              least_is = sym same;
            }
        | Drops ↦ λ s t. absurd (cc)
        | Leaves port ↦ λ s t.
            elim (across told.cells at.0 port) as (λ o. across told.cells at.0 port ≡ o → gone_on (onward n) (over told least (at.0, port) o) ≡ Some bound
            → Found at by_wire least bound) [
              | None ↦ λ w u. absurd (cc)
              | Some into ↦ λ w u.
                  let rest = found n into true (over_wire told least (at.0, port) into) bound u in
                  record {
                    wires = record { out = (at.0, port); into = into } ∷ rest.wires;
                    goes = (s, refl, w, rest.goes);
                    least_is = rest.least_is;
                  }
            ] refl t
      ] refl e

  -- a packet that is followed in some number of steps
  pub followed_along : (wires : List Wire) (n : ℕ) (at : ℕ × ℕ) (by_wire : Bool) (least : Bound) → GoesAlong told lid owner at by_wire wires → length wires < n
      → (bound : Bound) × (followed told lid owner n at by_wire least ≡ Some bound)
  followed_along wires zero at by_wire least goes few = absurd (omega arith)
  followed_along [] (suc n) at by_wire least (takes, its) few =
      let here : is_port owner (at.0, owner.port) ≡ true =
      and_from (at.0 == owner.node) (owner.port == owner.port) (eq-eqb at.0 owner.node its) (eq-eqb owner.port owner.port refl) in (
        least,
        ap (λ s. gone_on (onward n) (after_step told owner at least s)) takes ∙ ap (λ b. cond b (Some least) None) here,
      )
  followed_along (w ∷ wires) (suc n) at by_wire least (leaves, of_node, wire, rest) few =
      let out : ℕ × ℕ = (at.0, w.out.1) in
      let there : across told.cells at.0 w.out.1 ≡ Some w.into = ap (λ g. across told.cells g w.out.1) (sym of_node) ∙ wire in
      let on = followed_along wires n w.into true (over_wire told least out w.into) rest (omega arith) in (
        on.0,
        ap (λ s. gone_on (onward n) (after_step told owner at least s)) leaves
            ∙ ap (λ o. gone_on (onward n) (over told least out o)) there
            ∙ on.1,
      )
