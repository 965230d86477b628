-- The numbers are below the bound, which the table has.
use Rattle.std.proofs.Common.{◌≡◌, refl, sym, ap, ◌∙◌, subst, arith, List, [], ◌∷◌, ℕ, inl, inr, map, reverse}
use Rattle.std.proofs.lemmas.Bool.{cases_lt}
use Rattle.std.proofs.lemmas.List.{length-replicate, get_or-replicate, get_or_past, map-append}
use Rattle.std.specs.Borrow.{Bor}
use Rattle.std.specs.Prelude.{Option, None, Some, replicate, slice_index_or}
use Rattle.subnet_view.specs.declared.end_port.EndPort.{EndPort}
use Rattle.subnet_view.proofs.Members.{contains_in}
use Rattle.lid_assign.specs.LidMap.{AreOwners}
use Rattle.lid_assign.proofs.Tables.{seen, owners_more, next_below, rest_below}
use Rattle.lid_assign.proofs.lid_map.owners.Goals as goal

pub own-requires : goal.own-requires
own-requires c =
    let step = c.in-Some.ensures.steps in
    let below = next_below c.args.end c.args.lmc _ c.next.new.self.iter.rest.now c.in-Some.one.now.0 c.in-Some.one.now.1 step c.loop-one.invariant.1 in
    omega (arith, below, c.loop-one.invariant.0)

pub loop-one-preserved : goal.loop-one-preserved
loop-one-preserved c =
    let step = c.in-Some.ensures.steps in
    let one = c.in-Some.one.now in
    let before = reverse (map (λ (b : Bor (EndPort × ℕ)). b.now) c.loop-one.yielded) in
    let owners = owners_more c.args.lmc before c.loop-one.owners.items c.own.new.owners.items one.0 one.1 c.loop-one.invariant.2 c.own.ensures.owned in
    let Are : List (EndPort × ℕ) → Type 0 = λ given. AreOwners (record { lmc = c.args.lmc; ports = given }) c.own.new.owners.items in
    let seen_now = ap reverse (map-append (λ (b : Bor (EndPort × ℕ)). b.now) c.loop-one.yielded (c.in-Some.one ∷ []))
    ∙ seen (map (λ (b : Bor (EndPort × ℕ)). b.now) c.loop-one.yielded) one in (
      c.own.ensures.len ∙ c.loop-one.invariant.0,
      rest_below c.args.end c.args.lmc _ c.next.new.self.iter.rest.now one.0 one.1 step c.loop-one.invariant.1,
      subst Are (sym seen_now) owners,
    )

-- what follows if a clone of nothing is nothing
filled : {X P : Type 0} (C : Option X → Type 0) → (((y : Option X) → C y → y ≡ None) → P) → ((x : X) → C (Some x) → ⊥) → P
filled {X} C follows not_some = follows same
  where
    same : (y : Option X) → C y → y ≡ None
    same None h = refl
    same (Some x) h = absurd (not_some x h)

-- nothing is at each index
nowhere : {X : Type 0} (n : ℕ) (xs : List (Option X)) → xs ≡ replicate n None → (k : ℕ) → slice_index_or xs k None ≡ None
nowhere {X} n xs e k = ap (λ ys. slice_index_or ys k None) e ∙ (elim (cases_lt k n) [
  | inl l ↦ get_or-replicate n k None None l
  | inr m ↦ get_or_past (replicate n None) k None (omega (arith, m, length-replicate {A = Option X} n None))
])

pub loop-one-init : goal.loop-one-init
loop-one-init c =
    let items = filled _ c.in_ok-owners.ensures.items_if_clones_equal (λ x k. k) in
    let given = ap (λ it. it.iter.rest.now) c.into_iter-one-iterator.ensures.into_iter_gives ∙ ap (λ it. it.rest.now) c.rev-one-items.ensures.source
    ∙ c.iter.ensures.rest in (
      c.in_ok-owners.ensures.len,
      λ e n h. c.requires e n (contains_in (e, n) given h),
      nowhere c.args.end c.in_ok-owners.owners.items items,
    )
