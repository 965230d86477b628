-- The sorted ones are the found ones in order.
use Rattle.std.proofs.Common.{◌≡◌, ℕ, List, ◌++◌, ◌∙◌, length, take, drop, arith, ap, sym, subst}
use Rattle.std.proofs.lemmas.Grind.{common_steps}
use Rattle.std.proofs.lemmas.List.Sorted.{length_permutation}
use Rattle.std.specs.List.Sorted.{IsPermutation}
use Rattle.subnet_view.specs.declared.end_port.EndPort.{EndPort}
use Rattle.subnet_view.proofs.EndPortOrder.{sorted_is_in_order}
use Rattle.subnet_view.proofs.EndPorts.{found_end_ports, found_apart}
use Rattle.subnet_view.proofs.end_port.sorted_end_ports.Goals as goal

-- a list that is written over by one as long
written_over : {X : Type 0} (n : ℕ) (xs ys : List X) → n ≡ length xs → length ys ≡ length xs → take n (ys ++ drop (length ys) xs) ≡ ys
written_over n xs ys e l = grind (arith, common_steps)

pub returns : goal.returns
returns c =
    let found = c.in_ok-found.found.items in
    let sorted = c.sort.new.found in
    let all = found_end_ports c.args.store.now in
    let same : found ≡ all = c.in_ok-found.ensures in
    let Moved : List (ℕ × EndPort) → Type 0 = λ xs. IsPermutation xs sorted in
    let moved = subst Moved c.deref_mut.ensures.value c.sort.ensures.permutation in
    let len = sym c.deref_mut.ensures.len ∙ ap length c.deref_mut.ensures.value in
    written_over c.in_ok-found.found.len found sorted len (length_permutation found sorted moved)
    ∙ sorted_is_in_order all sorted (found_apart c.args.store.now) (subst Moved same moved) c.sort.ensures.sorted
