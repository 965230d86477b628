-- A walk that ends takes no more steps than there are switches.
use Rattle.std.proofs.Common.{◌≡◌, ℕ, zero, suc, ◌+◌, ◌-◌, ◌<◌, ◌≤◌, true, List, [], ◌∷◌, length, get_or, refl, sym, ap, ◌∙◌, subst, arith, inl, inr, ◌⊎◌}
use Rattle.std.specs.Prelude.{map, slice_index_or, Option, None, Some}
use Rattle.std.proofs.lemmas.Bool.{cases_lt}
use Rattle.std.proofs.lemmas.Option.{slice_get-get_or}
use Rattle.subnet_view.specs.declared.end_port.EndPort.{EndPort}
use Rattle.subnet_view.specs.Reading.{Cells, switches}
use Rattle.subnet_view.specs.EndPort.{end_ports}
use Rattle.held_tables.specs.Held.{HeldPlan}
use Rattle.packet_walks.specs.declared.packet_end.End.{End}
use Rattle.packet_walks.specs.declared.next_hop.NextHop.{NextHop}
use Rattle.packet_walks.specs.declared.next_hop.NextHop.TheVariants.{To, Ends}
use Rattle.held_tables.specs.Switches.{row_of, sender_of}
use Rattle.held_tables.specs.Tables.{owners_of, entry_for}
use Rattle.packet_walks.specs.EndsBySwitch.{onward, after, IsEndOf, is_to, end_of, HaveEnded, AreAfter}
use Rattle.packet_walks.specs.HopsByTables.{by_entry, cause_of, next_hops_of, first_hop, AreBrought, IsBrought, end_for, EndsAreFound}
use Rattle.packet_walks.proofs.Ended.{after_add, after_ended, within, past, long, tos, tos_less, stays_ended, same_left, over_none, have_ended, GoOn}

-- one end ------------------------------------------------------------------------------

same_end : (e x : End) → ◌≡◌ {A = NextHop} (Ends e) (Ends x) → e ≡ x
same_end e x h = cc

pub one_end : (steps : List NextHop) (s : NextHop) (a b : Option End) → IsEndOf steps s a → IsEndOf steps s b → a ≡ b
one_end steps s None None h k = refl
one_end steps s (Some e) None h k =
    let there : ◌≡◌ {A = NextHop} (Ends e) (To (k h.0).0) = sym h.1 ∙ (k h.0).1 in absurd (cc)
one_end steps s None (Some e) h k =
    let there : ◌≡◌ {A = NextHop} (Ends e) (To (h k.0).0) = sym k.1 ∙ (h k.0).1 in absurd (cc)
one_end steps s (Some e) (Some x) h k =
    let one : after (h.0 + k.0) steps s ≡ Ends e = after_add h.0 k.0 steps s ∙ ap (after k.0 steps) h.1 ∙ after_ended k.0 steps e in
    let swap : h.0 + k.0 ≡ k.0 + h.0 = omega arith in
    let two : after (h.0 + k.0) steps s ≡ Ends x =
    ap (λ n. after n steps s) swap ∙ after_add k.0 h.0 steps s ∙ ap (after h.0 steps) k.1 ∙ after_ended h.0 steps x in
    ap (λ y. Some y) (same_end e x (sym one ∙ two))

-- step by step -------------------------------------------------------------------------

-- each switch, from a number on
abbrev each_from : ℕ → ℕ → List NextHop
each_from k zero = []
each_from k (suc n) = To k ∷ each_from (suc k) n

each_long : (k n : ℕ) → length (each_from k n) ≡ n
each_long k zero = refl
each_long k (suc n) = ap suc (each_long (suc k) n)

each_at : (k n i : ℕ) → slice_index_or (each_from k n) i (To (k + i)) ≡ To (k + i)
each_at k zero i = refl
each_at k (suc n) zero = let e : k ≡ k + 0 = omega arith in ap (λ m. To m) e
each_at k (suc n) (suc i) =
    let e : k + suc i ≡ suc k + i = omega arith in
    ap (λ m. slice_index_or (each_from (suc k) n) i (To m)) e ∙ each_at (suc k) n i ∙ sym (ap (λ m. To m) e)

-- no step
after_none : (steps : List NextHop) → AreAfter steps (each_from 0 (length steps)) 0
after_none steps = record { as_many = each_long 0 (length steps); onward_is = is }
  where
    is : (s : NextHop) → onward (each_from 0 (length steps)) s ≡ s
    is (Ends e) = refl
    is (To i) =
        let e : 0 + i ≡ i = omega arith in
        ap (λ m. slice_index_or (each_from 0 (length steps)) i (To m)) (sym e) ∙ each_at 0 (length steps) i ∙ ap (λ m. To m) e

-- a step more
on_more : (steps jumps : List NextHop) (s : NextHop) → length jumps ≡ length steps → onward (map (onward steps) jumps) s ≡ onward steps (onward jumps s)
on_more steps jumps (Ends e) as_many = refl
on_more steps jumps (To i) as_many =
    elim (cases_lt i (length jumps)) [
      | inl h ↦ within (onward steps) jumps i (To i) h
      | inr h ↦
          let stays : onward jumps (To i) ≡ To i = past jumps i (To i) h in
          past (map (onward steps) jumps) i (To i) (omega (arith, long (onward steps) jumps))
          ∙ sym (ap (onward steps) stays ∙ past steps i (To i) (omega (arith, as_many)))
    ]

after_more : (steps jumps : List NextHop) (n : ℕ) → AreAfter steps jumps n → AreAfter steps (map (onward steps) jumps) (suc n)
after_more steps jumps n h = record {
  as_many = long (onward steps) jumps ∙ h.as_many;
  onward_is = λ s.
      let e : suc n ≡ n + 1 = omega arith in
      on_more steps jumps s h.as_many ∙ ap (onward steps) (h.onward_is s) ∙ sym (ap (λ m. after m steps s) e ∙ after_add n 1 steps s);
}

-- if one step more ends no walk, the walks that are left go on
go_on : (steps jumps : List NextHop) (n : ℕ) → AreAfter steps jumps n → tos (map (onward steps) jumps) ≡ tos jumps → GoOn steps jumps
go_on steps jumps n h e (Ends x) to = absurd (cc)
go_on steps jumps n h e (To i) to =
    elim (cases_lt i (length jumps)) [
      | inl less ↦
          let more : is_to (onward steps (onward jumps (To i))) ≡ true = same_left (onward steps) jumps i (To i) (stays_ended steps) e less to in
          let n_is : n + 1 ≡ suc n = omega arith in
          ap is_to (h.onward_is (onward steps (To i))) ∙ ap (λ m. is_to (after m steps (To i))) (sym n_is) ∙ ap is_to (after_add n 1 steps (To i))
          ∙ ap (λ r. is_to (onward steps r)) (sym (h.onward_is (To i))) ∙ more
      | inr more ↦
          let stays : onward steps (To i) ≡ To i = past steps i (To i) (omega (arith, h.as_many)) in
          ap (λ r. is_to (onward jumps r)) stays ∙ to
    ]

-- the walks have ended after some number of these steps
pub record AreSettled (steps : List NextHop) (n : ℕ) : Type 0 where
  count : ℕ
  most : count ≤ n
  jumps : List NextHop
  are : AreAfter steps jumps count
  ended : HaveEnded steps jumps

-- or at most so many walks as there are switches, less `n`, have not ended
pub record AreFew (steps : List NextHop) (n : ℕ) : Type 0 where
  jumps : List NextHop
  are : AreAfter steps jumps n
  few : tos jumps + n ≤ length steps

tos_most : (xs : List NextHop) → tos xs ≤ length xs
tos_most [] = omega arith
tos_most (To i ∷ xs) = let h = tos_most xs in omega arith
tos_most (Ends e ∷ xs) = let h = tos_most xs in omega arith

few_more : (steps : List NextHop) (n : ℕ) → AreFew steps n → AreSettled steps (suc n) ⊎ AreFew steps (suc n)
few_more steps n h =
    let jumps = h.jumps in
    let fewer = tos_less (onward steps) jumps (stays_ended steps) in
    let few = h.few in
    elim (cases_lt (tos (map (onward steps) jumps)) (tos jumps)) [
      | inl less ↦ inr (record { jumps = map (onward steps) jumps; are = after_more steps jumps n h.are; few = omega arith })
      | inr more ↦
          let same : tos (map (onward steps) jumps) ≡ tos jumps = omega arith in
          inl (record { count = n; most = omega arith; jumps = jumps; are = h.are; ended = have_ended steps jumps n h.are (go_on steps jumps n h.are same) })
    ]

later : (steps : List NextHop) (n : ℕ) → AreSettled steps n → AreSettled steps (suc n)
later steps n h = let most = h.most in record { count = h.count; most = omega arith; jumps = h.jumps; are = h.are; ended = h.ended }

in_steps : (steps : List NextHop) (n : ℕ) → AreSettled steps n ⊎ AreFew steps n
in_steps steps zero =
    inr (record {
      jumps = each_from 0 (length steps);
      are = after_none steps;
      few =
          omega (arith, tos_most (each_from 0 (length steps)), each_long 0 (length steps));
    })
in_steps steps (suc n) = elim (in_steps steps n) [ inl h ↦ inl (later steps n h) | inr h ↦ few_more steps n h ]

settled : (steps : List NextHop) → AreSettled steps (length steps)
settled steps =
    elim (in_steps steps (length steps)) [
      | inl h ↦ h
      | inr h ↦
          let few = h.few in
          let none : tos h.jumps ≡ 0 = omega arith in
          record {
            count = length steps;
            most = omega arith;
            jumps = h.jumps;
            are = h.are;
            ended = have_ended steps h.jumps (length steps) h.are (over_none steps h.jumps h.are.as_many none);
          }
    ]

-- an end that is found stays
stays : (steps : List NextHop) (s : NextHop) (n more : ℕ) → IsEndOf steps s (end_of (after n steps s)) → IsEndOf steps s (end_of (after (n + more) steps s))
stays steps s n more h =
    let Is : Option End → Type 0 = λ o. IsEndOf steps s o in
    elim (after n steps s) as (λ r. after n steps s ≡ r → IsEndOf steps s (end_of r) → IsEndOf steps s (end_of (after (n + more) steps s))) [
      | Ends e ↦ λ q k.
          let same : after (n + more) steps s ≡ Ends e = after_add n more steps s ∙ ap (after more steps) q ∙ after_ended more steps e in
          subst Is (sym (ap end_of same)) (n, q)
      | To i ↦ λ q k. subst Is (sym (ap end_of (k (n + more)).1)) k
    ] refl h

pub ends_in_time : (steps : List NextHop) (s : NextHop) → IsEndOf steps s (end_of (after (length steps) steps s))
ends_in_time steps s =
    let it = settled steps in
    let Is : Option End → Type 0 = λ o. IsEndOf steps s o in
    let there : IsEndOf steps s (end_of (after it.count steps s)) = subst Is (ap end_of (it.are.onward_is s)) (it.ended.ended s) in
    let most = it.most in
    let e : it.count + (length steps - it.count) ≡ length steps = omega arith in
    subst (λ (n : ℕ). IsEndOf steps s (end_of (after n steps s))) e (stays steps s it.count (length steps - it.count) there)

mapped : (f : ℕ → NextHop) (guids : List ℕ) → length (map f guids) ≡ length guids
mapped f [] = refl
mapped f (g ∷ guids) = ap suc (mapped f guids)

pub end_is : (cells : Cells) (held : HeldPlan) (lid : ℕ) (e : EndPort) → IsBrought cells held lid e (end_for cells held lid e)
end_is cells held lid e =
    let steps = next_hops_of cells held lid in
    let first = first_hop (owners_of held lid) (sender_of cells e) in
    let long : length steps ≡ length (switches cells) =
    mapped (λ g. by_entry (owners_of held lid) g (cause_of cells held lid g) (row_of cells g) (entry_for held lid g)) (switches cells) in
    subst (λ (n : ℕ). IsEndOf steps first (end_of (after n steps first))) long (ends_in_time steps first)

pub end_found : (cells : Cells) (held : HeldPlan) (lid : ℕ) (e : EndPort) (end : Option End) → IsBrought cells held lid e end → end ≡ end_for cells held lid e
end_found cells held lid e end h =
    one_end (next_hops_of cells held lid) (first_hop (owners_of held lid) (sender_of cells e)) end (end_for cells held lid e) h (end_is cells held lid e)

-- the end that is found for the packet of the end port at an index
pub found_at : (cells : Cells) (held : HeldPlan) (lid : ℕ) (ends : List (Option End)) (n : ℕ) (d : EndPort) → AreBrought cells held lid ends
    → n < length (end_ports cells) → get_or ends n None ≡ end_for cells held lid (get_or (end_ports cells) n d)
found_at cells held lid ends n d h less =
    let as_many = h.as_many in
    let within : n < length ends = omega arith in
    let e = get_or (end_ports cells) n d in
    let end : Option End = get_or ends n None in
    end_found cells held lid e end (h.brought n e end (slice_get-get_or (end_ports cells) n d less) (slice_get-get_or ends n None within))

pub ends_are_found : EndsAreFound
ends_are_found cells held lid e end = (end_found cells held lid e end, λ q. subst (IsBrought cells held lid e) (sym q) (end_is cells held lid e))
