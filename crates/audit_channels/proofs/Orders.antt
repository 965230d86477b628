-- Orders of channels: what is so of the channels that a list tells is so by what the list stands for, and numbers that rise
-- do not come back to the first.
use Rattle.std.proofs.Common.{◌≡◌, ◌<◌, ℕ, List, [], ◌∷◌, ◌∙◌, length, refl, arith}
use Rattle.std.specs.Prelude.{slice_index_or}
use Rattle.audit_channels.specs.ChannelOrders.{AreWaits, CanRise, Follows, GoesOn, IsCycle, IsCycleIfAny, IsOrder, IsShortest, NoneShorter, Rise}
use Rattle.audit_channels.specs.ChannelOrders.{cycle_in}
use Rattle.audit_channels.specs.declared.order.ChannelOrder.{ChannelOrder}
use Rattle.audit_channels.specs.declared.order.ChannelOrder.TheVariants.{Rises, Cycle}

-- what follows by one relation follows by another
module _ (F G : ℕ → ℕ → Type 0) (too : (a b : ℕ) → F a b → G a b) where
  on_too : (channel last : ℕ) (later : List ℕ) → GoesOn F channel later last → GoesOn G channel later last
  on_too channel last [] h = too channel last h
  on_too channel last (next ∷ later) h = (too channel next h.0, on_too next last later h.1)

  pub cycle_too : (channels : List ℕ) → IsCycle F channels → IsCycle G channels
  cycle_too [] h = h
  cycle_too (channel ∷ later) h = on_too channel channel later h

module _ (F : ℕ → ℕ → Type 0) (count : ℕ) (waits : List (List ℕ)) (are : AreWaits F count waits) where
  pub order_is : (found : ChannelOrder) → IsOrder (Follows waits) (length waits) found → IsOrder F count found
  order_is (Rises numbers) h = record { as_many = h.as_many ∙ are.as_many; rises = λ a b w. h.rises a b ((are.follows a b).1 w) }
  order_is (Cycle channels) h = cycle_too (Follows waits) F (λ a b f. (are.follows a b).0 f) channels.items h

  pub shortest_is : (found : ChannelOrder) → IsShortest (Follows waits) found → IsShortest F found
  shortest_is (Rises numbers) h = tt
  shortest_is (Cycle channels) h = λ other is. h other (cycle_too F (Follows waits) (λ a b w. (are.follows a b).1 w) other is)

pub can_rise : (F : ℕ → ℕ → Type 0) (count : ℕ) (numbers : List ℕ) → Rise F count numbers → CanRise F
can_rise F count numbers h = record { number = λ c. slice_index_or numbers c 0; rises = h.rises }

-- the cycle of an order, if it has any
pub cycle_there : (F : ℕ → ℕ → Type 0) (channels : List ℕ) → IsCycle F channels → IsCycleIfAny F channels
cycle_there F [] h = absurd h
cycle_there F (channel ∷ later) h = h

pub cycle_if_any : (F : ℕ → ℕ → Type 0) (count : ℕ) (found : ChannelOrder) → IsOrder F count found → IsCycleIfAny F (cycle_in found)
cycle_if_any F count (Rises numbers) h = can_rise F count numbers.items h
cycle_if_any F count (Cycle channels) h = cycle_there F channels.items h

pub none_shorter : (F : ℕ → ℕ → Type 0) (found : ChannelOrder) → IsShortest F found → NoneShorter F (cycle_in found)
none_shorter F (Rises numbers) h = λ other is. omega arith
none_shorter F (Cycle channels) h = h

module _ (F : ℕ → ℕ → Type 0) (rise : CanRise F) where
  rise_along : (channel last : ℕ) (later : List ℕ) → GoesOn F channel later last → rise.number channel < rise.number last
  rise_along channel last [] h = rise.rises channel last h
  rise_along channel last (next ∷ later) h =
      let one = rise.rises channel next h.0 in let more = rise_along next last later h.1 in omega arith

  pub no_cycle : (cycle : List ℕ) → ¬ (IsCycle F cycle)
  no_cycle [] h = h
  no_cycle (channel ∷ later) h = let more = rise_along channel channel later h in omega arith

  pub no_cycle_at_all : (cycle : List ℕ) → IsCycleIfAny F cycle → cycle ≡ []
  no_cycle_at_all [] h = refl
  no_cycle_at_all (channel ∷ later) h = absurd (no_cycle (channel ∷ later) h)

-- where there is no cycle, numbers can rise
pub rise_if_none : (F : ℕ → ℕ → Type 0) (cycle : List ℕ) → IsCycleIfAny F cycle → cycle ≡ [] → CanRise F
rise_if_none F [] h e = h
rise_if_none F (channel ∷ later) h e = absurd (cc)
