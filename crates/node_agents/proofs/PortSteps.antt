-- What a Set makes of a port: its state goes up by one step at most, and neither to Down nor from it.
use Rattle.std.proofs.Common.{◌≡◌, ◌≢◌, ℕ, zero, suc, ◌+◌, ◌<◌, ◌≤◌, Bool, true, false, List, [], ◌∷◌, inl, inr, refl, sym, ap, subst, arith}
use Rattle.std.specs.Prelude.{Option, Some, None, option_map, option_and_then, if◌then◌else◌, ◌==◌, ◌&&◌, ◌%◌, ◌^◌, nat_le, slice_index_or, slice_set}
use Rattle.std.proofs.lemmas.Bool.{and_parts, or_cases, eqb-true, leb-true}
use Rattle.std.proofs.lemmas.Nat.{pow_pos}
use Rattle.smp_bytes.specs.Field.{number_in, bits_in}
use Rattle.smp_bytes.specs.LidRange.{lid_end, may_have}
use Rattle.attr_codec.specs.PortInfo.{base_lid, lmc, port_state, number_of_state, state_of_number}
use Rattle.attr_codec.specs.declared.port_state.PortState.{PortState}
use Rattle.attr_codec.specs.declared.port_state.PortState.TheVariants.{NoChange, Down, Initialize, Armed, Active}
use Rattle.node_agents.specs.declared.port.Port.{Port}
use Rattle.node_agents.specs.Agent.{Agent, port_at}
use Rattle.node_agents.specs.PortInfo.{is_next_state, state_after, port_with, are_lids_taken, port_after, has_lid, max_lmc, port_meant, changed_port}

-- from one state to another by a wish, if at all
pub record Moves (s t : PortState) : Type 0 where
  pub known : s ≢ NoChange → t ≢ NoChange
  pub down : s ≡ Down → t ≡ Down
  pub not_down : t ≡ Down → s ≡ Down
  pub active : s ≡ Active → t ≡ Active

pub stays : (s : PortState) → Moves s s
stays s = record { known = λ h. h; down = λ h. h; not_down = λ h. h; active = λ h. h }

number_fits : (s : PortState) → number_of_state s < 5
number_fits NoChange = omega arith
number_fits Down = omega arith
number_fits Initialize = omega arith
number_fits Armed = omega arith
number_fits Active = omega arith

goes_on : (s t : PortState) → is_next_state s t ≡ true → Moves s t
goes_on s t h =
    let parts = and_parts _ _ h in
    let least : 2 ≤ number_of_state s = leb-true _ _ parts.0 in
    let next : number_of_state t ≡ number_of_state s + 1 = eqb-true _ _ parts.1 in
    let most : number_of_state t < 5 = number_fits t in
    record {
      known = λ _ e. let n : number_of_state t ≡ 0 = ap number_of_state e in omega arith;
      down = λ e. let n : number_of_state s ≡ 1 = ap number_of_state e in absurd (omega arith);
      not_down = λ e. let n : number_of_state t ≡ 1 = ap number_of_state e in absurd (omega arith);
      active = λ e. let n : number_of_state s ≡ 4 = ap number_of_state e in absurd (omega arith);
    }

chosen : (s w t : PortState) (b c : Bool) → (c ≡ true → Moves s w) → (if b then Some s else if c then Some w else None) ≡ Some t → Moves s t
chosen s w t true c on h = let e : s ≡ t = cc in subst (Moves s) e (stays s)
chosen s w t false true on h = let e : w ≡ t = cc in subst (Moves s) e (on refl)
chosen s w t false false on h = cc

granted : (s t : PortState) (wish : Option PortState) → option_and_then (state_after s) wish ≡ Some t → Moves s t
granted s t None h = cc
granted s t (Some w) h = chosen s w t _ _ (goes_on s w) h

-- what a Set makes of a port
pub record Steps (old new : Port) : Type 0 where
  pub state : Moves old.state new.state
  pub base_lid : old.base_lid < lid_end → new.base_lid < lid_end
  pub is_sm : new.is_sm ≡ old.is_sm

pub steps_none : (port : Port) → Steps port port
steps_none port = record { state = stays port.state; base_lid = λ h. h; is_sm = refl }

lid_chosen : (has_lid : Bool) (x y : ℕ) → x < lid_end → y < lid_end → (if has_lid then x else y) < lid_end
lid_chosen true x y h k = h
lid_chosen false x y h k = k

-- a LID that a port may have is a unicast one, or 0
pub lid_is_unicast : (base lmc : ℕ) → may_have base lmc ≡ true → base < lid_end
lid_is_unicast base lmc h =
    elim (or_cases (base == 0) (base % 2 ^ lmc == 0 && nat_le (base + 2 ^ lmc) lid_end) h) [
      | inl none ↦ let e = eqb-true base 0 none in omega (arith, e)
      | inr some ↦ let parts = and_parts (base % 2 ^ lmc == 0) _ some in omega (arith, leb-true (base + 2 ^ lmc) lid_end parts.1, pow_pos lmc)
    ]

pub lid_taken : (most : ℕ) (payload : List ℕ) → are_lids_taken most payload ≡ true → number_in base_lid payload < lid_end
lid_taken most payload h =
    lid_is_unicast (number_in base_lid payload) (bits_in lmc payload) (and_parts (nat_le (bits_in lmc payload) most) _ h).1

module _ (port new : Port) (has : Bool) (most : ℕ) (payload : List ℕ) where
  taken : (t : PortState) → number_in base_lid payload < lid_end → Moves port.state t → Steps port (port_with port has payload t)
  taken t small moves = record { state = moves; base_lid = λ old. lid_chosen has _ _ small old; is_sm = refl }

  judged : (b : Bool) (m : Option PortState) → (b ≡ true → number_in base_lid payload < lid_end) → ((t : PortState) → m ≡ Some t → Moves port.state t)
      → (if b then option_map (port_with port has payload) m else None) ≡ Some new → Steps port new
  judged false m small moves h = cc
  judged true None small moves h = cc
  judged true (Some t) small moves h =
      let e : port_with port has payload t ≡ new = cc in subst (Steps port) e (taken t (small refl) (moves t refl))

  pub steps_after : port_after port has most payload ≡ Some new → Steps port new
  steps_after h =
      judged (are_lids_taken most payload) _ (lid_taken most payload)
      (λ t. granted port.state t (state_of_number (bits_in port_state payload))) h

module _ (a : Agent) (payload : List ℕ) (changed : ℕ × Port) where
  after_is : (port : ℕ) (m : Option Port) → m ≡ port_after (port_at a port) (has_lid a port) (max_lmc a port) payload
      → option_map (λ (after : Port). (port, after)) m ≡ Some changed → Steps (port_at a changed.0) changed.1
  after_is port None e h = cc
  after_is port (Some new) e h =
      let same : (port, new) ≡ changed = cc in
      subst (λ (c : ℕ × Port). Steps (port_at a c.0) c.1) same (steps_after (port_at a port) new (has_lid a port) (max_lmc a port) payload (sym e))

  meant_is : (m : Option ℕ)
      → option_and_then (λ port. option_map (λ (after : Port). (port, after)) (port_after (port_at a port) (has_lid a port) (max_lmc a port) payload)) m
      ≡ Some changed
      → Steps (port_at a changed.0) changed.1
  meant_is None h = cc
  meant_is (Some port) h = after_is port _ refl h

  pub steps_changed : (modifier arrival : ℕ) → changed_port a modifier arrival payload ≡ Some changed → Steps (port_at a changed.0) changed.1
  unfolding changed_port
  steps_changed modifier arrival h = meant_is (port_meant a modifier arrival) h

-- a port written where one is
pub steps-slice_set : (ports : List Port) (at index : ℕ) (new absent : Port) → Steps (slice_index_or ports at absent) new
    → Steps (slice_index_or ports index absent) (slice_index_or (slice_set ports at new) index absent)
steps-slice_set [] at index new absent h = steps_none absent
steps-slice_set (x ∷ xs) zero zero new absent h = h
steps-slice_set (x ∷ xs) zero (suc index) new absent h = steps_none (slice_index_or xs index absent)
steps-slice_set (x ∷ xs) (suc at) zero new absent h = steps_none x
steps-slice_set (x ∷ xs) (suc at) (suc index) new absent h = steps-slice_set xs at index new absent h
