-- Which of two subnet managers wins.
-- InfiniBand Architecture Specification, Volume 1: subnet management, subnet manager (priorities).
use Rattle.std.specs.Prelude.{◌≡◌, ◌⊎◌, Bool, true, false, ◌&&◌, ◌||◌, ◌==◌, nat_lt}
use Rattle.attr_codec.specs.declared.sm_info.SmInfo.{SmInfo}

-- whether the manager `a` wins over `b`: `a` has the greater priority or, at equal priority, the lesser GUID
abbrev pub wins : SmInfo → SmInfo → Bool
wins a b = nat_lt b.priority a.priority || (a.priority == b.priority && nat_lt a.guid b.guid)

-- the managers have equal priority and equal GUID
abbrev pub HasSameRank : SmInfo → SmInfo → Type 0
HasSameRank a b = (a.priority ≡ b.priority) × (a.guid ≡ b.guid)

-- `wins` is a strict order, and of two managers that differ in priority or GUID, one wins over the other
pub record WinsIsAnOrder : Type 0 where
  pub not_itself : (a : SmInfo) → wins a a ≡ false
  pub in_turn : (a b c : SmInfo) → wins a b ≡ true → wins b c ≡ true → wins a c ≡ true
  pub one_wins : (a b : SmInfo) → (HasSameRank a b → ⊥) → (wins a b ≡ true) ⊎ (wins b a ≡ true)
