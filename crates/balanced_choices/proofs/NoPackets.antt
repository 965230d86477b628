-- Ways to which no packets are sent.
use Rattle.std.proofs.Common.{◌≡◌, ◌≤◌, ◌-◌, ◌^◌, ℕ, List, [], ◌∷◌, refl, ap, ◌∙◌, arith, get_or}
use Rattle.std.proofs.lemmas.List.{set-get_or}
use Rattle.std.specs.Prelude.{slice_set}
use Rattle.balanced_choices.specs.declared.ways.Change.{Change}
use Rattle.balanced_choices.specs.declared.ways.Change.TheVariants.{Add, Remove}
use Rattle.balanced_choices.specs.Ways.{changed, with_changes}

-- a change that leaves each load
stays : (change : Change) (loads cs : List ℕ) → ((c : ℕ) → changed change (get_or loads c 0) ≡ get_or loads c 0)
    → with_changes change loads cs ≡ loads
stays change loads [] same = refl
stays change loads (c ∷ cs) same =
    ap (λ ls. with_changes change ls cs) (ap (slice_set loads c) (same c) ∙ set-get_or loads c 0) ∙ stays change loads cs same

-- no packets more
pub none_added : (packets : ℕ) (loads cs : List ℕ) → packets ≡ 0 → ((c : ℕ) → get_or loads c 0 ≤ 2 ^ 64 - 1) → with_changes (Add packets) loads cs ≡ loads
none_added packets loads cs none most = stays (Add packets) loads cs (λ c. let few = most c in omega (arith, few))

-- none fewer
pub none_removed : (packets : ℕ) (loads cs : List ℕ) → packets ≡ 0 → with_changes (Remove packets) loads cs ≡ loads
none_removed packets loads cs none = stays (Remove packets) loads cs (λ c. omega arith)
