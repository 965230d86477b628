-- The order of keys is total, and only equal keys tie.
use Rattle.std.proofs.Common.{◌≡◌, ℕ, List, refl, sym, ap, ◌∙◌, cond, ◌==◌, true}
use Rattle.std.specs.declared.cmp.Ordering.{Ordering}
use Rattle.std.specs.declared.cmp.Ordering.TheVariants.{Less, Equal, Greater}
use Rattle.std.specs.Ordering.{is_eq}
use Rattle.std.specs.Prelude.{slice_index}
use Rattle.std.specs.Cmp.{IsTotalOrder}
use Rattle.std.specs.Cmp.Lexicographic.{nat_list_cmp_total}
use Rattle.std.specs.FinMap.{IsAntisymmetric, slice_cmp-IsAntisymmetric, nat_cmp-IsAntisymmetric}
use Rattle.std.proofs.lemmas.Cmp.{on_total}
use Rattle.reply_facts.specs.declared.key.Key.{Key}
use Rattle.reply_facts.specs.declared.key.Key.TheVariants.{Node, PortGuid, Link, Port, Claim, Cap}
use Rattle.reply_facts.specs.Key.{key_numbers, key_cmp}

-- the order of keys is total
pub key_total : IsTotalOrder key_cmp
key_total = on_total key_numbers nat_list_cmp_total

-- the key that has these numbers
key_from : ℕ → ℕ → ℕ → Key
key_from kind g p =
    cond (kind == 1) (Node g)
    (cond (kind == 2) (PortGuid g p) (cond (kind == 3) (Link g p) (cond (kind == 4) (Port g p) (cond (kind == 5) (Claim g p) (Cap g)))))

-- the key of a list of numbers
key_again : List ℕ → Key
key_again ns = key_from (slice_index ns 0) (slice_index ns 1) (slice_index ns 2)

-- a key is told by its numbers
key_from-numbers : (k : Key) → key_again (key_numbers k) ≡ k
unfolding key_again key_from
key_from-numbers (Node g) = refl
key_from-numbers (PortGuid g p) = refl
key_from-numbers (Link g p) = refl
key_from-numbers (Port g p) = refl
key_from-numbers (Claim g p) = refl
key_from-numbers (Cap g) = refl

-- only equal keys tie
pub key_exact : IsAntisymmetric key_cmp
key_exact a b e = sym (key_from-numbers a) ∙ ap key_again (slice_cmp-IsAntisymmetric nat_cmp-IsAntisymmetric (key_numbers a) (key_numbers b) e)
    ∙ key_from-numbers b

-- what tests as equal is
pub equal_from_test : (r : Ordering) → is_eq r ≡ true → r ≡ Equal
equal_from_test Less e = absurd (cc)
equal_from_test Equal e = refl
equal_from_test Greater e = absurd (cc)
