-- A rule takes as many texts as `texts_for` counts.
use Rattle.std.proofs.Common.{◌≡◌, ℕ, List, [], ◌∷◌, Option, None, Some, length, ap, sym}
use Rattle.std.proofs.lemmas.Option.{same_Some}
use Rattle.std.specs.Prelude.{codes, option_map}
use Rattle.sm_cli.specs.Asked.{texts_for}
use Rattle.sm_cli.specs.declared.asked.RuleAsked.{RuleAsked}
use Rattle.sm_cli.specs.declared.asked.RuleAsked.TheVariants.{UpDown, Spread, SpreadFromRoots, SpreadInOrder, Balance, BalanceInOrder}
use Rattle.cli_task.specs.InputNames.{texts_of_rule}

pub one_word : (o : Option (List ℕ)) (xs : List (List ℕ)) → option_map (λ w. w ∷ []) o ≡ Some xs → length xs ≡ 1
one_word None xs e = absurd (cc)
one_word (Some w) xs e = ap length (sym (same_Some _ _ e))

pub texts_counted : (word : List ℕ → Option (List ℕ)) (rule : RuleAsked) (xs : List (List ℕ)) → texts_of_rule word rule ≡ Some xs
    → length xs ≡ texts_for rule
texts_counted word UpDown xs e = ap length (sym (same_Some _ _ e))
texts_counted word Spread xs e = ap length (sym (same_Some _ _ e))
texts_counted word SpreadFromRoots xs e = one_word (word (codes "roots")) xs e
texts_counted word SpreadInOrder xs e = one_word (word (codes "order")) xs e
texts_counted word Balance xs e = ap length (sym (same_Some _ _ e))
texts_counted word BalanceInOrder xs e = one_word (word (codes "order")) xs e
