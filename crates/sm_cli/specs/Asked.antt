-- What is asked for in a run on files: the rule of routing, and the number of texts that are read first for it.
use Rattle.std.specs.Prelude.{ℕ, Bool, true, false}
use Rattle.sm_cli.specs.declared.asked.RuleAsked.{RuleAsked}
use Rattle.sm_cli.specs.declared.asked.RuleAsked.TheVariants.{UpDown, Spread, SpreadFromRoots, SpreadInOrder, Balance}
use Rattle.sm_cli.specs.declared.asked.RuleAsked.TheVariants.{BalanceInOrder}
use Rattle.sm_cli.specs.declared.asked.Output.{Output}
use Rattle.sm_cli.specs.declared.asked.Output.TheVariants.{Facts, Join, Plan, Order}

-- the number of texts that a rule takes: 1 if a text names its roots or its order, otherwise 0
abbrev pub texts_for : RuleAsked → ℕ
texts_for UpDown = 0
texts_for Spread = 0
texts_for SpreadFromRoots = 1
texts_for SpreadInOrder = 1
texts_for Balance = 0
texts_for BalanceInOrder = 1

-- the rule of routing that a plan or an order is asked for by; `UpDown`, which takes no text, for facts and joins
abbrev pub rule_for : Output → RuleAsked
rule_for Facts = UpDown
rule_for Join = UpDown
rule_for (Plan lmc asked) = asked
rule_for (Order asked) = asked

-- the number of texts that an option adds to the inputs: 1 if the option is given (true), otherwise 0
abbrev pub texts_if : Bool → ℕ
texts_if false = 0
texts_if true = 1
