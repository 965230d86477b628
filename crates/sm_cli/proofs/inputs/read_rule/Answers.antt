-- The order grows from what the text names.
use Rattle.std.proofs.Common.{refl, subst, sym}
use Rattle.lft_blocks.specs.Rule.{spread_in}
use Rattle.spread_routes.specs.SwitchOrder.{as_named, balanced_as, from_roots}
use Rattle.sm_cli.specs.declared.asked.RuleAsked.{RuleAsked}
use Rattle.sm_cli.specs.Inputs.{IsRuleRead}
use Rattle.sm_cli.proofs.inputs.read_rule.Goals as goal

pub returns-in_ok-roots-in-SpreadFromRoots-clause-read : goal.returns-in_ok-roots-in-SpreadFromRoots-clause-read
returns-in_ok-roots-in-SpreadFromRoots-clause-read g c =
    let roots = c.in_ok-roots-in-SpreadFromRoots.roots in
    let Read : RuleAsked → Type 0 = λ asked. IsRuleRead g.S.Source.state asked c.args.texts.now c.read_text.new.texts (spread_in (from_roots roots.items)) in
    subst Read (sym c.in-SpreadFromRoots.is) (record { switches = roots; read = c.in_ok-roots-in-SpreadFromRoots.ensures.read; is = refl })

pub returns-in_ok-switches-in-SpreadInOrder-clause-read : goal.returns-in_ok-switches-in-SpreadInOrder-clause-read
returns-in_ok-switches-in-SpreadInOrder-clause-read g c =
    let switches = c.in_ok-switches-in-SpreadInOrder.switches in
    let Read : RuleAsked → Type 0 = λ asked. IsRuleRead g.S.Source.state asked c.args.texts.now c.read_text-in-SpreadInOrder.new.texts (spread_in (as_named switches.items)) in
    subst Read (sym c.in-SpreadInOrder.is) (record { switches = switches; read = c.in_ok-switches-in-SpreadInOrder.ensures.read; is = refl })

pub returns-in_ok-switches-in-BalanceInOrder-clause-read : goal.returns-in_ok-switches-in-BalanceInOrder-clause-read
returns-in_ok-switches-in-BalanceInOrder-clause-read g c =
    let switches = c.in_ok-switches-in-BalanceInOrder.switches in
    let Read : RuleAsked → Type 0 = λ asked. IsRuleRead g.S.Source.state asked c.args.texts.now c.read_text-in-BalanceInOrder.new.texts (spread_in (balanced_as switches.items)) in
    subst Read (sym c.in-BalanceInOrder.is) (record { switches = switches; read = c.in_ok-switches-in-BalanceInOrder.ensures.read; is = refl })
