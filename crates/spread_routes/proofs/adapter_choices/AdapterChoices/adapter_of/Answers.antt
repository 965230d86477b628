use Rattle.std.proofs.Common.{◌≡◌, ◌<◌, ◌-◌, ◌+◌, ◌^◌, ℕ, List, ap, ◌∙◌, arith, get_or, length}
use Rattle.std.specs.Prelude.{min}
use Rattle.spread_labels.proofs.Numbers.{made_at, numbers_long}
use Rattle.balanced_choices.specs.BalancedChoices.{in_turn}
use Rattle.spread_routes.specs.AdapterChoices.{AdapterChoices, first_at}
use Rattle.spread_routes.proofs.PastEnds.{stopped}
use Rattle.spread_routes.proofs.adapter_choices.AdapterChoices.adapter_of.Goals as goal

pub index-requires : goal.index-requires
index-requires c =
    let held = c.self.inside.adapters.items in
    let long = ap length c.self.invariant.0 ∙ numbers_long (λ q. min (first_at held q) (2 ^ 64 - 1)) 0 (length held) in
    omega (arith, c.requires, long, ap (λ (v : AdapterChoices). length v.adapters) c.self.view_is)

pub returns : goal.returns
returns c =
    let held = c.self.inside.adapters.items in
    let counts = c.args.self.now.adapters in
    let p = c.args.position in
    let most = 2 ^ 64 - 1 in
    let is : held ≡ counts = ap (λ (v : AdapterChoices). v.adapters) c.self.view_is in
    let within : p < length held = omega (arith, c.requires, ap length is) in
    let first : c.index.result.now ≡ min (first_at counts p) most =
    c.index.ensures ∙ ap (λ (xs : List ℕ). get_or xs p c.index.result.now) c.self.invariant.0
    ∙ made_at (λ q. min (first_at held q) most) (length held) p c.index.result.now within ∙ ap (λ ns. min (first_at ns p) most) is in
    let turn : c.in_turn-turn.result ≡ in_turn (get_or counts p 0) c.args.number =
    c.in_turn-turn.ensures.turn ∙ ap (λ n. in_turn n c.args.number) c.count_at.ensures.count in
    c.saturating_add.ensures ∙ (λ i. min (first i + turn i) most) ∙ stopped (first_at counts p) (in_turn (get_or counts p 0) c.args.number) most
