-- What arguments and subcommands leave of a command.
use Rattle.std.proofs.Common.{◌≡◌, ◌∙◌, ◌||◌, Bool, true, false, List, [], ◌∷◌, ◌++◌, append_assoc, refl, ap, ap₂}
use Rattle.clap.specs.Built.{AddsArg, AddsSubcommand}
use Rattle.clap.specs.Simple.{App, Shape, shape_of, with_subcommand}
use Rattle.clap.specs.Walk.{Rule, rule_of}
use Rattle.clap.specs.declared.builder.arg.Arg.{Arg}
use Rattle.clap.specs.declared.builder.command.Command.{Command}
use Rattle.clap.specs.declared.builder.command.Command.TheOpen.{Command-F}
use Rattle.clap.specs.declared.builder.command.Command.TheViews.{out-Command as fields_of}
use Rattle.cli_arguments.specs.CommandLine.{AddsRules, IsApp, IsOf}

abbrev pub has_globals : Command-F Command → Bool
has_globals c = c.has_globals

or_false : (b : Bool) → (b || false) ≡ b
or_false true = refl
or_false false = refl

pub adds_rule : (old new : Command) (a : Arg) (rule : Rule) → AddsArg old a new → rule_of a ≡ rule → a.global ≡ false
    → AddsRules (rule ∷ []) old new
adds_rule old new a rule h is own = (
  ap (λ (app : App). app.top) (h.shape own) ∙ ap (λ r. record (shape_of old) { rules = (shape_of old).rules ++ r ∷ [] }) is,
  h.globals ∙ ap (λ b. (fields_of old).has_globals || b) own ∙ or_false (fields_of old).has_globals,
)

pub adds_both : (old mid new : Command) (xs ys : List Rule) → AddsRules xs old mid → AddsRules ys mid new → AddsRules (xs ++ ys) old new
adds_both old mid new xs ys f g = (
  g.0 ∙ ap (λ (s : Shape). record s { rules = s.rules ++ ys }) f.0
      ∙ ap (λ rules. record (shape_of old) { rules = rules }) (append_assoc (shape_of old).rules xs ys),
  g.1 ∙ f.1,
)

pub of_rules : (old new : Command) (shape : Shape) (rules : List Rule) → IsOf shape old → AddsRules rules old new
    → IsOf (record shape { rules = shape.rules ++ rules }) new
of_rules old new shape rules f g = (g.0 ∙ ap (λ (s : Shape). record s { rules = s.rules ++ rules }) f.0, g.1 ∙ f.1)

pub adds_subcommand : (old sub new : Command) (app : App) (shape : Shape) → AddsSubcommand old sub new → IsApp app old → IsOf shape sub
    → IsApp (with_subcommand app shape) new
adds_subcommand old sub new app shape h f g = (h.shape g.1 ∙ ap₂ with_subcommand f.0 g.0, h.globals ∙ ap₂ (λ a b. a || b) f.1 g.1)
