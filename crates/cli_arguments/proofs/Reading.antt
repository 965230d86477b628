-- What a command line is read as, by the command that was built for it.
use Rattle.std.proofs.Common.{◌≡◌, ◌∙◌, List, [], true, ap, sym}
use Rattle.clap.specs.Faults.{fault_of, is_simple_and_free}
use Rattle.clap.specs.Simple.{App, HasMatchesOf, is_simple, subcommand_of, subcommand_rows_of}
use Rattle.clap.specs.Walk.{Text}
use Rattle.clap.specs.declared.parser.matches.ArgMatches.{ArgMatches}

module _ (app line : App) (words : List Text) (is : app ≡ line) where
  pub reads : (matches : ArgMatches) → is_simple line ≡ true → HasMatchesOf app words matches → subcommand_rows_of matches ≡ subcommand_of line words
  reads matches simple h = (h (ap is_simple is ∙ simple)).1 ∙ ap (λ (a : App). subcommand_of a words) is

  pub no_fault : is_simple_and_free line ≡ true → (is_simple_and_free app ≡ true → fault_of app words ≡ []) → fault_of line words ≡ []
  no_fault simple h = sym (ap (λ (a : App). fault_of a words) is) ∙ h (ap is_simple_and_free is ∙ simple)
