-- What the words of the command line name.
use Rattle.std.proofs.Common.{◌≡◌, ℕ, List, [], ◌∷◌, true, false, Option, None, Some, refl, sym, ap, ◌∙◌}
use Rattle.std.specs.Prelude.{Box, find, map, option_map, option_and_then, slice_get, if◌then◌else◌}
use Rattle.std.proofs.lemmas.Option.{slice_get-map}
use Rattle.std.specs.Str.{bytes_eq}
use Rattle.clap.specs.Facts.{Entry}
use Rattle.clap.specs.Matches.{first_value, matched_of, raw_values, subcommand_name_of}
use Rattle.clap.specs.Simple.{subcommand_rows, subcommand_rows_of}
use Rattle.clap.specs.Walk.{Row, row_of, rows_of, Text}
use Rattle.clap.specs.declared.parser.matches.ArgMatches.{ArgMatches}
use Rattle.clap.specs.declared.parser.matches.Found.{Found}
use Rattle.clap.specs.declared.parser.matches.MatchedArg.{MatchedArg}
use Rattle.clap.specs.declared.parser.matches.ArgMatches.TheViews.{out-ArgMatches, out-SubCommand}
use Rattle.clap.specs.declared.parser.matches.SubCommand.{SubCommand}
use Rattle.std.specs.Box.{box_value}
use Rattle.cli_arguments.specs.Words.{has_conflict, has_conflict_behind, values_in, word_behind, word_named}

found_values : (name : List ℕ) (es : List Entry)
    → option_map raw_values (option_map (λ e. e.1) (find (λ e. bytes_eq e.0.now name) es)) ≡ values_in name (map row_of es)
found_values name [] = refl
found_values name (e ∷ es) =
    elim (bytes_eq e.0.now name) as (λ b. option_map raw_values (option_map (λ x. x.1) (if b then Some e else find (λ x. bytes_eq x.0.now name) es))
    ≡ option_map (λ r. r.values) (if b then Some (row_of e) else find (λ r. bytes_eq r.id name) (map row_of es))) [
      | true ↦ refl
      | false ↦ found_values name es
    ]

-- the values that a subcommand's matches hold are those behind the subcommand, and where they hold none there are none
pub values_are : (o : Option (Text × List Row)) (found : Found) (name : List ℕ) (values : Option (List (List ℕ)))
    → Some (rows_of found) ≡ option_map (λ p. p.1) o → values ≡ option_map raw_values (matched_of found name)
    → option_and_then (λ s. values_in name s.1) o ≡ values
values_are None found name values e f = absurd (cc)
values_are (Some p) found name values e f =
    let same : rows_of found ≡ p.1 = cc in
    ap (values_in name) (sym same) ∙ sym (f ∙ found_values name found.entries.items)

first_of : (m : Option MatchedArg)
    → option_and_then (λ a. option_map (λ s. s.now) (slice_get a.vals.items 0)) m ≡ option_and_then (λ vs. slice_get vs 0) (option_map raw_values m)
first_of None = refl
first_of (Some a) = sym (slice_get-map (λ s. s.now) a.vals.items 0)

-- so is the first of them, if there is one
pub first_is : (o : Option (Text × List Row)) (found : Found) (name : List ℕ) → Some (rows_of found) ≡ option_map (λ p. p.1) o
    → option_and_then (λ s. option_and_then (λ vs. slice_get vs 0) (values_in name s.1)) o ≡ first_value found name
first_is None found name e = absurd (cc)
first_is (Some p) found name e =
    let same : rows_of found ≡ p.1 = cc in
    ap (λ rows. option_and_then (λ vs. slice_get vs 0) (values_in name rows)) (sym same)
    ∙ sym (ap (option_and_then (λ vs. slice_get vs 0)) (found_values name found.entries.items))
    ∙ sym (first_of (matched_of found name))

-- so the words of all arguments are those that a subcommand's matches hold
pub words_are : (matches : ArgMatches) (found : Found) → Some (rows_of found) ≡ option_map (λ p. p.1) (subcommand_rows_of matches)
    → word_named matches ≡ first_value found
words_are matches found e = λ i name. first_is (subcommand_rows_of matches) found name e i

-- the name of the subcommand is that of its rows
name_is : {Z : Type 0} (sub : Option (Box SubCommand Z)) → option_map (λ b. (out-SubCommand (box_value b)).name.now) sub
    ≡ option_map (λ p. p.0) (subcommand_rows sub)
name_is None = refl
name_is (Some b) = refl

conflict_at : (o : Option (Text × List Row)) (name : List ℕ) (word : List ℕ → Option (List ℕ)) → Some name ≡ option_map (λ p. p.0) o
    → word_behind o ≡ word → has_conflict_behind o ≡ has_conflict name word
conflict_at None name word e f = absurd (cc)
conflict_at (Some s) name word e f = let same : s.0 ≡ name = cc in λ i. has_conflict (same i) (f i)

-- so options contradict each other in what was read where they do in these matches
pub conflict_is : (matches : ArgMatches) (found : Found) (name : List ℕ) → Some (rows_of found) ≡ option_map (λ p. p.1) (subcommand_rows_of matches)
    → Some name ≡ subcommand_name_of matches → has_conflict_behind (subcommand_rows_of matches) ≡ has_conflict name (first_value found)
conflict_is matches found name e f =
    conflict_at (subcommand_rows_of matches) name (first_value found) (f ∙ name_is (out-ArgMatches matches).subcommand) (words_are matches found e)
