-- There are as many inputs as a task takes.
use Rattle.std.proofs.Common.{◌≡◌, ◌+◌, ◌∙◌, ℕ, Bool, true, false, List, [], ◌∷◌, ◌++◌, Option, None, Some, length, length-append, ap, sym, refl, subst, arith}
use Rattle.std.proofs.lemmas.Option.{same_Some}
use Rattle.std.specs.Prelude.{codes, map, option_and_then, option_map}
use Rattle.std.specs.Borrow.{Bor}
use Rattle.std.proofs.lemmas.List.{length-map}
use Rattle.clap.specs.declared.parser.matches.ArgMatches.{ArgMatches}
use Rattle.sm_cli.specs.Asked.{rule_for, texts_for, texts_if}
use Rattle.sm_cli.specs.declared.asked.RuleAsked.{RuleAsked}
use Rattle.cli_arguments.specs.Words.{files_named, word_named}
use Rattle.cli_task.specs.InputNames.{followed_by, names_asked, names_in, text_if, texts_asked, texts_before_files}
use Rattle.cli_task.specs.InputNames.{texts_of_rule}
use Rattle.cli_task.specs.declared.task.Task.{Task}
use Rattle.cli_task.specs.declared.task.Task.TheVariants.{Answer, OrderOfTables, Audit, Next, Run, Serve, Manage}
use Rattle.cli_task.proofs.RuleTexts.{one_word, texts_counted}
use Rattle.ibsm.specs.Ending.{HasEnoughNames}

-- the names of both are those of the first and then those of the others
both_named : (first later : Option (List (List ℕ))) (names : List (List ℕ)) → followed_by first later ≡ Some names
    → (xs : List (List ℕ)) × (ys : List (List ℕ)) × (first ≡ Some xs) × (later ≡ Some ys) × (length names ≡ length xs + length ys)
both_named None later names e = absurd (cc)
both_named (Some xs) None names e = absurd (cc)
both_named (Some xs) (Some ys) names e =
    let is : xs ++ ys ≡ names = same_Some _ _ e in (xs, ys, refl, refl, ap length (sym is) ∙ length-append xs ys)

two_words : (topology schedule : Option (List ℕ)) (xs : List (List ℕ))
    → option_and_then (λ t. option_map (λ s. t ∷ s ∷ []) schedule) topology ≡ Some xs → length xs ≡ 2
two_words None schedule xs e = absurd (cc)
two_words (Some t) None xs e = absurd (cc)
two_words (Some t) (Some s) xs e = ap length (sym (same_Some _ _ e))

text_counted : (has_text : Bool) (name : Option (List ℕ)) (xs : List (List ℕ)) → text_if has_text name ≡ Some xs → length xs ≡ texts_if has_text
text_counted false name xs e = ap length (sym (same_Some _ _ e))
text_counted true name xs e = one_word name xs e

-- the texts before the files are that of an option, if it is given, and the tables
texts_before_counted : (word : List ℕ → Option (List ℕ)) (is_asked : Bool) (name : List ℕ) (xs : List (List ℕ))
    → texts_before_files word is_asked name ≡ Some xs → length xs ≡ texts_if is_asked + 1
texts_before_counted word is_asked name xs e =
    let all = both_named (text_if is_asked (word name)) _ xs e in
    let text = text_counted is_asked (word name) all.0 all.2 in
    let tables = one_word (word (codes "TABLES")) all.1 all.3 in
    let count = all.4 in omega arith

lines_counted : (guid : Option (List ℕ)) (xs : List (List ℕ)) → option_map (λ g. codes "/dev/stdin" ∷ []) guid ≡ Some xs → length xs ≡ 1
lines_counted None xs e = absurd (cc)
lines_counted (Some g) xs e = ap length (sym (same_Some _ _ e))

-- the names of a manager at a port
abbrev names_served : (List ℕ → Option (List ℕ)) → RuleAsked → Option (List (List ℕ))
names_served word rule = followed_by (texts_of_rule word rule) (followed_by (option_map (λ g. codes "/dev/stdin" ∷ []) (word (codes "GUID"))) (Some []))

served_counted : (word : List ℕ → Option (List ℕ)) (rule : RuleAsked) (names : List (List ℕ)) → names_served word rule ≡ Some names
    → length names ≡ texts_for rule + 1
served_counted word rule names e =
    let own = option_map (λ g. codes "/dev/stdin" ∷ []) (word (codes "GUID")) in
    let all = both_named (texts_of_rule word rule) (followed_by own (Some [])) names e in
    let texts = texts_counted word rule all.0 all.2 in
    let rest = both_named own (Some []) all.1 all.3 in
    let one = lines_counted (word (codes "GUID")) rest.0 rest.2 in
    let none = ap length (same_Some _ _ rest.3) in
    let count = all.4 in
    let others = rest.4 in omega arith

-- there are as many inputs as the task takes
pub names_suffice : (word : List ℕ → Option (List ℕ)) (files : Option (List (List ℕ))) (task : Task) (names : List (List ℕ))
    → names_in word files task ≡ Some names → HasEnoughNames task (length names)
names_suffice word files (Answer request) names e =
    let all = both_named (texts_of_rule word (rule_for request.output)) (followed_by (Some []) files) names e in
    let texts = texts_counted word (rule_for request.output) all.0 all.2 in
    let count = all.4 in omega arith
names_suffice word files OrderOfTables names e =
    let all = both_named (Some []) (followed_by (texts_asked word OrderOfTables) files) names e in
    let rest = both_named (texts_asked word OrderOfTables) files all.1 all.3 in
    let one = one_word (word (codes "held")) rest.0 rest.2 in
    let count = all.4 in
    let others = rest.4 in omega arith
names_suffice word files (Audit asked) names e =
    let all = both_named (Some []) (followed_by (texts_asked word (Audit asked)) files) names e in
    let rest = both_named (texts_asked word (Audit asked)) files all.1 all.3 in
    let own = texts_before_counted word asked.lanes (codes "lanes") rest.0 rest.2 in
    let count = all.4 in
    let others = rest.4 in omega arith
names_suffice word files (Next step) names e =
    let all = both_named (texts_of_rule word step.rule) (followed_by (texts_asked word (Next step)) files) names e in
    let texts = texts_counted word step.rule all.0 all.2 in
    let rest = both_named (texts_asked word (Next step)) files all.1 all.3 in
    let own = texts_before_counted word step.has_last (codes "last-order") rest.0 rest.2 in
    let count = all.4 in
    let others = rest.4 in omega arith
names_suffice word files (Run lmc rule) names e =
    let all = both_named (texts_of_rule word rule) (followed_by (texts_asked word (Run lmc rule)) (Some [])) names e in
    let texts = texts_counted word rule all.0 all.2 in
    let rest = both_named (texts_asked word (Run lmc rule)) (Some []) all.1 all.3 in
    let two = two_words (word (codes "TOPOLOGY")) (word (codes "SCHEDULE")) rest.0 rest.2 in
    let none = ap length (same_Some _ _ rest.3) in
    let count = all.4 in
    let others = rest.4 in omega arith
names_suffice word files (Serve asked) names e = served_counted word asked.rule names e
names_suffice word files (Manage asked) names e = served_counted word asked.serving.rule names e

pub inputs_suffice : (matches : ArgMatches) (task : Task) (names : List (Bor (List ℕ))) → Some (map (λ name. name.now) names) ≡ names_asked matches task
    → HasEnoughNames task (length names)
inputs_suffice matches task names e =
    subst (λ (count : ℕ). HasEnoughNames task count) (length-map names (λ name. name.now))
    (names_suffice (word_named matches) (files_named matches) task (map (λ name. name.now) names) (sym e))
