-- What is read from words without a fault is well-formed.
use Rattle.std.proofs.Common.{◌≡◌, ◌∙◌, ◌&&◌, ◌||◌, ℕ, Bool, true, false, not, List, [], ◌∷◌, Option, None, Some, refl, ap, sym, subst, inl, inr}
use Rattle.std.specs.Prelude.{◌⊎◌, Box, Ok, pos, find, map, is_some, codes, option_and_then, option_map}
use Rattle.std.specs.Borrow.{Bor}
use Rattle.std.specs.List.{list_any}
use Rattle.std.specs.Option.{option_map_or}
use Rattle.std.specs.Str.{bytes_eq}
use Rattle.std.proofs.lemmas.Slice.Eq.{bytes_eq-Decides}
use Rattle.clap.specs.Simple.{Shape, built, label_of}
use Rattle.clap.specs.Takes.{is_given}
use Rattle.clap.specs.Facts.{explicit_source, parser_of_value}
use Rattle.clap.specs.ValueTests.{accepts}
use Rattle.clap.specs.declared.builder.value_parser.ValueParser.{ValueParser}
use Rattle.clap.proofs.WalkLemmas.{list_any-map}
use Rattle.clap.specs.Walk.{Row, Rule, Text, answers_to, arg_by_id, rows_after}
use Rattle.clap.proofs.ValueTestLemmas.{accepts-Accepts}
use Rattle.clap.specs.declared.builder.value_parser.ValueParser.TheVariants.{Names, Signed}
use Rattle.clap.specs.Simple.{subcommand_rows, subcommand_rows_of}
use Rattle.clap.specs.declared.parser.matches.ArgMatches.{ArgMatches}
use Rattle.clap.specs.declared.parser.matches.ArgMatches.TheViews.{out-ArgMatches, out-SubCommand}
use Rattle.clap.specs.declared.parser.matches.SubCommand.{SubCommand}
use Rattle.std.specs.Box.{box_value}
use Rattle.cli_arguments.specs.CommandLine.{IsReadAs, AreRoutings, command_line}
use Rattle.cli_arguments.specs.WellFormed.{HasItsWords, IsGiven, IsNumberWithin, IsRouting, IsWellFormed, NamesFiles, NamesOrder, NamesPace, NamesPlanning, NamesSeat}
use Rattle.cli_arguments.specs.WellFormed.{facts, join, plan, order, audit, next, run, serve, manage}
use Rattle.cli_arguments.specs.Words.{has_conflict, has_conflict_behind, has_conflict_of, is_guid, is_held_and_named, is_key, is_wrong_seat, order_rule, values_in, word_behind}
use Rattle.cli_arguments.proofs.Entered.{EachHas, IsPassed, enters, required_given, found_has, given_word, is_help, word_passes}
use Rattle.cli_arguments.proofs.Walked.{ArePlainIn, AreTaken, level_taken, wants_some}

neither : (a b : Bool) → (a || b) ≡ false → (a ≡ false) × (b ≡ false)
neither false b e = (refl, e)
neither true b e = absurd (cc)

is_so : (b : Bool) → not b ≡ false → b ≡ true
is_so true e = refl
is_so false e = absurd (cc)

module _ (routings : Bor (List (Bor Text))) (known : AreRoutings routings) (c : List Rule) (name : Text) (rows : List Row) (taken : AreTaken c rows) where
  abbrev word : Text → Option Text
  word = word_behind (Some (name, rows))

  number_read : (least most : ℕ) (a : Rule) → a.parser ≡ Some (Signed (pos least) (pos most)) → (o : Option Text) → IsPassed c name a o
      → IsNumberWithin least most o
  unfolding IsPassed
  number_read least most a is None h = tt
  number_read least most a is (Some v) h =
      accepts-Accepts a.ignore_case (Signed (pos least) (pos most)) v
      (subst (λ (o : Option ValueParser). accepts a.ignore_case (parser_of_value o) v ≡ true) is h)

  number_named : (id : Text) (least most : ℕ) (a : Rule) → arg_by_id c id ≡ Some a → a.parser ≡ Some (Signed (pos least) (pos most))
      → IsNumberWithin least most (word id)
  number_named id least most a is parser = number_read least most a parser (word id) (word_passes c name id a rows is taken)

  one_named : (xs : List (Bor Text)) (v : Text) → map (λ word. word.now) xs ≡ codes "updown" ∷ codes "spread" ∷ codes "balance" ∷ []
      → list_any (λ x. bytes_eq x.now v) xs ≡ true → IsRouting (Some v)
  one_named xs v is h = either (subst (λ (texts : List Text). list_any (λ t. bytes_eq t v) texts ≡ true) is
      (sym (list_any-map (λ t. bytes_eq t v) (λ x. x.now) xs) ∙ h))
    where
      last : (b : Bool) → (b || false) ≡ true → b ≡ true
      last true e = refl
      last false e = absurd (cc)

      spreads : (bytes_eq (codes "spread") v || (bytes_eq (codes "balance") v || false)) ≡ true → (v ≡ codes "spread") ⊎ (v ≡ codes "balance")
      spreads e = elim (bytes_eq (codes "spread") v) as
          (λ b. bytes_eq (codes "spread") v ≡ b → (b || (bytes_eq (codes "balance") v || false)) ≡ true → (v ≡ codes "spread") ⊎ (v ≡ codes "balance")) [
            | true ↦ λ f g. inl (sym ((bytes_eq-Decides (codes "spread") v).0 f))
            | false ↦ λ f g. inr (sym ((bytes_eq-Decides (codes "balance") v).0 (last (bytes_eq (codes "balance") v) g)))
          ] refl e

      either : (bytes_eq (codes "updown") v || (bytes_eq (codes "spread") v || (bytes_eq (codes "balance") v || false))) ≡ true → IsRouting (Some v)
      either e = elim (bytes_eq (codes "updown") v) as
          (λ b. bytes_eq (codes "updown") v ≡ b → (b || (bytes_eq (codes "spread") v || (bytes_eq (codes "balance") v || false))) ≡ true → IsRouting (Some v)) [
            | true ↦ λ f g. inl (sym ((bytes_eq-Decides (codes "updown") v).0 f))
            | false ↦ λ f g. inr (spreads g)
          ] refl e

  routing_read : (a : Rule) → a.parser ≡ Some (Names routings) → a.ignore_case ≡ false → (o : Option Text) → IsPassed c name a o → IsRouting o
  unfolding IsPassed
  routing_read a is plain None h = tt
  routing_read a is plain (Some v) h =
      one_named routings.now v known (subst (λ (x : Bool × Option ValueParser). accepts x.0 (parser_of_value x.1) v ≡ true) (λ i. (plain i, is i)) h)

  files_named : is_given (codes "FILE") rows ≡ true → is_some (values_in (codes "FILE") rows) ≡ true
  files_named e = found (find (λ r. bytes_eq r.id (codes "FILE")) rows) e
    where
      found : (o : Option Row) → option_map_or (λ r. explicit_source r.source) o false ≡ true → is_some (option_map (λ r. r.values) o) ≡ true
      found None e = absurd (cc)
      found (Some r) e = refl

  names_files : (f : Rule) → arg_by_id c (codes "floor") ≡ Some f → f.parser ≡ Some (Signed (pos 1) (pos 4294967295)) → is_given (codes "FILE") rows ≡ true
      → NamesFiles word (values_in (codes "FILE") rows)
  names_files f is parser given =
      record {
        named = files_named given;
        floor = number_named (codes "floor") 1 4294967295 f is parser;
      }

  names_planning : (l r : Rule) → arg_by_id c (codes "lmc") ≡ Some l → l.parser ≡ Some (Signed (pos 0) (pos 7)) → arg_by_id c (codes "routing") ≡ Some r
      → r.parser ≡ Some (Names routings) → r.ignore_case ≡ false
      → has_conflict_of (word (codes "routing")) (is_some (word (codes "roots"))) (is_some (word (codes "order"))) ≡ false → NamesPlanning word
  names_planning l r is_l parser_l is_r parser_r plain apart = record {
    lmc = number_named (codes "lmc") 0 7 l is_l parser_l;
    routing = routing_read r parser_r plain (word (codes "routing")) (word_passes c name (codes "routing") r rows is_r taken);
    apart = apart;
  }

  names_order : (r : Rule) → arg_by_id c (codes "routing") ≡ Some r → r.parser ≡ Some (Names routings) → r.ignore_case ≡ false
      → has_conflict_of (order_rule (word (codes "routing"))) (is_some (word (codes "roots"))) (is_some (word (codes "order"))) ≡ false
      → is_held_and_named word ≡ false → NamesOrder word
  names_order r is_r parser_r plain apart alone = record {
    routing = routing_read r parser_r plain (word (codes "routing")) (word_passes c name (codes "routing") r rows is_r taken);
    apart = apart;
    alone = alone;
  }

  text_given : (id : Text) (a : Rule) → arg_by_id c id ≡ Some a → wants_some a ≡ true → is_given id rows ≡ true → IsGiven (word id)
  text_given id a is wants given = given_word c name id a rows is wants taken given

  names_seat : (g p q : Rule) → arg_by_id c (codes "GUID") ≡ Some g → arg_by_id c (codes "PORT") ≡ Some p → p.parser ≡ Some (Signed (pos 1) (pos 254))
      → arg_by_id c (codes "PRIORITY") ≡ Some q → q.parser ≡ Some (Signed (pos 0) (pos 15)) → wants_some g ≡ true → wants_some p ≡ true
      → wants_some q ≡ true → is_given (codes "GUID") rows ≡ true → is_given (codes "PORT") rows ≡ true → is_given (codes "PRIORITY") rows ≡ true
      → is_wrong_seat word ≡ false → NamesSeat word
  names_seat g p q is_g is_p parser_p is_q parser_q wants_g wants_p wants_q given_g given_p given_q right = record {
    guid = is_so (is_guid (word (codes "GUID"))) (neither _ _ right).0;
    port_given = text_given (codes "PORT") p is_p wants_p given_p;
    port = number_named (codes "PORT") 1 254 p is_p parser_p;
    priority_given = text_given (codes "PRIORITY") q is_q wants_q given_q;
    priority = number_named (codes "PRIORITY") 0 15 q is_q parser_q;
    sm_key = is_so (is_key (word (codes "sm-key"))) (neither _ _ right).1;
  }

  names_pace : (e p w r o n : Rule) → arg_by_id c (codes "every") ≡ Some e → e.parser ≡ Some (Signed (pos 1000) (pos 3600000))
      → arg_by_id c (codes "poll") ≡ Some p → p.parser ≡ Some (Signed (pos 1) (pos 600000))
      → arg_by_id c (codes "timeout") ≡ Some w → w.parser ≡ Some (Signed (pos 1) (pos 600000))
      → arg_by_id c (codes "tries") ≡ Some r → r.parser ≡ Some (Signed (pos 1) (pos 101))
      → arg_by_id c (codes "outstanding") ≡ Some o → o.parser ≡ Some (Signed (pos 1) (pos 64))
      → arg_by_id c (codes "newest") ≡ Some n → n.parser ≡ Some (Signed (pos 0) (pos 4294967294)) → NamesPace word
  names_pace e p w r o n is_e parser_e is_p parser_p is_w parser_w is_r parser_r is_o parser_o is_n parser_n = record {
    every = number_named (codes "every") 1000 3600000 e is_e parser_e;
    poll = number_named (codes "poll") 1 600000 p is_p parser_p;
    timeout = number_named (codes "timeout") 1 600000 w is_w parser_w;
    tries = number_named (codes "tries") 1 101 r is_r parser_r;
    outstanding = number_named (codes "outstanding") 1 64 o is_o parser_o;
    newest = number_named (codes "newest") 0 4294967294 n is_n parser_n;
  }

-- subcommands ---------------------------------------------------------------------------------------------

given_first : (b x : Bool) → (not b || x) ≡ false → (b ≡ true) × (x ≡ false)
given_first true x e = (refl, e)
given_first false x e = absurd (cc)

-- behind the subcommand of this shape stand the words that it takes
abbrev pub Fits : Shape → Type 0
Fits s = (other : Text) → is_help other ≡ false → answers_to other (label_of s) ≡ true → (rows : List Row) → AreTaken s.rules rows
    → list_any (λ a. a.required && not (is_given a.id rows)) s.rules ≡ false
    → has_conflict s.name (word_behind (Some (s.name, rows))) ≡ false
    → HasItsWords (word_behind (Some (s.name, rows))) (values_in (codes "FILE") rows) s.name

abbrev pub shapes : Bor (List (Bor Text)) → List Shape
shapes routings = (built (command_line routings)).subs

-- the arguments of each are plain
pub all_plain : (routings : Bor (List (Bor Text))) → EachHas (λ (s : Shape). ArePlainIn s.rules s.rules) (shapes routings)
unfolding EachHas ArePlainIn
all_plain routings = (
  ((refl, refl), ((refl, refl), ((refl, refl), tt))),
  (
    ((refl, refl), ((refl, refl), ((refl, refl), tt))),
    (
      ((refl, refl), ((refl, refl), ((refl, refl), ((refl, refl), ((refl, refl), ((refl, refl), ((refl, refl), tt))))))),
      (
        ((refl, refl), ((refl, refl), ((refl, refl), ((refl, refl), ((refl, refl), ((refl, refl), tt)))))),
        (
          ((refl, refl), ((refl, refl), ((refl, refl), ((refl, refl), ((refl, refl), ((refl, refl), ((refl, refl), ((refl, refl), tt)))))))),
          (
            ((refl, refl), ((refl, refl), ((refl, refl), ((refl, refl), ((refl, refl), ((refl, refl), ((refl, refl), ((refl, refl), tt)))))))),
            (
              ((refl, refl), ((refl, refl), ((refl, refl), ((refl, refl), ((refl, refl), ((refl, refl), ((refl, refl), tt))))))),
              (
                ((refl, refl), ((refl, refl), ((refl, refl), ((refl, refl), ((refl, refl), ((refl, refl), ((refl, refl), ((refl, refl), ((refl, refl), ((refl, refl), tt)))))))))),
                (
                  (
                    (refl, refl),
                    (
                      (refl, refl),
                      (
                        (refl, refl),
                        (
                          (refl, refl),
                          (
                            (refl, refl),
                            (
                              (refl, refl),
                              (
                                (refl, refl),
                                (
                                  (refl, refl),
                                  ((refl, refl), ((refl, refl), ((refl, refl), ((refl, refl), ((refl, refl), ((refl, refl), ((refl, refl), ((refl, refl), ((refl, refl), tt))))))))),
                                ),
                              ),
                            ),
                          ),
                        ),
                      ),
                    ),
                  ),
                  (
                    ((refl, refl), tt),
                    tt,
                  ),
                ),
              ),
            ),
          ),
        ),
      ),
    ),
  ),
)

pub all_fit : (routings : Bor (List (Bor Text))) → AreRoutings routings → EachHas Fits (shapes routings)
unfolding EachHas
all_fit routings known = (
  λ other differs is rows t e apart. facts refl (names_files routings known _ (codes "facts") rows t _ refl refl (given_first _ _ e).0),
  (
    λ other differs is rows t e apart. join refl (names_files routings known _ (codes "join") rows t _ refl refl (given_first _ _ e).0),
    (
      λ other differs is rows t e apart. plan refl (names_files routings known _ (codes "plan") rows t _ refl refl (given_first _ _ e).0)
          (names_planning routings known _ (codes "plan") rows t _ _ refl refl refl refl refl (neither _ _ apart).0),
      (
        λ other differs is rows t e apart. order refl (files_named routings known _ (codes "order") rows t (given_first _ _ e).0)
            (names_order routings known _ (codes "order") rows t _ refl refl refl (neither _ _ apart).0 (neither _ _ apart).1),
        (
          λ other differs is rows t e apart. audit refl (text_given routings known _ (codes "audit") rows t (codes "TABLES") _ refl refl (given_first _ _ e).0)
              (files_named routings known _ (codes "audit") rows t (given_first _ _ (given_first _ _ e).1).0)
              (number_named routings known _ (codes "audit") rows t (codes "max-load") 0 4294967295 _ refl refl) (is_so _ apart),
          (
            λ other differs is rows t e apart. next refl (text_given routings known _ (codes "next") rows t (codes "TABLES") _ refl refl (given_first _ _ e).0)
                (files_named routings known _ (codes "next") rows t (given_first _ _ (given_first _ _ e).1).0)
                (names_planning routings known _ (codes "next") rows t _ _ refl refl refl refl refl (neither _ _ apart).0),
            (
              λ other differs is rows t e apart. run refl (text_given routings known _ (codes "run") rows t (codes "TOPOLOGY") _ refl refl (given_first _ _ e).0)
                  (text_given routings known _ (codes "run") rows t (codes "SCHEDULE") _ refl refl (given_first _ _ (given_first _ _ e).1).0)
                  (names_planning routings known _ (codes "run") rows t _ _ refl refl refl refl refl (neither _ _ apart).0),
              (
                λ other differs is rows t e apart. serve refl (names_seat routings known _ (codes "serve") rows t _ _ _ refl refl refl refl refl refl refl refl
                    (given_first _ _ e).0 (given_first _ _ (given_first _ _ e).1).0 (given_first _ _ (given_first _ _ (given_first _ _ e).1).1).0
                    (neither _ _ apart).1)
                    (names_planning routings known _ (codes "serve") rows t _ _ refl refl refl refl refl (neither _ _ apart).0),
                (
                  λ other differs is rows t e apart. manage refl
                      (names_seat routings known _ (codes "manage") rows t _ _ _ refl refl refl refl refl refl refl refl
                      (given_first _ _ e).0 (given_first _ _ (given_first _ _ e).1).0 (given_first _ _ (given_first _ _ (given_first _ _ e).1).1).0
                      (neither _ _ apart).1)
                      (names_planning routings known _ (codes "manage") rows t _ _ refl refl refl refl refl (neither _ _ apart).0)
                      (names_pace routings known _ (codes "manage") rows t _ _ _ _ _ _ refl refl refl refl refl refl refl refl refl refl refl refl),
                  (
                    λ other differs is rows t e apart. absurd (is_named_help other differs is),
                    tt,
                  ),
                ),
              ),
            ),
          ),
        ),
      ),
    ),
  ),
)
  where
    is_named_help : (other : Text) → is_help other ≡ false → (bytes_eq (codes "help") other || false) ≡ true → ⊥
    is_named_help other differs is =
        let same : codes "help" ≡ other = (bytes_eq-Decides (codes "help") other).0 (last (bytes_eq (codes "help") other) is) in
        let bad : is_help (codes "help") ≡ false = subst (λ (t : Text). is_help t ≡ false) (sym same) differs in
        absurd (cc)
      where
        last : (b : Bool) → (b || false) ≡ true → b ≡ true
        last true e = refl
        last false e = absurd (cc)

-- words ---------------------------------------------------------------------------------------------------

module _ {Z : Type 0} where
  name_of_rows : (sub : Option (Box SubCommand Z)) (p : Text × List Row) → subcommand_rows sub ≡ Some p
      → option_map (λ b. (out-SubCommand (box_value b)).name.now) sub ≡ Some p.0
  name_of_rows None p e = absurd (cc)
  name_of_rows (Some b) p e = ap (option_map (λ (q : Text × List Row). q.0)) e

-- what is read of the words is well-formed
pub read_is_well_formed : (routings : Bor (List (Bor Text))) (words : List Text) (matches : ArgMatches) → AreRoutings routings
    → IsReadAs (command_line routings) words (Ok matches) → IsWellFormed matches
read_is_well_formed routings words matches known read =
    let there = enters (command_line routings) words refl refl read.1 in
    let fits = found_has Fits (λ s. answers_to there.name (label_of s)) (shapes routings) there.shape (all_fit routings known) there.is_named in
    let flat = found_has (λ (s : Shape). ArePlainIn s.rules s.rules) (λ s. answers_to there.name (label_of s)) (shapes routings) there.shape
    (all_plain routings) there.is_named in
    let rows = rows_after there.shape.rules [] there.rest in
    let taken = level_taken there.shape.rules there.shape.args_override_self flat.0 there.shape [] there.rest false [] refl refl there.no_fault in
    let rows_are : subcommand_rows_of matches ≡ Some (there.shape.name, rows) = read.0 ∙ there.is_read in
    let apart : has_conflict there.shape.name (word_behind (Some (there.shape.name, rows))) ≡ false = ap has_conflict_behind (sym there.is_read) ∙ read.2 in
    record {
      name = there.shape.name;
      named = name_of_rows (out-ArgMatches matches).subcommand (there.shape.name, rows) rows_are;
      words = subst (λ (o : Option (Text × List Row)). HasItsWords (word_behind o) (option_and_then (λ s. values_in (codes "FILE") s.1) o) there.shape.name)
          (sym rows_are) (fits.0 there.name there.is_no_help fits.1 rows taken (required_given there.shape there.rest there.no_fault) apart);
    }
