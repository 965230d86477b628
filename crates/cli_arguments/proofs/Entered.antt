-- Words that have no fault name a subcommand, whose arguments take the words after it.
use Rattle.std.proofs.Common.{◌≡◌, ◌∙◌, ◌&&◌, ◌||◌, Bool, true, false, not, List, [], ◌∷◌, Option, None, Some, refl, ap, sym, subst}
use Rattle.std.specs.Prelude.{⊤, find, fold, is_some, slice_get, codes, option_and_then, option_map, if◌then◌else◌}
use Rattle.std.specs.List.{list_any}
use Rattle.std.specs.Option.{option_map_or}
use Rattle.std.specs.Str.{bytes_eq}
use Rattle.clap.specs.Faults.{check_fault, defaults_fault, entered_fault, fault_of, level_fault, other_fault, settle_fault, step_fault, turn_fault}
use Rattle.clap.specs.Faults.{values_fault, walk_fault, word_fault}
use Rattle.clap.specs.Facts.{explicit_source, parser_of_value}
use Rattle.clap.specs.Kinds.{check_kinds, or_else, value_kinds}
use Rattle.clap.specs.Values.{refused_kind}
use Rattle.clap.specs.ValueTests.{accepts}
use Rattle.std.proofs.lemmas.Slice.Eq.{bytes_eq-Decides}
use Rattle.clap.specs.Lexer.{long_of, short_of}
use Rattle.clap.specs.Simple.{App, Shape, argument_words, built, entered, label_of, names_of, rows_at, subcommand_of}
use Rattle.clap.specs.Takes.{is_given}
use Rattle.clap.specs.Walk.{Held, Names, Outcome, Row, Rule, Step, Text, Waiting, Walk, after_flag, after_step, answers_to, arg_by_id, arg_by_index}
use Rattle.clap.specs.Walk.{arg_by_long}
use Rattle.clap.specs.Walk.{bundle, done, finished, idle, long_met, long_or_other, next, nothing_held, option, plain, plain_word, positional, refused}
use Rattle.clap.specs.Walk.{rows_after}
use Rattle.clap.specs.Walk.{settled, short_or_plain, stop_after, subcommand, subcommand_met, subcommand_or_other, to_positional, trailing, value, waits, walk}
use Rattle.clap.specs.Walk.{walk_from, walked, walked_from, word_met}
use Rattle.clap.specs.declared.error.kind.ErrorKind.TheVariants.{DisplayHelp, InvalidSubcommand}
use Rattle.cli_arguments.specs.Words.{word_behind}
use Rattle.cli_arguments.proofs.Walked.{AreTaken, has_some, or_none, wants_some}

-- the subcommand at which a walk stops is not help -------------------------------------------------------

abbrev pub is_help : Text → Bool
is_help name = bytes_eq name (codes "help")

IsNotHelp : Option (Text × List Text) → Type 0
IsNotHelp None = ⊤
IsNotHelp (Some p) = is_help p.0 ≡ false

StepIsNotHelp : Step → Type 0
StepIsNotHelp (subcommand name) = is_help name ≡ false
StepIsNotHelp _ = ⊤

plain_step : (c : List Rule) (waiting : Waiting) (word : Text) (h : Held) → StepIsNotHelp (plain_word c waiting word h).1
unfolding StepIsNotHelp
plain_step c (option id) word h = tt
plain_step c idle word h = tt
plain_step c positional word h = tt

flag_step : (c : List Rule) (waiting : Waiting) (word : Text) (h : Held) (o : Outcome) → StepIsNotHelp (after_flag c waiting word h o).1
unfolding StepIsNotHelp
flag_step c waiting word h done = tt
flag_step c waiting word h (waits id) = tt
flag_step c waiting word h plain = plain_step c waiting word h
flag_step c waiting word h refused = plain_step c waiting word h

other_step : (c : List Rule) (waiting : Waiting) (word : Text) (o : Option (Text × Option Text)) (h : Held) → StepIsNotHelp (long_or_other c waiting word o h).1
other_step c waiting word (Some p) h = flag_step c waiting word (long_met c (arg_by_long c p.0) p.1 h).0 (long_met c (arg_by_long c p.0) p.1 h).1
other_step c waiting word None h = short (short_of word)
  where
    short : (flags : Option Text) → StepIsNotHelp (short_or_plain c waiting word flags h).1
    short None = plain_step c waiting word h
    short (Some flags) = flag_step c waiting word (bundle c flags h).0 (bundle c flags h).1

module _ (s : Shape) (names : Names) (takes_help : s.disable_help_subcommand ≡ false) where
  not_help : (b : Bool) → (if b && not s.disable_help_subcommand then DisplayHelp ∷ InvalidSubcommand ∷ [] else []) ≡ [] → b ≡ false
  not_help b e = elim b as (λ t. (if t && not s.disable_help_subcommand then DisplayHelp ∷ InvalidSubcommand ∷ [] else []) ≡ [] → t ≡ false) [
    | true ↦ λ f.
        let g : DisplayHelp ∷ InvalidSubcommand ∷ [] ≡ [] = rw takes_help at f in
        absurd (cc)
    | false ↦ λ f. refl
  ] e

  met_step : (is_trailing : Bool) (waiting : Waiting) (position : _) (word : Text) (h : Held) → word_fault s names is_trailing waiting word h ≡ []
      → StepIsNotHelp (word_met s.rules names is_trailing waiting position word h).1
  unfolding StepIsNotHelp
  met_step true waiting position word h e = tt
  met_step false waiting position word h e = named (subcommand_met names waiting word) e
    where
      named : (o : Option Text) → other_fault s o word h ≡ [] → StepIsNotHelp (subcommand_or_other s.rules o waiting position word h).1
      named (Some name) f = not_help (is_help name) f
      named None f = elim (bytes_eq word (45 ∷ 45 ∷ [])) as
          (λ b. StepIsNotHelp (if b then (h, trailing position) else long_or_other s.rules waiting word (long_of word) h).1) [
            | true ↦ tt
            | false ↦ other_step s.rules waiting word (long_of word) h
          ]

  stepped : (w : Walk) (word : Text) (h : Held) (step : Step) → IsNotHelp w.stopped → StepIsNotHelp step → IsNotHelp (after_step s.rules word w h step).stopped
  unfolding IsNotHelp StepIsNotHelp
  stepped w word h (next waiting) i j = i
  stepped w word h (trailing position) i j = i
  stepped w word h (subcommand name) i j = j
  stepped w word h value i j = taken (arg_by_index s.rules w.position)
    where
      taken : (o : Option Rule) → IsNotHelp (to_positional s.rules o word w h).stopped
      taken None = i
      taken (Some a) = tt

  turned : (w : Walk) (word : Text) → IsNotHelp w.stopped → turn_fault s names w word ≡ [] → IsNotHelp (walked s.rules names w word).stopped
  unfolding walked IsNotHelp
  turned w word i e = from w.stopped refl i e
    where
      met : Held × Step
      met = word_met s.rules names w.is_trailing w.waiting w.position word w.held

      from : (o : Option (Text × List Text)) → w.stopped ≡ o → IsNotHelp o
          → (if is_some o then [] else or_else (word_fault s names w.is_trailing w.waiting word w.held) (step_fault s w.position met.0 met.1)) ≡ []
          → IsNotHelp (walked_from s.rules names o w word).stopped
      from (Some p) is j f = j
      from None is j f =
          let parts = or_none (word_fault s names w.is_trailing w.waiting word w.held) (step_fault s w.position met.0 met.1) f in
          stepped w word met.0 met.1 i (met_step w.is_trailing w.waiting w.position word w.held parts.0)

  walk_stops : (w : Walk) (words : List Text) → IsNotHelp w.stopped → walk_fault s names w words ≡ [] → IsNotHelp (fold (walked s.rules names) w words).stopped
  unfolding walk_fault
  walk_stops w [] i e = i
  walk_stops w (word ∷ rest) i e =
      let parts = or_none (turn_fault s names w word) (walk_fault s names (walked s.rules names w word) rest) e in
      walk_stops (walked s.rules names w word) rest (turned w word i parts.0) parts.1

-- the subcommand ------------------------------------------------------------------------------------------

-- the words name a subcommand, and what stands behind it has no fault
pub record Enters (line : App) (words : List Text) : Type 0 where
  pub name : Text
  pub shape : Shape
  pub rest : List Text
  pub is_named : find (λ s. answers_to name (label_of s)) (built line).subs ≡ Some shape
  pub is_no_help : is_help name ≡ false
  pub is_read : subcommand_of line words ≡ Some (rows_at shape rest)
  pub no_fault : level_fault shape [] nothing_held rest false [] ≡ []

-- the last checks of a level find no fault
pub nothing_wanted : (help sub arg : Bool) → check_kinds help sub arg ≡ [] → (sub ≡ false) × (arg ≡ false)
nothing_wanted true sub arg e = absurd (cc)
nothing_wanted false true arg e = absurd (cc)
nothing_wanted false false true e = absurd (cc)
nothing_wanted false false false e = (refl, refl)

module _ (line : App) (words : List Text) where
  abbrev pub top : Shape
  top = (built line).top

  abbrev stop : Option (Text × List Text)
  stop = stop_after top.rules (names_of (built line)) (argument_words line words)

  entering : (o : Option (Text × List Text)) → IsNotHelp o → is_some (entered (built line) o) ≡ true → entered_fault (built line) o ≡ []
      → subcommand_of line words ≡ entered (built line) o → Enters line words
  unfolding IsNotHelp
  entering None i some e is = absurd (cc)
  entering (Some p) i some e is = found (find (λ s. answers_to p.0 (label_of s)) (built line).subs) refl some e is
    where
      found : (o : Option Shape) → find (λ s. answers_to p.0 (label_of s)) (built line).subs ≡ o → is_some (option_map (λ s. rows_at s p.1) o) ≡ true
          → option_map_or (λ s. level_fault s [] nothing_held p.1 false []) o [] ≡ []
          → subcommand_of line words ≡ option_map (λ s. rows_at s p.1) o → Enters line words
      found None named some e is = absurd (cc)
      found (Some s) named some e is =
          record { name = p.0; shape = s; rest = p.1; is_named = named; is_no_help = i; is_read = is; no_fault = e }

  pub enters : top.disable_help_subcommand ≡ false → top.subcommand_required ≡ true → fault_of line words ≡ [] → Enters line words
  unfolding IsNotHelp
  enters helps required e =
      let names = names_of (built line) in
      let rest = argument_words line words in
      let has = is_some (entered (built line) stop) in
      let walks = or_none (walk_fault top names (walk_from nothing_held) rest) _ e in
      let below = or_none (entered_fault (built line) stop) _ walks.1 in
      let settles = or_none (settle_fault top.rules top.args_override_self (walk top.rules names nothing_held rest).held) _ below.1 in
      let defaults = or_none (defaults_fault (settled top.rules (walk top.rules names nothing_held rest).held).rows top.rules) _ settles.1 in
      entering stop (walk_stops top names helps (walk_from nothing_held) rest tt walks.0) (met has (wanted has defaults.1)) below.0 refl
    where
      rows : List Row
      rows = finished top.rules (walk top.rules (names_of (built line)) nothing_held (argument_words line words)).held

      wanted : (has : Bool) → check_fault top rows has ≡ [] → (not has && top.subcommand_required) ≡ false
      wanted has e = (nothing_wanted _ (not has && top.subcommand_required) _ e).0

      met : (has : Bool) → (not has && top.subcommand_required) ≡ false → has ≡ true
      met true e = refl
      met false e = absurd (cc)

-- what a subcommand requires is given
pub required_given : (s : Shape) (rest : List Text) → level_fault s [] nothing_held rest false [] ≡ []
    → list_any (λ a. a.required && not (is_given a.id (rows_after s.rules [] rest))) s.rules ≡ false
required_given s rest e =
    let walks = or_none (walk_fault s [] (walk_from nothing_held) rest) _ e in
    let settles = or_none (settle_fault s.rules s.args_override_self (walk s.rules [] nothing_held rest).held) _ walks.1 in
    let defaults = or_none (defaults_fault (settled s.rules (walk s.rules [] nothing_held rest).held).rows s.rules) _ settles.1 in
    kept s.subcommand_negates_reqs (nothing_wanted _ _ (not (s.subcommand_negates_reqs && false)
    && list_any (λ a. a.required && not (is_given a.id (rows_after s.rules [] rest))) s.rules) defaults.1).1
  where
    kept : (b : Bool) → (not (b && false) && list_any (λ a. a.required && not (is_given a.id (rows_after s.rules [] rest))) s.rules) ≡ false
        → list_any (λ a. a.required && not (is_given a.id (rows_after s.rules [] rest))) s.rules ≡ false
    kept true e = e
    kept false e = e

-- words ----------------------------------------------------------------------------------------------------

module _ (c : List Rule) (name : Text) where
  -- the word of an argument passes its parser
  unfoldable pub IsPassed : Rule → Option Text → Type 0
  IsPassed a None = ⊤
  IsPassed a (Some v) = accepts a.ignore_case (parser_of_value a.parser) v ≡ true

  first_passes : (a : Rule) (values : List Text) → values_fault a values ≡ [] → IsPassed a (slice_get values 0)
  unfolding IsPassed
  first_passes a [] e = tt
  first_passes a (v ∷ vs) e =
      let first = (or_none (value_kinds a.ignore_case (parser_of_value a.parser) v) (values_fault a vs) e).0 in
      elim (accepts a.ignore_case (parser_of_value a.parser) v) as (λ b. (if b then [] else refused_kind (parser_of_value a.parser) ∷ []) ≡ [] → b ≡ true) [
        | true ↦ λ f. refl
        | false ↦ λ f. absurd (cc)
      ] first

  pub word_passes : (id : Text) (a : Rule) (rows : List Row) → arg_by_id c id ≡ Some a → AreTaken c rows → IsPassed a (word_behind (Some (name, rows)) id)
  unfolding IsPassed AreTaken
  word_passes id a [] is h = tt
  word_passes id a (r ∷ rs) is h =
      elim (bytes_eq r.id id) as (λ b. bytes_eq r.id id ≡ b
      → IsPassed a (option_and_then (λ values. slice_get values 0) (option_map (λ x. x.values) (if b then Some r else find (λ x. bytes_eq x.id id) rs)))) [
        | true ↦ λ e.
            let same : r.id ≡ id = (bytes_eq-Decides r.id id).0 e in
            let one : Some h.0.0 ≡ Some a = sym h.0.1 ∙ ap (arg_by_id c) same ∙ is in
            let rule : h.0.0 ≡ a = ap (λ (o : Option Rule). option_map_or (λ x. x) o a) one in
            first_passes a r.values (subst (λ (x : Rule). values_fault x r.values ≡ []) rule h.0.2.0)
        | false ↦ λ e. word_passes id a rs is h.1
      ] refl

  first_is : (values : List Text) → has_some values ≡ true → is_some (slice_get values 0) ≡ true
  first_is [] e = absurd (cc)
  first_is (v ∷ vs) e = refl

  -- an argument that is given and wants a value has a word
  pub given_word : (id : Text) (a : Rule) (rows : List Row) → arg_by_id c id ≡ Some a → wants_some a ≡ true → AreTaken c rows → is_given id rows ≡ true
      → is_some (word_behind (Some (name, rows)) id) ≡ true
  unfolding AreTaken
  given_word id a [] is wants h g = absurd (cc)
  given_word id a (r ∷ rs) is wants h g =
      elim (bytes_eq r.id id) as (λ b. bytes_eq r.id id ≡ b
      → option_map_or (λ x. explicit_source x.source) (if b then Some r else find (λ x. bytes_eq x.id id) rs) false ≡ true
      → is_some (option_and_then (λ values. slice_get values 0) (option_map (λ x. x.values) (if b then Some r else find (λ x. bytes_eq x.id id) rs))) ≡ true) [
        | true ↦ λ e f.
            let same : r.id ≡ id = (bytes_eq-Decides r.id id).0 e in
            let one : Some h.0.0 ≡ Some a = sym h.0.1 ∙ ap (arg_by_id c) same ∙ is in
            let rule : h.0.0 ≡ a = ap (λ (o : Option Rule). option_map_or (λ x. x) o a) one in
            let some : (not (wants_some a) || has_some r.values) ≡ true = subst (λ (x : Rule). (not (wants_some x) || has_some r.values) ≡ true) rule h.0.2.1 in
            let has : has_some r.values ≡ true = rw wants at some in
            first_is r.values has
        | false ↦ λ e f. given_word id a rs is wants h.1 f
      ] refl g

-- what is found in a list has what each in it has, and passes the test
unfoldable pub EachHas : {X : Type 0} → (X → Type 0) → List X → Type 0
EachHas P [] = ⊤
EachHas P (x ∷ xs) = P x × EachHas P xs

pub found_has : {X : Type 0} (P : X → Type 0) (p : X → Bool) (xs : List X) (x : X) → EachHas P xs → find p xs ≡ Some x → P x × (p x ≡ true)
unfolding EachHas
found_has P p [] x h e = absurd (cc)
found_has {X} P p (y ∷ ys) x h e = elim (p y) as (λ b. p y ≡ b → (if b then Some y else find p ys) ≡ Some x → P x × (p x ≡ true)) [
  | true ↦ λ t f.
      let same : y ≡ x = ap (λ (o : Option X). option_map_or (λ r. r) o x) f in
      (subst P same h.0, subst (λ (z : X). p z ≡ true) same t)
  | false ↦ λ t f. found_has P p ys x h.1 f
] refl e
