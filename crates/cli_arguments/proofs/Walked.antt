-- Words that have no fault leave rows whose values the parsers of their arguments take.
use Rattle.std.proofs.Common.{◌≡◌, ◌∙◌, ◌&&◌, ◌||◌, ◌++◌, Bool, true, false, not, ℕ, zero, suc, List, [], ◌∷◌, Option, None, Some, refl, ap, sym, subst, length}
use Rattle.std.proofs.Common.{arith}
use Rattle.std.specs.Prelude.{⊤, find, fold, is_some, nat_lt, slice_get, drop, encode_utf8, if◌then◌else◌, ◌==◌}
use Rattle.std.specs.Option.{option_map_or}
use Rattle.std.specs.Str.{bytes_eq, chars}
use Rattle.std.proofs.lemmas.Slice.Eq.{bytes_eq-Decides}
use Rattle.clap.specs.Facts.{parser_of_value, unwrap_or_range}
use Rattle.clap.specs.Faults.{action_fault, bundle_fault, bundle_step_fault, check_fault, default_fault, defaults_fault, given_default_fault, level_fault}
use Rattle.clap.specs.Faults.{flags_fault, flag_word_fault, long_fault, option_fault, other_fault, positional_fault}
use Rattle.clap.specs.Faults.{react_fault, settle_fault, short_fault, step_fault, stray_fault, turn_fault, use_fault, values_fault, walk_fault, word_fault}
use Rattle.clap.specs.Kinds.{Kinds, or_else, range_kinds, request_kinds, value_kinds}
use Rattle.clap.specs.Lexer.{long_of, short_of}
use Rattle.clap.specs.Simple.{Shape}
use Rattle.clap.specs.Walk.{Held, Names, Outcome, Row, Rule, Step, Text, Waiting, Walk, action_of, after_flag, after_step, arg_by_id, arg_by_index, arg_by_long}
use Rattle.clap.specs.Walk.{arg_by_short}
use Rattle.clap.specs.Walk.{at_row, attached_value, bundle_met, bundle_step, flag_met, used_by_id, done, bundle, default_rows, finished, has_row, is_empty}
use Rattle.clap.specs.Walk.{is_pending, nothing_held, rows_after, walk_from, with_default, subcommand_or_other, to_positional, walked_from, long_met}
use Rattle.clap.specs.Walk.{long_or_other, more_values, next, option, option_met, option_word, idle, plain, plain_word}
use Rattle.clap.specs.Walk.{most_values, positional, reacted, reading_by, refused, settled, settled_rows, short_met, short_or_plain, subcommand, subcommand_met}
use Rattle.clap.specs.Walk.{takes_several, takes_values, trailing, used, used_as, value, values_or_missing, waits, walk, walked, with_values, without, word_met}
use Rattle.clap.specs.declared.builder.action.ArgAction.{ArgAction}
use Rattle.clap.specs.declared.builder.action.ArgAction.TheVariants.{Set, Append, SetTrue, SetFalse, Count, Help, HelpShort, HelpLong, Version}
use Rattle.clap.specs.declared.error.kind.ErrorKind.TheVariants.{InvalidValue, TooFewValues, TooManyValues, WrongNumberOfValues}
use Rattle.clap.specs.declared.parser.matches.ValueSource.{ValueSource}
use Rattle.clap.specs.declared.parser.matches.ValueSource.TheVariants.{CommandLine, DefaultValue}

-- faults -------------------------------------------------------------------------------------------------

-- where neither has a fault both have none
pub or_none : (a b : Kinds) → or_else a b ≡ [] → (a ≡ []) × (b ≡ [])
or_none [] b e = (refl, e)
or_none (k ∷ ks) b e = absurd (cc)

joined_none : (a b : Kinds) → a ≡ [] → b ≡ [] → or_else a b ≡ []
joined_none [] b e f = f
joined_none (k ∷ ks) b e f = absurd (cc)

-- rows ---------------------------------------------------------------------------------------------------

-- a use of the argument wants a value
abbrev pub wants_some : Rule → Bool
wants_some a = nat_lt 0 (unwrap_or_range a.range).start_inclusive

abbrev pub has_some : List Text → Bool
has_some [] = false
has_some (v ∷ vs) = true

-- the argument takes the values, and has one where it wants one
abbrev pub Takes : Rule → List Text → Type 0
Takes a values = (values_fault a values ≡ []) × ((not (wants_some a) || has_some values) ≡ true)

-- so it is with the argument of a row
abbrev pub IsTaken : List Rule → Row → Type 0
IsTaken c r = (a : Rule) × (arg_by_id c r.id ≡ Some a) × Takes a r.values

unfoldable pub AreTaken : List Rule → List Row → Type 0
AreTaken c [] = ⊤
AreTaken c (r ∷ rs) = IsTaken c r × AreTaken c rs

-- a use of the argument replaces its values or adds to them, or is a request for help or the version
abbrev pub is_plain_action : ArgAction → Bool
is_plain_action SetFalse = false
is_plain_action Count = false
is_plain_action _ = true

-- it is so, and is the first argument of its id
abbrev pub IsPlainIn : List Rule → Rule → Type 0
IsPlainIn c a = (arg_by_id c a.id ≡ Some a) × (is_plain_action (action_of a) ≡ true)

unfoldable pub ArePlainIn : List Rule → List Rule → Type 0
ArePlainIn c [] = ⊤
ArePlainIn c (a ∷ rest) = IsPlainIn c a × ArePlainIn c rest

found_plain : (c : List Rule) (p : Rule → Bool) (xs : List Rule) (a : Rule) → ArePlainIn c xs → find p xs ≡ Some a → IsPlainIn c a
unfolding ArePlainIn
found_plain c p [] a h e = absurd (cc)
found_plain c p (x ∷ xs) a h e = elim (p x) as (λ b. (if b then Some x else find p xs) ≡ Some a → IsPlainIn c a) [
  | true ↦ λ f. subst (IsPlainIn c) (same f) h.0
  | false ↦ λ f. found_plain c p xs a h.1 f
] e
  where
    same : Some x ≡ Some a → x ≡ a
    same f = ap (λ (o : Option Rule). option_map_or (λ r. r) o x) f

module _ (c : List Rule) where
  appended : (xs ys : List Row) → AreTaken c xs → AreTaken c ys → AreTaken c (xs ++ ys)
  unfolding AreTaken
  appended [] ys f g = g
  appended (x ∷ xs) ys f g = (f.0, appended xs ys f.1 g)

  at_row_taken : (id : Text) (change : Row → List Row) (missing rows : List Row) → AreTaken c rows → AreTaken c missing
      → ((r : Row) → bytes_eq r.id id ≡ true → IsTaken c r → AreTaken c (change r)) → AreTaken c (at_row id change missing rows)
  unfolding AreTaken
  at_row_taken id change missing [] h m f = m
  at_row_taken id change missing (r ∷ rs) h m f =
      elim (bytes_eq r.id id) as (λ b. bytes_eq r.id id ≡ b → AreTaken c (if b then change r ++ rs else r ∷ at_row id change missing rs)) [
        | true ↦ λ e. appended (change r) rs (f r e h.0) h.1
        | false ↦ λ e. (h.0, at_row_taken id change missing rs h.1 m f)
      ] refl

  without_taken : (id : Text) (rows : List Row) → AreTaken c rows → AreTaken c (without id rows)
  unfolding AreTaken
  without_taken id rows h = at_row_taken id (λ _. []) [] rows h tt (λ r e t. tt)

both_taken : (a : Rule) (xs ys : List Text) → values_fault a xs ≡ [] → values_fault a ys ≡ [] → values_fault a (xs ++ ys) ≡ []
both_taken a [] ys e f = f
both_taken a (x ∷ xs) ys e f =
    let parts = or_none (value_kinds a.ignore_case (parser_of_value a.parser) x) (values_fault a xs) e in
    joined_none (value_kinds a.ignore_case (parser_of_value a.parser) x) (values_fault a (xs ++ ys)) parts.0 (both_taken a xs ys parts.1 f)

more_some : (w : Bool) (xs ys : List Text) → (not w || has_some xs) ≡ true → (not w || has_some (xs ++ ys)) ≡ true
more_some false xs ys e = refl
more_some true [] ys e = absurd (cc)
more_some true (x ∷ xs) ys e = refl

-- uses ---------------------------------------------------------------------------------------------------

module _ (c : List Rule) (again : Bool) where
  -- rows with more values of the argument
  valued : (source : ValueSource) (a : Rule) (vs : List Text) (rows : List Row) → IsPlainIn c a → AreTaken c rows → Takes a vs
      → AreTaken c (with_values a.id (reading_by a) source vs rows)
  unfolding AreTaken
  valued source a vs rows p h t =
      at_row_taken c a.id (more_values source vs) _ rows h ((a, p.0, t), tt) (λ r e taken.
      let id : r.id ≡ a.id = (bytes_eq-Decides r.id a.id).0 e in
      let same : taken.0 ≡ a = one (sym taken.1 ∙ ap (arg_by_id c) id ∙ p.0) in
      let all : Takes a r.values = subst (λ (x : Rule). Takes x r.values) same taken.2 in
      ((a, ap (arg_by_id c) id ∙ p.0, (both_taken a r.values vs all.0 t.0, more_some (wants_some a) r.values vs all.1)), tt))
    where
      one : {x y : Rule} → Some x ≡ Some y → x ≡ y
      one {x} {y} f = ap (λ (o : Option Rule). option_map_or (λ r. r) o x) f

  used_as_taken : (x : ArgAction) (a : Rule) (vs : List Text) (rows : List Row) → is_plain_action x ≡ true → IsPlainIn c a → AreTaken c rows
      → (not (wants_some a) || has_some vs) ≡ true → action_fault x again a vs rows ≡ [] → AreTaken c (used_as x a.id (reading_by a) vs rows)
  used_as_taken Set a vs rows is p h some e = valued CommandLine a vs (without a.id rows) p (without_taken c a.id rows h)
      ((or_none _ (values_fault a vs) e).1, some)
  used_as_taken Append a vs rows is p h some e = valued CommandLine a vs rows p h (e, some)
  used_as_taken SetTrue a vs rows is p h some e = valued CommandLine a vs (without a.id rows) p (without_taken c a.id rows h)
      ((or_none _ (values_fault a vs) e).1, some)
  used_as_taken SetFalse a vs rows is p h some e = absurd (cc)
  used_as_taken Count a vs rows is p h some e = absurd (cc)
  used_as_taken Help a vs rows is p h some e = h
  used_as_taken HelpShort a vs rows is p h some e = h
  used_as_taken HelpLong a vs rows is p h some e = h
  used_as_taken Version a vs rows is p h some e = h

  enough : (a : Rule) (values : List Text) → range_kinds (unwrap_or_range a.range).start_inclusive (most_values a) (length values) ≡ []
      → (not (wants_some a) || has_some (values_or_missing a values)) ≡ true
  enough a (v ∷ vs) e = grind arith
  enough a [] e =
      elim (wants_some a) as (λ b. (if b && true then InvalidValue ∷ [] else rest) ≡ [] → (not b || has_some a.missing) ≡ true) [
        | true ↦ λ f. absurd (cc)
        | false ↦ λ f. refl
      ] e
    where
      rest : Kinds
      rest = if (unwrap_or_range a.range).start_inclusive == most_values a
          then (if (unwrap_or_range a.range).start_inclusive == 0 then [] else WrongNumberOfValues ∷ [])
          else (if nat_lt 0 (unwrap_or_range a.range).start_inclusive then TooFewValues ∷ []
          else (if nat_lt (most_values a) 0 then TooManyValues ∷ [] else []))

  used_taken : (a : Rule) (values : List Text) (rows : List Row) → IsPlainIn c a → AreTaken c rows → use_fault again a values rows ≡ []
      → AreTaken c (used a values rows)
  used_taken a values rows p h e =
      let parts = or_none _ (action_fault (action_of a) again a (values_or_missing a values) rows) e in
      used_as_taken (action_of a) a (values_or_missing a values) rows p.1 p h (enough a values parts.0) parts.1

-- the walk -----------------------------------------------------------------------------------------------

module _ (c : List Rule) (again : Bool) (plain_rules : ArePlainIn c c) where
  by_id : (id : Text) (a : Rule) → arg_by_id c id ≡ Some a → IsPlainIn c a
  by_id id a e = found_plain c (λ x. bytes_eq x.id id) c a plain_rules e

  settled_taken : (pending : Option (Text × List Text)) (rows : List Row) → AreTaken c rows
      → option_map_or (λ p. option_map_or (λ a. use_fault again a p.1 rows) (arg_by_id c p.0) []) pending [] ≡ []
      → AreTaken c (settled_rows c pending rows)
  settled_taken None rows h e = h
  settled_taken (Some p) rows h e = found (arg_by_id c p.0) refl e
    where
      found : (o : Option Rule) → arg_by_id c p.0 ≡ o → option_map_or (λ a. use_fault again a p.1 rows) o [] ≡ [] → AreTaken c (used_by_id o p.1 rows)
      found None is f = h
      found (Some a) is f = used_taken c again a p.1 rows (by_id p.0 a is) h f

  reacted_taken : (a : Rule) (values : List Text) (h : Held) → IsPlainIn c a → AreTaken c h.rows → react_fault c again a values h ≡ []
      → AreTaken c (reacted c a values h).rows
  reacted_taken a values h p t e =
      let parts = or_none (settle_fault c again h) (use_fault again a values (settled c h).rows) e in
      used_taken c again a values (settled c h).rows p (settled_taken h.pending h.rows t parts.0) parts.1

  option_taken : (a : Rule) (v : Option Text) (h : Held) → IsPlainIn c a → AreTaken c h.rows → option_fault c again a v h ≡ []
      → AreTaken c (option_met c a v h).0.rows
  option_taken a (Some v) h p t e = reacted_taken a (v ∷ []) h p t e
  option_taken a None h p t e = settled_taken h.pending h.rows t e

  long_taken : (o : Option Rule) (v : Option Text) (h : Held) → ((a : Rule) → o ≡ Some a → IsPlainIn c a) → AreTaken c h.rows
      → long_fault c again o v h ≡ [] → AreTaken c (long_met c o v h).0.rows
  long_taken None v h p t e = t
  long_taken (Some a) v h p t e =
      elim (takes_values a) as (λ b. (if b then option_fault c again a v h
      else (if is_some v then TooManyValues ∷ [] else react_fault c again a [] h)) ≡ []
      → AreTaken c (if b then option_met c a v h else flag_met c a v h).0.rows) [
        | true ↦ λ f. option_taken a v h (p a refl) t f
        | false ↦ λ f. flag v f
      ] e
    where
      flag : (w : Option Text) → (if is_some w then TooManyValues ∷ [] else react_fault c again a [] h) ≡ [] → AreTaken c (flag_met c a w h).0.rows
      flag (Some w) f = t
      flag None f = reacted_taken a [] h (p a refl) t f

  bundle_taken : (k : ℕ) (flags : Text) (skip : ℕ) (so_far : Outcome) (h : Held) → AreTaken c h.rows → flags_fault c again k flags skip h ≡ []
      → AreTaken c (bundle_met c k flags skip so_far h).0.rows
  unfolding flags_fault bundle_met
  bundle_taken zero flags skip so_far h t e = t
  bundle_taken (suc k) flags skip so_far h t e = step (bundle_taken k) (slice_get (chars flags) 0) skip e
    where
      short : ((flags : Text) (skip : ℕ) (so_far : Outcome) (h : Held) → AreTaken c h.rows → flags_fault c again k flags skip h ≡ []
          → AreTaken c (bundle_met c k flags skip so_far h).0.rows)
          → (o : Option Rule) (rest : Text) → ((a : Rule) → o ≡ Some a → IsPlainIn c a) → short_fault c again o rest h (flags_fault c again k rest 0) ≡ []
          → AreTaken c (short_met c o rest h (bundle_met c k rest 0 done)).0.rows
      short others None rest p f = t
      short others (Some a) rest p f =
          elim (takes_values a) as (λ b. (if b then option_fault c again a (attached_value rest) h
          else or_else (react_fault c again a [] h) (flags_fault c again k rest 0 (reacted c a [] h))) ≡ []
          → AreTaken c (if b then option_met c a (attached_value rest) h else bundle_met c k rest 0 done (reacted c a [] h)).0.rows) [
            | true ↦ λ g. option_taken a (attached_value rest) h (p a refl) t g
            | false ↦ λ g.
                let parts = or_none (react_fault c again a [] h) (flags_fault c again k rest 0 (reacted c a [] h)) g in
                others rest 0 done (reacted c a [] h) (reacted_taken a [] h (p a refl) t parts.0) parts.1
          ] f

      step : ((flags : Text) (skip : ℕ) (so_far : Outcome) (h : Held) → AreTaken c h.rows → flags_fault c again k flags skip h ≡ []
          → AreTaken c (bundle_met c k flags skip so_far h).0.rows)
          → (x : Option ℕ) (n : ℕ) → bundle_step_fault c again x flags n h (flags_fault c again k) ≡ []
          → AreTaken c (bundle_step c x flags n so_far h (bundle_met c k)).0.rows
      step others None n f = t
      step others (Some x) zero f = short others (arg_by_short c x) (drop (length (encode_utf8 x)) flags) (λ a is. found_plain c _ c a plain_rules is) f
      step others (Some x) (suc n) f = others (drop (length (encode_utf8 x)) flags) n so_far h t f

  plain_taken : (waiting : Waiting) (word : Text) (h : Held) → AreTaken c h.rows → AreTaken c (plain_word c waiting word h).0.rows
  plain_taken (option id) word h t = rows (arg_by_id c id)
    where
      rows : (o : Option Rule) → AreTaken c (option_word o id word h).0.rows
      rows None = t
      rows (Some a) = t
  plain_taken idle word h t = t
  plain_taken positional word h t = t

  flag_taken : (waiting : Waiting) (word : Text) (h : Held) (o : Outcome) → AreTaken c h.rows → AreTaken c (after_flag c waiting word h o).0.rows
  flag_taken waiting word h done t = t
  flag_taken waiting word h (waits id) t = t
  flag_taken waiting word h plain t = plain_taken waiting word h t
  flag_taken waiting word h refused t = plain_taken waiting word h t

  other_taken : (waiting : Waiting) (word : Text) (h : Held) (o : Option (Text × Option Text)) → AreTaken c h.rows → flag_word_fault c again o word h ≡ []
      → AreTaken c (long_or_other c waiting word o h).0.rows
  other_taken waiting word h (Some p) t e =
      flag_taken waiting word (long_met c (arg_by_long c p.0) p.1 h).0 (long_met c (arg_by_long c p.0) p.1 h).1
      (long_taken (arg_by_long c p.0) p.1 h (λ a is. found_plain c _ c a plain_rules is) t e)
  other_taken waiting word h None t e = short (short_of word) e
    where
      short : (flags : Option Text) → option_map_or (λ f. bundle_fault c again f h) flags [] ≡ [] → AreTaken c (short_or_plain c waiting word flags h).0.rows
      short None f = plain_taken waiting word h t
      short (Some flags) f =
          flag_taken waiting word (bundle c flags h).0 (bundle c flags h).1 (bundle_taken (length flags) flags h.skip plain (record h { skip = 0 }) t f)

  met_taken : (s : Shape) (names : Names) (is_trailing : Bool) (waiting : Waiting) (position : ℕ) (word : Text) (h : Held) → s.rules ≡ c
      → s.args_override_self ≡ again
      → AreTaken c h.rows → word_fault s names is_trailing waiting word h ≡ [] → AreTaken c (word_met c names is_trailing waiting position word h).0.rows
  met_taken s names true waiting position word h is same t e = t
  met_taken s names false waiting position word h is same t e = named (subcommand_met names waiting word) e
    where
      named : (o : Option Text) → other_fault s o word h ≡ [] → AreTaken c (subcommand_or_other c o waiting position word h).0.rows
      named (Some name) f = t
      named None f =
          elim (bytes_eq word (45 ∷ 45 ∷ [])) as (λ b. (if b then [] else flag_word_fault s.rules s.args_override_self (long_of word) word h) ≡ []
          → AreTaken c (if b then (h, trailing position) else long_or_other c waiting word (long_of word) h).0.rows) [
            | true ↦ λ g. t
            | false ↦ λ g. other_taken waiting word h (long_of word) t
                (subst (λ (x : List Rule × Bool). flag_word_fault x.0 x.1 (long_of word) word h ≡ []) (λ i. (is i, same i)) g)
          ] f

  stepped_taken : (s : Shape) (w : Walk) (word : Text) (h : Held) (step : Step) → s.rules ≡ c → s.args_override_self ≡ again → AreTaken c h.rows
      → step_fault s w.position h step ≡ [] → AreTaken c (after_step c word w h step).held.rows
  stepped_taken s w word h (next waiting) is same t e = t
  stepped_taken s w word h (trailing position) is same t e = t
  stepped_taken s w word h (subcommand name) is same t e = t
  stepped_taken s w word h value is same t e =
      taken (arg_by_index c w.position) (subst (λ (x : List Rule × Bool). option_map_or (λ a. positional_fault x.0 x.1 a h) (arg_by_index x.0 w.position)
      (stray_fault s) ≡ []) (λ i. (is i, same i)) e)
    where
      taken : (o : Option Rule) → option_map_or (λ a. positional_fault c again a h) o (stray_fault s) ≡ [] → AreTaken c (to_positional c o word w h).held.rows
      taken None f = t
      taken (Some a) f =
          elim (is_pending a h.pending && takes_several a) as
          (λ b. (if b then [] else settle_fault c again h) ≡ [] → AreTaken c (if b then h else settled c h).rows) [
            | true ↦ λ g. t
            | false ↦ λ g. settled_taken h.pending h.rows t g
          ] f

  turn_taken : (s : Shape) (names : Names) (w : Walk) (word : Text) → s.rules ≡ c → s.args_override_self ≡ again → AreTaken c w.held.rows
      → turn_fault s names w word ≡ [] → AreTaken c (walked c names w word).held.rows
  unfolding walked
  turn_taken s names w word is same t e = from w.stopped e
    where
      met : Held × Step
      met = word_met c names w.is_trailing w.waiting w.position word w.held

      from : (o : Option (Text × List Text))
          → (if is_some o then [] else or_else (word_fault s names w.is_trailing w.waiting word w.held)
          (step_fault s w.position (word_met s.rules names w.is_trailing w.waiting w.position word w.held).0
          (word_met s.rules names w.is_trailing w.waiting w.position word w.held).1)) ≡ []
          → AreTaken c (walked_from c names o w word).held.rows
      from (Some p) f = t
      from None f =
          let parts = or_none (word_fault s names w.is_trailing w.waiting word w.held) _ f in
          stepped_taken s w word met.0 met.1 is same (met_taken s names w.is_trailing w.waiting w.position word w.held is same t parts.0)
          (subst (λ (x : List Rule). step_fault s w.position (word_met x names w.is_trailing w.waiting w.position word w.held).0
          (word_met x names w.is_trailing w.waiting w.position word w.held).1 ≡ []) is parts.1)

  pub walk_taken : (s : Shape) (names : Names) (w : Walk) (words : List Text) → s.rules ≡ c → s.args_override_self ≡ again → AreTaken c w.held.rows
      → walk_fault s names w words ≡ [] → AreTaken c (fold (walked c names) w words).held.rows
  unfolding walk_fault
  walk_taken s names w [] is same t e = t
  walk_taken s names w (word ∷ rest) is same t e =
      let parts = or_none (turn_fault s names w word) (walk_fault s names (walked s.rules names w word) rest) e in
      walk_taken s names (walked c names w word) rest is same (turn_taken s names w word is same t parts.0)
      (subst (λ (x : List Rule). walk_fault s names (walked x names w word) rest ≡ []) is parts.1)

  -- defaults are taken too
  default_taken : (a : Rule) (rows : List Row) → IsPlainIn c a → AreTaken c rows → default_fault rows a ≡ [] → AreTaken c (with_default rows a)
  default_taken a rows p h e =
      elim (has_row a.id rows) as (λ b. (if b || is_empty a.defaults then [] else given_default_fault a a.defaults) ≡ []
      → AreTaken c (if b then rows else default_rows a.id (reading_by a) a.defaults rows)) [
        | true ↦ λ f. h
        | false ↦ λ f. values a.defaults f
      ] e
    where
      values : (vs : List Text) → (if is_empty vs then [] else given_default_fault a vs) ≡ [] → AreTaken c (default_rows a.id (reading_by a) vs rows)
      values [] f = h
      values (v ∷ vs) f =
          let no : is_empty (v ∷ vs) ≡ false = grind arith in
          let g : given_default_fault a (v ∷ vs) ≡ [] = rw no at f in
          let parts = or_none (request_kinds (action_of a)) (values_fault a (v ∷ vs)) g in
          valued c again DefaultValue a (v ∷ vs) rows p h (parts.1, some (wants_some a))
        where
          some : (w : Bool) → (not w || true) ≡ true
          some true = refl
          some false = refl

  defaults_taken : (xs : List Rule) (rows : List Row) → ArePlainIn c xs → AreTaken c rows → defaults_fault rows xs ≡ [] → AreTaken c (fold with_default rows xs)
  unfolding ArePlainIn defaults_fault
  defaults_taken [] rows p h e = h
  defaults_taken (a ∷ rest) rows p h e =
      let parts = or_none (default_fault rows a) (defaults_fault (with_default rows a) rest) e in
      defaults_taken rest (with_default rows a) p.1 (default_taken a rows p.0 h parts.0) parts.1

  -- at one level of a command line
  pub level_taken : (s : Shape) (names : Names) (words : List Text) (has_subcommand : Bool) (below : Kinds) → s.rules ≡ c → s.args_override_self ≡ again
      → level_fault s names nothing_held words has_subcommand below ≡ [] → AreTaken c (rows_after c names words)
  unfolding AreTaken
  level_taken s names words has_subcommand below is same e =
      let f = subst (λ (x : List Rule × Bool).
      or_else (walk_fault s names (walk_from nothing_held) words)
      (or_else below (or_else (settle_fault x.0 x.1 (walk x.0 names nothing_held words).held)
      (or_else (defaults_fault (settled x.0 (walk x.0 names nothing_held words).held).rows x.0)
      (check_fault s (finished x.0 (walk x.0 names nothing_held words).held) has_subcommand)))) ≡ []) (λ i. (is i, same i)) e in
      let walked_ok = or_none (walk_fault s names (walk_from nothing_held) words) _ f in
      let below_ok = or_none below _ walked_ok.1 in
      let settled_ok = or_none (settle_fault c again (walk c names nothing_held words).held) _ below_ok.1 in
      let defaults_ok = or_none (defaults_fault (settled c (walk c names nothing_held words).held).rows c) _ settled_ok.1 in
      defaults_taken c (settled c (walk c names nothing_held words).held).rows plain_rules
      (settled_taken (walk c names nothing_held words).held.pending (walk c names nothing_held words).held.rows
      (walk_taken s names (walk_from nothing_held) words is same none walked_ok.0) settled_ok.0) defaults_ok.0
    where
      none : AreTaken c []
      none = tt
