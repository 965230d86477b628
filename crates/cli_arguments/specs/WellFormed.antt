-- What the words of an accepted command line have: a subcommand, each argument that it requires, and numbers in their
-- ranges.
use Rattle.std.specs.Prelude.{◌≡◌, ◌⊎◌, ⊤, ℕ, true, false, List, Option, None, Some, codes, is_some, pos}
use Rattle.clap.specs.Matches.{subcommand_name_of}
use Rattle.clap.specs.Values.{IsSignedIn}
use Rattle.clap.specs.Walk.{Text}
use Rattle.clap.specs.declared.parser.matches.ArgMatches.{ArgMatches}
use Rattle.cli_arguments.specs.WayWord.{is_way}
use Rattle.cli_arguments.specs.Words.{files_named, has_conflict_of, is_guid, is_held_and_named, is_key}
use Rattle.cli_arguments.specs.Words.{order_rule, word_named}

-- the word, if any, is a number from `least` to `most`
abbrev pub IsNumberWithin : ℕ → ℕ → Option Text → Type 0
IsNumberWithin least most None = ⊤
IsNumberWithin least most (Some word) = IsSignedIn (pos least) (pos most) word

-- the word, if any, names a rule of routing
abbrev pub IsRouting : Option Text → Type 0
IsRouting None = ⊤
IsRouting (Some word) = (word ≡ codes "updown") ⊎ ((word ≡ codes "spread") ⊎ (word ≡ codes "balance"))

-- an argument has a word: `word` is not None
abbrev pub IsGiven : Option Text → Type 0
IsGiven word = is_some word ≡ true

-- files are named
abbrev pub AreNamed : Option (List Text) → Type 0
AreNamed files = is_some files ≡ true

-- files are named, and the floor, if any, is a generation
pub record NamesFiles (word : Text → Option Text) (files : Option (List Text)) : Type 0 where
  pub named : AreNamed files
  pub floor : IsNumberWithin 1 4294967295 (word (codes "floor"))

-- the options of a plan: the LMC, if named, is from 0 to 7, and the rule, if named, is a rule of routing. Roots and an
-- order are not both named, and either is named only with a rule that takes it
pub record NamesPlanning (word : Text → Option Text) : Type 0 where
  pub lmc : IsNumberWithin 0 7 (word (codes "lmc"))
  pub routing : IsRouting (word (codes "routing"))
  pub apart : has_conflict_of (word (codes "routing")) (is_some (word (codes "roots"))) (is_some (word (codes "order")))
      ≡ false

-- the options of the subcommand `order`: the rule, if named, is a rule of routing; otherwise it is `spread`. Roots and
-- an order are not both named, and either is named only with a rule that takes it. If held tables are named, neither a
-- rule nor roots nor an order are
pub record NamesOrder (word : Text → Option Text) : Type 0 where
  pub routing : IsRouting (word (codes "routing"))
  pub apart : has_conflict_of (order_rule (word (codes "routing"))) (is_some (word (codes "roots")))
      (is_some (word (codes "order"))) ≡ false
  pub alone : is_held_and_named word ≡ false

-- the GUID of a manager's port, which is 1 to 16 hex digits, the number of the port and the manager's priority are
-- named; the manager's SM_Key, if named, is 1 to 16 hex digits
pub record NamesSeat (word : Text → Option Text) : Type 0 where
  pub guid : is_guid (word (codes "GUID")) ≡ true
  pub port_given : IsGiven (word (codes "PORT"))
  pub port : IsNumberWithin 1 254 (word (codes "PORT"))
  pub priority_given : IsGiven (word (codes "PRIORITY"))
  pub priority : IsNumberWithin 0 15 (word (codes "PRIORITY"))
  pub sm_key : is_key (word (codes "sm-key")) ≡ true

-- the options of a manager that decides by itself, if named, are numbers in their ranges
pub record NamesPace (word : Text → Option Text) : Type 0 where
  pub every : IsNumberWithin 1000 3600000 (word (codes "every"))
  pub poll : IsNumberWithin 1 600000 (word (codes "poll"))
  pub timeout : IsNumberWithin 1 600000 (word (codes "timeout"))
  pub tries : IsNumberWithin 1 101 (word (codes "tries"))
  pub outstanding : IsNumberWithin 1 64 (word (codes "outstanding"))
  pub newest : IsNumberWithin 0 4294967294 (word (codes "newest"))

-- the subcommand `name` has the words that it takes
pub data HasItsWords (word : Text → Option Text) (files : Option (List Text)) (name : Text) : Type 0 where
  facts : name ≡ codes "facts" → NamesFiles word files → HasItsWords word files name
  join : name ≡ codes "join" → NamesFiles word files → HasItsWords word files name
  plan : name ≡ codes "plan" → NamesFiles word files → NamesPlanning word → HasItsWords word files name
  order : name ≡ codes "order" → AreNamed files → NamesOrder word → HasItsWords word files name
  audit : name ≡ codes "audit" → IsGiven (word (codes "TABLES")) → AreNamed files
      → IsNumberWithin 0 4294967295 (word (codes "max-load")) → is_way (word (codes "way")) ≡ true
      → HasItsWords word files name
  next : name ≡ codes "next" → IsGiven (word (codes "TABLES")) → AreNamed files → NamesPlanning word
      → HasItsWords word files name
  run : name ≡ codes "run" → IsGiven (word (codes "TOPOLOGY")) → IsGiven (word (codes "SCHEDULE")) → NamesPlanning word
      → HasItsWords word files name
  serve : name ≡ codes "serve" → NamesSeat word → NamesPlanning word → HasItsWords word files name
  manage : name ≡ codes "manage" → NamesSeat word → NamesPlanning word → NamesPace word → HasItsWords word files name

-- the words name a subcommand, which has the words that it takes
pub record IsWellFormed (matches : ArgMatches) : Type 0 where
  pub name : Text
  pub named : subcommand_name_of matches ≡ Some name
  pub words : HasItsWords (word_named matches) (files_named matches) name
