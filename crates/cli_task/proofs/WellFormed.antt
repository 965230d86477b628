-- Well-formed words ask for a task, and name its inputs.
use Rattle.std.proofs.Common.{arith, ◌≡◌, ℕ, true, false, List, [], ◌∷◌, Option, None, Some, ap, inl, inr, refl, sym, subst, ◌∙◌}
use Rattle.std.specs.Prelude.{codes, is_some, option_and_then, option_map, if◌then◌else◌}
use Rattle.clap.specs.Matches.{subcommand_name_of}
use Rattle.clap.specs.declared.parser.matches.ArgMatches.{ArgMatches}
use Rattle.cli_arguments.specs.WellFormed.{AreNamed, HasItsWords, IsGiven, IsNumberWithin, IsRouting, IsWellFormed, NamesFiles, NamesOrder, NamesPlanning, NamesSeat}
use Rattle.cli_arguments.specs.WellFormed.{NamesPace, facts, join, plan, order, audit, next, run, serve, manage}
use Rattle.cli_arguments.specs.WayWord.{is_way, packet_named}
use Rattle.cli_arguments.specs.Words.{is_set, files_named, has_conflict_of, is_guid, is_key, order_rule, word_named}
use Rattle.sm_cli.specs.declared.audit_asked.WayAsked.{WayAsked}
use Rattle.sm_cli.specs.declared.asked.RuleAsked.{RuleAsked}
use Rattle.sm_cli.specs.declared.asked.RuleAsked.TheVariants.{UpDown, Spread, SpreadFromRoots, SpreadInOrder, Balance, BalanceInOrder}
use Rattle.sm_cli.specs.declared.asked.Output.TheVariants.{Order}
use Rattle.sm_cli.specs.declared.serving.Serving.{Serving}
use Rattle.cli_task.specs.declared.task.Task.TheVariants.{Answer, OrderOfTables}
use Rattle.cli_task.specs.InputNames.{followed_by, names_in, text_if, texts_of_rule}
use Rattle.cli_task.specs.OptionValues.{floor_asked, guid_asked, lmc_asked, max_load_asked, number_in, order_asked, port_asked}
use Rattle.cli_task.specs.OptionValues.{newest_asked, number_or, priority_asked, sm_key_asked, within, planning_asked, rule_asked, way_asked}
use Rattle.cli_task.specs.Task.{serving_asked, serving_by, task_behind}
use Rattle.cli_task.proofs.Guids.{guid_is_read}
use Rattle.cli_task.proofs.Paces.{number_given}
use Rattle.cli_task.proofs.Within.{number_within}

-- a value that is there
known : {X : Type 0} (o : Option X) → is_some o ≡ true → (x : X) × (o ≡ Some x)
known None e = absurd (cc)
known (Some x) e = (x, refl)

floor_there : (o : Option (List ℕ)) → IsNumberWithin 1 4294967295 o → is_some (floor_asked o) ≡ true
floor_there None h = refl
floor_there (Some word) h = number_within 1 4294967295 word h

way_there : (o : Option (List ℕ)) → is_way o ≡ true → is_some (way_asked o) ≡ true
way_there None e = refl
way_there (Some word) e = mapped (packet_named word) e
  where
    mapped : (o : Option (ℕ × ℕ × ℕ)) → is_some o ≡ true
        → is_some (option_map {U = Option WayAsked} (λ packet. Some (record { node = packet.0; port = packet.1; lid = packet.2 })) o) ≡ true
    mapped None e = absurd (cc)
    mapped (Some packet) e = refl

max_load_there : (o : Option (List ℕ)) → IsNumberWithin 0 4294967295 o → is_some (max_load_asked o) ≡ true
max_load_there None h = refl
max_load_there (Some word) h =
    let is = known (option_and_then (within 0 4294967295) (number_in word)) (number_within 0 4294967295 word h) in
    ap (λ o. is_some (option_map Some o)) is.1

lmc_there : (o : Option (List ℕ)) → IsNumberWithin 0 7 o → is_some (lmc_asked o) ≡ true
lmc_there None h = refl
lmc_there (Some word) h = number_within 0 7 word h

-- a word for the text that the rule takes
abbrev HasText : Option (List ℕ) → Option (List ℕ) → RuleAsked → Type 0
HasText roots named rule = (word : List ℕ → Option (List ℕ)) → word (codes "roots") ≡ roots → word (codes "order") ≡ named
    → is_some (texts_of_rule word rule) ≡ true

-- the rule, and the text that it takes
abbrev Asked : Option (List ℕ) → Option (List ℕ) → Option (List ℕ) → Type 0
Asked routing roots named =
    (rule : RuleAsked) × (rule_asked routing (is_some roots) (is_some named) ≡ Some rule) × HasText roots named rule

updown_there : (w : List ℕ) (roots named : Option (List ℕ)) → w ≡ codes "updown" → has_conflict_of (Some w) (is_some roots) (is_some named) ≡ false
    → Asked (Some w) roots named
updown_there w None None is f = (UpDown, ap (λ v. rule_asked (Some v) false false) is, (λ word j k. refl))
updown_there w None (Some o) is f =
    let bad : has_conflict_of (Some (codes "updown")) false true ≡ false = subst (λ (v : List ℕ). has_conflict_of (Some v) false true ≡ false) is f in
    absurd (cc)
updown_there w (Some r) None is f =
    let bad : has_conflict_of (Some (codes "updown")) true false ≡ false = subst (λ (v : List ℕ). has_conflict_of (Some v) true false ≡ false) is f in
    absurd (cc)
updown_there w (Some r) (Some o) is f = absurd (cc)

spread_there : (w : List ℕ) (roots named : Option (List ℕ)) → w ≡ codes "spread" → has_conflict_of (Some w) (is_some roots) (is_some named) ≡ false
    → Asked (Some w) roots named
spread_there w None None is f = (Spread, ap (λ v. rule_asked (Some v) false false) is, (λ word j k. refl))
spread_there w None (Some o) is f =
    (SpreadInOrder, ap (λ v. rule_asked (Some v) false true) is, (λ word j k. ap (λ x. is_some (option_map (λ named. named ∷ []) x)) k))
spread_there w (Some r) None is f =
    (SpreadFromRoots, ap (λ v. rule_asked (Some v) true false) is, (λ word j k. ap (λ x. is_some (option_map (λ roots. roots ∷ []) x)) j))
spread_there w (Some r) (Some o) is f = absurd (cc)

balance_there : (w : List ℕ) (roots named : Option (List ℕ)) → w ≡ codes "balance" → has_conflict_of (Some w) (is_some roots) (is_some named) ≡ false
    → Asked (Some w) roots named
balance_there w None None is f = (Balance, ap (λ v. rule_asked (Some v) false false) is, (λ word j k. refl))
balance_there w None (Some o) is f =
    (BalanceInOrder, ap (λ v. rule_asked (Some v) false true) is, (λ word j k. ap (λ x. is_some (option_map (λ named. named ∷ []) x)) k))
balance_there w (Some r) None is f =
    let bad : has_conflict_of (Some (codes "balance")) true false ≡ false = subst (λ (v : List ℕ). has_conflict_of (Some v) true false ≡ false) is f in
    absurd (cc)
balance_there w (Some r) (Some o) is f = absurd (cc)

rule_there : (routing roots named : Option (List ℕ)) → IsRouting routing → has_conflict_of routing (is_some roots) (is_some named) ≡ false
    → Asked routing roots named
rule_there None None None h e = (UpDown, refl, (λ word j k. refl))
rule_there None None (Some o) h e = absurd (cc)
rule_there None (Some r) None h e = absurd (cc)
rule_there None (Some r) (Some o) h e = absurd (cc)
rule_there (Some w) roots named (inl is) e = updown_there w roots named is e
rule_there (Some w) roots named (inr (inl is)) e = spread_there w roots named is e
rule_there (Some w) roots named (inr (inr is)) e = balance_there w roots named is e

order_routing : (o : Option (List ℕ)) → IsRouting o → IsRouting (order_rule o)
order_routing None h = inr (inl refl)
order_routing (Some w) h = h

-- a number that is there, and in its range
number_there : (least most : ℕ) (o : Option (List ℕ)) → IsGiven o → IsNumberWithin least most o
    → is_some (option_and_then (within least most) (option_and_then number_in o)) ≡ true
number_there least most None given h = absurd (cc)
number_there least most (Some word) given h = number_within least most word h

guid_there : (o : Option (List ℕ)) → is_guid o ≡ true → is_some (guid_asked o) ≡ true
guid_there None e = absurd (cc)
guid_there (Some word) e = guid_is_read word e

key_there : (o : Option (List ℕ)) → is_key o ≡ true → is_some (sm_key_asked o) ≡ true
key_there None e = refl
key_there (Some word) e = guid_is_read word e

-- whoever names a GUID names the lines
lines_there : (o : Option (List ℕ)) → is_guid o ≡ true → is_some (option_map (λ guid. codes "/dev/stdin" ∷ []) o) ≡ true
lines_there None e = absurd (cc)
lines_there (Some word) e = refl

module _ (word : List ℕ → Option (List ℕ)) (files : Option (List (List ℕ))) where
  -- how plans are made
  planning_there : NamesPlanning word → (by : ℕ × RuleAsked) × (planning_asked word ≡ Some by) × (is_some (texts_of_rule word by.1) ≡ true)
  planning_there h =
      let lmc = known (lmc_asked (word (codes "lmc"))) (lmc_there (word (codes "lmc")) h.lmc) in
      let rule = rule_there (word (codes "routing")) (word (codes "roots")) (word (codes "order")) h.routing h.apart in (
        (lmc.0, rule.0),
        both (lmc_asked (word (codes "lmc"))) lmc.0 lmc.1
            (rule_asked (word (codes "routing")) (is_some (word (codes "roots"))) (is_some (word (codes "order")))) rule.0 rule.1,
        rule.2 word refl refl,
      )
    where
      both : (o : Option ℕ) (lmc : ℕ) → o ≡ Some lmc → (r : Option RuleAsked) (rule : RuleAsked) → r ≡ Some rule
          → option_and_then {U = ℕ × RuleAsked} (λ lmc. option_map {U = ℕ × RuleAsked} (λ rule. (lmc, rule)) r) o ≡ Some (lmc, rule)
      both o lmc e r rule f = rw (e, f) refl

  both_there : (first later : Option (List (List ℕ))) → is_some first ≡ true → is_some later ≡ true → is_some (followed_by first later) ≡ true
  both_there None later e f = absurd (cc)
  both_there (Some xs) None e f = absurd (cc)
  both_there (Some xs) (Some ys) e f = refl

  one_there : (o : Option (List ℕ)) → is_some o ≡ true → is_some (option_map (λ text. text ∷ []) o) ≡ true
  one_there None e = absurd (cc)
  one_there (Some text) e = refl

  two_there : (a b : Option (List ℕ)) → is_some a ≡ true → is_some b ≡ true → is_some (option_and_then (λ x. option_map (λ y. x ∷ y ∷ []) b) a) ≡ true
  two_there None b e f = absurd (cc)
  two_there (Some x) None e f = absurd (cc)
  two_there (Some x) (Some y) e f = refl

  abbrev Asks : List ℕ → Type 0
  Asks name = is_some (option_and_then (names_in word files) (task_behind word name)) ≡ true

  files_there : NamesFiles word files → is_some (followed_by (Some []) (followed_by (Some []) files)) ≡ true
  files_there h = both_there (Some []) (followed_by (Some []) files) refl (both_there (Some []) files refl h.named)

  facts_ask : NamesFiles word files → Asks (codes "facts")
  facts_ask h =
      let floor = known (floor_asked (word (codes "floor"))) (floor_there (word (codes "floor")) h.floor) in
      rw floor.1 (files_there h)

  join_ask : NamesFiles word files → Asks (codes "join")
  join_ask h =
      let floor = known (floor_asked (word (codes "floor"))) (floor_there (word (codes "floor")) h.floor) in
      rw floor.1 (files_there h)

  plan_asks : NamesFiles word files → NamesPlanning word → Asks (codes "plan")
  plan_asks h p =
      let floor = known (floor_asked (word (codes "floor"))) (floor_there (word (codes "floor")) h.floor) in
      let by = planning_there p in
      rw (by.1, floor.1) (both_there (texts_of_rule word by.0.1) (followed_by (Some []) files) by.2 (both_there (Some []) files refl h.named))

  order_asks : AreNamed files → NamesOrder word → Asks (codes "order")
  order_asks h p = held_or_not (word (codes "held")) refl
    where
      held_or_not : (o : Option (List ℕ)) → word (codes "held") ≡ o
          → is_some (option_and_then (names_in word files) (if is_some o then Some OrderOfTables
          else option_map (λ rule. Answer (record { output = Order rule; floor = 1 })) (order_asked word))) ≡ true
      held_or_not (Some tables) is = both_there (Some []) _ refl (both_there _ files (one_there (word (codes "held")) (ap is_some is)) h)
      held_or_not None is =
          let rule = rule_there (order_rule (word (codes "routing"))) (word (codes "roots")) (word (codes "order"))
          (order_routing (word (codes "routing")) p.routing) p.apart in
          rw rule.1 (both_there (texts_of_rule word rule.0) (followed_by (Some []) files) (rule.2 word refl refl) (both_there (Some []) files refl h))

  -- the text of an option is named if the option is given
  text_there : (o : Option (List ℕ)) → is_some (text_if (is_some o) o) ≡ true
  text_there None = refl
  text_there (Some name) = refl

  audit_asks : IsGiven (word (codes "TABLES")) → AreNamed files → IsNumberWithin 0 4294967295 (word (codes "max-load"))
      → is_way (word (codes "way")) ≡ true → Asks (codes "audit")
  audit_asks t h m w =
      let load = known (max_load_asked (word (codes "max-load"))) (max_load_there (word (codes "max-load")) m) in
      let way = known (way_asked (word (codes "way"))) (way_there (word (codes "way")) w) in
      let texts = both_there _ _ (text_there (word (codes "lanes"))) (one_there (word (codes "TABLES")) t) in
      rw load.1 rw way.1 (both_there (Some []) _ refl (both_there _ files texts h))

  next_asks : IsGiven (word (codes "TABLES")) → AreNamed files → NamesPlanning word → Asks (codes "next")
  next_asks t h p =
      let by = planning_there p in
      let last = text_there (word (codes "last-order")) in
      let texts = both_there _ _ last (one_there (word (codes "TABLES")) t) in
      rw by.1 (both_there (texts_of_rule word by.0.1) _ by.2 (both_there _ files texts h))

  run_asks : IsGiven (word (codes "TOPOLOGY")) → IsGiven (word (codes "SCHEDULE")) → NamesPlanning word → Asks (codes "run")
  run_asks t s p =
      let by = planning_there p in
      rw by.1 (both_there (texts_of_rule word by.0.1) _ by.2 (both_there _ (Some []) (two_there (word (codes "TOPOLOGY")) (word (codes "SCHEDULE")) t s) refl))

  -- a manager at a port, and the text that its rule takes
  serving_there : NamesSeat word → NamesPlanning word
      → (serving : Serving) × (serving_asked word ≡ Some serving) × (is_some (texts_of_rule word serving.rule) ≡ true)
  serving_there s p =
      let by = planning_there p in
      let guid = known (guid_asked (word (codes "GUID"))) (guid_there (word (codes "GUID")) s.guid) in
      let port = known (port_asked (word (codes "PORT"))) (number_there 1 254 (word (codes "PORT")) s.port_given s.port) in
      let priority = known (priority_asked (word (codes "PRIORITY"))) (number_there 0 15 (word (codes "PRIORITY")) s.priority_given s.priority) in
      let sm_key = known (sm_key_asked (word (codes "sm-key"))) (key_there (word (codes "sm-key")) s.sm_key) in (
        record {
          guid = guid.0;
          port = port.0;
          priority = priority.0;
          sm_key = sm_key.0;
          lmc = by.0.0;
          rule = by.0.1;
          multicast = is_set (word (codes "multicast"));
        },
        whole _ _ _ _ _ by.0 guid.0 port.0 priority.0 sm_key.0 by.1 guid.1 port.1 priority.1 sm_key.1,
        by.2,
      )
    where
      whole : (planned : Option (ℕ × RuleAsked)) (o p q r : Option ℕ) (by : ℕ × RuleAsked) (guid port priority sm_key : ℕ) → planned ≡ Some by
          → o ≡ Some guid → p ≡ Some port → q ≡ Some priority → r ≡ Some sm_key → option_and_then (λ by. serving_by (is_set (word (codes "multicast"))) by o p q r) planned
          ≡ Some (record {
            guid = guid;
            port = port;
            priority = priority;
            sm_key = sm_key;
            lmc = by.0;
            rule = by.1;
            multicast = is_set (word (codes "multicast"));
          })
      whole planned o p q r by guid port priority sm_key e f g h k = rw (e, f, g, h, k) refl

  -- its inputs are named
  lines_named : NamesSeat word → (serving : Serving) → is_some (texts_of_rule word serving.rule) ≡ true
      → is_some (followed_by (texts_of_rule word serving.rule)
      (followed_by (option_map (λ guid. codes "/dev/stdin" ∷ []) (word (codes "GUID"))) (Some []))) ≡ true
  lines_named s serving texts =
      both_there (texts_of_rule word serving.rule) _ texts (both_there _ (Some []) (lines_there (word (codes "GUID")) s.guid) refl)

  serve_asks : NamesSeat word → NamesPlanning word → Asks (codes "serve")
  serve_asks s p =
      let serving = serving_there s p in
      rw serving.1 (lines_named s serving.0 serving.2)

  manage_asks : NamesSeat word → NamesPlanning word → NamesPace word → Asks (codes "manage")
  manage_asks s p q =
      let serving = serving_there s p in
      let every = known (number_or 10000 (word (codes "every"))) (number_given 10000 1000 3600000 (word (codes "every")) (omega arith) q.every) in
      let poll = known (number_or 1000 (word (codes "poll"))) (number_given 1000 1 600000 (word (codes "poll")) (omega arith) q.poll) in
      let timeout = known (number_or 500 (word (codes "timeout"))) (number_given 500 1 600000 (word (codes "timeout")) (omega arith) q.timeout) in
      let tries = known (number_or 4 (word (codes "tries"))) (number_given 4 1 101 (word (codes "tries")) (omega arith) q.tries) in
      let outstanding =
      known (number_or 4 (word (codes "outstanding"))) (number_given 4 1 64 (word (codes "outstanding")) (omega arith) q.outstanding) in
      let newest = known (newest_asked (word)) (number_given 0 0 4294967294 (word (codes "newest")) (omega arith) q.newest) in
      rw (serving.1, every.1, poll.1, outstanding.1, tries.1, timeout.1, newest.1) (lines_named s serving.0 serving.2)

  words_ask : (name : List ℕ) → HasItsWords word files name → Asks name
  words_ask name (facts is h) = subst Asks (sym is) (facts_ask h)
  words_ask name (join is h) = subst Asks (sym is) (join_ask h)
  words_ask name (plan is h p) = subst Asks (sym is) (plan_asks h p)
  words_ask name (order is h p) = subst Asks (sym is) (order_asks h p)
  words_ask name (audit is t h m w) = subst Asks (sym is) (audit_asks t h m w)
  words_ask name (next is t h p) = subst Asks (sym is) (next_asks t h p)
  words_ask name (run is t s p) = subst Asks (sym is) (run_asks t s p)
  words_ask name (serve is s p) = subst Asks (sym is) (serve_asks s p)
  words_ask name (manage is s p q) = subst Asks (sym is) (manage_asks s p q)

-- so do well-formed words
pub well_formed_asks : (matches : ArgMatches) → IsWellFormed matches
    → is_some (option_and_then (names_in (word_named matches) (files_named matches))
    (option_and_then (task_behind (word_named matches)) (subcommand_name_of matches))) ≡ true
well_formed_asks matches h =
    ap (λ o. is_some (option_and_then (names_in (word_named matches) (files_named matches)) (option_and_then (task_behind (word_named matches)) o))) h.named
    ∙ words_ask (word_named matches) (files_named matches) h.name h.words
