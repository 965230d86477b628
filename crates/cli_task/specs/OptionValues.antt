-- What the options of a command line ask for, each by its word.
use Rattle.std.specs.Prelude.{ℕ, Bool, true, false, List, Option, None, Some, codes, drop, is_some, not, nat_le}
use Rattle.std.specs.Prelude.{option_map, option_and_then, ◌&&◌, ◌||◌, if◌then◌else◌}
use Rattle.std.specs.Str.{bytes_eq}
use Rattle.std.specs.Str.Parse.{starts_with_minus, without_leading_plus}
use Rattle.cli_arguments.specs.WayWord.{packet_named}
use Rattle.cli_arguments.specs.Words.{is_set, order_rule}
use Rattle.text_words.specs.Numbers.{number_of}
use Rattle.request_window.specs.declared.limits.Limits.{Limits}
use Rattle.sm_cli.specs.declared.asked.RuleAsked.{RuleAsked}
use Rattle.sm_cli.specs.declared.asked.RuleAsked.TheVariants.{UpDown, Spread, SpreadFromRoots, SpreadInOrder, Balance}
use Rattle.sm_cli.specs.declared.asked.RuleAsked.TheVariants.{BalanceInOrder}
use Rattle.sm_cli.specs.declared.audit_asked.WayAsked.{WayAsked}
use Rattle.sm_policy.specs.declared.timing.Timing.{Timing}
use Rattle.serve_lines.specs.ServeLine.{hex_number}

-- `n` if it is from `least` to `most`, and otherwise None
abbrev pub within : ℕ → ℕ → ℕ → Option ℕ
within least most n = if nat_le least n && nat_le n most then Some n else None

-- the number that a word writes in decimal, with or without a sign; None if the word writes no number. After a minus
-- sign, only 0 is a number
abbrev pub number_in : List ℕ → Option ℕ
number_in word =
    if starts_with_minus word then option_and_then (within 0 0) (number_of 10 (drop 1 word))
    else number_of 10 (without_leading_plus word)

-- the number of the word, or None if the word is not a number that fits in 32 bits; `otherwise` if there is no word
abbrev pub number_or : ℕ → Option (List ℕ) → Option ℕ
number_or otherwise None = Some otherwise
number_or otherwise (Some word) = option_and_then (within 0 4294967295) (number_in word)

-- the floor: the number of the word, or None if this number is not from 1 to 2^32 - 1; 1 if there is no word
abbrev pub floor_asked : Option (List ℕ) → Option ℕ
floor_asked None = Some 1
floor_asked (Some word) = option_and_then (within 1 4294967295) (number_in word)

-- the LMC: the number of the word, or None if this number is not from 0 to 7; 0 if there is no word
abbrev pub lmc_asked : Option (List ℕ) → Option ℕ
lmc_asked None = Some 0
lmc_asked (Some word) = option_and_then (within 0 7) (number_in word)

-- the rule that spreads, from roots or in a named order; None if both are named
abbrev pub spread_asked : Bool → Bool → Option RuleAsked
spread_asked false false = Some Spread
spread_asked true false = Some SpreadFromRoots
spread_asked false true = Some SpreadInOrder
spread_asked true true = None

-- the rule that spreads with balanced loads, in a named order if `ordered` is true
abbrev pub balance_asked : Bool → RuleAsked
balance_asked ordered = if ordered then BalanceInOrder else Balance

-- the rule that the word names; up and down if there is no word. None if the word names no rule, if roots or an order
-- are named with a rule that does not take them, or if roots and an order are both named
abbrev pub rule_asked : Option (List ℕ) → Bool → Bool → Option RuleAsked
rule_asked None rooted ordered = if rooted || ordered then None else Some UpDown
rule_asked (Some word) rooted ordered =
    if bytes_eq word (codes "spread") then spread_asked rooted ordered
    else (if bytes_eq word (codes "updown") && not (rooted || ordered) then Some UpDown
    else (if bytes_eq word (codes "balance") && not rooted then Some (balance_asked ordered) else None))

-- the LMC and the rule of a plan, as words name them; None if one of these words is wrong
abbrev pub planning_asked : (List ℕ → Option (List ℕ)) → Option (ℕ × RuleAsked)
planning_asked word = option_and_then (λ lmc. option_map (λ rule. (lmc, rule))
    (rule_asked (word (codes "routing")) (is_some (word (codes "roots"))) (is_some (word (codes "order")))))
    (lmc_asked (word (codes "lmc")))

-- the rule of an order; None if the words for it are wrong
abbrev pub order_asked : (List ℕ → Option (List ℕ)) → Option RuleAsked
order_asked word =
    rule_asked (order_rule (word (codes "routing"))) (is_some (word (codes "roots"))) (is_some (word (codes "order")))

-- the greatest load that passes, as the word names it; the inner value is None if there is no word. None if the word
-- names no 32-bit number
abbrev pub max_load_asked : Option (List ℕ) → Option (Option ℕ)
max_load_asked None = Some None
max_load_asked (Some word) = option_map Some (option_and_then (within 0 4294967295) (number_in word))

-- the packet whose way is printed, as the word names it; the inner value is None if there is no word. None if the word
-- does not name a packet
abbrev pub way_asked : Option (List ℕ) → Option (Option WayAsked)
way_asked None = Some None
way_asked (Some word) =
    option_map (λ packet. Some (record { node = packet.0; port = packet.1; lid = packet.2 })) (packet_named word)

-- the GUID that 1 to 16 hex digits write; None if the word is missing or wrong
abbrev pub guid_asked : Option (List ℕ) → Option ℕ
guid_asked word = option_and_then hex_number word

-- the number of a port, from 1 to 254; None if the word is missing or wrong
abbrev pub port_asked : Option (List ℕ) → Option ℕ
port_asked word = option_and_then (within 1 254) (option_and_then number_in word)

-- a priority, from 0 to 15; None if the word is missing or wrong
abbrev pub priority_asked : Option (List ℕ) → Option ℕ
priority_asked word = option_and_then (within 0 15) (option_and_then number_in word)

-- the SM_Key that 1 to 16 hex digits write, or None if the word is wrong; 1 if there is no word
abbrev pub sm_key_asked : Option (List ℕ) → Option ℕ
sm_key_asked None = Some 1
sm_key_asked (Some word) = hex_number word

-- when a manager does what, in milliseconds: every 10,000 and 1,000 if no words say otherwise, and not strict. None if a
-- word is no 32-bit number
abbrev pub timing_asked : (List ℕ → Option (List ℕ)) → Option Timing
timing_asked word = option_and_then (λ every. option_map (λ poll.
    record { every = every; poll = poll; is_strict = is_set (word (codes "strict")) })
    (number_or 1000 (word (codes "poll")))) (number_or 10000 (word (codes "every")))

-- what limits a manager's requests: 4 are out at a time, each is sent 4 times, and an answer is waited for during 500
-- milliseconds, if no words say otherwise. None if a word is no 32-bit number
abbrev pub limits_asked : (List ℕ → Option (List ℕ)) → Option Limits
limits_asked word = option_and_then (λ outstanding. option_and_then (λ tries. option_map (λ timeout.
    record { outstanding = outstanding; tries = tries; timeout = timeout }) (number_or 500 (word (codes "timeout"))))
    (number_or 4 (word (codes "tries")))) (number_or 4 (word (codes "outstanding")))

-- the newest generation that is known, 0 if there is no word; None if the word is no 32-bit number
abbrev pub newest_asked : (List ℕ → Option (List ℕ)) → Option ℕ
newest_asked word = number_or 0 (word (codes "newest"))
