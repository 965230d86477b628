-- How managers are run: whether they are asked or decide by themselves, and their conduct.
use Rattle.std.specs.Prelude.{ℕ, ◌-◌, ◌^◌, List, [], ◌∷◌, Option, None, Some, option_map, codes, if◌then◌else◌}
use Rattle.std.specs.Str.{bytes_eq}
use Rattle.text_words.specs.Numbers.{number_up_to}
use Rattle.schedule_file.specs.declared.manner.Manner.{Manner}
use Rattle.schedule_file.specs.declared.manner.Manner.TheVariants.{Plain, Live, Decides}

-- the SM_Key of a manager of the live conduct; None for one of the plain conduct
abbrev pub sm_key_of : Manner → Option ℕ
sm_key_of Plain = None
sm_key_of (Live key) = Some key
sm_key_of (Decides newest) = Some 0

-- the generation above which a manager that decides by itself begins; None for a manager that is asked
abbrev pub newest_of : Manner → Option ℕ
newest_of Plain = None
newest_of (Live key) = None
newest_of (Decides newest) = Some newest

-- the manner that two words after the priority of a new manager give: `live` and a 64-bit SM_Key, or `decides` and a
-- generation of at most 2^32 - 2; None for other words
abbrev pub manner_of : List ℕ → List ℕ → Option Manner
manner_of word number =
    if bytes_eq word (codes "live") then option_map Live (number_up_to (2 ^ 64 - 1) number)
    else if bytes_eq word (codes "decides") then option_map Decides (number_up_to 0xFFFFFFFE number)
    else None

-- the manner that the words after the priority of a new manager give; no words give the plain conduct
abbrev pub manner_in : List (List ℕ) → Option Manner
manner_in [] = Some Plain
manner_in (word ∷ number ∷ []) = manner_of word number
manner_in _ = None
