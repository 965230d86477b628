-- A file that comes in pieces: what an absorber awaits after the bytes that it was fed, and what one more piece does.
use Rattle.std.specs.Prelude.{◌≡◌, ◌⊎◌, ℕ, ◌+◌, ◌*◌, ◌<◌, ◌≤◌, ◌^◌, List, [], ◌∷◌, ◌++◌, Option, None, Some, Result, Ok, Err, IfOk, length, take}
use Rattle.std.specs.Prelude.{nat_lt, ◌==◌, if◌then◌else◌}
use Rattle.std.specs.List.{concat}
use Rattle.fact_join.specs.declared.cell.Cell.{Cell}
use Rattle.reply_facts.specs.declared.key.Key.{Key}
use Rattle.reply_facts.specs.declared.value.Value.{Value}
use Rattle.fact_store.specs.View.{Facts, raised, view_at}
use Rattle.fact_store.specs.Merge.{merge}
use Rattle.record_file.specs.declared.awaited.Awaited.{Awaited}
use Rattle.record_file.specs.declared.awaited.Awaited.TheVariants as awaited
use Rattle.record_file.specs.declared.file_fault.FileFault.{FileFault}
use Rattle.record_file.specs.declared.file_fault.FileFault.TheVariants.{Magic, Truncated, BadFloor, Memory}
use Rattle.record_file.specs.declared.format.Format.{Format}
use Rattle.record_file.specs.declared.format.Format.TheVariants.{Cells}
use Rattle.record_file.specs.Absorbs.{AbsorbsJudged}
use Rattle.record_file.specs.Head.{IsFormat, floor_told, floored_magic, format_in, head_bytes, head_size}
use Rattle.record_file.specs.Reading.{AreGoodRecords, floor_in, judged, kept, key_in, last_key, outcome, record_size}

-- an absorber: the part of the file that it awaits, or the fault with which it stopped; and the bytes of the awaited
-- part that have come so far
pub record Absorbing : Type 0 where
  pub awaited : Result Awaited FileFault
  pub part : List ℕ

-- the number of bytes of a part that is awaited
abbrev pub awaited_size : Awaited → ℕ
awaited_size awaited.Magic = 8
awaited_size awaited.Header = 8
awaited_size (awaited.Record format index last) = record_size format

-- the number of bytes of a file before a part that is awaited
abbrev pub offset_of : Awaited → ℕ
offset_of awaited.Magic = 0
offset_of awaited.Header = 8
offset_of (awaited.Record format index last) = head_size format + record_size format * index

-- `part` has fewer bytes than the part that is awaited
abbrev pub IsShortOf : Awaited → List ℕ → Type 0
IsShortOf awaited part = length part < awaited_size awaited

-- if a part is awaited, `part` has fewer bytes than that part, and fewer than 2^40 bytes have come in all; always true
-- after a fault
abbrev pub IsInReach : Result Awaited FileFault → List ℕ → Type 0
IsInReach (Ok awaited) part = IsShortOf awaited part × (offset_of awaited + length part < 2 ^ 40)
IsInReach (Err fault) part = Unit {0}

-- the bytes `fed` are a head, `index` good records, and `part`, which has the first bytes of the next record. `last` is
-- the key in the last of the good records (`last_key`)
pub record IsBehindRecords (format : Format) (index : ℕ) (last : Option Key) (part fed : List ℕ) : Type 0 where
  pub records : List (List ℕ)
  pub sound : IsFormat format
  pub whole : fed ≡ head_bytes format ++ (concat records ++ part)
  pub good : AreGoodRecords format None records
  pub count : index ≡ length records
  pub key : last ≡ last_key format None records
  pub short : length part < record_size format

-- after the bytes `fed`, the given part is awaited, and the bytes `part` of it have come
abbrev pub Awaits : Awaited → List ℕ → List ℕ → Type 0
Awaits awaited.Magic part fed = (fed ≡ part) × (length part < 8)
Awaits awaited.Header part fed = (fed ≡ floored_magic ++ part) × (length part < 8)
Awaits (awaited.Record format index last) part fed = IsBehindRecords format index last part fed

-- the absorber `a` was fed the bytes `fed`, which are fewer than 2^40 and have no fault so far
pub record WasFed (a : Absorbing) (fed : List ℕ) : Type 0 where
  pub awaited : Awaited
  pub goes_on : a.awaited ≡ Ok awaited
  pub awaits : Awaits awaited a.part fed
  pub short : length fed < 2 ^ 40

-- the absorber `a` has stopped with `fault`
abbrev pub HasStopped : Absorbing → FileFault → Type 0
HasStopped a fault = a.awaited ≡ Err fault

-- the fault in the outcome of `n` bytes, if it stays whatever bytes follow. None if the outcome is not a fault, is
-- `Truncated`, or is `Magic` and `n` is less than 8
abbrev pub staying : ℕ → Result (Unit {0}) FileFault → Option FileFault
staying n (Ok u) = None
staying n (Err Magic) = if nat_lt n 8 then None else Some Magic
staying n (Err (Truncated offset)) = None
staying n (Err fault) = Some fault

-- the fault that `bytes` have, whatever follows them; None if there is no such fault
abbrev pub fault_so_far : List ℕ → Option FileFault
fault_so_far bytes = staying (length bytes) (outcome bytes)

-- the floor that `piece` adds after the bytes `fed`: if the floor of `fed` is 1, the floor of all these bytes together;
-- otherwise 1
abbrev pub floor_behind : List ℕ → List ℕ → ℕ
floor_behind fed piece = if floor_in fed == 1 then floor_in (fed ++ piece) else 1

-- the sightings that `piece` adds to those kept of the bytes `fed` were merged into the store, at the floor that
-- `piece` adds (`floor_behind`)
pub record AddsSightings (fed piece : List ℕ) (old new : Facts) : Type 0 where
  pub sightings : List (Key × Cell Value)
  pub more : kept (fed ++ piece) ≡ kept fed ++ sightings
  pub held : new ≡ merge old (view_at (floor_behind fed piece) sightings)

-- memory ran out for a good record that `piece` completes. The sightings that `piece` adds before this record were
-- merged into the store, at the floor that `piece` adds
pub record WantsMemory (fed piece : List ℕ) (old new : Facts) : Type 0 where
  pub format : Format
  pub records : List (List ℕ)
  pub r : List ℕ
  pub behind : List ℕ
  pub sound : IsFormat format
  pub whole : fed ++ piece ≡ head_bytes format ++ (concat records ++ (r ++ behind))
  pub good : AreGoodRecords format None (records ++ r ∷ [])
  pub completed : length fed < length (head_bytes format ++ (concat records ++ r))
  pub in_reach : length (head_bytes format ++ (concat records ++ r)) ≤ 2 ^ 40
  pub sightings : List (Key × Cell Value)
  pub more : kept (head_bytes format ++ concat records) ≡ kept fed ++ sightings
  pub held : new ≡ merge old (view_at (floor_behind fed piece) sightings)

-- feeding `piece` after the bytes `fed` stops with `fault`. Either memory ran out for a record that `piece` completes,
-- or `fed` and `piece` together have this fault. In both cases, the sightings that `piece` adds up to there were merged
-- into the store
abbrev pub StopsWith : FileFault → List ℕ → List ℕ → Facts → Facts → Type 0
StopsWith fault fed piece old new =
    ((fault ≡ Memory) × WantsMemory fed piece old new)
    ⊎ ((fault_so_far (fed ++ piece) ≡ Some fault) × AddsSightings fed piece old new)

-- what feeding `piece` after the bytes `fed` returns and does. After `Ok`, the absorber was fed all these bytes, and
-- they have no fault so far. After an error, the absorber has stopped with this error
abbrev pub FeedsBehind : List ℕ → List ℕ → Result (Unit {0}) FileFault → Absorbing → Facts → Facts → Type 0
FeedsBehind fed piece (Ok u) a old new =
    WasFed a (fed ++ piece) × (fault_so_far (fed ++ piece) ≡ None) × AddsSightings fed piece old new
FeedsBehind fed piece (Err fault) a old new = HasStopped a fault × StopsWith fault fed piece old new

-- what feeding `piece` to the absorber `a` returns and does. If `a` has stopped, its fault is returned again and
-- nothing changes
pub record FeedsPiece (a : Absorbing) (piece : List ℕ) (answer : Result (Unit {0}) FileFault) (a' : Absorbing)
    (old new : Facts) : Type 0 where
  pub goes_on : (fed : List ℕ) → WasFed a fed → FeedsBehind fed piece answer a' old new
  pub stays : (fault : FileFault) → HasStopped a fault → (answer ≡ Err fault) × (a' ≡ a) × (new ≡ old)

-- what the end of the file returns: the outcome of the bytes that the absorber `a` was fed, or the fault with which it
-- stopped
pub record Finishes (a : Absorbing) (answer : Result (Unit {0}) FileFault) : Type 0 where
  pub ends : (fed : List ℕ) → WasFed a fed → answer ≡ outcome fed
  pub stays : (fault : FileFault) → HasStopped a fault → answer ≡ Err fault

-- the steps of a piece -----------------------------------------------------------------

-- what is awaited after the first eight bytes of a file, according to the format in them. It is the first record, or
-- the header if the header is still to come; otherwise the fault of the head
abbrev pub behind_magic : Result Format FileFault → Result Awaited FileFault
behind_magic (Ok format) = Ok (awaited.Record format 0 None)
behind_magic (Err (Truncated offset)) = Ok awaited.Header
behind_magic (Err fault) = Err fault

-- what is awaited after eight bytes that should be a header. It is the first record if they are the header of a floor,
-- and otherwise the fault `BadFloor`; None is given if they are not a header
abbrev pub behind_header : Option ℕ → Result Awaited FileFault
behind_header None = Err BadFloor
behind_header (Some floor) = Ok (awaited.Record (Cells (Some floor)) 0 None)

-- `facts` raised to the given floor; unchanged if none is given
abbrev pub raised_to : Option ℕ → Facts → Facts
raised_to None facts = facts
raised_to (Some floor) facts = raised facts floor

-- the outcome of a file that ends after `n` bytes of the awaited part, if this part has more bytes
abbrev pub ending_at : Awaited → ℕ → Result (Unit {0}) FileFault
ending_at awaited.Magic n = Err Magic
ending_at awaited.Header n = Err (Truncated (offset_of awaited.Header))
ending_at (awaited.Record format index last) n =
    if n == 0 then Ok tt else Err (Truncated (offset_of (awaited.Record format index last)))

-- what taking the awaited part returns and does to the store. `bytes` are all bytes of the part
abbrev pub TakesAwaited : Awaited → List ℕ → Result Awaited FileFault → Facts → Facts → Type 0
TakesAwaited awaited.Magic bytes answer old new = (answer ≡ behind_magic (format_in bytes)) × (new ≡ old)
TakesAwaited awaited.Header bytes answer old new =
    (answer ≡ behind_header (floor_told bytes)) × (new ≡ raised_to (floor_told bytes) old)
TakesAwaited (awaited.Record format index last) bytes answer old new =
    AbsorbsJudged (judged format last bytes) index answer old new
    × IfOk answer (λ next. next ≡ awaited.Record format (index + 1) (key_in format bytes))

-- what taking `piece` after the bytes `fed` leads to: the part that is awaited next and its first bytes, or a fault
abbrev pub TakesTo : List ℕ → List ℕ → Result Awaited FileFault → List ℕ → Facts → Facts → Type 0
TakesTo fed piece (Ok next) part old new = Awaits next part (fed ++ piece) × AddsSightings fed piece old new
TakesTo fed piece (Err fault) part old new = StopsWith fault fed piece old new

-- if the bytes `part` of the awaited part have come (`Awaits`), taking `piece` leads to `answer`, whatever bytes were
-- fed before
abbrev pub TakesPiece : Awaited → List ℕ → List ℕ → Result Awaited FileFault → List ℕ → Facts → Facts → Type 0
TakesPiece awaited part piece answer part' old new =
    (fed : List ℕ) → Awaits awaited part fed → TakesTo fed piece answer part' old new

-- the first `n` of `bytes` were taken, and `n` is at least 1. Then `next` is awaited, and the bytes `part'` of `next`
-- have come
pub record TakesSome (awaited : Awaited) (part bytes : List ℕ) (next : Awaited) (n : ℕ) (part' : List ℕ)
    (old new : Facts) : Type 0 where
  pub some : 0 < n
  pub within : n ≤ length bytes
  pub short : IsShortOf next part'
  pub offset : offset_of next + length part' ≡ (offset_of awaited + length part) + n
  pub takes : TakesPiece awaited part (take n bytes) (Ok next) part' old new

-- what taking bytes from the front of `bytes` returns and does. It returns the part that is awaited next and how many
-- bytes were taken, or the fault to which these bytes lead
abbrev pub TakesFront : Awaited → List ℕ → List ℕ → Result (Awaited × ℕ) FileFault → List ℕ → Facts → Facts → Type 0
TakesFront awaited part bytes (Ok taken) part' old new = TakesSome awaited part bytes taken.0 taken.1 part' old new
TakesFront awaited part bytes (Err fault) part' old new = TakesPiece awaited part bytes (Err fault) part' old new
