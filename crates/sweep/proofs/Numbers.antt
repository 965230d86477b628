-- Requests of a sweep by rising numbers: new ones, the index of one by its TransactionID, and what remains without it.
use Rattle.std.proofs.Common.{◌≡◌, ◌≢◌, ℕ, suc, ◌+◌, ◌-◌, ◌*◌, ◌^◌, ◌<◌, ◌≤◌, Bool, false, ◌&&◌, List, [], ◌∷◌, ◌++◌, length, take, drop, arith, ap, sym, ◌∙◌, subst, length-append, length-take}
use Rattle.std.specs.Prelude.{Some, find, remove, slice_get, nat_lt, ◌==◌}
use Rattle.std.specs.List.{AllByRecursion}
use Rattle.std.proofs.lemmas.Bool.{ne_eqb}
use Rattle.std.proofs.lemmas.List.{take-append-drop}
use Rattle.std.proofs.Math.Seq.{take-append_seam, drop-append_seam}
use Rattle.std.proofs.lemmas.List.Edits.{length-remove, remove-append_left}
use Rattle.std.proofs.lemmas.Option.{slice_get_within}
use Rattle.smp_bytes.specs.Field.{number_in}
use Rattle.smp_bytes.specs.Packet.{transaction_id}
use Rattle.request_table.specs.Numbers.{AreNumbered}
use Rattle.request_table.specs.Order.{AreOrdered, IsIndex}
use Rattle.request_table.proofs.Numbers as numbers
use Rattle.request_table.proofs.Indices.{if_passes}
use Rattle.sweep.specs.declared.request.Request.{Request}
use Rattle.sweep.specs.Replies.{belongs, is_for}
use Rattle.sweep.specs.Sweep.{Asking, AreRising, numbered, transaction_of, without_number}

-- each number is below that of a later one
abbrev pub AreBelow : List Request → Type 0
AreBelow rs = numbers.AreBelow (λ (r : Request). r.number) rs

-- chains --------------------------------------------------------------------------------------

pub rising_ordered : (least : ℕ) (rs : List Request) (next : ℕ) → AreRising least rs next → AreBelow rs
rising_ordered least rs next rising = numbers.rising_ordered (λ (r : Request). r.number) least rs next rising

-- new ones
pub rising_numbered : (next : ℕ) (asked : List Asking) → AreRising next (numbered next asked) (next + length asked)
rising_numbered next [] = omega arith
rising_numbered next (a ∷ asked) =
    let count : next + 1 + length asked ≡ next + suc (length asked) = omega arith in
    (omega arith, subst (AreRising (next + 1) (numbered (next + 1) asked)) count (rising_numbered (next + 1) asked))

-- more at the end
pub rising_asked : (least : ℕ) (rs : List Request) (next : ℕ) (asked : List Asking) → AreRising least rs next
    → AreRising least (rs ++ numbered next asked) (next + length asked)
rising_asked least rs next asked rising =
    numbers.rising_more (λ (r : Request). r.number) least rs (numbered next asked) next (next + length asked) rising (rising_numbered next asked)

-- one less
pub rising_without : (least : ℕ) (rs : List Request) (next i : ℕ) → AreRising least rs next → AreRising least (remove rs i) next
rising_without least rs next i rising = numbers.rising_without (λ (r : Request). r.number) least rs next i rising

-- the first part of an ordered list
all_first : {T : Type 0} (P : T → Type 0) (xs ys : List T) → AllByRecursion P (xs ++ ys) → AllByRecursion P xs
all_first P [] ys all = tt
all_first P (x ∷ xs) ys all = (all.0, all_first P xs ys all.1)

pub ordered_first : {T : Type 0} (R : T → T → Type 0) (xs ys : List T) → AreOrdered R (xs ++ ys) → AreOrdered R xs
ordered_first R [] ys ordered = tt
ordered_first R (x ∷ xs) ys ordered = (all_first (R x) xs ys ordered.0, ordered_first R xs ys ordered.1)

-- by TransactionID ------------------------------------------------------------------------------

other_transaction : (generation transaction : ℕ) (r : Request) → r.number ≢ transaction - generation * 2 ^ 32
    → (transaction_of generation r.number == transaction) ≡ false
other_transaction generation transaction r ne = ne_eqb _ _ (λ e. ne (omega (arith, e)))

-- only a request of its TransactionID is answered by a packet
other_packet : (generation : ℕ) (packet : List ℕ) (r : Request) → r.number ≢ number_in transaction_id packet - generation * 2 ^ 32
    → belongs generation packet r ≡ false
other_packet generation packet r ne =
    ap (λ (t : Bool). t && is_for packet r) (other_transaction generation (number_in transaction_id packet) r ne)

module _ (generation transaction : ℕ) (xs ys : List Request) (next i : ℕ) where
  module _ (all : AreNumbered (λ (r : Request). r.number) (xs ++ ys) next)
      (index : IsIndex (λ (r : Request). nat_lt r.number (transaction - generation * 2 ^ 32)) (xs ++ ys) i) where
    ordered : AreBelow xs
    ordered = ordered_first (λ (a : Request) (b : Request). a.number < b.number) xs ys (rising_ordered 0 (xs ++ ys) next all.rising)

    -- the request with a TransactionID stands at the index, if there is one
    pub located : find (λ r. transaction_of generation r.number == transaction) xs
        ≡ if_passes (λ r. transaction_of generation r.number == transaction) (slice_get xs i)
    located =
        numbers.located_first (λ (r : Request). r.number) (transaction - generation * 2 ^ 32)
        (λ r. transaction_of generation r.number == transaction) xs ys i (other_transaction generation transaction) ordered index

    -- and so does that which a packet with it answers
    pub located_for : (packet : List ℕ) → transaction ≡ number_in transaction_id packet
        → find (belongs generation packet) xs ≡ if_passes (belongs generation packet) (slice_get xs i)
    located_for packet is =
        numbers.located_first (λ (r : Request). r.number) (transaction - generation * 2 ^ 32) (belongs generation packet) xs ys i
        (λ r ne. other_packet generation packet r (λ e. ne (omega (arith, e, is)))) ordered index

-- one that has ended ----------------------------------------------------------------------------

pub without_at : (rs : List Request) (i : ℕ) (r : Request) → AreBelow rs → slice_get rs i ≡ Some r → without_number r.number rs ≡ remove rs i
without_at rs i r ordered at = numbers.without_at (λ (r : Request). r.number) rs i r ordered at

-- what remains of all requests when one of the first has ended
pub record Remains (rs : List Request) (sent i : ℕ) (r : Request) : Type 0 where
  pub first : take (sent - 1) (remove rs i) ≡ without_number r.number (take sent rs)
  pub later : drop (sent - 1) (remove rs i) ≡ drop sent rs
  pub within : sent - 1 ≤ length (remove rs i)
  pub some : 0 < sent

pub remains : (rs : List Request) (sent i next : ℕ) (r : Request) → AreRising 0 (take sent rs ++ drop sent rs) next → sent ≤ length rs
    → slice_get (take sent rs) i ≡ Some r → Remains rs sent i r
remains rs sent i next r rising le at =
    let xs : List Request = take sent rs in
    let ys : List Request = drop sent rs in
    let lt : i < length xs = slice_get_within xs i r at in
    let long : length xs ≡ sent = omega (arith, length-take sent rs) in
    let count = length-remove xs i lt in
    let n : sent - 1 ≡ length (remove xs i) = omega (arith, count, long) in
    let whole : remove rs i ≡ remove xs i ++ ys = ap (λ l. remove l i) (sym (take-append-drop sent rs)) ∙ remove-append_left xs ys i lt in
    let gone : without_number r.number xs ≡ remove xs i =
    without_at xs i r (ordered_first (λ a b. a.number < b.number) xs ys (rising_ordered 0 (xs ++ ys) next rising)) at in
    record {
      first = ap (λ l. take (sent - 1) l) whole ∙ ap (λ k. take k (remove xs i ++ ys)) n ∙ take-append_seam (remove xs i) ys ∙ sym gone;
      later = ap (λ l. drop (sent - 1) l) whole ∙ ap (λ k. drop k (remove xs i ++ ys)) n ∙ drop-append_seam (remove xs i) ys;
      within = omega (arith, ap length whole, length-append (remove xs i) ys, n);
      some = omega (arith, lt, long);
    }
