-- The bytes that are kept of a line that has begun say what the line says.
use Rattle.std.proofs.Common.{◌≡◌, ◌∙◌, ℕ, ◌<◌, ◌≤◌, Bool, true, false, cond, List, [], ◌∷◌, ◌++◌, length, length-append, append_assoc, refl, sym, ap, arith, leb-false}
use Rattle.std.specs.Prelude.{◌==◌, nat_le}
use Rattle.std.proofs.lemmas.Bool.{cond_both, leb-true}
use Rattle.schedule_lines.specs.Outcome.{Outcome, and_then, quiet}
use Rattle.serve_lines.specs.ManageLine.{manage_line_of}
use Rattle.serve_lines.specs.ServeLine.{line_of, lines_ended, most_bytes}
use Rattle.serve_lines.specs.declared.manage_line.ManageLine.TheVariants as manage
use Rattle.serve_lines.specs.declared.serve_line.ServeLine.TheVariants.{Wrong}
use Rattle.serve_run.specs.Kept.{ServerValue, after_byte, after_bytes, after_kept, kept_with}
use Rattle.serve_run.specs.Decided.{decided}
use Rattle.serve_run.specs.Seat.{Deciding, Obeying, Seat, line_served, lines_served, seated, served_by}
use Rattle.serve_run.specs.Served.{served}

-- these are what is kept of these bytes: all, or as many as tell that they are too many
data IsKept (kept begun : List ℕ) : Type 0 where
  whole : kept ≡ begun → IsKept kept begun
  cut : most_bytes < length kept → most_bytes < length begun → IsKept kept begun

long_is_wrong : (line : List ℕ) → most_bytes < length line → line_of line ≡ Wrong
unfolding line_of
long_is_wrong line h = grind (arith, h)

long_tells_wrong : (line : List ℕ) → most_bytes < length line → manage_line_of line ≡ manage.Wrong
unfolding manage_line_of
long_tells_wrong line h = grind (arith, h)

long_the_same : (seat : Seat) (one other : List ℕ) → most_bytes < length one → most_bytes < length other
    → line_served seat one ≡ line_served seat other
unfolding line_served
long_the_same (Obeying m) one other h k =
    ap (λ line. seated Obeying (served m line)) (long_is_wrong one h ∙ sym (long_is_wrong other k))
long_the_same (Deciding a) one other h k =
    ap (λ line. seated Deciding (decided a line)) (long_tells_wrong one h ∙ sym (long_tells_wrong other k))

kept_says : (seat : Seat) (kept begun : List ℕ) → IsKept kept begun → line_served seat kept ≡ line_served seat begun
kept_says seat kept begun (whole e) = ap (line_served seat) e
kept_says seat kept begun (cut h k) = long_the_same seat kept begun h k

short_more : (kept begun : List ℕ) (b : ℕ) → IsKept kept begun → length kept ≤ most_bytes → IsKept (kept ++ b ∷ []) (begun ++ b ∷ [])
short_more kept begun b (whole e) h = whole (ap (λ x. x ++ b ∷ []) e)
short_more kept begun b (cut g k) h = absurd (omega (arith, g, h))

long_more : (kept begun : List ℕ) (b : ℕ) → IsKept kept begun → most_bytes < length kept → IsKept kept (begun ++ b ∷ [])
long_more kept begun b (whole e) h =
    let same = ap length e in cut h (omega (arith, h, same, length-append begun (b ∷ [])))
long_more kept begun b (cut g k) h = cut h (omega (arith, k, length-append begun (b ∷ [])))

kept_more : (kept begun : List ℕ) (b : ℕ) → IsKept kept begun → IsKept (kept_with kept b) (begun ++ b ∷ [])
kept_more kept begun b is =
    cond_both (nat_le (length kept) most_bytes) (kept ++ b ∷ []) kept (λ k. IsKept k (begun ++ b ∷ []))
    (λ e. short_more kept begun b is (leb-true (length kept) most_bytes e)) (λ e. long_more kept begun b is (leb-false (length kept) most_bytes e))

-- what is printed byte by byte is what is printed line by line
text_is : (seat : Seat) (kept begun bytes : List ℕ) → IsKept kept begun
    → (after_bytes (record { seat = seat; begun = kept }) bytes).text ≡ (lines_served seat (lines_ended begun bytes)).text
text_is seat kept begun [] is = refl
text_is seat kept begun (b ∷ bytes) is =
    let next = (line_served seat kept).now in
    by_test (b == 10)
    (ap (λ text. (line_served seat kept).text ++ text) (text_is next [] [] bytes (whole refl))
    ∙ ap (λ (o : Outcome Seat). (and_then o (λ now. lines_served now (lines_ended [] bytes))).text) (kept_says seat kept begun is))
    (text_is seat (kept_with kept b) (begun ++ b ∷ []) bytes (kept_more kept begun b is))
  where
    by_test : (t : Bool)
        → (line_served seat kept).text ++ (after_bytes (record { seat = (line_served seat kept).now; begun = [] }) bytes).text
        ≡ (lines_served seat (begun ∷ lines_ended [] bytes)).text
        → (after_bytes (record { seat = seat; begun = kept_with kept b }) bytes).text ≡ (lines_served seat (lines_ended (begun ++ b ∷ []) bytes)).text
        → (and_then (cond t (after_kept (line_served seat kept)) (quiet (record { seat = seat; begun = kept_with kept b })))
        (λ now. after_bytes now bytes)).text
        ≡ (lines_served seat (cond t (begun ∷ lines_ended [] bytes) (lines_ended (begun ++ b ∷ []) bytes))).text
    by_test true ended longer = ended
    by_test false ended longer = longer

-- a manager of which no line is begun
abbrev pub beginning : Seat → ServerValue
beginning seat = record { seat = seat; begun = [] }

pub bytes_are_lines : (seat : Seat) (bytes : List ℕ) → (after_bytes (beginning seat) bytes).text ≡ served_by seat bytes
bytes_are_lines seat bytes = text_is seat [] [] bytes (whole refl)

-- bytes behind others
pub now_behind : (s : ServerValue) (one other : List ℕ) → (after_bytes s (one ++ other)).now ≡ (after_bytes (after_bytes s one).now other).now
now_behind s [] other = refl
now_behind s (b ∷ one) other = now_behind (after_byte s b).now one other

pub text_behind : (s : ServerValue) (one other : List ℕ)
    → (after_bytes s (one ++ other)).text ≡ (after_bytes s one).text ++ (after_bytes (after_bytes s one).now other).text
text_behind s [] other = refl
text_behind s (b ∷ one) other =
    let next = (after_byte s b).now in
    ap (λ text. (after_byte s b).text ++ text) (text_behind next one other)
    ∙ sym (append_assoc (after_byte s b).text (after_bytes next one).text (after_bytes (after_bytes next one).now other).text)
