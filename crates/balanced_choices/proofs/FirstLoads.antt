-- Loads by first choices, one destination after the other, and the edges that they take.
use Rattle.std.proofs.Common.{◌≡◌, ◌<◌, ◌≤◌, ◌+◌, ◌*◌, ◌%◌, ◌++◌, ℕ, zero, suc, List, [], ◌∷◌, refl, sym, ap, subst, ◌∙◌}
use Rattle.std.proofs.Common.{arith, get_or, length, min, replicate, take}
use Rattle.std.proofs.Common.{append_assoc, append-nil}
use Rattle.std.proofs.lemmas.List.{length-append, length-replicate, length-take, set_past, take_more}
use Rattle.std.proofs.lemmas.Option.{slice_get_read}
use Rattle.std.proofs.Math.Nat.{mod-lt, mul-le-mul_right}
use Rattle.std.specs.Prelude.{Some, slice_get}
use Rattle.port_graph.specs.declared.edge.Edge.{Edge}
use Rattle.balanced_choices.specs.declared.level_digit.LevelDigit.{LevelDigit}
use Rattle.balanced_choices.specs.declared.choice_rounds.Destination.{Destination}
use Rattle.balanced_choices.specs.BalancedChoices.{digits_from, in_turn, towards}
use Rattle.balanced_choices.specs.declared.ways.Change.{Change}
use Rattle.balanced_choices.specs.Ways.{changed, with_changes}
use Rattle.balanced_choices.specs.Loads.{Passing, first_edge, loads_with, loads_with_all, passed_to, repeated}

-- the loads with the packets to some destinations and then to others
pub with_both : (graph : List (List Edge)) (sent : List ℕ) (digits : List LevelDigit) (loads : List ℕ) (ds es : List Destination)
    → loads_with_all graph sent digits loads (ds ++ es)
    ≡ loads_with_all graph sent digits (loads_with_all graph sent digits loads ds) es
with_both graph sent digits loads [] es = refl
with_both graph sent digits loads (d ∷ ds) es =
    with_both graph sent digits (loads_with (towards graph d.position) sent digits loads d) ds es

-- without candidates nothing is passed on
pub none_passed : (ends weight p number : ℕ) (old : Passing) (ks : List ℕ) → passed_to ends [] weight p number old ks ≡ old
none_passed ends weight p number old [] = refl
none_passed ends weight p number old (k ∷ ks) = none_passed ends weight p number old ks

counted_round : (count n : ℕ) → 0 < count → in_turn count n ≡ n % count
counted_round zero n some = absurd (omega arith)
counted_round (suc count) n some = refl

-- the edge whose turn it is
pub edge_in_turn : (edges : List Edge) (weight p number choice : ℕ) (e : Edge) → 0 < min (length edges) 256
    → choice ≡ (digits_from weight number + p) % min (length edges) 256 → e ≡ get_or edges choice e → first_edge edges weight p number ≡ Some e
edge_in_turn edges weight p number choice e some is at =
    let n = digits_from weight number + p in
    let count : length (take 256 edges) ≡ min (length edges) 256 =
    (let turned : min 256 (length edges) ≡ min (length edges) 256 = omega arith in length-take 256 edges ∙ turned) in
    let low : choice < min (length edges) 256 = subst (λ (x : ℕ). x < min (length edges) 256) (sym is) (mod-lt n some) in
    ap (slice_get edges) (ap (λ m. in_turn m n) count ∙ counted_round (min (length edges) 256) n some ∙ sym is)
    ∙ slice_get_read edges (length edges) choice e refl (omega (arith, low)) at

-- repeated numbers of two lists
repeated_both : (count : ℕ) (xs ys : List ℕ) → repeated count (xs ++ ys) ≡ repeated count xs ++ repeated count ys
repeated_both count [] ys = refl
repeated_both count (x ∷ xs) ys =
    ap (λ zs. replicate count x ++ zs) (repeated_both count xs ys)
    ∙ sym (append_assoc (replicate count x) (repeated count xs) (repeated count ys))

-- one number more
pub repeated_more : (count : ℕ) (xs : List ℕ) (i : ℕ) → i < length xs
    → repeated count (take (i + 1) xs) ≡ repeated count (take i xs) ++ replicate count (get_or xs i 0)
repeated_more count xs i h =
    ap (repeated count) (take_more xs i 0 h) ∙ repeated_both count (take i xs) (get_or xs i 0 ∷ [])
    ∙ ap (λ zs. repeated count (take i xs) ++ zs) (append-nil (replicate count (get_or xs i 0)))

pub repeated_long : (count : ℕ) (xs : List ℕ) → length (repeated count xs) ≡ length xs * count
repeated_long count [] = let none : 0 ≡ 0 * count = omega arith in none
repeated_long count (x ∷ xs) =
    let rest = repeated_long count xs in
    let both = length-append (replicate count x) (repeated count xs) in
    let own = length-replicate count x in
    omega (arith, rest, both, own)

-- the index of an end at a position
pub index_within : (n ends p k : ℕ) → p < n → k < ends → p * ends + k < n * ends
index_within n ends p k h l =
    let more : (p + 1) * ends ≤ n * ends = mul-le-mul_right ends (let below : p + 1 ≤ n = omega arith in below) in
    omega (arith, more)

-- and at what is no position
pub index_past : (n ends p k : ℕ) → n ≤ p → n * ends ≤ p * ends + k
index_past n ends p k h = let more : n * ends ≤ p * ends = mul-le-mul_right ends h in omega (arith, more)

-- a change past the end
pub not_there : (change : Change) (xs : List ℕ) (i : ℕ) → length xs ≤ i → with_changes change xs (i ∷ []) ≡ xs
not_there change xs i h = set_past xs i (changed change (get_or xs i 0)) h
