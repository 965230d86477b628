-- Requests along directed routes among packets, by their TransactionIDs.
use Rattle.std.proofs.Common.{◌≡◌, ◌∙◌, ◌⊎◌, inl, inr, ℕ, ◌+◌, ◌<◌, ◌^◌, ◌/◌, ◌%◌, Bool, true, false, ◌&&◌, not, List, [], ◌∷◌, ◌++◌, get_or, length, replicate, refl, sym, ap, subst, arith}
use Rattle.std.proofs.lemmas.Bool.{cond_both, cond-true}
use Rattle.std.proofs.lemmas.List.{get_or_append_left, get_or-take, length-append, length-take}
use Rattle.std.specs.Prelude.{◌==◌, drop, filter, take}
use Rattle.smp_bytes.specs.Field.{number_in, with_bytes, with_numbers}
use Rattle.smp_bytes.specs.Header.{directed_class, get}
use Rattle.smp_bytes.specs.Packet.{is_directed, is_response, method, transaction_id}
use Rattle.smp_bytes.specs.Requests.{directed, path_entries, request, request_entries}
use Rattle.smp_bytes.proofs.BitLaws.{byte-number_in}
use Rattle.smp_bytes.proofs.FieldLaws.{length-with_numbers, number_in-alike, number_in-with_numbers, number_in-with_numbers_apart}
use Rattle.smp_bytes.proofs.RequestLaws.{length-request}
use Rattle.sm_manager.specs.declared.outgoing.Outgoing.{Outgoing}
use Rattle.sm_manager.specs.Traps.{trap, trap_repress}
use Rattle.acting_manager.specs.Acting.{is_request}

-- requests among packets ------------------------------------------------------------------------------

-- the packet is a request along a directed route with this TransactionID
abbrev pub Asks : ℕ → Outgoing → Type 0
Asks t out = (is_directed out.packet ≡ true) × (number_in transaction_id out.packet ≡ t) × (is_request out ≡ true)

abbrev pub AnyAsks : ℕ → List Outgoing → Type 0
AnyAsks t [] = ⊥
AnyAsks t (out ∷ packets) = Asks t out ⊎ AnyAsks t packets

pub any_left : (t : ℕ) (xs ys : List Outgoing) → AnyAsks t xs → AnyAsks t (xs ++ ys)
any_left t [] ys any = absurd any
any_left t (x ∷ xs) ys (inl here) = inl here
any_left t (x ∷ xs) ys (inr any) = inr (any_left t xs ys any)

pub any_right : (t : ℕ) (xs ys : List Outgoing) → AnyAsks t ys → AnyAsks t (xs ++ ys)
any_right t [] ys any = any
any_right t (x ∷ xs) ys any = inr (any_right t xs ys any)

pub any_request : (t : ℕ) (xs : List Outgoing) → AnyAsks t xs → AnyAsks t (filter is_request xs)
any_request t [] any = absurd any
any_request t (x ∷ xs) (inl here) = subst (AnyAsks t) (sym (cond-true (is_request x) (x ∷ filter is_request xs) (filter is_request xs) here.2)) (inl here)
any_request t (x ∷ xs) (inr any) =
    cond_both (is_request x) (x ∷ filter is_request xs) (filter is_request xs) (AnyAsks t) (λ _. inr (any_request t xs any)) (λ _. any_request t xs any)

-- what is written behind a byte leaves the byte, and as many bytes
front : (i at : ℕ) (written bytes : List ℕ) → i < at → i < length bytes → get_or (with_bytes at written bytes) i 0 ≡ get_or bytes i 0
unfolding with_bytes
front i at written bytes before within =
    let long = length-take at bytes in
    get_or_append_left (take at bytes) (written ++ drop (at + length written) bytes) 0 i (omega (arith, long, before, within))
    ∙ get_or-take at bytes i 0 before

still_within : (i at : ℕ) (written bytes : List ℕ) → i < at → i < length bytes → i < length (with_bytes at written bytes)
unfolding with_bytes
still_within i at written bytes before within =
    let long = length-take at bytes in
    let all = length-append (take at bytes) (written ++ drop (at + length written) bytes) in
    omega (arith, long, all, before, within)

-- the TransactionID of a directed request is read back
pub directed_transaction : (method_number attribute modifier tid : ℕ) (path payload : List ℕ) → tid < 2 ^ 64 → method_number < 256
    → number_in transaction_id (directed method_number attribute modifier tid path payload) ≡ tid
directed_transaction method_number attribute modifier tid path payload small fits =
    let made = with_numbers (path_entries (length path)) (request directed_class method_number attribute modifier tid) in
    let first = length-request method_number attribute modifier tid directed_class in
    let long : length made ≡ 256 = length-with_numbers 256 (path_entries (length path)) (request directed_class method_number attribute modifier tid) first refl in
    number_in-alike transaction_id (directed method_number attribute modifier tid path payload) made
    (λ i low high.
    front i 129 path (with_bytes 64 payload made) (omega (arith, high)) (still_within i 64 payload made (omega (arith, high)) (omega (arith, long, high)))
    ∙ front i 64 payload made (omega (arith, high)) (omega (arith, long, high)))
    ∙ number_in-with_numbers_apart 256 transaction_id (path_entries (length path)) (request directed_class method_number attribute modifier tid) first refl
    ∙ number_in-with_numbers 256 (request_entries directed_class method_number attribute modifier tid) (replicate 256 0) 4 _ refl refl refl
    (omega (arith, small))

-- a packet with the method Get is a request
pub gets : (out : Outgoing) → number_in method out.packet ≡ get → is_request out ≡ true
gets out e =
    let bit : is_response out.packet ≡ false = ap (λ b. b / 2 ^ 7 % 2 ^ 1 == 1) (sym (byte-number_in 3 out.packet) ∙ e) in
    λ i. not (bit i) && not (e i == trap_repress)

-- a trap is no response
pub traps : (packet : List ℕ) → number_in method packet ≡ trap → is_response packet ≡ false
traps packet e = ap (λ b. b / 2 ^ 7 % 2 ^ 1 == 1) (sym (byte-number_in 3 packet) ∙ e)

pub all_three : (a b c : Bool) → a ≡ true → b ≡ true → c ≡ true → (a && (b && c)) ≡ true
all_three true true true e f g = refl
all_three true true false e f g = g
all_three true false c e f g = absurd (cc)
all_three false b c e f g = absurd (cc)

-- a packet is a request whose method is that of neither an answer nor a TrapRepress
pub asks_by : (out : Outgoing) (n : ℕ) → number_in method out.packet ≡ n → (n / 2 ^ 7 % 2 ^ 1 == 1) ≡ false → (n == trap_repress) ≡ false
    → is_request out ≡ true
asks_by out n e asks other =
    let bit : is_response out.packet ≡ (n / 2 ^ 7 % 2 ^ 1 == 1) = ap (λ b. b / 2 ^ 7 % 2 ^ 1 == 1) (sym (byte-number_in 3 out.packet) ∙ e) in
    λ i. not ((bit ∙ asks) i) && not ((ap (λ n. n == trap_repress) e ∙ other) i)
