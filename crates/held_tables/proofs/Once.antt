-- Lines that have each pair of a LID and an end port once.
use Rattle.std.proofs.Common.{◌≡◌, ◌||◌, ◌&&◌, ◌==◌, ◌⊎◌, ℕ, Bool, true, false, List, [], ◌∷◌, ◌++◌, cond, map, refl, sym, ap, ◌∙◌, subst, inl, inr}
use Rattle.std.specs.Prelude.{Contains, filter, not}
use Rattle.std.specs.List.{list_any}
use Rattle.std.specs.BTreeSet.{BTreeSet, Updates, contains}
use Rattle.std.specs.declared.cmp.Ordering.{Ordering}
use Rattle.std.specs.Ordering.{is_eq, nat_cmp, ordering_then}
use Rattle.std.proofs.lemmas.Bool.{and_from, and_parts, eqb-true, eq-eqb}
use Rattle.std.proofs.lemmas.List.{append-nil}
use Rattle.std.proofs.lemmas.List.Elements.{filter-append}
use Rattle.subnet_view.specs.declared.end_port.EndPort.{EndPort}
use Rattle.subnet_view.proofs.Members.{contains_later, contains_cases, contains_none, contains_first, contains_filter, contains-from_filter}
use Rattle.subnet_view.proofs.NumberTests.{eq_then, same_number}
use Rattle.held_tables.specs.declared.held.HeldLid.{HeldLid}
use Rattle.held_tables.specs.Owners.{SoleOwnersAreAlone, is_sole}
use Rattle.held_tables.specs.Tables.{holders, is_owner, is_same_end, is_same_line, owners_of, without_repetitions}

-- two lines differ
abbrev differs : HeldLid → HeldLid → Bool
differs x y = not (is_same_line x y)

same_port : (e x : EndPort) → is_same_end e x ≡ true → e ≡ x
same_port e x h =
    let parts = and_parts (x.node == e.node) (x.port == e.port) h in
    let node : e.node ≡ x.node = sym (eqb-true x.node e.node parts.0) in
    let number : e.port ≡ x.port = sym (eqb-true x.port e.port parts.1) in
    λ i. record { node = node i; port = number i }

same_itself : (e : EndPort) → is_same_end e e ≡ true
same_itself e = and_from (e.node == e.node) (e.port == e.port) (eq-eqb e.node e.node refl) (eq-eqb e.port e.port refl)

-- lines that agree on the LID and the end port are equal
same_line : (x y : HeldLid) → is_same_line x y ≡ true → x ≡ y
same_line x y h =
    let parts = and_parts (y.lid == x.lid) (is_same_end x.port y.port) h in
    let lid : x.lid ≡ y.lid = sym (eqb-true y.lid x.lid parts.0) in
    let port : x.port ≡ y.port = same_port x.port y.port parts.1 in
    λ i. record { lid = lid i; port = port i }

gone : (s : Bool) (ys : List HeldLid) → [] ≡ cond (s || true) [] ys
gone true ys = refl
gone false ys = refl

kept : (s : Bool) (ys : List HeldLid) → cond (not s) ys [] ≡ cond (s || false) [] ys
kept true ys = refl
kept false ys = refl

last_kept : (x y : HeldLid) (before : Bool) → filter (differs x) (cond before [] (y ∷ [])) ≡ cond (is_same_line x y || before) [] (y ∷ [])
last_kept x y true = gone (is_same_line x y) (y ∷ [])
last_kept x y false = kept (is_same_line x y) (y ∷ [])

-- one line more is kept if no line before it agrees with it
pub once_more : (xs : List HeldLid) (y : HeldLid) → without_repetitions (xs ++ y ∷ []) ≡ without_repetitions xs ++ cond (list_any (λ x. is_same_line x y) xs) [] (y ∷ [])
once_more [] y = refl
once_more (x ∷ xs) y =
    let before : Bool = list_any (λ z. is_same_line z y) xs in
    ap (λ zs. x ∷ filter (differs x) zs) (once_more xs y) ∙ ap (λ zs. x ∷ zs) (filter-append (differs x) (without_repetitions xs) (cond before [] (y ∷ [])))
    ∙ ap (λ zs. x ∷ (filter (differs x) (without_repetitions xs) ++ zs)) (last_kept x y before)

-- the kept lines, as a set of keys ----------------------------------------------------------------

abbrev pub key_of : HeldLid → ℕ × (ℕ × ℕ)
key_of x = (x.lid, (x.port.node, x.port.port))

abbrev pub key_cmp : ℕ × (ℕ × ℕ) → ℕ × (ℕ × ℕ) → Ordering
key_cmp a b = ordering_then (nat_cmp a.0 b.0) (ordering_then (nat_cmp a.1.0 b.1.0) (nat_cmp a.1.1 b.1.1))

-- lines that agree have one key
same_key : (x y : HeldLid) → is_eq (key_cmp (key_of x) (key_of y)) ≡ is_same_line x y
same_key x y =
    eq_then (nat_cmp x.lid y.lid) (ordering_then (nat_cmp x.port.node y.port.node) (nat_cmp x.port.port y.port.port))
    ∙ ap (λ b. is_eq (nat_cmp x.lid y.lid) && b) (eq_then (nat_cmp x.port.node y.port.node) (nat_cmp x.port.port y.port.port))
    ∙ (λ i. same_number x.lid y.lid i && (same_number x.port.node y.port.node i && same_number x.port.port y.port.port i))

none_more : (t : Bool) → (t || false) ≡ cond t true false
none_more true = refl
none_more false = refl

one_more : (a t b : Bool) → (a || cond t true b) ≡ cond t true (a || b)
one_more true true b = refl
one_more true false b = refl
one_more false true b = refl
one_more false false b = refl

any_more : (p : HeldLid → Bool) (xs : List HeldLid) (x : HeldLid) → list_any p (xs ++ x ∷ []) ≡ cond (p x) true (list_any p xs)
any_more p [] x = none_more (p x)
any_more p (y ∷ xs) x = ap (λ b. p y || b) (any_more p xs x) ∙ one_more (p y) (p x) (list_any p xs)

-- the set has the keys of `lines`, and no others
abbrev pub AreKeys : List HeldLid → BTreeSet (ℕ × (ℕ × ℕ)) → Type 0
AreKeys lines told = (q : HeldLid) → contains key_cmp told (key_of q) ≡ list_any (λ x. is_same_line x q) lines

-- one line more adds its key
pub keys_more : (lines : List HeldLid) (told new : BTreeSet (ℕ × (ℕ × ℕ))) (x : HeldLid) → AreKeys lines told → Updates key_cmp told new (key_of x) true
    → AreKeys (lines ++ x ∷ []) new
keys_more lines told new x are u q =
    u.0 (key_of q) ∙ (λ i. cond (same_key x q i) true (are q i)) ∙ sym (any_more (λ z. is_same_line z q) lines x)

-- a key that is new is a line more, and one that is not leaves them
new_line : (b : Bool) → not b ≡ true → b ≡ false
new_line true e = absurd (cc)
new_line false e = refl

old_line : (b : Bool) → not b ≡ false → b ≡ true
old_line true e = refl
old_line false e = absurd (cc)

pub line_kept : (lines : List HeldLid) (x : HeldLid) (told : BTreeSet (ℕ × (ℕ × ℕ))) → AreKeys lines told → not (contains key_cmp told (key_of x)) ≡ true
    → without_repetitions (lines ++ x ∷ []) ≡ without_repetitions lines ++ x ∷ []
line_kept lines x told are e =
    once_more lines x ∙ ap (λ t. without_repetitions lines ++ cond t [] (x ∷ [])) (sym (are x) ∙ new_line (contains key_cmp told (key_of x)) e)

pub line_left : (lines : List HeldLid) (x : HeldLid) (told : BTreeSet (ℕ × (ℕ × ℕ))) → AreKeys lines told → not (contains key_cmp told (key_of x)) ≡ false
    → without_repetitions (lines ++ x ∷ []) ≡ without_repetitions lines
line_left lines x told are e =
    once_more lines x ∙ ap (λ t. without_repetitions lines ++ cond t [] (x ∷ [])) (sym (are x) ∙ old_line (contains key_cmp told (key_of x)) e)
    ∙ append-nil (without_repetitions lines)

-- the lines without repetitions are the same lines
pub once_has : (xs : List HeldLid) (x : HeldLid) → Contains xs x → Contains (without_repetitions xs) x
once_has [] x h = absurd (contains_none x h)
once_has (y ∷ xs) x h =
    elim (contains_cases y x xs h) [
      | inl same ↦ contains_first (filter (differs y) (without_repetitions xs)) same
      | inr later ↦ (elim (is_same_line y x) as (λ t. is_same_line y x ≡ t → Contains (without_repetitions (y ∷ xs)) x) [
        | true ↦ λ e. contains_first (filter (differs y) (without_repetitions xs)) (same_line y x e)
        | false ↦ λ e. contains_later y x (filter (differs y) (without_repetitions xs)) (contains_filter (differs y) (without_repetitions xs) x (once_has xs x later) (ap not e))
      ] refl)
    ]

pub once_from : (xs : List HeldLid) (x : HeldLid) → Contains (without_repetitions xs) x → Contains xs x
once_from [] x h = absurd (contains_none x h)
once_from (y ∷ xs) x h =
    elim (contains_cases y x (filter (differs y) (without_repetitions xs)) h) [
      | inl same ↦ contains_first xs same
      | inr later ↦ contains_later y x xs (once_from xs x (contains-from_filter (differs y) (without_repetitions xs) x later).0)
    ]

-- after a line of the only end port that holds the LID, no kept line is for the LID
none_else : (x : HeldLid) (lid : ℕ) (ys : List HeldLid) → x.lid ≡ lid → is_sole x.port (holders (filter (differs x) ys) lid) ≡ true
    → holders (filter (differs x) ys) lid ≡ []
none_else x lid [] is h = refl
none_else x lid (y ∷ ys) is h =
    let rest : List HeldLid = filter (differs x) ys in
    elim (is_same_line x y) as (λ t. is_same_line x y ≡ t → is_sole x.port (holders (cond (not t) (y ∷ rest) rest) lid) ≡ true
    → holders (cond (not t) (y ∷ rest) rest) lid ≡ []) [
      | true ↦ λ e k. none_else x lid ys is k
      | false ↦ λ e k. (elim (y.lid == lid) as (λ t. (y.lid == lid) ≡ t
          → is_sole x.port (map (λ z. z.port) (cond t (y ∷ filter (λ z. z.lid == lid) rest) (filter (λ z. z.lid == lid) rest))) ≡ true
          → map (λ z. z.port) (cond t (y ∷ filter (λ z. z.lid == lid) rest) (filter (λ z. z.lid == lid) rest)) ≡ []) [
            | true ↦ λ q m.
                let port : is_same_end x.port y.port ≡ true = (and_parts (is_same_end x.port y.port) (is_sole x.port (holders rest lid)) m).0 in
                let same : is_same_line x y ≡ true = ap (λ b. b && is_same_end x.port y.port) (eq-eqb y.lid x.lid (eqb-true y.lid lid q ∙ sym is)) ∙ port in
                absurd (cc)
            | false ↦ λ q m. none_else x lid ys is m
          ] refl k)
    ] refl h

-- a line leaves those for other LIDs
unmoved : (x : HeldLid) (lid : ℕ) (ys : List HeldLid) → (x.lid == lid) ≡ false → holders (filter (differs x) ys) lid ≡ holders ys lid
unmoved x lid [] apart = refl
unmoved x lid (y ∷ ys) apart =
    let rest : List HeldLid = filter (differs x) ys in
    let later = unmoved x lid ys apart in
    elim (is_same_line x y) as (λ t. is_same_line x y ≡ t → holders (cond (not t) (y ∷ rest) rest) lid ≡ holders (y ∷ ys) lid) [
      | true ↦ λ e.
          let other : (y.lid == lid) ≡ false = sym (ap (λ (z : HeldLid). z.lid == lid) (same_line x y e)) ∙ apart in
          later ∙ sym (ap (λ t. map (λ (z : HeldLid). z.port) (cond t (y ∷ filter (λ z. z.lid == lid) ys) (filter (λ z. z.lid == lid) ys))) other)
      | false ↦ λ e. (elim (y.lid == lid) as (λ t.
          map (λ (z : HeldLid). z.port) (cond t (y ∷ filter (λ z. z.lid == lid) rest) (filter (λ z. z.lid == lid) rest))
          ≡ map (λ (z : HeldLid). z.port) (cond t (y ∷ filter (λ z. z.lid == lid) ys) (filter (λ z. z.lid == lid) ys))) [
            | true ↦ ap (λ es. y.port ∷ es) later
            | false ↦ later
          ])
    ] refl

-- if no other end port holds a LID, it has one owner at most
pub sole_once : (xs : List HeldLid) (lid : ℕ) (port : EndPort) → is_sole port (holders (without_repetitions xs) lid) ≡ true
    → (holders (without_repetitions xs) lid ≡ []) ⊎ (holders (without_repetitions xs) lid ≡ port ∷ [])
sole_once [] lid port h = inl refl
sole_once (x ∷ xs) lid port h =
    let rest : List HeldLid = filter (differs x) (without_repetitions xs) in
    elim (x.lid == lid) as (λ t. (x.lid == lid) ≡ t
    → is_sole port (map (λ z. z.port) (cond t (x ∷ filter (λ z. z.lid == lid) rest) (filter (λ z. z.lid == lid) rest))) ≡ true
    → (map (λ (z : HeldLid). z.port) (cond t (x ∷ filter (λ z. z.lid == lid) rest) (filter (λ z. z.lid == lid) rest)) ≡ [])
    ⊎ (map (λ (z : HeldLid). z.port) (cond t (x ∷ filter (λ z. z.lid == lid) rest) (filter (λ z. z.lid == lid) rest)) ≡ port ∷ [])) [
      | true ↦ λ q k.
          let parts = and_parts (is_same_end port x.port) (is_sole port (holders rest lid)) k in
          let its : port ≡ x.port = same_port port x.port parts.0 in
          let none = none_else x lid (without_repetitions xs) (eqb-true x.lid lid q) (subst (λ (e : EndPort). is_sole e (holders rest lid) ≡ true) its parts.1) in
          inr (ap (λ es. x.port ∷ es) none ∙ ap (λ (e : EndPort). e ∷ []) (sym its))
      | false ↦ λ q k.
          let same = unmoved x lid (without_repetitions xs) q in
          elim (sole_once xs lid port (ap (is_sole port) (sym same) ∙ k)) [
            | inl none ↦ inl (same ∙ none)
            | inr one ↦ inr (same ∙ one)
          ]
    ] refl h

none_owned : (es : List EndPort) (port : EndPort) → is_owner es port ≡ true → es ≡ [] → ⊥
none_owned es port h e = let none : is_owner es port ≡ false = ap (λ xs. is_owner xs port) e in cc

pub sole_owners_are_alone : SoleOwnersAreAlone
sole_owners_are_alone held lid port owns = (
  λ sole. elim (sole_once held.lids lid port sole) [
    | inl none ↦ absurd (none_owned (owners_of held lid) port owns none)
    | inr one ↦ one
  ],
  λ one. ap (is_sole port) one ∙ ap (λ b. b && true) (same_itself port),
)
