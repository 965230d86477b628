-- What words tell is in its range.
use Rattle.std.proofs.Common.{◌≡◌, ℕ, ◌<◌, ◌≤◌, ◌^◌, Bool, true, false, cond, ◌&&◌, leb, List, length, Option, None, Some, refl, arith, take, drop, lit<}
use Rattle.std.specs.Prelude.{IfSome, IsTrue, option_map, option_and_then, codes}
use Rattle.std.specs.Char.{is_digit}
use Rattle.std.specs.List.{list_all}
use Rattle.std.specs.Str.{bytes_eq}
use Rattle.std.specs.Str.Parse.{digits_value}
use Rattle.std.proofs.lemmas.Bool.{leb-true}
use Rattle.std.proofs.lemmas.List.{length-drop}
use Rattle.std.proofs.lemmas.Int.Digits.{digits_value-lt}
use Rattle.std.proofs.Math.Nat.{pow-le-pow_right}
use Rattle.text_words.specs.NodeName.{is_name, name_in}
use Rattle.text_words.specs.Numbers.{number_of, up_to, count_of, guid_of}
use Rattle.text_words.specs.Quoted.{alone, enclosed, quoted_name, bracketed_port, named_port}
use Rattle.text_words.proofs.Names.{both}
use Rattle.text_words.proofs.Digits.{all_digits}

-- what holds of what may be there
pub then_some : {A B : Type 0} (P : A → Type 0) (Q : B → Type 0) (o : Option A) (f : A → Option B) → IfSome o P → ((x : A) → P x → IfSome (f x) Q)
    → IfSome (option_and_then f o) Q
then_some P Q None f h g = tt
then_some P Q (Some x) f h g = g x h

pub mapped : {A B : Type 0} (P : A → Type 0) (Q : B → Type 0) (o : Option A) (f : A → B) → IfSome o P → ((x : A) → P x → Q (f x)) → IfSome (option_map f o) Q
mapped P Q None f h g = tt
mapped P Q (Some x) f h g = g x h

pub tested : {A : Type 0} (Q : A → Type 0) (b : Bool) (o : Option A) → (b ≡ true → IfSome o Q) → IfSome (cond b o None) Q
tested Q true o h = h refl
tested Q false o h = tt

pub always : {A : Type 0} (o : Option A) → IfSome o (λ x. Unit {0})
always None = tt
always (Some x) = tt

-- a number in its range, where it is
abbrev pub IsWithin : ℕ → Option ℕ → Type 0
IsWithin most o = (p : ℕ) → o ≡ Some p → (1 ≤ p) × (p ≤ most)

within_range : (t : Bool) (most n p : ℕ) → (t ≡ true → (1 ≤ n) × (n ≤ most)) → cond t (Some n) None ≡ Some p → (1 ≤ p) × (p ≤ most)
within_range true most n p h e = let same : n ≡ p = cc in let k = h refl in (omega (arith, k.0), omega (arith, k.1))
within_range false most n p h e = cc

up_to_range : (most n : ℕ) → IsWithin most (up_to most n)
up_to_range most n p e = within_range (leb 1 n && leb n most) most n p (λ h. let b = both _ _ h in (leb-true 1 n b.0, leb-true n most b.1)) e

pub count_range : (most : ℕ) (word : List ℕ) → IfSome (count_of most word) (IsWithin most)
count_range most word = mapped (λ x. Unit {0}) (IsWithin most) (number_of 10 word) (up_to most) (always (number_of 10 word)) (λ n _. up_to_range most n)

pub name_range : (bytes : List ℕ) → IfSome (name_in bytes) (λ n. IsTrue (is_name n))
name_range bytes = tested (λ n. IsTrue (is_name n)) (is_name bytes) (Some bytes) (λ e. e)

hex_range : (digits : List ℕ) → length digits ≤ 16 → IfSome (number_of 16 digits) (λ g. g < 2 ^ 64)
hex_range digits h =
    tested (λ g. g < 2 ^ 64) (leb 1 (length digits) && list_all (λ b. is_digit b 16) digits) (Some (digits_value 16 digits)) (λ e.
    let below : digits_value 16 digits < 16 ^ length digits = digits_value-lt 16 digits (all_digits 16 digits (both _ _ e).1) in
    let most : 16 ^ length digits ≤ 16 ^ 16 = pow-le-pow_right (lit< tt) h in
    omega arith)

pub guid_range : (word : List ℕ) → IfSome (guid_of word) (λ g. g < 2 ^ 64)
guid_range word =
    tested (λ g. g < 2 ^ 64) (bytes_eq (take 2 word) (codes "0x") && leb (length word) 18) (number_of 16 (drop 2 word)) (λ e.
    let few : length word ≤ 18 = leb-true _ _ (both _ _ e).1 in
    hex_range (drop 2 word) (omega (arith, length-drop 2 word)))

pub quoted_range : (word : List ℕ) → IfSome (quoted_name word) (λ n. IsTrue (is_name n))
quoted_range word = then_some (λ x. Unit {0}) (λ n. IsTrue (is_name n)) (option_and_then alone (enclosed 34 34 word)) name_in (always _) (λ x _. name_range x)

pub bracketed_range : (word : List ℕ) → IfSome (bracketed_port word) (IsWithin 254)
bracketed_range word = then_some (λ x. Unit {0}) (IsWithin 254) (option_and_then alone (enclosed 91 93 word)) (count_of 254) (always _)
    (λ x _. count_range 254 x)

pub named_range : (word : List ℕ) → IfSome (named_port word) (λ x. IsWithin 254 x.1)
named_range word =
    then_some (λ x. Unit {0}) (λ x. IsWithin 254 x.1) (enclosed 34 34 word) _ (always _) (λ x _.
    then_some (λ n. Unit {0}) (λ x. IsWithin 254 x.1) (name_in x.0) _ (always _) (λ n _.
    mapped (IsWithin 254) (λ x. IsWithin 254 x.1) (bracketed_port x.1) _ (bracketed_range x.1) (λ q qs. qs)))
