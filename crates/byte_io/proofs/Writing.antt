-- Texts that are written one after the other.
use Rattle.std.proofs.Common.{◌≡◌, ◌∙◌, ◌<◌, ◌+◌, ℕ, suc, Bool, true, false, List, [], ◌∷◌, ◌++◌, Option, None, Some, Result, Ok, Err}
use Rattle.std.proofs.Common.{refl, sym, ap, subst, IsTrue, ◌↔◌, append_assoc, arith, length, get_or, take, drop}
use Rattle.std.specs.Prelude.{IsErr}
use Rattle.std.specs.List.{flat_map}
use Rattle.std.specs.Io.KnownBytes.{Appends}
use Rattle.std.proofs.lemmas.List.{append-nil, flat_map_more, take_more}
use Rattle.std.proofs.lemmas.Result.{on_ok_weaker}
use Rattle.std.proofs.Math.Seq.{drop-cons}
use Rattle.byte_io.specs.Prints.{EndsEarly, Prints, PrintsSome, PrintsUpTo, WritesPart}
use Rattle.byte_io.specs.Writes.{Writes}
use Rattle.byte_io.specs.declared.sink.WriteFault.{WriteFault}
use Rattle.byte_io.proofs.Bytes.{Appends-trans}

Appends-none : (o : Option (List ℕ)) → Appends o o []
Appends-none None = tt
Appends-none (Some xs) = sym (append-nil xs)

-- a text that is spelled in another way
pub spelled : (a b : Option (List ℕ)) (x y : List ℕ) → x ≡ y → Appends a b x → Appends a b y
spelled a b x y e wrote = subst (Appends a b) e wrote

abbrev ok_of : Unit {0} → Result (Unit {0}) WriteFault
ok_of u = Ok u

not_failed : (b : Bool) (u : Unit {0}) → (IsErr (ok_of u) ↔ IsTrue b) → b ≡ false
not_failed false u h = refl
not_failed true u h = let e : IsErr (ok_of u) = h.1 refl in absurd (cc)

module _ {W : Type 0} (written : W → Option (List ℕ)) (has_failed : W → Bool) where
  -- nothing was written
  pub prints_nothing : (now : W) → Prints written has_failed now now []
  prints_nothing now = record { grown = Appends-none (written now); works = λ e. e }

  -- one text, and then another
  pub prints_both : (old mid new : W) (a b : List ℕ) → Prints written has_failed old mid a → Prints written has_failed mid new b
      → Prints written has_failed old new (a ++ b)
  prints_both old mid new a b p q =
      record { grown = Appends-trans (written old) (written mid) (written new) a b p.grown q.grown; works = λ e. q.works (p.works e) }

  -- a text was written
  pub wrote : (u : Unit {0}) (old new : W) (text : List ℕ) → Writes written has_failed (Ok u) old new text → Prints written has_failed old new text
  wrote u old new text h = record { grown = h.ok; works = λ e. not_failed (has_failed new) u h.failed }

  -- one text, and then another that may not be written whole
  pub prints_then : {T F : Type 0} (is_write : F → Bool) (result : Result T F) (old mid new : W) (a b : List ℕ)
      → Prints written has_failed old mid a → PrintsUpTo is_write written has_failed result mid new b
      → PrintsUpTo is_write written has_failed result old new (a ++ b)
  prints_then is_write (Ok value) old mid new a b p q = prints_both old mid new a b p q
  prints_then is_write (Err fault) old mid new a b p q = by_kind (is_write fault) q
    where
      by_kind : (k : Bool) → EndsEarly written has_failed k mid new b → EndsEarly written has_failed k old new (a ++ b)
      by_kind true q = q
      by_kind false q = record {
        front = a ++ q.front;
        rest = q.rest;
        parts = append_assoc a q.front q.rest ∙ ap (λ t. a ++ t) q.parts;
        prints = prints_both old mid new a q.front p q.prints;
      }

  -- what ends early in a text ends early in that text and more
  pub ends_early_in : (k : Bool) (old new : W) (a b : List ℕ) → EndsEarly written has_failed k old new a
      → EndsEarly written has_failed k old new (a ++ b)
  ends_early_in true old new a b p = p
  ends_early_in false old new a b p = record {
    front = p.front;
    rest = p.rest ++ b;
    parts = sym (append_assoc p.front p.rest b) ∙ ap (λ t. t ++ b) p.parts;
    prints = p.prints;
  }

  -- a call ended before anything was written
  pub nothing_early : (old new : W) (text : List ℕ) → new ≡ old → PrintsSome written has_failed old new text
  nothing_early old new text e = record {
    front = [];
    rest = text;
    parts = refl;
    prints = subst (λ (w : W). Prints written has_failed old w []) (sym e) (prints_nothing old);
  }

module _ {W : Type 0} (written : W → Option (List ℕ)) (has_failed : W → Bool) (r : Result (Unit {0}) WriteFault) (a b : W) where
  -- a text that is spelled in another way
  pub writes_as : (x y : List ℕ) → x ≡ y → Writes written has_failed r a b x → Writes written has_failed r a b y
  writes_as x y e w = subst (Writes written has_failed r a b) e w

  -- the last of some texts, by the call whose answer is theirs
  pub writes_then : (c : W) (x y : List ℕ) → Appends (written a) (written b) x → Writes written has_failed r b c y
      → Writes written has_failed r a c (x ++ y)
  writes_then c x y before last =
      record { ok = on_ok_weaker r (Appends-trans (written a) (written b) (written c) x y before) last.ok; failed = last.failed }

  -- a part that is spelled in another way
  pub part_as : (x y : List ℕ) → x ≡ y → WritesPart written has_failed r a b x → WritesPart written has_failed r a b y
  part_as x y e w = subst (WritesPart written has_failed r a b) e w

  -- one text, and then a part
  pub part_then : (c : W) (x y : List ℕ) → Prints written has_failed a b x → WritesPart written has_failed r b c y
      → WritesPart written has_failed r a c (x ++ y)
  part_then c x y before last = prints_then written has_failed (λ fault. true) r a b c x y before last

  -- a text, and then a part
  pub writes_and_part : (c : W) (u : Unit {0}) (x y : List ℕ) → Writes written has_failed (Ok u) a b x → WritesPart written has_failed r b c y
      → Writes written has_failed r a c (x ++ y)
  writes_and_part c u x y before last = by_result r last
    where
      by_result : (r : Result (Unit {0}) WriteFault) → WritesPart written has_failed r b c y → Writes written has_failed r a c (x ++ y)
      by_result (Ok v) last = record {
        ok = Appends-trans (written a) (written b) (written c) x y before.ok last.grown;
        failed = still (has_failed c) (last.works (not_failed (has_failed b) u before.failed));
      }
        where
          still : (f : Bool) → f ≡ false → IsErr (ok_of v) ↔ IsTrue f
          still false e = (λ h. h, λ h. h)
          still true e = absurd (cc)
      by_result (Err fault) last = record { ok = tt; failed = (λ e. last, λ f. refl) }

-- the texts of the elements given so far were written; with those that are left they are all
pub record HasWritten {W X : Type 0} (written : W → Option (List ℕ)) (has_failed : W → Bool) (text : X → List ℕ) (a b : W)
    (given left all : List X) : Type 0 where
  pub prints : Prints written has_failed a b (flat_map text given)
  pub parts : given ++ left ≡ all

module _ {W X : Type 0} (written : W → Option (List ℕ)) (has_failed : W → Bool) (text : X → List ℕ) where
  -- of the next one too
  pub written_more : (a b c : W) (given left left' all : List X) (x : X) → HasWritten written has_failed text a b given left all
      → left ≡ x ∷ left' → Prints written has_failed b c (text x) → HasWritten written has_failed text a c (given ++ x ∷ []) left' all
  written_more a b c given left left' all x h next q = record {
    prints = subst (Prints written has_failed a c) (flat_map_more text [] given x)
        (prints_both written has_failed a b c (flat_map text given) (text x) h.prints q);
    parts = append_assoc given (x ∷ []) left' ∙ ap (λ t. given ++ t) (sym next) ∙ h.parts;
  }

  -- of the next one of a list
  pub written_next : (a b c : W) (xs all : List X) (i : ℕ) (x : X) → HasWritten written has_failed text a b (take i xs) (drop i xs) all
      → i < length xs → x ≡ get_or xs i x → Prints written has_failed b c (text x)
      → HasWritten written has_failed text a c (take (i + 1) xs) (drop (i + 1) xs) all
  written_next a b c xs all i x h less is q =
      let e : suc i ≡ i + 1 = omega arith in
      let next : drop i xs ≡ x ∷ drop (i + 1) xs = drop-cons xs i x less ∙ ap (λ y. y ∷ drop (suc i) xs) (sym is) ∙ ap (λ n. x ∷ drop n xs) e in
      let seen : take (i + 1) xs ≡ take i xs ++ x ∷ [] = take_more xs i x less ∙ ap (λ y. take i xs ++ y ∷ []) (sym is) in
      subst (λ (given : List X). HasWritten written has_failed text a c given (drop (i + 1) xs) all) (sym seen)
      (written_more a b c (take i xs) (drop i xs) (drop (i + 1) xs) all x h next q)

  -- and of all in the end
  pub written_all : (a b : W) (given left all : List X) → HasWritten written has_failed text a b given left all → left ≡ []
      → Prints written has_failed a b (flat_map text all)
  written_all a b given left all h none =
      subst (λ t. Prints written has_failed a b (flat_map text t)) (sym (append-nil given) ∙ ap (λ t. given ++ t) (sym none) ∙ h.parts) h.prints

-- a part of a text was written, and with what is left it is all
pub record IsPartWritten {W : Type 0} (written : W → Option (List ℕ)) (has_failed : W → Bool) (a b : W) (left all : List ℕ) : Type 0 where
  pub part : List ℕ
  pub prints : Prints written has_failed a b part
  pub parts : part ++ left ≡ all

module _ {W : Type 0} (written : W → Option (List ℕ)) (has_failed : W → Bool) where
  -- nothing of it yet
  pub part_none : (a : W) (all : List ℕ) → IsPartWritten written has_failed a a all all
  part_none a all = record { part = []; prints = prints_nothing written has_failed a; parts = refl }

  -- a text more
  pub part_more : (a b c : W) (left later all text : List ℕ) → IsPartWritten written has_failed a b left all → left ≡ text ++ later
      → Prints written has_failed b c text → IsPartWritten written has_failed a c later all
  part_more a b c left later all text h next more = record {
    part = h.part ++ text;
    prints = prints_both written has_failed a b c h.part text h.prints more;
    parts = append_assoc h.part text later ∙ ap (λ t. h.part ++ t) (sym next) ∙ h.parts;
  }

  -- and all of it in the end
  pub part_all : (a b : W) (left all : List ℕ) → IsPartWritten written has_failed a b left all → left ≡ [] → Prints written has_failed a b all
  part_all a b left all h none =
      subst (Prints written has_failed a b) (sym (append-nil h.part) ∙ ap (λ t. h.part ++ t) (sym none) ∙ h.parts) h.prints
