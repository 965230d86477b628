-- A cable leads back.
use Rattle.std.proofs.lemmas.List.Sums.{sum_by-cons}
use Rattle.std.proofs.Common.{cond, ◌≡◌, ℕ, ◌+◌, ◌≤◌, Bool, true, false, ◌||◌, List, [], ◌∷◌, refl, arith, ap, sym, ◌∙◌, subst}
use Rattle.std.specs.Prelude.{Option, Some, if◌then◌else◌}
use Rattle.std.proofs.lemmas.Grind.{common_steps}
use Rattle.fabric_model.specs.declared.cable.NodePort.{NodePort}
use Rattle.fabric_model.specs.declared.cable.Cable.{Cable}
use Rattle.fabric_model.specs.Cables.{is_same_port, other_end, is_cable_in, cables_in, IsOneCableAPort}

pub same_port-is : (a b : NodePort) → is_same_port a b ≡ true → a ≡ b
same_port-is a b h =
    let n : a.node ≡ b.node = grind (arith, common_steps) in
    let p : a.port ≡ b.port = grind (arith, common_steps) in
    let at : (x y : ℕ) → x ≡ y → (u v : ℕ) → u ≡ v → ◌≡◌ {A = NodePort} (record { node = x; port = u }) (record { node = y; port = v }) = λ x y e u v f. cc in
    at _ _ n _ _ p

pub same_port-refl : (a : NodePort) → is_same_port a a ≡ true
same_port-refl a = grind (arith, common_steps)

has-other : (c : Cable) → is_cable_in c.other c ≡ true
has-other c = let e = same_port-refl c.other in grind (arith, common_steps)

has-one : (c : Cable) → is_cable_in c.one c ≡ true
has-one c = let e = same_port-refl c.one in grind (arith, common_steps)

-- which case of `other_end` gave an end
which-end : {X : Type 0} (t u : Bool) (x y b : NodePort) (m : Option NodePort) →
    (if t then Some x else if u then Some y else m) ≡ Some b →
    (t ≡ true → x ≡ b → X) → (u ≡ true → y ≡ b → X) → (t ≡ false → u ≡ false → m ≡ Some b → X) → X
which-end true u x y b m h f g k = f refl (cc)
which-end false true x y b m h f g k = g refl (cc)
which-end false false x y b m h f g k = k refl refl h

cables_in-cons : (c : Cable) (cs : List Cable) (e : NodePort) → cables_in e (c ∷ cs) ≡ cond (is_cable_in e c) 1 0 + cables_in e cs
cables_in-cons c cs e = sum_by-cons (λ x. cond (is_cable_in e x) 1 0) c cs

count-by : (b : Bool) (n m : ℕ) → n ≡ cond b 1 0 + m → b ≡ true → 1 ≤ n
count-by true n m e h = omega arith
count-by false n m e h = cc

count-hit : (c : Cable) (cs : List Cable) (e : NodePort) → is_cable_in e c ≡ true → 1 ≤ cables_in e (c ∷ cs)
count-hit c cs e h = count-by (is_cable_in e c) _ _ (cables_in-cons c cs e) h

count-more : (c : Cable) (cs : List Cable) (e : NodePort) → 1 ≤ cables_in e cs → 1 ≤ cables_in e (c ∷ cs)
count-more c cs e h = omega (arith, cables_in-cons c cs e)

no-more : (b : Bool) (n m : ℕ) → n ≡ cond b 1 0 + m → n ≤ 1 → 1 ≤ m → b ≡ false
no-more true n m e one more = absurd (omega arith)
no-more false n m e one more = refl

fewer : (b : Bool) (n m : ℕ) → n ≡ cond b 1 0 + m → n ≤ 1 → m ≤ 1
fewer b n m e one = omega arith

-- the other end of a cable has a cable in it
pub other_end-cabled : (cs : List Cable) (a b : NodePort) → other_end cs a ≡ Some b → 1 ≤ cables_in b cs
other_end-cabled [] a b h = cc
other_end-cabled (c ∷ cs) a b h =
    which-end (is_same_port c.one a) (is_same_port c.other a) c.other c.one b (other_end cs a) h
    (λ t e. count-hit c cs b (subst (λ x. is_cable_in x c ≡ true) e (has-other c)))
    (λ u e. count-hit c cs b (subst (λ x. is_cable_in x c ≡ true) e (has-one c)))
    (λ t u m. count-more c cs b (other_end-cabled cs a b m))

-- a cable that has an end in the port, if no later one has
only-first : (c : Cable) (cs : List Cable) (e : NodePort) → cables_in e (c ∷ cs) ≤ 1 → 1 ≤ cables_in e cs → is_cable_in e c ≡ false
only-first c cs e one more = no-more (is_cable_in e c) _ _ (cables_in-cons c cs e) one more

neither : (x y : Bool) → (x || y) ≡ false → (x ≡ false) × (y ≡ false)
neither false false h = (refl, refl)
neither false true h = cc
neither true y h = cc

-- the end that a choice gives, where a test decides
at-true : (t : Bool) (x y : Option NodePort) → t ≡ true → (if t then x else y) ≡ x
at-true true x y h = refl
at-true false x y h = cc

at-false : (t : Bool) (x y : Option NodePort) → t ≡ false → (if t then x else y) ≡ y
at-false true x y h = cc
at-false false x y h = refl

-- the two ends of a cable are each other's
first-back : (c : Cable) (cs : List Cable) → other_end (c ∷ cs) c.one ≡ Some c.other
first-back c cs = at-true _ _ _ (same_port-refl c.one)

second-back : (t : Bool) (c : Cable) (m : Option NodePort) → (t ≡ true → c.one ≡ c.other)
    → (if t then Some c.other else if is_same_port c.other c.other then Some c.one else m) ≡ Some c.one
second-back true c m h = ap (λ x. Some x) (sym (h refl))
second-back false c m h = at-true _ _ _ (same_port-refl c.other)

-- a cable leads back
pub cables_lead_back : (cs : List Cable) (a b : NodePort) → IsOneCableAPort cs → other_end cs a ≡ Some b → other_end cs b ≡ Some a
cables_lead_back [] a b one h = cc
cables_lead_back (c ∷ cs) a b one h =
    which-end (is_same_port c.one a) (is_same_port c.other a) c.other c.one b (other_end cs a) h
    (λ t e. let is : c.one ≡ a = same_port-is c.one a t in
    subst (λ x. other_end (c ∷ cs) x ≡ Some a) e
    (second-back (is_same_port c.one c.other) c (other_end cs c.other) (same_port-is c.one c.other) ∙ ap (λ x. Some x) is))
    (λ u e. let is : c.other ≡ a = same_port-is c.other a u in
    subst (λ x. other_end (c ∷ cs) x ≡ Some a) e (first-back c cs ∙ ap (λ x. Some x) is))
    (λ t u m.
    let none = neither (is_same_port c.one b) (is_same_port c.other b) (only-first c cs b (one b) (other_end-cabled cs a b m)) in
    at-false _ _ _ none.0 ∙ (at-false _ _ _ none.1
    ∙ cables_lead_back cs a b (λ e. fewer (is_cable_in e c) _ _ (cables_in-cons c cs e) (one e)) m))
