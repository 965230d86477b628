-- Cells that are passed in the order of their keys.
use Rattle.std.proofs.Common.{◌≡◌, [], ◌∷◌, true, false, cond, refl, sym, ap, ◌∙◌, subst}
use Rattle.std.specs.Prelude.{T, Option, None, Some, MatchOption}
use Rattle.std.specs.List.{cons_option}
use Rattle.std.specs.Cmp.{tied_itself}
use Rattle.std.specs.declared.cmp.Ordering.{Ordering}
use Rattle.std.specs.declared.cmp.Ordering.TheVariants.{Less, Equal, Greater}
use Rattle.std.specs.Ordering.{eq_by_cmp, is_eq, is_ge, is_lt, ordering_reverse}
use Rattle.std.specs.FinMap.{find, is_sorted}
use Rattle.std.specs.FinMap.Entries.{below_all}
use Rattle.fact_join.specs.declared.cell.Cell.{Cell}
use Rattle.reply_facts.specs.declared.key.Key.{Key}
use Rattle.reply_facts.specs.declared.value.Value.{Value}
use Rattle.reply_facts.specs.Key.{key_cmp}
use Rattle.reply_facts.proofs.Keys.{key_exact, key_total, equal_from_test}
use Rattle.fact_store.proofs.Orders.{first_true, second_true, is_less}
use Rattle.reply_facts.specs.Known.{value_in, known_in}
use Rattle.subnet_view.specs.CellCursor.{AreLeft, IsFrom, KeepsFrom, is_before}
use Rattle.subnet_view.specs.Reading.{Cells}

-- what is left after the first cell was taken, if there is one
abbrev pub Takes : Cells → Option (Key × Cell Value) → Cells → Type 0
Takes old first left = MatchOption first ((old ≡ []) × (left ≡ [])) (λ x. old ≡ x ∷ left)

-- with that cell it is what there was
pub put_back : (old left : Cells) (first : Option (Key × Cell Value)) → Takes old first left → cons_option first left ≡ old
put_back old left None h = h.1 ∙ sym h.0
put_back old left (Some x) h = sym h

-- and is in order, as that was
pub are_left : (old left : Cells) (first : Option (Key × Cell Value)) → T (is_sorted key_cmp old) → Takes old first left
    → AreLeft first left
are_left old left None s h = h.1
are_left old left (Some x) s h = subst (λ (es : Cells). T (is_sorted key_cmp es)) h s

-- a cell of a key before this one is passed
pub passed : (key : Key) (s : Key × Cell Value) (old left : Cells) (first : Option (Key × Cell Value)) → is_before s.0 key ≡ true
    → Takes old first left
    → KeepsFrom key (s ∷ old) (cons_option first left)
passed key s old left first before h k from =
    ap (find key_cmp k) (put_back old left first h)
    ∙ (elim (eq_by_cmp key_cmp k s.0) as (λ t. eq_by_cmp key_cmp k s.0 ≡ t → find key_cmp k old ≡ cond t (Some s.1) (find key_cmp k old)) [
      | true ↦ λ e. let same : k ≡ s.0 = key_exact k s.0 (equal_from_test (key_cmp k s.0) e) in let b : is_before k key ≡ true
          = ap (λ (x : Key). is_before x key) same ∙ before in absurd (cc)
      | false ↦ λ e. refl
    ] refl)

not_ge : (o : Ordering) → is_ge o ≡ false → is_lt o ≡ true
not_ge Less e = refl
not_ge Equal e = absurd (cc)
not_ge Greater e = absurd (cc)

-- so it is passed in step
pub passed_in_step : (key : Key) (s : Key × Cell Value) (next first : Option (Key × Cell Value)) (all old left : Cells) → next ≡ Some s
    → is_ge (key_cmp s.0 key) ≡ false
    → Takes old first left → AreLeft next old × KeepsFrom key all (cons_option next old)
    → AreLeft first left × KeepsFrom key all (cons_option first left)
passed_in_step key s next first all old left is before h i =
    let sorted : T (is_sorted key_cmp (s ∷ old)) = subst (λ (o : Option (Key × Cell Value)). AreLeft o old) is i.0 in
    let kept : KeepsFrom key all (s ∷ old) = subst (λ (o : Option (Key × Cell Value)). KeepsFrom key all (cons_option o old)) is i.1 in
    (are_left old left first (second_true _ _ sorted) h, λ k from. passed key s old left first (not_ge _ before) h k from ∙ kept k from)

-- a key is not before itself
pub not_before_itself : (k : Key) → is_before k k ≡ false
not_before_itself k = ap is_lt (tied_itself key_total k)

not_found : (key : Key) (s : Key) (es : Cells) → key_cmp key s ≡ Less → T (below_all key_cmp s es) → find key_cmp key es ≡ None
not_found key s [] l h = refl
not_found key s (e ∷ es) l h =
    ap (λ o. cond (is_eq o) (Some e.1) (find key_cmp key es)) (key_total.trans key s e.0 l (is_less _ (first_true _ _ h)))
    ∙ not_found key s es l (second_true _ _ h)

-- where the first cell is of a key before none that is asked for, it is this one's or this one has none
pub found_first : (key : Key) (s : Key × Cell Value) (later : Cells) → T (is_sorted key_cmp (s ∷ later)) → is_before s.0 key ≡ false
    → find key_cmp key (s ∷ later) ≡ cond (eq_by_cmp key_cmp s.0 key) (Some s.1) None
found_first key s later sorted from =
    elim (key_cmp s.0 key) as (λ o. key_cmp s.0 key ≡ o → is_lt o ≡ false → find key_cmp key (s ∷ later) ≡ cond (is_eq o) (Some s.1) None) [
      | Less ↦ λ e f. absurd (cc)
      | Equal ↦ λ e f. ap (λ o. cond (is_eq o) (Some s.1) (find key_cmp key later)) (key_total.antisymm key s.0 ∙ ap ordering_reverse e)
      | Greater ↦ λ e f. let l : key_cmp key s.0 ≡ Less = key_total.antisymm key s.0 ∙ ap ordering_reverse e in
          ap (λ o. cond (is_eq o) (Some s.1) (find key_cmp key later)) l ∙ not_found key s.0 later l (first_true _ _ sorted)
    ] refl from

-- so what is known of a key is what the first cell says that was not passed, where that is the key's
pub read_first : (key : Key) (s : Key × Cell Value) (next : Option (Key × Cell Value)) (later old new : Cells) → AreLeft next later
    → cons_option next later ≡ new → next ≡ Some s
    → IsFrom key new → KeepsFrom key old new → known_in old key ≡ value_in (cond (eq_by_cmp key_cmp s.0 key) (Some s.1) None)
read_first key s next later old new left view is from keeps =
    let whole : s ∷ later ≡ new = sym (ap (λ (o : Option (Key × Cell Value)). cons_option o later) is) ∙ view in
    let sorted : T (is_sorted key_cmp (s ∷ later)) = subst (λ (o : Option (Key × Cell Value)). AreLeft o later) is left in
    let not : IsFrom key (s ∷ later) = subst (IsFrom key) (sym whole) from in
    ap value_in (sym (keeps key (not_before_itself key)) ∙ ap (find key_cmp key) (sym whole) ∙ found_first key s later sorted not)
