-- The rest of its group, and what is added to those after it.
use Rattle.std.proofs.Common.{◌≡◌, ◌<◌, ◌+◌, ◌-◌, ◌/◌, ◌^◌, inl, inr, ◌++◌, ℕ, List, length, take, drop, map, ap, sym, ◌∙◌, subst, arith}
use Rattle.std.proofs.lemmas.List.{with_items_is, length-take, get_or-take}
use Rattle.std.proofs.lemmas.List.Elements.{All-take}
use Rattle.std.specs.Prelude.{All}
use Rattle.std.specs.Vec.{with_items}
use Rattle.page_list.specs.Starts.{raised}
use Rattle.page_list.proofs.Shifts.{so_far}
use Rattle.page_list.proofs.Raised.{length-raised, starts_fit, groups_fit}
use Rattle.page_list.proofs.CountedUp.{counted_items, counted_are, none_from}
use Rattle.page_list.proofs.starts.Starts.shift.Goals as goal
use Rattle.page_list.proofs.starts.Starts.shift.Goals.{then-group-groups, else-group-groups}

pub returns-then-from-len-clause-items : goal.returns-then-from-len-clause-items
returns-then-from-len-clause-items c =
    let view : raised c.self.inside.added.items 0 c.self.inside.starts.items ≡ c.args.self.now.items = λ i. (c.self.view_is i).items in
    none_from c.args.self.now.items c.args.from
    (omega (
      arith,
      ap length view,
      length-raised c.self.inside.added.items 0 c.self.inside.starts.items,
      c.self.inside.starts.ok.0,
      c.len-len.ensures,
      c.if-from-len.true,
    ))

pub count_up-requires-clause-fits : goal.count_up-requires-clause-fits
count_up-requires-clause-fits c =
    let s = c.self.inside.starts.items in
    let added = c.self.inside.added.items in
    let view : raised added 0 s ≡ c.args.self.now.items = λ i. (c.self.view_is i).items in
    All-take (λ (n : ℕ). n + 1 < 18446744073709551616) c.if-group-groups.end c.deref_mut.result.now
    (subst (All (λ (n : ℕ). n + 1 < 18446744073709551616)) (sym c.deref_mut.ensures.value)
    (starts_fit added s (subst (All (λ (n : ℕ). n + 1 < 18446744073709551616)) (sym view) c.requires.fits)))

pub count_up-requires-2-clause-fits : goal.count_up-requires-2-clause-fits
count_up-requires-2-clause-fits c =
    let s = c.self.inside.starts.items in
    let added = c.self.inside.added.items in
    let view : raised added 0 s ≡ c.args.self.now.items = λ i. (c.self.view_is i).items in
    let fits : All (λ n. n + 1 < 18446744073709551616) (raised added 0 s) = subst (All (λ (n : ℕ). n + 1 < 18446744073709551616)) (sym view) c.requires.fits in
    subst (λ (a : List ℕ). All (λ n. n + 1 < 18446744073709551616) (take ((c.len-len.result - 1) / 64 + 1) a)) (sym c.deref_mut-2.ensures.value)
    (λ k d h.
    let upto : k < (c.len-len.result - 1) / 64 + 1 = omega (arith, length-take ((c.len-len.result - 1) / 64 + 1) added) in
    subst (λ (n : ℕ). n + 1 < 18446744073709551616) (sym (get_or-take ((c.len-len.result - 1) / 64 + 1) added k d upto))
    (groups_fit added s fits c.self.invariant.grouped k d (omega (arith, c.len-len.ensures, c.self.inside.starts.ok.0, c.if-from-len.false))))

pub invariant_of-self : goal.invariant_of-self
invariant_of-self c =
    let s = c.self.inside.starts.items in
    let added = c.self.inside.added.items in
    let until = c.if-group-groups.end in
    let view : raised added 0 s ≡ c.args.self.now.items = λ i. (c.self.view_is i).items in
    let len : c.len-len.result ≡ length s = omega (arith, c.len-len.ensures, c.self.inside.starts.ok.0) in
    let first : c.count_up.new.numbers ≡ so_far s c.args.from (until - c.args.from) =
    c.count_up.ensures ∙ ap (λ (t : List ℕ). so_far t c.args.from (until - c.args.from)) c.deref_mut.ensures.value in
    let last = (c.len-len.result - 1) / 64 + 1 - (c.args.from / 64 + 1) in
    let later : c.count_up-2.new.numbers ≡ so_far added (c.args.from / 64 + 1) last =
    c.count_up-2.ensures ∙ ap (λ (t : List ℕ). so_far t (c.args.from / 64 + 1) last) c.deref_mut-2.ensures.value in
    let long : length c.count_up.new.numbers ≡ c.self.inside.starts.len =
    omega (arith, c.count_up.auto.numbers, ap length c.deref_mut.ensures.value, c.self.inside.starts.ok.0) in
    let later_long : length c.count_up-2.new.numbers ≡ c.self.inside.added.len =
    omega (arith, c.count_up-2.auto.numbers, ap length c.deref_mut-2.ensures.value, c.self.inside.added.ok.0) in
    counted_are {starts' = with_items c.self.inside.starts c.count_up.new.numbers} {added' = with_items c.self.inside.added c.count_up-2.new.numbers} {until =
    until} (record {
      were = c.self.invariant;
      inside = omega (arith, c.if-from-len.false, len);
      from_is = elim c.if-group-groups.branch
          [ then-group-groups w ↦ omega (arith, w.end-is) | else-group-groups w ↦ omega (arith, w.end-is, c.if-from-len.false) ];
      within = elim c.if-group-groups.branch
          [ then-group-groups w ↦ omega (arith, w.end-is) | else-group-groups w ↦ omega (arith, w.end-is, w.if-group-groups.false) ];
      to_end = elim c.if-group-groups.branch [ then-group-groups w ↦ inl (omega (arith, w.end-is)) | else-group-groups w ↦ inr (omega (arith, w.end-is, len)) ];
      first = with_items_is c.self.inside.starts c.count_up.new.numbers long ∙ first;
      later = with_items_is c.self.inside.added c.count_up-2.new.numbers later_long ∙ later
          ∙ ap (λ (n : ℕ). so_far added (c.args.from / 64 + 1) ((n - 1) / 64 + 1 - (c.args.from / 64 + 1))) len;
    })
    (subst (All (λ (n : ℕ). n + 1 < 2 ^ 64)) (sym view) c.requires.fits)

pub returns-clause-items : goal.returns-clause-items
returns-clause-items c =
    let s = c.self.inside.starts.items in
    let added = c.self.inside.added.items in
    let until = c.if-group-groups.end in
    let view : raised added 0 s ≡ c.args.self.now.items = λ i. (c.self.view_is i).items in
    let len : c.len-len.result ≡ length s = omega (arith, c.len-len.ensures, c.self.inside.starts.ok.0) in
    let first : c.count_up.new.numbers ≡ so_far s c.args.from (until - c.args.from) =
    c.count_up.ensures ∙ ap (λ (t : List ℕ). so_far t c.args.from (until - c.args.from)) c.deref_mut.ensures.value in
    let last = (c.len-len.result - 1) / 64 + 1 - (c.args.from / 64 + 1) in
    let later : c.count_up-2.new.numbers ≡ so_far added (c.args.from / 64 + 1) last =
    c.count_up-2.ensures ∙ ap (λ (t : List ℕ). so_far t (c.args.from / 64 + 1) last) c.deref_mut-2.ensures.value in
    let long : length c.count_up.new.numbers ≡ c.self.inside.starts.len =
    omega (arith, c.count_up.auto.numbers, ap length c.deref_mut.ensures.value, c.self.inside.starts.ok.0) in
    let later_long : length c.count_up-2.new.numbers ≡ c.self.inside.added.len =
    omega (arith, c.count_up-2.auto.numbers, ap length c.deref_mut-2.ensures.value, c.self.inside.added.ok.0) in
    counted_items {starts' = with_items c.self.inside.starts c.count_up.new.numbers} {added' = with_items c.self.inside.added c.count_up-2.new.numbers} {until =
    until} (record {
      were = c.self.invariant;
      inside = omega (arith, c.if-from-len.false, len);
      from_is = elim c.if-group-groups.branch
          [ then-group-groups w ↦ omega (arith, w.end-is) | else-group-groups w ↦ omega (arith, w.end-is, c.if-from-len.false) ];
      within = elim c.if-group-groups.branch
          [ then-group-groups w ↦ omega (arith, w.end-is) | else-group-groups w ↦ omega (arith, w.end-is, w.if-group-groups.false) ];
      to_end = elim c.if-group-groups.branch [ then-group-groups w ↦ inl (omega (arith, w.end-is)) | else-group-groups w ↦ inr (omega (arith, w.end-is, len)) ];
      first = with_items_is c.self.inside.starts c.count_up.new.numbers long ∙ first;
      later = with_items_is c.self.inside.added c.count_up-2.new.numbers later_long ∙ later
          ∙ ap (λ (n : ℕ). so_far added (c.args.from / 64 + 1) ((n - 1) / 64 + 1 - (c.args.from / 64 + 1))) len;
    })
    ∙ ap (λ (t : List ℕ). take c.args.from t ++ map (λ n. n + 1) (drop c.args.from t)) view
