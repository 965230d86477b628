-- An index inserted among indices to which nothing is added.
use Rattle.std.proofs.Common.{◌≡◌, ℕ, ◌+◌, ◌*◌, ◌<◌, ◌≤◌, ◌^◌, ◌∷◌, length, take, drop, get_or, sym, ap, ◌∙◌, subst, arith}
use Rattle.std.proofs.lemmas.List.Edits.{length-insert}
use Rattle.std.proofs.lemmas.List.Elements.{All-append, All-take, All-drop, All-cons}
use Rattle.std.specs.Prelude.{Vec, All, insert}
use Rattle.std.specs.declared.alloc.Global.{Global}
use Rattle.page_list.specs.Starts.{AreRaised, raised}
use Rattle.page_list.proofs.Raised.{length-raised, raised-none}

module _ (starts starts' added added' : Vec ℕ Global) (page start : ℕ) (were : AreRaised starts added) (within : page
    ≤ length starts.items) (put : starts'.items ≡ insert (raised added.items 0 starts.items) page start) (none : (k : ℕ) → get_or added'.items k 0 ≡ 0) where
  pub inserted_items : raised added'.items 0 starts'.items ≡ insert (raised added.items 0 starts.items) page start
  inserted_items = raised-none added'.items none 0 starts'.items ∙ put

  pub inserted_length : length starts'.items ≡ length starts.items + 1
  inserted_length =
      let r = length-raised added.items 0 starts.items in
      omega (arith, ap length put, length-insert (raised added.items 0 starts.items) page start (omega arith))

  pub inserted_are : start < 2 ^ 64 → length starts.items + 1 ≤ 64 * length added'.items → AreRaised starts' added'
  inserted_are fits room =
      let r = raised added.items 0 starts.items in
      record {
        grouped = omega (arith, inserted_length);
        fit =
            subst (All (λ (m : ℕ). m < 2 ^ 64)) (sym inserted_items)
            (All-append (λ (m : ℕ). m < 2 ^ 64) (take page r) (start ∷ drop page r) (All-take (λ (m : ℕ). m < 2 ^ 64) page r were.fit)
            (All-cons (λ (m : ℕ). m < 2 ^ 64) start (drop page r) fits (All-drop (λ (m : ℕ). m < 2 ^ 64) page r were.fit)));
      }
