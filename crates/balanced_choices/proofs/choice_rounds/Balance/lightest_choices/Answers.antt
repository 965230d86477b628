use Rattle.std.proofs.Common.{◌≡◌, ◌+◌, ◌-◌, ◌∷◌, [], Global, List, Vec, ℕ, false, sym, ap, ◌∙◌, subst, arith, map}
use Rattle.std.specs.Prelude.{not, option_map, unwrap_or}
use Rattle.spread_labels.specs.Level.{greatest}
use Rattle.balanced_choices.specs.BalancedChoices.{Balance, are_even, later_rounds, lightest_choices}
use Rattle.balanced_choices.proofs.AsLong.{IsAsLong, all_long, still_as_long}
use Rattle.balanced_choices.proofs.LightestRound.{kept, kept_or, lighter, no_lighter, none_later, not_kept, one_later}
use Rattle.balanced_choices.proofs.choice_rounds.Balance.lightest_choices.Goals as goal
use Rattle.balanced_choices.proofs.choice_rounds.Balance.lightest_choices.Goals.{else-is_none, else-load-least, else-loop-round-test, then-is_none+in_ok-copy_choices, then-load-least, then-loop-round-test+then-is_even}

pub loop-round-preserved : goal.loop-round-preserved
loop-round-preserved c =
    let t = c.args.traffic.now in
    let ds = c.args.destinations.now in
    let r = c.loop-round.round in
    let now = c.loop-round.self in
    let new = c.choose_all.new.self in
    let least = c.loop-round.least in
    let f : Vec (Vec ℕ Global) Global → List (List ℕ) = λ v. map (λ w. w.items) v.items in
    let best = unwrap_or (option_map f c.loop-round.best) now.choices in
    let uneven : are_even t.edges now.loads ≡ false =
    sym (c.is_even.ensures ∙ ap (λ s. are_even s.edges now.loads) c.traffic.view_is) ∙ c.if-is_even.false in
    let became = c.in_ok-choose_all.ensures in
    let rest = later_rounds (3 - (r + 1)) (r + 1) t.edges t.sent t.digits ds new in
    let next : lightest_choices best least (new ∷ rest) ≡ _ =
    sym (ap (lightest_choices best least) (one_later t.edges t.sent t.digits ds 3 r now new (omega (arith, c.loop-round-test.true, c.loop-round.auto.round-end)) uneven became))
    ∙ c.loop-round.invariant.0 in
    let load : c.greatest_load-load.result ≡ greatest 0 new.loads = c.greatest_load-load.ensures in
    let stays : (x : List (List ℕ)) → unwrap_or (option_map f c.if-is_none.best) x ≡ best =
    λ x. elim c.if-is_none.branch [
      | then-is_none+in_ok-copy_choices w ↦
          ap (λ o. unwrap_or (option_map f o) x) w.best-is ∙ w.in_ok-copy_choices.ensures
          ∙ sym (not_kept f c.loop-round.best now.choices (c.is_none.ensures ∙ ap not w.if-is_none.true))
      | else-is_none w ↦
          ap (λ o. unwrap_or (option_map f o) x) w.best-is
          ∙ kept f c.loop-round.best x now.choices (c.is_none.ensures ∙ ap not w.if-is_none.false)
    ] in (
      elim c.if-load-least.branch [
        | then-load-least w ↦
            (λ i. lightest_choices (unwrap_or (option_map f (w.best-is i)) new.choices) ((w.least-is ∙ load) i) rest)
            ∙ sym (lighter best least new rest (omega (arith, load, w.if-load-least.true))) ∙ next
        | else-load-least w ↦
            (λ i. lightest_choices ((ap (λ o. unwrap_or (option_map f o) new.choices) w.best-is ∙ stays new.choices) i) (w.least-is i) rest)
            ∙ sym (no_lighter best least new rest (omega (arith, load, w.if-load-least.false))) ∙ next
      ],
      still_as_long c.args.self now new c.loop-round.invariant.1
          (subst (IsAsLong now) became (all_long r t.edges t.sent t.digits now 0 ds)),
      omega (arith, c.loop-round-test.true, c.loop-round.auto.round-end),
    )

pub returns : goal.returns
returns c =
    let t = c.args.traffic.now in
    let ds = c.args.destinations.now in
    let r = c.loop-round.round in
    let now = c.loop-round.self in
    let f : Vec (Vec ℕ Global) Global → List (List ℕ) = λ v. map (λ w. w.items) v.items in
    let best = unwrap_or (option_map f c.loop-round.best) now.choices in
    let none : later_rounds (3 - r) r t.edges t.sent t.digits ds now ≡ [] =
    elim c.loop-round-test.branch [
      | else-loop-round-test w ↦
          let left : 3 - r ≡ 0 = omega (arith, w.loop-round-test.false, c.loop-round.auto.round-end) in
          ap (λ n. later_rounds n r t.edges t.sent t.digits ds now) left
      | then-loop-round-test+then-is_even w ↦
          none_later t.edges t.sent t.digits ds (3 - r) r now
          (sym (w.is_even.ensures ∙ ap (λ s. are_even s.edges now.loads) c.traffic.view_is) ∙ w.if-is_even.true)
    ] in
    ap f c.unwrap_or.ensures ∙ kept_or f c.loop-round.best c.self-2.inside.choices
    ∙ ap (λ (b : Balance). unwrap_or (option_map f c.loop-round.best) b.choices) c.self-2.view_is
    ∙ sym (ap (lightest_choices best c.loop-round.least) none) ∙ c.loop-round.invariant.0
