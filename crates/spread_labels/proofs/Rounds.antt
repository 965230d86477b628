-- What the rounds compute.
use Rattle.std.proofs.Common.{◌≡◌, ◌≤◌, ◌<◌, ◌≢◌, ◌⊎◌, ◌==◌, ◌||◌, ℕ, zero, suc, List, []}
use Rattle.std.proofs.Common.{◌∷◌, inl, inr, refl, sym, ap, ◌∙◌, subst, arith, true, false, cond, length}
use Rattle.std.proofs.lemmas.Bool.{cases_eq, cases_lt, eqb-true, eq-eqb, or_cases, ltb-true, lt-ltb}
use Rattle.std.proofs.lemmas.Option.{none-some, same_Some}
use Rattle.std.specs.Prelude.{Option, None, Some, nat_lt, Contains}
use Rattle.smp_bytes.proofs.Members.{contains_here, contains_none, contains_filter, contains-from_filter}
use Rattle.port_graph.specs.declared.edge.Edge.{Edge}
use Rattle.port_graph.specs.Heads.{edges_at, LeadToVertices}
use Rattle.port_graph.proofs.WalkLemmas.{list_any_found, list_any_at}
use Rattle.spread_labels.specs.declared.label.Label.{Label}
use Rattle.spread_labels.specs.declared.label.Label.TheVariants.{Up, Down}
use Rattle.spread_labels.specs.declared.label.Mark.{Mark}
use Rattle.spread_labels.specs.Labels.{is_down, Marks, gives_from, gives, givers, leads_up, mark_by, mark_or, marks_after, marks}
use Rattle.spread_labels.specs.LabelLaws.{Gives, IsGiven, AreMarks, LabelledLaw}
use Rattle.spread_labels.proofs.Bounds.{Before, cost_below}

-- an edge that made the label
record MadeBy (s : ℕ) (es : List Edge) (round : ℕ) (m : Mark) : Type 0 where
  pub cost : m.cost ≡ round
  pub edge : Edge
  pub there : Contains es edge
  pub when_up : m.label ≡ Up → edge.to < s
  pub when_down : m.label ≡ Down → (e : Edge) → Contains es e → s ≤ e.to

up_is_not_down : Up ≡ Down → ⊥
up_is_not_down e = cc

made_by_first : (round s : ℕ) (e : Edge) (es : List Edge) → MadeBy s (e ∷ es) round (record { cost = round; label = cond (leads_up s (e ∷ es)) Up Down })
made_by_first round s e es =
    elim (leads_up s (e ∷ es)) as (λ b. leads_up s (e ∷ es) ≡ b → MadeBy s (e ∷ es) round (record { cost = round; label = cond b Up Down })) [
      | true ↦ λ q.
          let f = list_any_found (λ (x : Edge). nat_lt x.to s) (e ∷ es) q in
          record { cost = refl; edge = f.0; there = f.1; when_up = λ r. ltb-true f.0.to s f.2; when_down = λ r. absurd (up_is_not_down r) }
      | false ↦ λ q.
          record {
            cost = refl;
            edge = e;
            there = contains_here e es;
            when_up = λ r. absurd (up_is_not_down (sym r));
            when_down = λ r x h. (elim (cases_lt x.to s) [
              | inl less ↦ (let p = list_any_at (λ (y : Edge). nat_lt y.to s) (e ∷ es) x h (lt-ltb x.to s less) in absurd (cc))
              | inr above ↦ above
            ]);
          }
    ] refl

made_by : (round s : ℕ) (es : List Edge) (m : Mark) → mark_by round s es ≡ Some m → MadeBy s es round m
made_by round s [] m e = absurd (none-some m e)
made_by round s (x ∷ es) m e =
    let n : Mark = record { cost = round; label = cond (leads_up s (x ∷ es)) Up Down } in
    subst (λ (w : Mark). MadeBy s (x ∷ es) round w) (same_Some n m e) (made_by_first round s x es)

-- what an edge that gives leads to
pub given_known : (s : ℕ) (e : Edge) (o : Option Mark) → gives_from s e o ≡ true → (m : Mark) × (o ≡ Some m) × ((e.to < s) ⊎ (m.label ≡ Down))
given_known s e None k = absurd (cc)
given_known s e (Some m) k =
    elim (or_cases (nat_lt e.to s) (is_down m.label) k) [
      | inl up ↦ (m, refl, inl (ltb-true e.to s up))
      | inr down ↦ (m, refl, inr (at_down m.label down))
    ]
  where
    at_down : (l : Label) → is_down l ≡ true → l ≡ Down
    at_down Up e = absurd (cc)
    at_down Down e = refl

pub known_gives : (s : ℕ) (e : Edge) (m : Mark) → (e.to < s) ⊎ (m.label ≡ Down) → gives_from s e (Some m) ≡ true
known_gives s e m (inl up) = ap (λ b. b || is_down m.label) (lt-ltb e.to s up)
known_gives s e m (inr down) =
    ap (λ l. nat_lt e.to s || is_down l) down ∙ (elim (nat_lt e.to s) as (λ b. (b || true) ≡ true) [ true ↦ refl | false ↦ refl ])

module _ (edges : List (List Edge)) (t : ℕ) where
  abbrev after : ℕ → Marks
  after = marks_after edges t

  stays : (r s : ℕ) (m : Mark) → after r s ≡ Some m → after (suc r) s ≡ Some m
  stays r s m e = ap (λ o. mark_or o (mark_by (suc r) s (givers edges (after r) s))) e

  later : (r k s : ℕ) (m : Mark) → r ≤ k → after r s ≡ Some m → after k s ≡ Some m
  later r zero s m h e = let z : r ≡ 0 = omega arith in subst (λ (x : ℕ). after x s ≡ Some m) z e
  later r (suc k) s m h e =
      elim (cases_eq r (suc k)) [
        | inl same ↦ subst (λ (x : ℕ). after x s ≡ Some m) same e
        | inr other ↦ let below : r ≤ k = grind arith in stays k s m (later r k s m below e)
      ]

  made : (r s : ℕ) (m : Mark) → after r s ≡ Some m → (m.cost ≤ r) × (after m.cost s ≡ Some m)
  made zero s m e =
      elim (s == t) as (λ b. (s == t) ≡ b → cond b (Some (record { cost = 0; label = Down })) None ≡ Some m → (m.cost ≤ 0) × (after m.cost s ≡ Some m)) [
        | true ↦ λ q k.
            let start : Mark = record { cost = 0; label = Down } in
            let same : start ≡ m = same_Some start m k in
            let z : 0 ≡ m.cost = ap (λ (x : Mark). x.cost) same in
            (omega arith, subst (λ (x : ℕ). after x s ≡ Some m) z e)
        | false ↦ λ q k. absurd (none-some m k)
      ] refl e
  made (suc r) s m e =
      elim (after r s) as (λ o. after r s ≡ o → mark_or o (mark_by (suc r) s (givers edges (after r) s)) ≡ Some m → (m.cost ≤ suc r)
      × (after m.cost s ≡ Some m)) [
        | Some n ↦ λ q k. let i = made r s m (q ∙ k) in (omega (arith, i.0), i.1)
        | None ↦ λ q k.
            let c = (made_by (suc r) s (givers edges (after r) s) m k).cost in
            (omega arith, subst (λ (x : ℕ). after x s ≡ Some m) (sym c) e)
      ] refl e

  by_round : (r k s : ℕ) (m : Mark) → after r s ≡ Some m → m.cost ≤ k → after k s ≡ Some m
  by_round r k s m e h = later m.cost k s m h (made r s m e).1

  -- not labelled in the rounds before
  pub not_before : (n s : ℕ) (m : Mark) (r : ℕ) → after n s ≡ Some m → m.cost ≡ suc r → after r s ≡ None
  not_before n s m r e c =
      elim (after r s) as (λ o. after r s ≡ o → o ≡ None) [
        | None ↦ λ q. refl
        | Some x ↦ λ q.
            let a = made n s m e in
            let b = made r s x q in
            let same : m ≡ x = same_Some m x (sym e ∙ later r n s x (omega (arith, a.0)) q) in
            let costs : m.cost ≡ x.cost = ap (λ (y : Mark). y.cost) same in
            absurd (omega (arith, b.0))
      ] refl

  -- labelled by the edges that give in its round
  pub born : (n s : ℕ) (m : Mark) (r : ℕ) → after n s ≡ Some m → m.cost ≡ suc r → mark_by (suc r) s (givers edges (after r) s) ≡ Some m
  born n s m r e c =
      ap (λ o. mark_or o (mark_by (suc r) s (givers edges (after r) s))) (sym (not_before n s m r e c)) ∙ by_round n (suc r) s m e (omega arith)

  -- where an edge gives there is a label at the next round
  next_has : (r s : ℕ) (e : Edge) → Contains (givers edges (after r) s) e → (m : Mark) × (after (suc r) s ≡ Some m)
  next_has r s e h =
      elim (after r s) as (λ o. (m : Mark) × (mark_or o (mark_by (suc r) s (givers edges (after r) s)) ≡ Some m)) [
        | Some m ↦ (m, refl)
        | None ↦ some_mark (givers edges (after r) s) h
      ]
    where
      some_mark : (es : List Edge) → Contains es e → (m : Mark) × (mark_by (suc r) s es ≡ Some m)
      some_mark [] h = absurd (contains_none e h)
      some_mark (x ∷ es) h = (_, refl)

  -- an edge that gives in words gives by the labels of its round and later
  gives_after : (n s : ℕ) (e : Edge) (c r : ℕ) → Gives edges (after n) s e c → c ≤ r → Contains (givers edges (after r) s) e
  gives_after n s e c r g h =
      let m : Mark = record { cost = c; label = g.label } in
      contains_filter (gives (after r) s) (edges_at edges s) e g.edge
      (ap (gives_from s e) (by_round n r e.to m g.labelled h) ∙ known_gives s e m g.up_or_down)

  -- an edge that gives leads to a vertex whose cost is known
  after_gives : (n s : ℕ) (e : Edge) (r : ℕ) → r ≤ n → Contains (givers edges (after r) s) e → (c : ℕ) × (c ≤ r) × Gives edges (after n) s e c
  after_gives n s e r h k =
      let f = contains-from_filter (gives (after r) s) (edges_at edges s) e k in
      let g = given_known s e (after r e.to) f.1 in
      (g.0.cost, (made r e.to g.0 g.1).0, record { edge = f.0; label = g.0.label; labelled = later r n e.to g.0 h g.1; up_or_down = g.2 })

  least_of_all : (n s : ℕ) (m : Mark) (r : ℕ) → after n s ≡ Some m → m.cost ≡ suc r → (e : Edge) (c : ℕ) → Gives edges (after n) s e c → r ≤ c
  least_of_all n s m r e c x d g =
      elim (cases_lt d r) [
        | inr above ↦ above
        | inl less ↦
            let k = next_has d s x (gives_after n s x d d g (omega arith)) in
            absurd (none-some k.0 (sym (not_before n s m r e c) ∙ later (suc d) r s k.0 (omega arith) k.1))
      ]

  -- the edges that gave the label lead to a cost one less
  pub gave : (n s : ℕ) (m : Mark) (r : ℕ) → after n s ≡ Some m → m.cost ≡ suc r → (e : Edge) → Contains (givers edges (after r) s) e
      → Gives edges (after n) s e r
  gave n s m r e c x h =
      let i = made n s m e in
      let g = after_gives n s x r (omega (arith, i.0)) h in
      let same : g.0 ≡ r = omega (arith, g.1, least_of_all n s m r e c x g.0 g.2) in
      subst (λ (k : ℕ). Gives edges (after n) s x k) same g.2

  -- and all such edges gave it
  pub gave_all : (n s : ℕ) (r : ℕ) (e : Edge) → Gives edges (after n) s e r → Contains (givers edges (after r) s) e
  gave_all n s r e g = gives_after n s e r r g (omega arith)

  pub given : (n s : ℕ) (m : Mark) (r : ℕ) → after n s ≡ Some m → m.cost ≡ suc r → IsGiven edges (after n) s r m.label
  given n s m r e c =
      let b = made_by (suc r) s (givers edges (after r) s) m (born n s m r e c) in
      record {
        edge = b.edge;
        given = gave n s m r e c b.edge b.there;
        least = least_of_all n s m r e c;
        when_up = b.when_up;
        when_down = λ l x g. b.when_down l x (gave_all n s r x g);
      }

  at_start : (s : ℕ) (m : Mark) → after 0 s ≡ Some m → s ≡ t
  at_start s m e =
      elim (s == t) as (λ b. (s == t) ≡ b → cond b (Some (record { cost = 0; label = Down })) None ≡ Some m → s ≡ t) [
        | true ↦ λ q k. eqb-true s t q
        | false ↦ λ q k. absurd (none-some m k)
      ] refl e

  pub no_cost_at : (n s : ℕ) (m : Mark) → after n s ≡ Some m → m.cost ≡ 0 → s ≡ t
  no_cost_at n s m e c = at_start s m (subst (λ (x : ℕ). after x s ≡ Some m) c (made n s m e).1)

  target_starts : after 0 t ≡ Some (record { cost = 0; label = Down })
  target_starts = ap (λ b. cond b (Some (record { cost = 0; label = Down })) None) (eq-eqb t t refl)

  pub target_marked : (n : ℕ) → after n t ≡ Some (record { cost = 0; label = Down })
  target_marked n = later 0 n t (record { cost = 0; label = Down }) (omega arith) target_starts

  module _ (lead : LeadToVertices edges) (start : t < length edges) where
    before_it : (n s : ℕ) (m : Mark) (r : ℕ) → after n s ≡ Some m → m.cost ≡ suc r → Before (after n) (length edges) r
    before_it n s m r e c =
        let g = given n s m r e c in
        (g.edge.to, record { cost = r; label = g.given.label }, g.given.labelled, refl, lead s g.edge g.given.edge)

    pub cost_less : (n s : ℕ) (m : Mark) → after n s ≡ Some m → s < length edges → m.cost < length edges
    cost_less n s m e h = cost_below (after n) (length edges) (before_it n) s m e h

    pub are_marks : AreMarks edges t (marks edges t)
    are_marks = record {
      target = target_marked (length edges);
      other = λ s m apart e. other s m apart e m.cost refl;
      without = λ s none e c g.
          let less = cost_less (length edges) e.to (record { cost = c; label = g.label }) g.labelled (lead s e g.edge) in
          let k = next_has c s e (gave_all (length edges) s c e g) in
          none-some k.0 (sym none ∙ later (suc c) (length edges) s k.0 (omega arith) k.1);
    }
      where
        other : (s : ℕ) (m : Mark) → s ≢ t → marks edges t s ≡ Some m → (k : ℕ) → m.cost ≡ k
            → (round : ℕ) × (m.cost ≡ suc round) × IsGiven edges (marks edges t) s round m.label
        other s m apart e zero c = absurd (apart (no_cost_at (length edges) s m e c))
        other s m apart e (suc r) c = (r, c, given (length edges) s m r e c)

pub labelled_in_words : LabelledLaw
labelled_in_words edges t lead start = are_marks edges t lead start
