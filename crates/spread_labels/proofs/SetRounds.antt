-- Marks towards many targets side by side, round by round.
use Rattle.std.proofs.Common.{◌≡◌, ◌≢◌, ◌<◌, ◌≤◌, ◌+◌, ◌-◌, ◌++◌, ℕ, zero, suc, List, [], ◌∷◌, inl, inr, refl, sym, ap, ◌∙◌, subst, arith, true, false, not, Bool, cond, ◌&&◌, ◌||◌, ◌==◌, length, map}
use Rattle.std.proofs.lemmas.Bool.{cases_eq}
use Rattle.std.proofs.lemmas.List.{get_or_default, get_or_append_left, get_or-append_right, get_or-set_other, get_or-map, get_or-replicate, get_or-set_same, length-map, length-replicate, length-set, length-append}
use Rattle.std.specs.Prelude.{Contains, Option, None, Some, filter, is_some, nat_lt, slice_index, slice_index_or, slice_set}
use Rattle.std.specs.List.{list_any}
use Rattle.smp_bytes.proofs.Members.{contains_here, contains_later}
use Rattle.port_graph.specs.declared.edge.Edge.{Edge}
use Rattle.port_graph.specs.Heads.{edges_at, LeadToVertices}
use Rattle.port_graph.proofs.WalkLemmas.{list_any_at}
use Rattle.spread_labels.specs.declared.label.Label.TheVariants.{Up, Down}
use Rattle.spread_labels.specs.declared.label.Mark.{Mark}
use Rattle.spread_labels.specs.declared.target_set.TargetSet.{TargetSet}
use Rattle.spread_labels.specs.Labels.{Marks, candidates, candidates_by, gives, gives_from, givers, givers_before, is_down, leads_up, mark_by, mark_or, marks, marks_after}
use Rattle.spread_labels.proofs.Tests.{same_filter}
use Rattle.spread_labels.proofs.TargetBits.{none_has}
use Rattle.spread_labels.specs.TargetSet.{has, no_targets}
use Rattle.spread_labels.specs.MarkSets.{AreAtTargets, AreCandidateSets, AreRowsOf, AreSame, AreSetSteps, AreSetsAfter, AreSetsTowards, IsSetStep, down_of, edge_at, gave, gave_before, gave_by, giver_set, is_new, no_sets, picked, set_at, sets_at}

-- an element more at the end of a list
module _ {X : Type 0} (xs : List X) (n : ℕ) (x d : X) (long : length xs ≡ n) where
  there : (k : ℕ) → k < n → slice_index_or (xs ++ x ∷ []) k d ≡ slice_index_or xs k d
  there k h = get_or_append_left xs (x ∷ []) d k (omega (arith, long))

  last : slice_index_or (xs ++ x ∷ []) n d ≡ x
  last = get_or-append_right xs (x ∷ []) n n d long (omega arith) ∙ ap (λ k. slice_index_or (x ∷ []) k d) (same n)
    where
      same : (n : ℕ) → n - n ≡ 0
      same n = omega arith

-- the sets of a vertex more
module _ (edges : List (List Edge)) (marked downs : List TargetSet) (rows : List (List TargetSet)) (v : ℕ) (ms ds : List TargetSet)
    (now : List (List TargetSet)) (m d : TargetSet) (row : List TargetSet) where
  pub steps_more : v < length now → AreSetSteps edges marked downs rows v ms ds now
      → IsSetStep v (edges_at edges v) marked downs (sets_at rows v) m d row
      → AreSetSteps edges marked downs rows (v + 1) (ms ++ m ∷ []) (ds ++ d ∷ []) (slice_set now v row)
  steps_more within so step = record {
    all_marked = length-append ms (m ∷ []) ∙ ap (λ n. n + 1) so.all_marked;
    all_downs = length-append ds (d ∷ []) ∙ ap (λ n. n + 1) so.all_downs;
    all_rows = length-set now v row ∙ so.all_rows;
    steps = λ s h. elim (cases_eq s v) [
      | inl same ↦ subst (λ (x : ℕ). IsSetStep x (edges_at edges x) marked downs (sets_at rows x) (set_at (ms ++ m ∷ []) x)
          (set_at (ds ++ d ∷ []) x) (sets_at (slice_set now v row) x))
          (sym same) (subst (λ (x : TargetSet × TargetSet × List TargetSet). IsSetStep v (edges_at edges v) marked downs (sets_at rows v) x.0 x.1 x.2)
          (λ i. (sym (last ms v m no_targets so.all_marked) i, sym (last ds v d no_targets so.all_downs) i, sym (get_or-set_same now v row [] within) i)) step)
      | inr other ↦
          let below : s < v = grind arith in
          subst (λ (x : TargetSet × TargetSet × List TargetSet). IsSetStep s (edges_at edges s) marked downs (sets_at rows s) x.0 x.1 x.2)
          (λ i. (
            sym (there ms v m no_targets so.all_marked s below) i,
            sym (there ds v d no_targets so.all_downs s below) i,
            sym (get_or-set_other now v s row [] other) i,
          ))
          (so.steps s below)
    ];
  }

  pub left_over : (old : List (List TargetSet)) → ((s : ℕ) → v ≤ s → sets_at now s ≡ sets_at old s) → (s : ℕ) → v + 1 ≤ s
      → sets_at (slice_set now v row) s ≡ sets_at old s
  left_over old left s h =
      let other : s ≢ v = λ e. absurd (omega (arith, h, e)) in
      get_or-set_other now v s row [] other ∙ left s (omega (arith, h))

-- by the marks of the round before ------------------------------------------------------------

-- whether an edge gives, by whether there is a mark and whether it is Down
gives_by : (s : ℕ) (e : Edge) (m : Option Mark) → gives_from s e m ≡ cond (nat_lt e.to s) (is_some m) (down_of m)
gives_by s e None = elim (nat_lt e.to s) as (λ b. false ≡ cond b false false) [ true ↦ refl | false ↦ refl ]
gives_by s e (Some m) =
    elim (nat_lt e.to s) as (λ b. (b || is_down m.label) ≡ cond b true (is_down m.label)) [ true ↦ refl | false ↦ refl ]

has_cond : (b : Bool) (x y : TargetSet) (k : ℕ) → has (cond b x y) k ≡ cond b (has x k) (has y k)
has_cond true x y k = refl
has_cond false x y k = refl

same_any : {X : Type 0} (p q : X → Bool) (xs : List X) → ((x : X) → Contains xs x → p x ≡ q x) → list_any p xs ≡ list_any q xs
same_any p q [] same = refl
same_any p q (x ∷ xs) same = (λ i. same x (contains_here x xs) i || same_any p q xs (λ y h. same y (contains_later x y xs h)) i)

-- marks that edges of these give
abbrev has_some : List Edge → Bool
has_some [] = false
has_some (e ∷ es) = true

abbrev mark_of : ℕ → Bool → Bool → Option Mark
mark_of round up any = cond up (Some (record { cost = round; label = Up })) (cond any (Some (record { cost = round; label = Down })) None)

mark_of_givers : (round s : ℕ) (p : Edge → Bool) (es : List Edge)
    → mark_by round s (filter p es) ≡ mark_of round (list_any (λ e. p e && nat_lt e.to s) es) (list_any p es)
mark_of_givers round s p es = by_list (filter p es) ∙ (λ i. mark_of round (ups es i) (some es i))
  where
    by_list : (gs : List Edge) → mark_by round s gs ≡ mark_of round (leads_up s gs) (has_some gs)
    by_list [] = refl
    by_list (e ∷ gs) = elim (leads_up s (e ∷ gs)) as (λ b. Some (record { cost = round; label = cond b Up Down }) ≡ mark_of round b true)
        [ true ↦ refl | false ↦ refl ]

    ups : (es : List Edge) → leads_up s (filter p es) ≡ list_any (λ e. p e && nat_lt e.to s) es
    ups [] = refl
    ups (e ∷ es) = elim (p e) as (λ b. leads_up s (cond b (e ∷ filter p es) (filter p es))
        ≡ ((b && nat_lt e.to s) || list_any (λ x. p x && nat_lt x.to s) es)) [
          | true ↦ ap (λ b. nat_lt e.to s || b) (ups es)
          | false ↦ ups es
        ]

    some : (es : List Edge) → has_some (filter p es) ≡ list_any p es
    some [] = refl
    some (e ∷ es) = elim (p e) as (λ b. has_some (cond b (e ∷ filter p es) (filter p es)) ≡ (b || list_any p es)) [
      | true ↦ refl
      | false ↦ some es
    ]

-- where one that leads up gives, one gives
up_is_any : {X : Type 0} (p q : X → Bool) (xs : List X) → list_any (λ x. p x && q x) xs ≡ true → list_any p xs ≡ true
up_is_any p q [] h = h
up_is_any p q (x ∷ xs) h =
    elim (p x) as (λ b. ((b && q x) || list_any (λ x. p x && q x) xs) ≡ true → (b || list_any p xs) ≡ true) [
      | true ↦ λ e. refl
      | false ↦ λ e. up_is_any p q xs e
    ] h

-- the marks of a vertex after a round more, where these are its edges' answers
module _ (edges : List (List Edge)) (t s round : ℕ) (old : Option Mark) (up any : Bool) (only : up ≡ true → any ≡ true) where
  abbrev new : Option Mark
  new = mark_or old (mark_of (suc round) up any)

  some_new : is_some new ≡ (is_some old || (any && not (is_some old)))
  some_new = by old up any only
    where
      by : (old : Option Mark) (up any : Bool) → (up ≡ true → any ≡ true) → is_some (mark_or old (mark_of (suc round) up any))
          ≡ (is_some old || (any && not (is_some old)))
      by (Some m) up any only = refl
      by None true true only = refl
      by None true false only = absurd (let no = only refl in cc)
      by None false true only = refl
      by None false false only = refl

  down_new : down_of new ≡ (down_of old || ((any && not (is_some old)) && not up))
  down_new = by old up any only
    where
      settled : (a b : Bool) → a ≡ (a || ((b && false) && not up))
      settled true b = refl
      settled false true = refl
      settled false false = refl

      by : (old : Option Mark) (up any : Bool) → (up ≡ true → any ≡ true) → down_of (mark_or old (mark_of (suc round) up any))
          ≡ (down_of old || ((any && not (is_some old)) && not up))
      by (Some m) up any only = with_up (is_down m.label) any up
        where
          with_up : (a b u : Bool) → a ≡ (a || ((b && false) && not u))
          with_up true b u = refl
          with_up false true u = refl
          with_up false false u = refl
      by None true true only = refl
      by None true false only = absurd (let no = only refl in cc)
      by None false true only = refl
      by None false false only = refl

  gave_new : (e : Edge) → (gives (marks_after edges t round) s e ≡ true → any ≡ true)
      → gave_by edges t s e new ≡ (gave_by edges t s e old || (gives (marks_after edges t round) s e && (any && not (is_some old))))
  gave_new e given = by old up any only given
    where
      settled : (a g b : Bool) → a ≡ (a || (g && (b && false)))
      settled true g b = refl
      settled false true true = refl
      settled false true false = refl
      settled false false b = refl

      by : (old : Option Mark) (up any : Bool) → (up ≡ true → any ≡ true) → (gives (marks_after edges t round) s e ≡ true → any ≡ true)
          → gave_by edges t s e (mark_or old (mark_of (suc round) up any))
          ≡ (gave_by edges t s e old || (gives (marks_after edges t round) s e && (any && not (is_some old))))
      by (Some m) up any only given = settled (gave_before edges t s e m.cost) (gives (marks_after edges t round) s e) any
      by None true true only given = and_true (gives (marks_after edges t round) s e)
        where
          and_true : (b : Bool) → b ≡ (b && true)
          and_true true = refl
          and_true false = refl
      by None true false only given = absurd (let no = only refl in cc)
      by None false true only given = and_true (gives (marks_after edges t round) s e)
        where
          and_true : (b : Bool) → b ≡ (b && true)
          and_true true = refl
          and_true false = refl
      by None false false only given = and_false (gives (marks_after edges t round) s e)
        where
          and_false : (b : Bool) → false ≡ (b && false)
          and_false true = refl
          and_false false = refl

-- the sets of a round more, towards one target -------------------------------------------------

module _ (edges : List (List Edge)) (lead : LeadToVertices edges) (t k round : ℕ) (marked downs : List TargetSet) (rows : List (List TargetSet))
    (old : AreSetsTowards edges t k round marked downs rows) where
  abbrev after : Marks
  after = marks_after edges t round

  abbrev giver : ℕ → Edge → Bool
  giver s e = has (giver_set s marked downs e) k

  -- an edge gives by the sets as by the marks
  giver_is : (s : ℕ) (e : Edge) → e.to < length edges → giver s e ≡ gives after s e
  giver_is s e h =
      has_cond (nat_lt e.to s) (set_at marked e.to) (set_at downs e.to) k
      ∙ (λ i. cond (nat_lt e.to s) (old.is_marked e.to h i) (old.is_down e.to h i)) ∙ sym (gives_by s e (after e.to))

  any_is : (s : ℕ) → list_any (giver s) (edges_at edges s) ≡ list_any (gives after s) (edges_at edges s)
  any_is s = same_any (giver s) (gives after s) (edges_at edges s) (λ e c. giver_is s e (lead s e c))

  ups_are : (s : ℕ) → list_any (λ e. giver s e && nat_lt e.to s) (edges_at edges s) ≡ list_any (λ e. gives after s e && nat_lt e.to s) (edges_at edges s)
  ups_are s =
      same_any (λ e. giver s e && nat_lt e.to s) (λ e. gives after s e && nat_lt e.to s) (edges_at edges s)
      (λ e c. ap (λ b. b && nat_lt e.to s) (giver_is s e (lead s e c)))

  abbrev up : ℕ → Bool
  up s = list_any (λ e. gives after s e && nat_lt e.to s) (edges_at edges s)

  abbrev any : ℕ → Bool
  any s = list_any (gives after s) (edges_at edges s)

  only : (s : ℕ) → up s ≡ true → any s ≡ true
  only s = up_is_any (gives after s) (λ e. nat_lt e.to s) (edges_at edges s)

  next_is : (s : ℕ) → marks_after edges t (suc round) s ≡ mark_or (after s) (mark_of (suc round) (up s) (any s))
  next_is s = ap (mark_or (after s)) (mark_of_givers (suc round) s (gives after s) (edges_at edges s))

  new_is : (s : ℕ) → s < length edges → is_new s (edges_at edges s) marked downs k ≡ (any s && not (is_some (after s)))
  new_is s h = (λ i. any_is s i && not (old.is_marked s h i))

  module _ (next_marked next_downs : List TargetSet) (next_rows : List (List TargetSet)) (few : k < 64) (long : AreRowsOf edges rows)
      (steps : AreSetSteps edges marked downs rows (length edges) next_marked next_downs next_rows) where
    noted_more : (s j : ℕ) → s < length edges → j < length (edges_at edges s)
        → has (set_at (sets_at next_rows s) j) k ≡ gave edges t (suc round) s (edge_at (edges_at edges s) j)
    noted_more s j h l =
        let e = edge_at (edges_at edges s) j in
        let inside : Contains (edges_at edges s) e = (j, l, get_or_default (edges_at edges s) j e (record { port = 0; to = 0 }) l) in
        let given : gives after s e ≡ true → any s ≡ true = λ is. list_any_at (gives after s) (edges_at edges s) e inside is in
        (steps.steps s h).noted k few j l
        ∙ (λ i. old.noted s j h l i || (giver_is s e (lead s e inside) i && new_is s h i))
        ∙ sym (gave_new edges t s round (after s) (up s) (any s) (only s) e given)
        ∙ ap (gave_by edges t s e) (sym (next_is s))

    pub towards_more : AreSetsTowards edges t k (suc round) next_marked next_downs next_rows
    towards_more = record {
      is_marked = λ s h. (steps.steps s h).is_marked k few ∙ (λ i. old.is_marked s h i || new_is s h i)
          ∙ sym (some_new edges t s round (after s) (up s) (any s) (only s)) ∙ ap is_some (sym (next_is s));
      is_down = λ s h. (steps.steps s h).is_down k few ∙ (λ i. old.is_down s h i || (new_is s h i && not (ups_are s i)))
          ∙ sym (down_new edges t s round (after s) (up s) (any s) (only s)) ∙ ap down_of (sym (next_is s));
      noted = noted_more;
    }

-- towards all ----------------------------------------------------------------------------------

pub sets_more : (edges : List (List Edge)) (targets : List ℕ) (round : ℕ) (marked downs : List TargetSet) (rows : List (List TargetSet))
    (next_marked next_downs : List TargetSet) (next_rows : List (List TargetSet)) → LeadToVertices edges → length targets ≤ 64
    → AreSetsAfter edges targets round marked downs rows → AreSetSteps edges marked downs rows (length edges) next_marked next_downs next_rows
    → AreSetsAfter edges targets (suc round) next_marked next_downs next_rows
sets_more edges targets round marked downs rows next_marked next_downs next_rows lead few so steps = record {
  all_marked = steps.all_marked;
  all_downs = steps.all_downs;
  are_rows = record {
    all = steps.all_rows ∙ so.are_rows.all;
    long = λ s h. (steps.steps s h).as_long ∙ so.are_rows.long s h;
  };
  each = λ k h. towards_more edges lead (slice_index targets k) k round marked downs rows (so.each k h) next_marked next_downs next_rows
      (omega (arith, h, few)) so.are_rows steps;
}

-- once no vertex gets a mark, all stays --------------------------------------------------------

module _ (edges : List (List Edge)) (t : ℕ) (lead : LeadToVertices edges) (round : ℕ)
    (same : (s : ℕ) → s < length edges → is_some (marks_after edges t round s) ≡ is_some (marks_after edges t (suc round) s)) where
  abbrev at : ℕ → Marks
  at = marks_after edges t

  none_more : (k s : ℕ) → s < length edges → ((x : ℕ) → x < length edges → at k x ≡ at round x) → at (suc k) s ≡ at round s
  none_more k s h before =
      elim (at round s) as (λ o. at round s ≡ o → mark_or (at k s) (mark_by (suc k) s (givers edges (at k) s)) ≡ o) [
        | Some m ↦ λ e. ap (λ o. mark_or o (mark_by (suc k) s (givers edges (at k) s))) (before s h ∙ e)
        | None ↦ λ e.
            let givers_are : givers edges (at k) s ≡ givers edges (at round) s =
            same_filter (gives (at k) s) (gives (at round) s) (edges_at edges s) (λ x c. ap (gives_from s x) (before x.to (lead s x c))) in
            let none : mark_by (suc round) s (givers edges (at round) s) ≡ None =
            no_some (mark_by (suc round) s (givers edges (at round) s))
            (ap (λ o. is_some (mark_or o (mark_by (suc round) s (givers edges (at round) s)))) (sym e) ∙ sym (same s h) ∙ ap is_some e) in
            ap (λ o. mark_or o (mark_by (suc k) s (givers edges (at k) s))) (before s h ∙ e)
            ∙ ap (mark_by (suc k) s) givers_are ∙ none_given (suc round) (suc k) s (givers edges (at round) s) none
      ] refl
    where
      no_some : (o : Option Mark) → is_some o ≡ false → o ≡ None
      no_some None e = refl
      no_some (Some m) e = absurd (cc)

      none_given : (round other s : ℕ) (es : List Edge) → mark_by round s es ≡ None → mark_by other s es ≡ None
      none_given round other s [] e = refl
      none_given round other s (x ∷ es) e = absurd (cc)

  pub still : (k s : ℕ) → round ≤ k → s < length edges → at k s ≡ at round s
  still zero s h l = let is : 0 ≡ round = omega arith in ap (λ n. at n s) is
  still (suc k) s h l =
      elim (cases_eq round (suc k)) [
        | inl here ↦ ap (λ n. at n s) (sym here)
        | inr other ↦ none_more k s l (λ x m. still k x (grind arith) m)
      ]

-- the edges that are noted in the end ----------------------------------------------------------

gave_all : (edges : List (List Edge)) (t s : ℕ) → filter (gave edges t (length edges) s) (edges_at edges s) ≡ candidates edges t s
gave_all edges t s = by (marks edges t s)
  where
    none : (es : List Edge) → filter (λ e. false) es ≡ []
    none [] = refl
    none (e ∷ es) = none es

    before : (n : ℕ) → filter (λ e. gave_before edges t s e n) (edges_at edges s) ≡ givers_before edges t s n
    before zero = none (edges_at edges s)
    before (suc n) = refl

    by : (o : Option Mark) → filter (λ e. gave_by edges t s e o) (edges_at edges s) ≡ candidates_by edges t s o
    by None = none (edges_at edges s)
    by (Some m) = before m.cost

picked_are : (k : ℕ) (p : Edge → Bool) (sets : List TargetSet) (es : List Edge) → length sets ≡ length es
    → ((j : ℕ) → j < length es → has (set_at sets j) k ≡ p (edge_at es j)) → picked k sets es ≡ filter p es
picked_are k p sets [] long each = refl
picked_are k p [] (e ∷ es) long each = absurd (omega (arith, long))
picked_are k p (set ∷ sets) (e ∷ es) long each =
    let rest = picked_are k p sets es (omega (arith, long)) (λ j h. each (suc j) (omega (arith, h))) in
    (λ i. cond (each 0 (omega arith) i) (e ∷ rest i) (rest i))

-- after as many rounds as there are vertices, or once no vertex gets a mark
pub are_candidates : (edges : List (List Edge)) (targets : List ℕ) (marked downs : List TargetSet) (rows : List (List TargetSet))
    → AreSetsAfter edges targets (length edges) marked downs rows → AreCandidateSets edges targets rows
are_candidates edges targets marked downs rows so = record {
  are_rows = so.are_rows;
  each = λ k s h l.
      let t = slice_index targets k in
      picked_are k (gave edges t (length edges) s) (sets_at rows s) (edges_at edges s) (so.are_rows.long s l) (λ j m. (so.each k h).noted s j l m)
      ∙ gave_all edges t s;
}

pub all_stays : (edges : List (List Edge)) (targets : List ℕ) (round n : ℕ) (marked downs next_marked next_downs : List TargetSet)
    (rows next_rows : List (List TargetSet)) → LeadToVertices edges → suc round ≤ n → length targets ≤ 64
    → AreSetsAfter edges targets round marked downs rows → AreSetsAfter edges targets (suc round) next_marked next_downs next_rows
    → AreSame marked next_marked (length edges) → AreSetsAfter edges targets n next_marked next_downs next_rows
all_stays edges targets round n marked downs next_marked next_downs rows next_rows lead later few old next same = record {
  all_marked = next.all_marked;
  all_downs = next.all_downs;
  are_rows = next.are_rows;
  each = λ k h.
      let t = slice_index targets k in
      let there : (s : ℕ) → s < length edges → is_some (marks_after edges t round s) ≡ is_some (marks_after edges t (suc round) s) =
      λ s l. sym ((old.each k h).is_marked s l) ∙ same k (omega (arith, h, few)) s l ∙ (next.each k h).is_marked s l in
      let stays : (s : ℕ) → s < length edges → marks_after edges t (suc round) s ≡ marks_after edges t n s =
      λ s l. still edges t lead round there (suc round) s (omega arith) l ∙ sym (still edges t lead round there n s (omega (arith, later)) l) in
      record {
        is_marked = λ s l. (next.each k h).is_marked s l ∙ ap is_some (stays s l);
        is_down = λ s l. (next.each k h).is_down s l ∙ ap down_of (stays s l);
        noted = λ s j l m. (next.each k h).noted s j l m ∙ ap (gave_by edges t s (edge_at (edges_at edges s) j)) (stays s l);
      };
}

-- the mark of a vertex at first, where it is the target or is not
abbrev mark_at_first : Bool → Option Mark
mark_at_first b = cond b (Some (record { cost = 0; label = Down })) None

-- at first -------------------------------------------------------------------------------------

pub sets_at_first : (edges : List (List Edge)) (targets : List ℕ) (marked downs : List TargetSet) (rows : List (List TargetSet))
    → AreAtTargets (length edges) targets (length targets) marked → AreAtTargets (length edges) targets (length targets) downs → length targets ≤ 64
    → rows ≡ map no_sets edges → AreSetsAfter edges targets 0 marked downs rows
sets_at_first edges targets marked downs rows ms ds few are = record {
  all_marked = ms.all;
  all_downs = ds.all;
  are_rows = record {
    all = ap length are ∙ length-map edges no_sets;
    long = λ s h. ap length (row s h) ∙ length-replicate (length (edges_at edges s)) no_targets;
  };
  each = λ k h. record {
    is_marked = λ s l. ms.each k s h l ∙ is_some_if (s == slice_index targets k);
    is_down = λ s l. ds.each k s h l ∙ is_down_if (s == slice_index targets k);
    noted = λ s j l m. ap (λ (xs : List TargetSet). has (set_at xs j) k) (row s l)
        ∙ ap (λ (set : TargetSet). has set k) (get_or-replicate (length (edges_at edges s)) j no_targets no_targets m)
        ∙ none_has k (omega (arith, h, few)) ∙ none_gave (slice_index targets k) s (edge_at (edges_at edges s) j) (s == slice_index targets k);
  };
}
  where
    row : (s : ℕ) → s < length edges → sets_at rows s ≡ no_sets (edges_at edges s)
    row s h = ap (λ (xs : List (List TargetSet)). sets_at xs s) are ∙ get_or-map no_sets edges s [] [] h

    is_some_if : (b : Bool) → b ≡ is_some (mark_at_first b)
    is_some_if true = refl
    is_some_if false = refl

    is_down_if : (b : Bool) → b ≡ down_of (mark_at_first b)
    is_down_if true = refl
    is_down_if false = refl

    none_gave : (t s : ℕ) (e : Edge) (b : Bool) → false ≡ gave_by edges t s e (mark_at_first b)
    none_gave t s e true = refl
    none_gave t s e false = refl
