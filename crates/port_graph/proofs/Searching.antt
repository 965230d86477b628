-- A breadth-first search finds the shortest walks.
use Rattle.std.proofs.Common.{◌≡◌, ◌≤◌, ◌<◌, ◌+◌, ℕ, zero, suc, List, [], ◌∷◌, ◌++◌, ◌⊎◌, inl, inr, refl, sym, ap, ◌∙◌, subst, arith, true, false, cond, length, map}
use Rattle.std.proofs.lemmas.Bool.{cases_lt, cases_eq}
use Rattle.std.proofs.lemmas.Option.{none-some, same_Some}
use Rattle.std.proofs.lemmas.List.{length-set, get_or_past, get_or-set_same, get_or-set_other}
use Rattle.std.proofs.lemmas.List.Elements.{Contains-push, Contains-push_cases, Contains-append_left}
use Rattle.std.specs.Prelude.{Option, None, Some, is_some, Contains, slice_index_or, slice_set}
use Rattle.smp_bytes.proofs.Members.{contains_here, contains_later, contains_cases, contains_none}
use Rattle.port_graph.specs.declared.edge.Edge.{Edge}
use Rattle.port_graph.specs.Walks.{has_walk, shortest, Walk}
use Rattle.port_graph.specs.Searches.{Search, reach, reach_all}
use Rattle.port_graph.proofs.Lists.{contains_mapped}
use Rattle.port_graph.proofs.WalkLemmas.{least_is, shortest_is, test_from_walk, walk_from_test}
use Rattle.port_graph.proofs.Paths.{walk_push}

-- how many vertices have no distance yet
abbrev pub unknown : List (Option ℕ) → ℕ
unknown [] = zero
unknown (None ∷ ds) = suc (unknown ds)
unknown (Some d ∷ ds) = unknown ds

-- the distance of a vertex is known
abbrev pub Has : List (Option ℕ) → ℕ → ℕ → Type 0
Has ds a d = slice_index_or ds a None ≡ Some d

-- the vertices wait in the order of their distances
abbrev pub Rises : List (ℕ × ℕ) → Type 0
Rises [] = Unit {0}
Rises (x ∷ xs) = ((a d : ℕ) → Contains xs (a, d) → x.1 ≤ d) × Rises xs

-- the edges of a vertex were followed
abbrev pub IsFollowed : (ℕ → List ℕ) → List (Option ℕ) → ℕ → ℕ → Type 0
IsFollowed next ds a d = (b : ℕ) → Contains (next a) b → (e : ℕ) × Has ds b e × (e ≤ suc d)

-- what holds of the distances and of the vertices that wait at all times
pub record IsSearch (next : ℕ → List ℕ) (from n : ℕ) (s : Search) : Type 0 where
  pub all : length s.0 ≡ n
  pub start : Has s.0 from zero
  pub walks : (a d : ℕ) → Has s.0 a d → Walk next from a d
  pub short : (a d : ℕ) → Has s.0 a d → d + unknown s.0 < n
  pub waits : (a d : ℕ) → Contains s.1 (a, d) → Has s.0 a d
  pub rises : Rises s.1

-- between two vertices: each one that has a distance waits, or its edges were followed
pub record IsBetween (next : ℕ → List ℕ) (from n : ℕ) (s : Search) : Type 0 where
  pub search : IsSearch next from n s
  pub near : (a d b e : ℕ) → Contains s.1 (a, d) → Has s.0 b e → e ≤ suc d
  pub followed : (a d : ℕ) → Has s.0 a d → Contains s.1 (a, d) ⊎ IsFollowed next s.0 a d

-- while the edges of a vertex are followed: those that are left
pub record IsFollowing (next : ℕ → List ℕ) (from n a d : ℕ) (left : List Edge) (s : Search) : Type 0 where
  pub search : IsSearch next from n s
  pub here : Has s.0 a d
  pub above : (b e : ℕ) → Contains s.1 (b, e) → d ≤ e
  pub near : (b e : ℕ) → Has s.0 b e → e ≤ suc d
  pub followed : (b e : ℕ) → Has s.0 b e → (b ≡ a) ⊎ Contains s.1 (b, e) ⊎ IsFollowed next s.0 b e
  pub led : (b : ℕ) → Contains (next a) b → Contains (map (λ e. e.to) left) b ⊎ ((e : ℕ) × Has s.0 b e × (e ≤ suc d))
  pub lead : (e : Edge) → Contains left e → Contains (next a) e.to × (e.to < n)

-- lists --------------------------------------------------------------------------------

rises_pushed : (q : List (ℕ × ℕ)) (b e : ℕ) → Rises q → ((a d : ℕ) → Contains q (a, d) → d ≤ e) → Rises (q ++ (b, e) ∷ [])
rises_pushed [] b e r h = (λ a d k. absurd (contains_none (a, d) k), tt)
rises_pushed (x ∷ q) b e r h = (
  λ a d k. (elim (Contains-push_cases q (b, e) (a, d) k) [
    | inl j ↦ r.0 a d j
    | inr i ↦ let last : e ≡ d = ap (λ (y : ℕ × ℕ). y.1) i in omega (arith, h x.0 x.1 (contains_here x q))
  ]),
  rises_pushed q b e r.1 (λ a d k. h a d (contains_later x (a, d) q k)),
)

-- a known distance stands in the list
pub known_below : (ds : List (Option ℕ)) (a d : ℕ) → Has ds a d → a < length ds
known_below ds a d h = elim (cases_lt a (length ds)) [ inl l ↦ l | inr m ↦ absurd (none-some d (sym (get_or_past ds a None m) ∙ h)) ]

-- one more is known
pub unknown_less : (ds : List (Option ℕ)) (a d : ℕ) → a < length ds → slice_index_or ds a None ≡ None → unknown ds ≡ suc (unknown (slice_set ds a (Some d)))
unknown_less [] a d l e = absurd (omega arith)
unknown_less (None ∷ ds) zero d l e = refl
unknown_less (Some x ∷ ds) zero d l e = absurd (none-some x (sym e))
unknown_less (None ∷ ds) (suc a) d l e = ap suc (unknown_less ds a d (omega arith) e)
unknown_less (Some x ∷ ds) (suc a) d l e = unknown_less ds a d (omega arith) e

-- a step -------------------------------------------------------------------------------

module _ (ds : List (Option ℕ)) (a d : ℕ) (below : a < length ds) (none : slice_index_or ds a None ≡ None) where
  -- what was known stays known
  known_kept : (b e : ℕ) → Has ds b e → Has (slice_set ds a (Some d)) b e
  known_kept b e h = get_or-set_other ds a b (Some d) None (λ same. none-some e (sym none ∙ ap (λ x. slice_index_or ds x None) (sym same) ∙ h)) ∙ h

  known_cases : (b e : ℕ) → Has (slice_set ds a (Some d)) b e → ((b ≡ a) × (e ≡ d)) ⊎ Has ds b e
  known_cases b e h =
      elim (cases_eq b a) [
        | inl same ↦ inl (
          same,
          same_Some e d (sym h ∙ ap (λ x. slice_index_or (slice_set ds a (Some d)) x None) same
              ∙ get_or-set_same ds a (Some d) None below),
        )
        | inr other ↦ inr (sym (get_or-set_other ds a b (Some d) None other) ∙ h)
      ]

  followed_kept : (next : ℕ → List ℕ) (b e : ℕ) → IsFollowed next ds b e → IsFollowed next (slice_set ds a (Some d)) b e
  followed_kept next b e f x h = let g = f x h in (g.0, known_kept x g.0 g.1, g.2)

module _ (next : ℕ → List ℕ) (from n a d : ℕ) where
  -- the vertex to which an edge leads has a distance already
  reached_before : (x : Edge) (left : List Edge) (s : Search) (f : ℕ) → Has s.0 x.to f → IsFollowing next from n a d (x ∷ left) s
      → IsFollowing next from n a d left s
  reached_before x left s f h i =
      record {
        search = i.search;
        here = i.here;
        above = i.above;
        near = i.near;
        followed = i.followed;
        led = λ b k. (elim (i.led b k) [
          | inl c ↦ (elim (contains_cases x.to b (map (λ (e : Edge). e.to) left) c) [
            | inl same ↦ inr (f, ap (λ y. slice_index_or s.0 y None) (sym same) ∙ h, i.near x.to f h)
            | inr later ↦ inl later
          ])
          | inr e ↦ inr e
        ]);
        lead = λ e k. i.lead e (contains_later x e left k);
      }

  -- it has none
  reached_now : (x : Edge) (left : List Edge) (s : Search) → slice_index_or s.0 x.to None ≡ None → IsFollowing next from n a d (x ∷ left) s
      → IsFollowing next from n a d left (slice_set s.0 x.to (Some (suc d)), s.1 ++ (x.to, suc d) ∷ [])
  reached_now x left s none i =
      let lead = i.lead x (contains_here x left) in
      let below : x.to < length s.0 = omega (arith, lead.1, i.search.all) in
      let less = unknown_less s.0 x.to (suc d) below none in
      let cases = known_cases s.0 x.to (suc d) below none in
      let kept = known_kept s.0 x.to (suc d) below none in
      record {
        search =
            record {
              all = length-set s.0 x.to (Some (suc d)) ∙ i.search.all;
              start = kept from zero i.search.start;
              walks = λ b e h. (elim (cases b e h) [
                | inl new ↦ let Leads : ℕ × ℕ → Type 0 = λ y. Walk next from y.0 y.1 in
                    subst Leads (λ j. (sym new.0 j, sym new.1 j)) (walk_push next d from a x.to (i.search.walks a d i.here) lead.0)
                | inr old ↦ i.search.walks b e old
              ]);
              short = λ b e h. (elim (cases b e h) [
                | inl new ↦ omega (arith, i.search.short a d i.here, less, new.1)
                | inr old ↦ omega (arith, i.search.short b e old, less)
              ]);
              waits = λ b e h. (elim (Contains-push_cases s.1 (x.to, suc d) (b, e) h) [
                | inl old ↦ kept b e (i.search.waits b e old)
                | inr same ↦ let Known : ℕ × ℕ → Type 0 = λ y. Has (slice_set s.0 x.to (Some (suc d))) y.0 y.1 in
                    subst Known same (get_or-set_same s.0 x.to (Some (suc d)) None below)
              ]);
              rises = rises_pushed s.1 x.to (suc d) i.search.rises (λ b e h. i.near b e (i.search.waits b e h));
            };
        here = kept a d i.here;
        above = λ b e h. (elim (Contains-push_cases s.1 (x.to, suc d) (b, e) h) [
          | inl old ↦ i.above b e old
          | inr same ↦ let it : suc d ≡ e = ap (λ (y : ℕ × ℕ). y.1) same in omega (arith, it)
        ]);
        near = λ b e h. (elim (cases b e h) [
          | inl new ↦ omega (arith, new.1)
          | inr old ↦ i.near b e old
        ]);
        followed = λ b e h. (elim (cases b e h) [
          | inl new ↦ let Waits : ℕ × ℕ → Type 0 = λ y. Contains (s.1 ++ (x.to, suc d) ∷ []) y in
              inr (inl (subst Waits (λ j. (sym new.0 j, sym new.1 j)) (Contains-push s.1 (x.to, suc d))))
          | inr old ↦ (elim (i.followed b e old) [
            | inl same ↦ inl same
            | inr more ↦ (elim more [
              | inl waits ↦ inr (inl (Contains-append_left s.1 ((x.to, suc d) ∷ []) (b, e) waits))
              | inr done ↦ inr (inr (followed_kept s.0 x.to (suc d) below none next b e done))
            ])
          ])
        ]);
        led = λ b k. (elim (i.led b k) [
          | inl c ↦ (elim (contains_cases x.to b (map (λ (e : Edge). e.to) left) c) [
            | inl same ↦ inr (
              suc d,
              ap (λ y. slice_index_or (slice_set s.0 x.to (Some (suc d))) y None) (sym same)
                  ∙ get_or-set_same s.0 x.to (Some (suc d)) None below,
              omega arith,
            )
            | inr later ↦ inl later
          ])
          | inr e ↦ inr (e.0, kept b e.0 e.1, e.2)
        ]);
        lead = λ e k. i.lead e (contains_later x e left k);
      }

  reached : (x : Edge) (left : List Edge) (s : Search) → IsFollowing next from n a d (x ∷ left) s → IsFollowing next from n a d left (reach (suc d) s x.to)
  reached x left s i =
      elim (slice_index_or s.0 x.to None) as (λ o. slice_index_or s.0 x.to None ≡ o
      → IsFollowing next from n a d left (cond (is_some o) s (slice_set s.0 x.to (Some (suc d)), s.1 ++ (x.to, suc d) ∷ []))) [
        | None ↦ λ e. reached_now x left s e i
        | Some f ↦ λ e. reached_before x left s f e i
      ] refl

  -- all the edges of a vertex
  pub all_reached : (left : List Edge) (s : Search) → IsFollowing next from n a d left s → IsFollowing next from n a d [] (reach_all (suc d) s left)
  all_reached [] s i = i
  all_reached (x ∷ left) s i = all_reached left (reach (suc d) s x.to) (reached x left s i)

-- the start and the end of a vertex, and of the search -----------------------------------

module _ (next : ℕ → List ℕ) (from n : ℕ) where
  -- the first that waits is taken
  pub taken : (a d : ℕ) (left : List Edge) (ds : List (Option ℕ)) (q : List (ℕ × ℕ)) → next a ≡ map (λ e. e.to) left → ((e : Edge) → Contains left e → e.to < n)
      → IsBetween next from n (ds, (a, d) ∷ q) → IsFollowing next from n a d left (ds, q)
  taken a d left ds q is lead i =
      let later : (b e : ℕ) → Contains q (b, e) → Contains ((a, d) ∷ q) (b, e) = λ b e h. contains_later (a, d) (b, e) q h in
      let here : Has ds a d = i.search.waits a d (contains_here (a, d) q) in
      record {
        search =
            record {
              all = i.search.all;
              start = i.search.start;
              walks = i.search.walks;
              short = i.search.short;
              waits = λ b e h. i.search.waits b e (later b e h);
              rises = i.search.rises.1;
            };
        here = here;
        above = i.search.rises.0;
        near = λ b e h. i.near a d b e (contains_here (a, d) q) h;
        followed = λ b e h. (elim (i.followed b e h) [
          | inl waits ↦ (elim (contains_cases (a, d) (b, e) q waits) [
            | inl same ↦ inl (ap (λ (y : ℕ × ℕ). y.0) (sym same))
            | inr more ↦ inr (inl more)
          ])
          | inr done ↦ inr (inr done)
        ]);
        led = λ b h. inl (subst (λ (bs : List ℕ). Contains bs b) is h);
        lead = λ e h. (subst (λ (bs : List ℕ). Contains bs e.to) (sym is) (contains_mapped (λ (x : Edge). x.to) left e h), lead e h);
      }

  -- all its edges were followed
  pub given_back : (a d : ℕ) (s : Search) → IsFollowing next from n a d [] s → IsBetween next from n s
  given_back a d s i =
      record {
        search = i.search;
        near = λ b e c f h k. omega (arith, i.above b e h, i.near c f k);
        followed = λ b e h. (elim (i.followed b e h) [
          | inl same ↦
              let it : e ≡ d = same_Some e d (sym h ∙ ap (λ x. slice_index_or s.0 x None) same ∙ i.here) in
              inr (λ c k. (elim (i.led c (subst (λ (x : ℕ). Contains (next x) c) same k)) [
                | inl none ↦ absurd (contains_none c none)
                | inr f ↦ (f.0, f.1, omega (arith, f.2, it))
              ]))
          | inr more ↦ more
        ]);
      }

  -- the first vertex waits
  pub begun : (ds : List (Option ℕ)) (q : List (ℕ × ℕ)) → length ds ≡ n → from < n → ((a : ℕ) → slice_index_or ds a None ≡ None) → unknown ds ≡ n → q
      ≡ (from, 0) ∷ []
      → IsBetween next from n (slice_set ds from (Some 0), q)
  begun ds q all below none count is =
      let start : Has (slice_set ds from (Some 0)) from 0 = get_or-set_same ds from (Some 0) None (omega arith) in
      let less = unknown_less ds from 0 (omega arith) (none from) in
      let only : (a d : ℕ) → Has (slice_set ds from (Some 0)) a d → (a ≡ from) × (d ≡ 0) =
      λ a d h. (elim (known_cases ds from 0 (omega arith) (none from) a d h) [
        | inl it ↦ it
        | inr old ↦ absurd (none-some d (sym (none a) ∙ old))
      ]) in
      let one : (a d : ℕ) → Contains q (a, d) → ◌≡◌ {A = ℕ × ℕ} (from, 0) (a, d) =
      λ a d h. (elim (contains_cases (from, 0) (a, d) [] (subst (λ (xs : List (ℕ × ℕ)). Contains xs (a, d)) is h)) [
        | inl same ↦ same
        | inr more ↦ absurd (contains_none (a, d) more)
      ]) in
      let Known : ℕ × ℕ → Type 0 = λ y. Has (slice_set ds from (Some 0)) y.0 y.1 in
      let Leads : ℕ × ℕ → Type 0 = λ y. Walk next from y.0 y.1 in
      let Waits : ℕ × ℕ → Type 0 = λ y. Contains q y in
      let here : Contains q (from, 0) = subst (λ (xs : List (ℕ × ℕ)). Contains xs (from, 0)) (sym is) (contains_here (from, 0) []) in
      record {
        search =
            record {
              all = length-set ds from (Some 0) ∙ all;
              start = start;
              walks = λ a d h. subst Leads (λ i. (sym (only a d h).0 i, sym (only a d h).1 i)) refl;
              short = λ a d h. omega (arith, (only a d h).1);
              waits = λ a d h. subst Known (one a d h) start;
              rises = subst Rises (sym is) (λ a d h. absurd (contains_none (a, d) h), tt);
            };
        near = λ a d b e h k. omega (arith, (only b e k).1);
        followed = λ a d h. inl (subst Waits (λ i. (sym (only a d h).0 i, sym (only a d h).1 i)) here);
      }

  -- nothing waits: the distances are those of the shortest walks
  module _ (s : Search) (none : s.1 ≡ []) (i : IsBetween next from n s) where
    all_followed : (a d : ℕ) → Has s.0 a d → IsFollowed next s.0 a d
    all_followed a d h =
        elim (i.followed a d h) [
          | inl waits ↦ absurd (contains_none (a, d) (subst (λ (xs : List (ℕ × ℕ)). Contains xs (a, d)) none waits))
          | inr done ↦ done
        ]

    reaches : (m a d b : ℕ) → Has s.0 a d → Walk next a b m → (e : ℕ) × Has s.0 b e × (e ≤ d + m)
    reaches zero a d b h w = (d, ap (λ x. slice_index_or s.0 x None) (sym w) ∙ h, omega arith)
    reaches (suc m) a d b h w =
        let f = all_followed a d h w.0 w.1 in
        let g = reaches m w.0 f.0 b f.1 w.2 in
        (g.0, g.1, omega (arith, g.2, f.2))

    -- the distances are found
    pub found : (a : ℕ) → slice_index_or s.0 a None ≡ shortest next n from a
    found a =
        elim (slice_index_or s.0 a None) as (λ o. slice_index_or s.0 a None ≡ o → o ≡ shortest next n from a) [
          | None ↦ λ e. (elim (shortest next n from a) as (λ p. shortest next n from a ≡ p → None ≡ p) [
            | None ↦ λ q. refl
            | Some m ↦ λ q. let g = reaches m from 0 a i.search.start (shortest_is next n from a m q).walk in absurd (none-some g.0 (sym e ∙ g.1))
          ] refl)
          | Some d ↦ λ e. sym (least_is 0 n (has_walk next from a) d
              (record {
                from = omega arith;
                bounded = omega (arith, i.search.short a d e);
                passes = test_from_walk next from a d (i.search.walks a d e);
                least = λ m k l. (elim (has_walk next from a m) as (λ t. has_walk next from a m ≡ t → t ≡ false) [
                  | true ↦ λ q.
                      let g = reaches m from 0 a i.search.start (walk_from_test next from a m q) in
                      absurd (omega (arith, g.2, same_Some g.0 d (sym g.1 ∙ e)))
                  | false ↦ λ q. refl
                ] refl);
              }))
        ] refl
