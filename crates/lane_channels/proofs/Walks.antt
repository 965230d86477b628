-- Packets followed from stop to stop, one after the other.
use Rattle.std.proofs.Common.{◌≡◌, ◌<◌, ◌≤◌, ◌*◌, ◌/◌, ℕ, zero, suc, Bool, true, false, ◌||◌, List, [], ◌∷◌, ◌++◌, length, refl, sym, ap, ◌∙◌, subst, arith}
use Rattle.std.proofs.Common.{inl, inr, ◌⊎◌, slice_set}
use Rattle.std.specs.Prelude.{Contains, Option, None, Some, slice_index_or, nat_le, ◌==◌}
use Rattle.std.specs.Option.{option_to_list}
use Rattle.std.proofs.lemmas.Option.{same_Some}
use Rattle.std.proofs.lemmas.Bool.{cases_lt, eqb-true, leb-false, leb-true}
use Rattle.std.proofs.lemmas.List.Elements.{Contains-append_left, Contains-push, Contains-push_cases}
use Rattle.smp_bytes.proofs.Members.{contains_none}
use Rattle.subnet_view.specs.Reading.{Cells, switches}
use Rattle.audit_channels.specs.ChannelOrders.{Follows}
use Rattle.lanes_file.specs.Lanes.{LanesSaid}
use Rattle.lane_channels.specs.declared.dropped.Dropped.{Dropped}
use Rattle.lane_channels.specs.Stops.{Columns, HasEdge, IsNextStop}
use Rattle.lane_channels.specs.LaneTurns.{DropsBefore, TakesByLane}
use Rattle.lane_channels.specs.Visit.{DropsAlong, GoesAlong, IsVisit, IsVisitIfNew, TakesAlong, Walking}
use Rattle.lane_channels.specs.Walk.{AreFollowed, Beginnings, Begins, BeginsIf, IsDone, IsDroppedOne, IsMarked, IsWhole, OneTakes, Reaches, Walked, is_done}
use Rattle.lane_channels.specs.Walk.{mark_number}

-- a stop is taken from those that are left
pub record IsTaken (stops : List ℕ) (stop : ℕ) (rest : List ℕ) : Type 0 where
  pub here : Contains stops stop
  pub kept : (s : ℕ) → Contains rest s → Contains stops s
  pub only : (s : ℕ) → Contains stops s → Contains rest s ⊎ (s ≡ stop)

pub taken : (stops rest : List ℕ) (stop : ℕ) → stops ≡ rest ++ stop ∷ [] → IsTaken stops stop rest
taken stops rest stop e = record {
  here = subst (λ (xs : List ℕ). Contains xs stop) (sym e) (Contains-push rest stop);
  kept = λ s c. subst (λ (xs : List ℕ). Contains xs s) (sym e) (Contains-append_left rest (stop ∷ []) s c);
  only = λ s c. (elim (Contains-push_cases rest stop s (subst (λ (xs : List ℕ). Contains xs s) e c)) [ inl r ↦ inl r | inr q ↦ inr (sym q) ]);
}

module _ (said : LanesSaid) (cells : Cells) (columns : Columns) (lid : ℕ) where
  -- the same packets in other words
  module _ (these those : Beginnings) (to : (level : ℕ) (first : Option ℕ) → these level first → those level first) where
    pub reaches_too : (level : ℕ) (stop : ℕ) → Reaches said cells columns these level stop → Reaches said cells columns those level stop
    reaches_too level stop r = record { first = r.first; begins = to level r.first r.begins; count = r.count; is_there = r.is_there }

    pub takes_too : (a b : ℕ) → OneTakes said cells columns these a b → OneTakes said cells columns those a b
    takes_too a b t = record { level = t.level; stop = t.stop; reaches = reaches_too t.level t.stop t.reaches; takes = t.takes }

    pub dropped_too : (d : Dropped) → IsDroppedOne said cells columns these lid d → IsDroppedOne said cells columns those lid d
    dropped_too d t = record { lid_is = t.lid_is; reaches = reaches_too d.level d.stop t.reaches; drops = t.drops }

  pub none_followed : (these : Beginnings) (w : Walked) → ((level : ℕ) (first : Option ℕ) → these level first → ⊥)
      → AreFollowed said cells columns lid these w w
  none_followed these w none = record {
    as_many = refl;
    as_many_marks = refl;
    no_later = λ most. most;
    kept = λ level stop m. m;
    small = λ level first b. absurd (none level first b);
    begun = λ level first stop b is. absurd (none level first b);
    whole = λ h. h;
    waits_kept = λ a b f. f;
    waits_only = λ a b f. inl f;
    dropped_kept = λ d e none. absurd (cc);
    dropped_only = λ d e. inl e;
  }

  still_done : (these : Beginnings) (old new : Walked) → AreFollowed said cells columns lid these old new → (level : ℕ) (stop : ℕ)
      → IsDone (length (switches cells)) lid old.marks level stop → IsDone (length (switches cells)) lid new.marks level stop
  still_done these old new f level stop (inl m) = inl (f.kept level stop m)
  still_done these old new f level stop (inr past) = inr past

  -- some packets and then others
  pub followed_then : (these those all : Beginnings) (old mid new : Walked) → AreFollowed said cells columns lid these old mid
      → AreFollowed said cells columns lid those mid new
      → ((level : ℕ) (first : Option ℕ) → all level first → these level first ⊎ those level first)
      → ((level : ℕ) (first : Option ℕ) → these level first → all level first)
      → ((level : ℕ) (first : Option ℕ) → those level first → all level first) → AreFollowed said cells columns lid all old new
  followed_then these those all old mid new f g either one other = record {
    as_many = g.as_many ∙ f.as_many;
    as_many_marks = g.as_many_marks ∙ f.as_many_marks;
    no_later = λ most. g.no_later (f.no_later most);
    kept = λ level stop m. g.kept level stop (f.kept level stop m);
    small = small;
    begun = begun;
    whole = λ h. g.whole (f.whole h);
    waits_kept = λ a b h. g.waits_kept a b (f.waits_kept a b h);
    waits_only = λ a b h. waits a b (g.waits_only a b h);
    dropped_kept = kept_drop;
    dropped_only = λ d e. drops d (g.dropped_only d e);
  }
    where
      kept_drop : (d : Dropped) → old.dropped ≡ Some d → new.dropped ≡ None → ⊥
      kept_drop d e none =
          elim mid.dropped as (λ o. mid.dropped ≡ o → ⊥) [
            | None ↦ λ k. f.dropped_kept d e k
            | Some x ↦ λ k. g.dropped_kept x k none
          ] refl

      small : (level : ℕ) (first : Option ℕ) → all level first → level < 16
      small level first b = elim (either level first b) [ inl t ↦ f.small level first t | inr t ↦ g.small level first t ]

      begun : (level : ℕ) (first : Option ℕ) (stop : ℕ) → all level first → first ≡ Some stop
          → IsDone (length (switches cells)) lid new.marks level stop
      begun level first stop b is =
          elim (either level first b) [
            | inl t ↦ let d = f.begun level first stop t is in still_done those mid new g level stop d
            | inr t ↦ g.begun level first stop t is
          ]

      earlier : (a b : ℕ) → Follows old.waits a b ⊎ OneTakes said cells columns these a b
          → Follows old.waits a b ⊎ OneTakes said cells columns all a b
      earlier a b (inl h) = inl h
      earlier a b (inr t) = inr (takes_too these all one a b t)

      waits : (a b : ℕ) → Follows mid.waits a b ⊎ OneTakes said cells columns those a b
          → Follows old.waits a b ⊎ OneTakes said cells columns all a b
      waits a b (inl h) = earlier a b (f.waits_only a b h)
      waits a b (inr t) = inr (takes_too those all other a b t)

      before : (d : Dropped) → (old.dropped ≡ Some d) ⊎ IsDroppedOne said cells columns these lid d
          → (old.dropped ≡ Some d) ⊎ IsDroppedOne said cells columns all lid d
      before d (inl e) = inl e
      before d (inr t) = inr (dropped_too these all one d t)

      drops : (d : Dropped) → (mid.dropped ≡ Some d) ⊎ IsDroppedOne said cells columns those lid d
          → (old.dropped ≡ Some d) ⊎ IsDroppedOne said cells columns all lid d
      drops d (inl e) = before d (f.dropped_only d e)
      drops d (inr t) = inr (dropped_too those all other d t)

  pub followed_as : (these all : Beginnings) (old new : Walked) → AreFollowed said cells columns lid these old new
      → ((level : ℕ) (first : Option ℕ) → all level first → these level first)
      → ((level : ℕ) (first : Option ℕ) → these level first → all level first) → AreFollowed said cells columns lid all old new
  followed_as these all old new f back to =
      followed_then these these all old new new f (same) (λ l b h. inl (back l b h)) to to
    where
      same : AreFollowed said cells columns lid these new new
      same = record {
        as_many = refl;
        as_many_marks = refl;
        no_later = λ most. most;
        kept = λ level stop m. m;
        small = f.small;
        begun = f.begun;
        whole = λ h. h;
        waits_kept = λ a b h. h;
        waits_only = λ a b h. inl h;
        dropped_kept = λ d e none. (cc);
        dropped_only = λ d e. inl e;
      }

  -- two stops and levels that share a mark are the same
  same_mark : (l m s t : ℕ) → l < 16 → m < 16 → mark_number l s ≡ mark_number m t → (l ≡ m) × (s ≡ t)
  same_mark l m s t l_small m_small e = (omega arith, omega arith)

  -- a walk under way: `stops` are the stops that are left to visit
  pub record InWalk (level : ℕ) (first : Option ℕ) (stops : List ℕ) (old w : Walked) : Type 0 where
    pub as_many : length w.waits ≡ length old.waits
    pub as_many_marks : length w.marks ≡ length old.marks
    pub no_later : ((i : ℕ) → slice_index_or old.marks i 0 ≤ lid) → (i : ℕ) → slice_index_or w.marks i 0 ≤ lid
    pub kept : (l : ℕ) (stop : ℕ) → IsMarked lid old.marks l stop → IsMarked lid w.marks l stop
    pub begun : (stop : ℕ) → first ≡ Some stop → IsDone (length (switches cells)) lid w.marks level stop ⊎ Contains stops stop
    pub reached : (stop : ℕ) → Contains stops stop → Reaches said cells columns (Begins level first) level stop
    pub closed : IsWhole said cells columns lid old → (l : ℕ) (stop later : ℕ) → l < 16
        → IsMarked lid w.marks l stop → IsNextStop said cells columns l stop later
        → IsDone (length (switches cells)) lid w.marks l later ⊎ ((l ≡ level) × Contains stops later)
    pub recorded : IsWhole said cells columns lid old → (l : ℕ) (stop : ℕ) (a b : ℕ) → l < 16
        → IsMarked lid w.marks l stop → TakesByLane said cells columns l stop a b → Follows w.waits a b
    pub noted : IsWhole said cells columns lid old → w.dropped ≡ None → (l : ℕ) (stop : ℕ) (out : ℕ) → l < 16
        → IsMarked lid w.marks l stop → DropsBefore said cells columns l stop out → ⊥
    pub waits_kept : (a b : ℕ) → Follows old.waits a b → Follows w.waits a b
    pub waits_only : (a b : ℕ) → Follows w.waits a b → Follows old.waits a b ⊎ OneTakes said cells columns (Begins level first) a b
    pub dropped_kept : (d : Dropped) → old.dropped ≡ Some d → w.dropped ≡ None → ⊥
    pub dropped_only : (d : Dropped) → w.dropped ≡ Some d
        → (old.dropped ≡ Some d) ⊎ IsDroppedOne said cells columns (Begins level first) lid d

  pub walk_begins : (level : ℕ) (first : Option ℕ) (stops : List ℕ) (w : Walked) → stops ≡ option_to_list first → InWalk level first stops w w
  walk_begins level first stops w are = record {
    as_many = refl;
    as_many_marks = refl;
    no_later = λ most. most;
    kept = λ l stop m. m;
    begun = λ stop is. inr (subst (λ (xs : List ℕ). Contains xs stop) (ap option_to_list (sym is) ∙ sym are) (Contains-push [] stop));
    reached = λ stop c.
        record { first = first; begins = (refl, refl); count = 0; is_there = first_is first stop (subst (λ (xs : List ℕ). Contains xs stop) are c) };
    closed = λ h l stop later l_small m n. inl (h.closed l stop later l_small m n);
    recorded = λ h. h.recorded;
    noted = λ h. h.noted;
    waits_kept = λ a b f. f;
    waits_only = λ a b f. inl f;
    dropped_kept = λ d e none. (cc);
    dropped_only = λ d e. inl e;
  }
    where
      first_is : (o : Option ℕ) (stop : ℕ) → Contains (option_to_list o) stop → o ≡ Some stop
      first_is None stop c = absurd (contains_none stop c)
      first_is (Some s) stop c = elim (Contains-push_cases [] s stop c) [ inl none ↦ absurd (contains_none stop none) | inr e ↦ ap Some e ]

  -- a mark is set
  set_there : (marks : List ℕ) (n v : ℕ) → n < length marks → slice_index_or (slice_set marks n v) n 0 ≡ v
  set_there [] n v less = absurd (omega arith)
  set_there (x ∷ marks) zero v less = refl
  set_there (x ∷ marks) (suc n) v less = set_there marks n v (omega arith)

  set_elsewhere : (marks : List ℕ) (n k v : ℕ) → (n ≡ k → ⊥) → slice_index_or (slice_set marks n v) k 0 ≡ slice_index_or marks k 0
  set_elsewhere [] n k v apart = refl
  set_elsewhere (x ∷ marks) zero zero v apart = absurd (apart refl)
  set_elsewhere (x ∷ marks) zero (suc k) v apart = refl
  set_elsewhere (x ∷ marks) (suc n) zero v apart = refl
  set_elsewhere (x ∷ marks) (suc n) (suc k) v apart = set_elsewhere marks n k v (λ e. apart (ap suc e))

  set_long : (marks : List ℕ) (n v : ℕ) → length (slice_set marks n v) ≡ length marks
  set_long [] n v = refl
  set_long (x ∷ marks) zero v = refl
  set_long (x ∷ marks) (suc n) v = ap suc (set_long marks n v)

  same_or_not : (n k : ℕ) → (n ≡ k) ⊎ (n ≡ k → ⊥)
  same_or_not n k = elim (cases_lt n k) [
    | inl less ↦ inr (λ e. omega arith)
    | inr past ↦ (elim (cases_lt k n) [ inl less ↦ inr (λ e. omega arith) | inr other ↦ inl (omega arith) ])
  ]

  -- nothing is left to follow from a stop
  pub passed_over : (level : ℕ) (first : Option ℕ) (stops rest : List ℕ) (stop : ℕ) (old w : Walked) → InWalk level first stops old w
      → IsTaken stops stop rest → IsDone (length (switches cells)) lid w.marks level stop → InWalk level first rest old w
  passed_over level first stops rest stop old w h t done = record {
    as_many = h.as_many;
    as_many_marks = h.as_many_marks;
    no_later = h.no_later;
    kept = h.kept;
    begun = λ s e. (elim (h.begun s e) [ inl d ↦ inl d | inr c ↦ left s c ]);
    reached = λ s c. h.reached s (t.kept s c);
    closed = λ whole l s later l_small m n. (elim (h.closed whole l s later l_small m n) [
      | inl d ↦ inl d
      | inr e ↦ (elim (left later e.1) [
        | inl d ↦ inl (subst (λ (k : ℕ). IsDone (length (switches cells)) lid w.marks k later) (sym e.0) d)
        | inr c ↦ inr (e.0, c)
      ])
    ]);
    recorded = h.recorded;
    noted = h.noted;
    waits_kept = h.waits_kept;
    waits_only = h.waits_only;
    dropped_kept = h.dropped_kept;
    dropped_only = h.dropped_only;
  }
    where
      left : (s : ℕ) → Contains stops s → IsDone (length (switches cells)) lid w.marks level s ⊎ Contains rest s
      left s c =
          elim (t.only s c) [
            | inl r ↦ inr r
            | inr e ↦ inl (subst (λ (k : ℕ). IsDone (length (switches cells)) lid w.marks level k) (sym e) done)
          ]

  module _ (level : ℕ) (first : Option ℕ) (stops : List ℕ) (stop : ℕ) (old : Walked) (w new : Walking) (h : InWalk level first stops old w.kept)
      (t : IsTaken stops stop w.stops) (v : IsVisit said cells columns lid level stop w new) (within_marks : mark_number level stop < length w.kept.marks)
      (level_small : level < 16) where
    is_set : IsMarked lid new.kept.marks level stop
    is_set = ap (λ (xs : List ℕ). slice_index_or xs (mark_number level stop) 0) v.marks ∙ set_there w.kept.marks (mark_number level stop) lid within_marks

    elsewhere : (n : ℕ) → (mark_number level stop ≡ n → ⊥) → slice_index_or new.kept.marks n 0 ≡ slice_index_or w.kept.marks n 0
    elsewhere n apart = ap (λ (xs : List ℕ). slice_index_or xs n 0) v.marks ∙ set_elsewhere w.kept.marks (mark_number level stop) n lid apart

    still : (l : ℕ) (s : ℕ) → IsMarked lid w.kept.marks l s → IsMarked lid new.kept.marks l s
    still l s m =
        elim (same_or_not (mark_number level stop) (mark_number l s)) [
          | inl same ↦ subst (λ (n : ℕ). slice_index_or new.kept.marks n 0 ≡ lid) same is_set
          | inr apart ↦ elsewhere (mark_number l s) apart ∙ m
        ]

    still_done_there : (l : ℕ) (s : ℕ) → IsDone (length (switches cells)) lid w.kept.marks l s → IsDone (length (switches cells)) lid new.kept.marks l s
    still_done_there l s (inl m) = inl (still l s m)
    still_done_there l s (inr past) = inr past

    which : (l : ℕ) (s : ℕ) → l < 16 → IsMarked lid new.kept.marks l s → ((l ≡ level) × (s ≡ stop)) ⊎ IsMarked lid w.kept.marks l s
    which l s l_small m =
        elim (same_or_not (mark_number level stop) (mark_number l s)) [
          | inl same ↦ inl (same_mark l level s stop l_small level_small (sym same))
          | inr apart ↦ inr (sym (elsewhere (mark_number l s) apart) ∙ m)
        ]

    -- a stop that was left is done, or is left still
    left : (s : ℕ) → Contains stops s → IsDone (length (switches cells)) lid new.kept.marks level s ⊎ Contains new.stops s
    left s c =
        elim (t.only s c) [
          | inl r ↦ inr ((v.left.stops s).1 (inl r))
          | inr e ↦ inl (inl (subst (λ (k : ℕ). IsMarked lid new.kept.marks level k) (sym e) is_set))
        ]

    done_or_left : (l : ℕ) (s : ℕ) → IsDone (length (switches cells)) lid w.kept.marks l s ⊎ ((l ≡ level) × Contains stops s)
        → IsDone (length (switches cells)) lid new.kept.marks l s ⊎ ((l ≡ level) × Contains new.stops s)
    done_or_left l s (inl d) = inl (still_done_there l s d)
    done_or_left l s (inr e) =
        elim (left s e.1) [
          | inl d ↦ inl (subst (λ (k : ℕ). IsDone (length (switches cells)) lid new.kept.marks k s) (sym e.0) d)
          | inr c ↦ inr (e.0, c)
        ]

    reaches_stop : Reaches said cells columns (Begins level first) level stop
    reaches_stop = h.reached stop t.here

    pub visited : InWalk level first new.stops old new.kept
    visited = record {
      as_many = v.left.as_many ∙ h.as_many;
      as_many_marks = ap length v.marks ∙ set_long w.kept.marks (mark_number level stop) lid ∙ h.as_many_marks;
      no_later = no_later;
      kept = λ l s m. still l s (h.kept l s m);
      begun = λ s e. (elim (h.begun s e) [ inl d ↦ inl (still_done_there level s d) | inr c ↦ left s c ]);
      reached = λ s c. reached s ((v.left.stops s).0 c);
      closed = λ whole l s later l_small m n. closed whole l s later l_small n (which l s l_small m);
      recorded = λ whole l s a b l_small m t. recorded whole l s a b l_small t (which l s l_small m);
      noted = λ whole none l s out l_small m d. noted whole none l s out l_small d (which l s l_small m);
      waits_kept = λ a b f. (v.left.follows a b).1 (inl (h.waits_kept a b f));
      waits_only = λ a b f. waits a b ((v.left.follows a b).0 f);
      dropped_kept = λ d e none. h.dropped_kept d e (v.left.none_dropped none).0;
      dropped_only = λ d e. drops d (v.left.dropped d e);
    }
      where
        no_later : ((i : ℕ) → slice_index_or old.marks i 0 ≤ lid) → (i : ℕ) → slice_index_or new.kept.marks i 0 ≤ lid
        no_later most i =
            elim (same_or_not (mark_number level stop) i) [
              | inl same ↦ let here = subst (λ (n : ℕ). slice_index_or new.kept.marks n 0 ≡ lid) same is_set in omega arith
              | inr apart ↦ let e = elsewhere i apart in let before = h.no_later most i in omega arith
            ]

        reached : (s : ℕ) → Contains w.stops s ⊎ GoesAlong said cells columns (HasEdge columns (stop / 256)) level stop s
            → Reaches said cells columns (Begins level first) level s
        reached s (inl c) = h.reached s (t.kept s c)
        reached s (inr n) =
            let r = reaches_stop in
            record { first = r.first; begins = r.begins; count = suc r.count; is_there = (stop, r.is_there, n.0) }

        closed : IsWhole said cells columns lid old → (l : ℕ) (s later : ℕ) → l < 16
            → IsNextStop said cells columns l s later → ((l ≡ level) × (s ≡ stop)) ⊎ IsMarked lid w.kept.marks l s
            → IsDone (length (switches cells)) lid new.kept.marks l later ⊎ ((l ≡ level) × Contains new.stops later)
        closed whole l s later l_small n (inl e) =
            let at_level = subst (λ (k : ℕ). IsNextStop said cells columns k s later) e.0 n in
            let there = subst (λ (x : ℕ). IsNextStop said cells columns level x later) e.1 at_level in
            inr (e.0, (v.left.stops later).1 (inr (there, there.leaves)))
        closed whole l s later l_small n (inr m) =
            done_or_left l later (h.closed whole l s later l_small m n)

        recorded : IsWhole said cells columns lid old → (l : ℕ) (s : ℕ) (a b : ℕ) → l < 16
            → TakesByLane said cells columns l s a b → ((l ≡ level) × (s ≡ stop)) ⊎ IsMarked lid w.kept.marks l s → Follows new.kept.waits a b
        recorded whole l s a b l_small t (inl e) =
            let at_level = subst (λ (k : ℕ). TakesByLane said cells columns k s a b) e.0 t in
            let there = subst (λ (x : ℕ). TakesByLane said cells columns level x a b) e.1 at_level in
            (v.left.follows a b).1 (inr (there, there.leaves))
        recorded whole l s a b l_small t (inr m) = (v.left.follows a b).1 (inl (h.recorded whole l s a b l_small m t))

        noted : IsWhole said cells columns lid old → new.kept.dropped ≡ None → (l : ℕ) (s : ℕ) (out : ℕ) → l < 16
            → DropsBefore said cells columns l s out → ((l ≡ level) × (s ≡ stop)) ⊎ IsMarked lid w.kept.marks l s → ⊥
        noted whole none l s out l_small d (inl e) =
            let at_level = subst (λ (k : ℕ). DropsBefore said cells columns k s out) e.0 d in
            let there = subst (λ (x : ℕ). DropsBefore said cells columns level x out) e.1 at_level in
            (v.left.none_dropped none).1 out (there, there.leaves)
        noted whole none l s out l_small d (inr m) = h.noted whole (v.left.none_dropped none).0 l s out l_small m d

        waits : (a b : ℕ) → Follows w.kept.waits a b ⊎ TakesAlong said cells columns (HasEdge columns (stop / 256)) level stop a b
            → Follows old.waits a b ⊎ OneTakes said cells columns (Begins level first) a b
        waits a b (inl f) = h.waits_only a b f
        waits a b (inr t) = inr (record { level = level; stop = stop; reaches = reaches_stop; takes = t.0 })

        drops : (d : Dropped) → (w.kept.dropped ≡ Some d)
            ⊎ ((d.lid ≡ lid) × (d.level ≡ level) × (d.stop ≡ stop) × DropsAlong said cells columns (HasEdge columns (stop / 256)) level stop d.out)
            → (old.dropped ≡ Some d) ⊎ IsDroppedOne said cells columns (Begins level first) lid d
        drops d (inl e) = h.dropped_only d e
        drops d (inr t) =
            let at_level = subst (λ (k : ℕ). Reaches said cells columns (Begins level first) k stop) (sym t.1) reaches_stop in
            let there = subst (λ (x : ℕ). Reaches said cells columns (Begins level first) d.level x) (sym t.2) at_level in
            let of_level = subst (λ (k : ℕ). DropsBefore said cells columns k stop d.out) (sym t.1) t.3.0 in
            inr (record {
              lid_is = t.0;
              reaches = there;
              drops = subst (λ (x : ℕ). DropsBefore said cells columns d.level x d.out) (sym t.2) of_level;
            })

  -- a stop is visited, unless nothing is left to follow from there
  pub visited_if_new : (level : ℕ) (first : Option ℕ) (stops : List ℕ) (stop : ℕ) (old : Walked) (w new : Walking) → InWalk level first stops old w.kept
      → IsTaken stops stop w.stops → IsVisitIfNew said cells columns lid level stop w new → length w.kept.marks ≡ 4096 * length (switches cells) → level < 16
      → InWalk level first new.stops old new.kept
  visited_if_new level first stops stop old w new h t (inl d) many level_small =
      subst (λ (x : Walking). InWalk level first x.stops old x.kept) (sym d.1) (passed_over level first stops w.stops stop old w.kept h t d.0)
  visited_if_new level first stops stop old w new h t (inr v) many level_small =
      let below = v.0 in visited level first stops stop old w new h t v.1 (omega arith) level_small

  pub walk_ends : (level : ℕ) (first : Option ℕ) (stops : List ℕ) (old w : Walked) → level < 16 → InWalk level first stops old w → stops ≡ []
      → AreFollowed said cells columns lid (Begins level first) old w
  walk_ends level first stops old w level_small h none = record {
    as_many = h.as_many;
    as_many_marks = h.as_many_marks;
    no_later = h.no_later;
    kept = h.kept;
    small = λ l b starts. subst (λ (k : ℕ). k < 16) (sym starts.0) level_small;
    begun = begun;
    whole = λ whole. record {
      closed = λ l s later l_small m n. at_end l later (h.closed whole l s later l_small m n);
      recorded = h.recorded whole;
      noted = h.noted whole;
    };
    waits_kept = h.waits_kept;
    waits_only = h.waits_only;
    dropped_kept = h.dropped_kept;
    dropped_only = h.dropped_only;
  }
    where
      no_more : (s : ℕ) → Contains stops s → ⊥
      no_more s c = contains_none s (subst (λ (xs : List ℕ). Contains xs s) none c)

      at_end : (l : ℕ) (s : ℕ) → IsDone (length (switches cells)) lid w.marks l s ⊎ ((l ≡ level) × Contains stops s)
          → IsDone (length (switches cells)) lid w.marks l s
      at_end l s (inl d) = d
      at_end l s (inr e) = absurd (no_more s e.1)

      begun : (level_too : ℕ) (begin : Option ℕ) (s : ℕ) → Begins level first level_too begin → begin ≡ Some s
          → IsDone (length (switches cells)) lid w.marks level_too s
      begun l b s starts e =
          let there : IsDone (length (switches cells)) lid w.marks level s =
          elim (h.begun s (sym starts.1 ∙ e)) [ inl d ↦ d | inr c ↦ absurd (no_more s c) ] in
          subst (λ (k : ℕ). IsDone (length (switches cells)) lid w.marks k s) (sym starts.0) there

  done_by : (a b : Bool) (P Q : Type 0) → (a ≡ true → Q) → (b ≡ true → P) → (a || b) ≡ true → P ⊎ Q
  done_by true b P Q q p e = inr (q refl)
  done_by false b P Q q p e = inl (p e)

  -- nothing is left to follow from the stop
  pub is_done_there : (level : ℕ) (stop : ℕ) (marks : List ℕ) → is_done (length (switches cells)) lid marks level stop ≡ true
      → IsDone (length (switches cells)) lid marks level stop
  is_done_there level stop marks e =
      done_by (nat_le (256 * length (switches cells)) stop) (slice_index_or marks (mark_number level stop) 0 == lid) (IsMarked lid marks level stop)
      (256 * length (switches cells) ≤ stop) (leb-true _ _) (eqb-true _ _) e

  -- a stop from which to go on
  pub left_over : (level : ℕ) (stop : ℕ) (marks : List ℕ) → is_done (length (switches cells)) lid marks level stop ≡ false
      → stop < 256 * length (switches cells)
  left_over level stop marks e = by (nat_le (256 * length (switches cells)) stop) (slice_index_or marks (mark_number level stop) 0 == lid) refl e
    where
      by : (a b : Bool) → nat_le (256 * length (switches cells)) stop ≡ a → (a || b) ≡ false → stop < 256 * length (switches cells)
      by true b q k = absurd (cc)
      by false b q k = let less = leb-false (256 * length (switches cells)) stop q in omega arith

  -- packets of a level, if there is one
  pub followed_at : (level : ℕ) (first : Option ℕ) (o : Option ℕ) (old new : Walked) → o ≡ Some level
      → AreFollowed said cells columns lid (Begins level first) old new → AreFollowed said cells columns lid (BeginsIf o first) old new
  followed_at level first o old new is h =
      followed_as (Begins level first) (BeginsIf o first) old new h
      (λ l b a. (same_Some l level (sym a.0 ∙ is), a.1)) (λ l b a. (is ∙ ap Some (sym a.0), a.1))

  pub followed_at_none : (first : Option ℕ) (o : Option ℕ) (w : Walked) → o ≡ None → AreFollowed said cells columns lid (BeginsIf o first) w w
  followed_at_none first o w none = none_followed (BeginsIf o first) w (λ l b a. (let some = a.0 in
      cc))
