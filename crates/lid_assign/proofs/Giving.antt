-- How LIDs are given, end port by end port.
use Rattle.std.proofs.Common.{◌≡◌, ◌<◌, ◌≤◌, ◌+◌, ℕ, List, [], ◌∷◌, ◌++◌, inl, inr, refl, sym, ap, ◌∙◌, subst, arith, Bool, true, false, ◌||◌, length, append-nil}
use Rattle.std.proofs.lemmas.Bool.{both_ways, cases_Bool, false_from_ne_true}
use Rattle.std.proofs.lemmas.List.{append_assoc}
use Rattle.std.specs.Prelude.{Contains, Option, None, Some, option_map, option_and_then}
use Rattle.subnet_view.specs.declared.end_port.EndPort.{EndPort}
use Rattle.subnet_view.proofs.Members.{contains_cases, list_any_true, list_any_at}
use Rattle.lid_assign.specs.declared.hand_out.Next.{Next}
use Rattle.lid_assign.specs.Ranges.{width_of, Range, range_at, meets, is_in, fits, Fits}
use Rattle.lid_assign.specs.Lids.{least_open, hand_out}
use Rattle.lid_assign.specs.LidMarks.{any_marked, from_on, AreMarkedMore, AreTaken, ArePassed, IsUnmarked, NoneUnmarked, IsLeastUnmarked}
use Rattle.lid_assign.proofs.HandOut.{GivenLids, so_many, IsBlocked, is_least_open, open_is_none}
use Rattle.lid_assign.proofs.KeptClaims.{Ports}
use Rattle.lid_assign.proofs.LidLaws.{ranges_of, among_ranges}
use Rattle.lid_assign.proofs.Marking.{at_marked, not_marked}
use Rattle.lid_assign.proofs.Passing.{unmarked_fits}
use Rattle.lid_assign.proofs.Ranges.{some_width, in_from_test, test_from_in, common_number, meets_at, test_from_fits}

-- marks that say what is taken -------------------------------------------------------------

module _ (room : ℕ) (ranges : List Range) (marks : List Bool) (are : AreTaken room ranges marks) (some : (r : Range) → Contains ranges r → 1 ≤ r.width) where
  -- where a number of a range is marked, it meets one that is taken
  met_at_mark : (r : Range) → 1 ≤ r.width → r.first + r.width ≤ room → any_marked marks r ≡ true → IsBlocked ranges r
  met_at_mark r w h e =
      let n = at_marked marks r e in
      let t = list_any_at (λ (s : Range). is_in s n.0) ranges (sym (are.each n.0 (omega (arith, n.1.1, h))) ∙ n.2) in
      (t.0, t.1, meets_at r t.0 n.0 n.1 (in_from_test t.0 n.0 t.2))

  -- where none is, it meets none
  none_met : (r : Range) → 1 ≤ r.width → r.first + r.width ≤ room → any_marked marks r ≡ false → (t : Range) → Contains ranges t → meets r t ≡ false
  none_met r w h e t there =
      false_from_ne_true _ (λ m.
      let n = common_number r t w (some t there) m in
      both_ways _ (not_marked marks r e n.0 n.1.0) (are.each n.0 (omega (arith, n.1.0.1, h))
      ∙ list_any_true (λ (s : Range). is_in s n.0) ranges t there (test_from_in t n.0 n.1.1)))

  module _ (width : ℕ) (w : 1 ≤ width) where
    fits_marks : (c : ℕ) → Fits room (so_many width c) → any_marked marks (from_on width c) ≡ false → IsUnmarked marks width c
    fits_marks c f e = record { is_fit = ap (λ n. fits n (from_on width c)) are.all ∙ test_from_fits room (so_many width c) f; is_open = e }

    blocked_before : (high : ℕ) → NoneUnmarked marks width 0 high → (m : ℕ) → m < high → Fits room (so_many width m) → IsBlocked ranges (so_many width m)
    blocked_before high none m l f =
        elim (cases_Bool (any_marked marks (from_on width m))) [
          | inl e ↦ met_at_mark (so_many width m) w f.in_room e
          | inr e ↦ absurd (none m (omega arith) l (fits_marks m f e))
        ]

    pub least_by_marks : (c : ℕ) → IsLeastUnmarked marks width 0 c → least_open room ranges width ≡ Some c
    least_by_marks c l =
        let f = unmarked_fits marks width c l.unmarked_there in
        is_least_open room ranges width w c (record {
          it_fits = record { not_0 = f.not_0; aligned = f.aligned; in_room = omega (arith, f.in_room, are.all) };
          free = none_met (so_many width c) w (omega (arith, f.in_room, are.all)) l.unmarked_there.is_open;
          none_before = blocked_before c l.none_before;
        })

    pub none_by_marks : NoneUnmarked marks width 0 (length marks) → least_open room ranges width ≡ None
    none_by_marks none =
        open_is_none room ranges width w (λ m f. blocked_before (length marks) none m (omega (arith, f.in_room, are.all, w)) f)

-- one range more
pub taken_more : (room : ℕ) (ranges : List Range) (old new : List Bool) (r : Range) → AreTaken room ranges old → AreMarkedMore (Some r) old new
    → AreTaken room (r ∷ ranges) new
taken_more room ranges old new r are m =
    record {
      all = m.all ∙ are.all;
      each = λ n h. m.each n (omega (arith, h, are.all)) ∙ ap (λ t. is_in r n || t) (are.each n h);
    }

-- end port by end port ------------------------------------------------------------------------

-- what was given, and what the rest is given, are all that is given
pub record IsGiving (room lmc : ℕ) (handed : Option GivenLids) (given : GivenLids) (rest : Ports) (marks : List Bool) (next : Next) : Type 0 where
  pub ranges : List Range
  pub follows : option_map (λ more. given ++ more) (hand_out room lmc ranges rest) ≡ handed
  pub taken : AreTaken room ranges marks
  pub passed : ArePassed lmc marks next
  pub some : (r : Range) → Contains ranges r → 1 ≤ r.width

after : (given : GivenLids) (x : EndPort × ℕ) (o : Option GivenLids) → option_map (λ more. (given ++ x ∷ []) ++ more) o
    ≡ option_map (λ more. given ++ more) (option_map (λ more. x ∷ more) o)
after given x None = refl
after given x (Some more) = ap (λ xs. Some xs) (append_assoc given (x ∷ []) more)

module _ (room lmc : ℕ) (handed : Option GivenLids) (given : GivenLids) (e : EndPort) (rest : Ports) (marks : List Bool) (next : Next) where
  -- one that keeps its claim
  pub given_kept : (c : ℕ) → IsGiving room lmc handed given ((e, Some c) ∷ rest) marks next → IsGiving room lmc handed (given ++ (e, c) ∷ []) rest marks next
  given_kept c g =
      record {
        ranges = g.ranges;
        follows = after given (e, c) (hand_out room lmc g.ranges rest) ∙ g.follows;
        taken = g.taken;
        passed = g.passed;
        some = g.some;
      }

  -- one that takes the least open number
  pub given_open : (n : ℕ) (new : List Bool) (then : Next) → IsLeastUnmarked marks (width_of lmc e) 0 n
      → AreMarkedMore (Some (from_on (width_of lmc e) n)) marks new
      → ArePassed lmc new then → IsGiving room lmc handed given ((e, None) ∷ rest) marks next → IsGiving room lmc handed (given ++ (e, n) ∷ []) rest new then
  given_open n new then l m p g =
      let least = least_by_marks room g.ranges marks g.taken g.some (width_of lmc e) (some_width lmc e) n l in
      record {
        ranges = range_at lmc e n ∷ g.ranges;
        follows = after given (e, n) (hand_out room lmc (range_at lmc e n ∷ g.ranges) rest)
            ∙ sym (ap (λ o. option_map (λ more. given
            ++ more) (option_and_then (λ c. option_map (λ more. (e, c) ∷ more) (hand_out room lmc (range_at lmc e c ∷ g.ranges) rest)) o)) least)
            ∙ g.follows;
        taken = taken_more room g.ranges marks new (range_at lmc e n) g.taken m;
        passed = p;
        some = λ r h. (elim (contains_cases (range_at lmc e n) r g.ranges h) [
          | inl i ↦ subst (λ (s : Range). 1 ≤ s.width) i (some_width lmc e)
          | inr k ↦ g.some r k
        ]);
      }

  -- one that finds none
  pub given_none : NoneUnmarked marks (width_of lmc e) 0 (length marks) → IsGiving room lmc handed given ((e, None) ∷ rest) marks next → None ≡ handed
  given_none none g =
      let least = none_by_marks room g.ranges marks g.taken g.some (width_of lmc e) (some_width lmc e) none in
      sym (ap (λ o. option_map (λ more. given
      ++ more) (option_and_then (λ c. option_map (λ more. (e, c) ∷ more) (hand_out room lmc (range_at lmc e c ∷ g.ranges) rest)) o)) least) ∙ g.follows

-- all are given
pub given_all : (room lmc : ℕ) (handed : Option GivenLids) (given : GivenLids) (rest : Ports) (marks : List Bool) (next : Next) → rest ≡ []
    → IsGiving room lmc handed given rest marks next
    → Some given ≡ handed
given_all room lmc handed given rest marks next none g =
    ap (λ xs. Some xs) (sym (append-nil given)) ∙ ap (λ ports. option_map (λ more. given ++ more) (hand_out room lmc g.ranges ports)) (sym none) ∙ g.follows

-- the start -----------------------------------------------------------------------------------

pub some_ranges : (lmc : ℕ) (ports : Ports) (r : Range) → Contains (ranges_of lmc ports) r → 1 ≤ r.width
some_ranges lmc ports r h = let x = among_ranges lmc ports r h in subst (λ (s : Range). 1 ≤ s.width) (sym x.3) (some_width lmc x.0)

same_handed : (o : Option GivenLids) → option_map (λ more. [] ++ more) o ≡ o
same_handed None = refl
same_handed (Some more) = refl

pub giving_start : (room lmc : ℕ) (keepers : Ports) (given : GivenLids) (marks : List Bool) (next : Next) → given ≡ []
    → AreTaken room (ranges_of lmc keepers) marks → ArePassed lmc marks next
    → IsGiving room lmc (hand_out room lmc (ranges_of lmc keepers) keepers) given keepers marks next
giving_start room lmc keepers given marks next none are p =
    record {
      ranges = ranges_of lmc keepers;
      follows = ap (λ g. option_map (λ more. g ++ more) (hand_out room lmc (ranges_of lmc keepers) keepers)) none
          ∙ same_handed (hand_out room lmc (ranges_of lmc keepers) keepers);
      taken = are;
      passed = p;
      some = some_ranges lmc keepers;
    }
