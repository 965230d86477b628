-- How claims are kept, end port by end port.
use Rattle.std.proofs.Common.{◌≡◌, ◌<◌, ◌≤◌, ◌+◌, ℕ, List, [], ◌∷◌, ◌++◌, refl, sym, ap, ◌∙◌, subst, arith, Bool, true, false, cond, ◌||◌, length, append-nil}
use Rattle.std.proofs.lemmas.List.{append_assoc, length-replicate, get_or-replicate}
use Rattle.std.proofs.lemmas.List.Elements.{filter_map-append}
use Rattle.std.specs.Cmp.{both_ways as same_tests}
use Rattle.std.specs.Prelude.{Option, None, Some, option_map, option_and_then, replicate, slice_index_or}
use Rattle.std.specs.Option.{option_map_or}
use Rattle.std.specs.List.{list_any, cons_option}
use Rattle.subnet_view.specs.declared.end_port.EndPort.{EndPort}
use Rattle.reply_facts.specs.Known.{claim_of}
use Rattle.subnet_view.specs.Reading.{Cells}
use Rattle.subnet_view.specs.EndPort.{end_ports}
use Rattle.subnet_view.proofs.Members.{list_any_true, list_any_at}
use Rattle.lid_assign.specs.Ranges.{width_of, Range, range_at, is_in}
use Rattle.lid_assign.specs.Claims.{room, fitting_claim, claims, if_first, kept_claim, with_kept, kept, kept_range}
use Rattle.lid_assign.specs.LidMarks.{is_marked, any_marked, from_on, is_in_some, fitting, if_unmarked, unmarked, AreMarkedMore, AreTaken}
use Rattle.lid_assign.proofs.KeptClaims.{Ports, claims_fitting, claims_at, claims_from}
use Rattle.lid_assign.proofs.LidLaws.{ranges_of}
use Rattle.lid_assign.proofs.Marking.{marked_at, at_marked}
use Rattle.lid_assign.proofs.Ranges.{some_width, in_from_test, test_from_in, meets_at, common_number}

-- an end port claims a range that fits and has the number
abbrev pub claims_number : ℕ → Cells → ℕ → EndPort → Bool
claims_number lmc cells n e = is_in_some (option_map (range_at lmc e) (fitting_claim lmc cells e)) n

-- a mark for each number below the room, which says whether one of these end ports claims it
pub record AreClaimed (lmc : ℕ) (cells : Cells) (prior : List EndPort) (marks : List Bool) : Type 0 where
  pub all : length marks ≡ room cells
  pub each : (n : ℕ) → n < room cells → is_marked marks n ≡ list_any (claims_number lmc cells n) prior

module _ (lmc : ℕ) (cells : Cells) where
  number_claimed : (n d : ℕ) (x : EndPort) → fitting_claim lmc cells x ≡ Some d → is_in (range_at lmc x d) n ≡ true → claims_number lmc cells n x ≡ true
  number_claimed n d x f e = ap (λ o. is_in_some (option_map (range_at lmc x) o) n) f ∙ e

  claimed_number : (n : ℕ) (x : EndPort) → claims_number lmc cells n x ≡ true → (d : ℕ) × (fitting_claim lmc cells x ≡ Some d)
      × (is_in (range_at lmc x d) n ≡ true)
  claimed_number n x h =
      elim (fitting_claim lmc cells x) as (λ o. fitting_claim lmc cells x ≡ o → is_in_some (option_map (range_at lmc x) o) n ≡ true
      → (d : ℕ) × (fitting_claim lmc cells x ≡ Some d) × (is_in (range_at lmc x d) n ≡ true)) [
        | None ↦ λ p e. absurd (cc)
        | Some d ↦ λ p e. (d, p, e)
      ] refl h

  module _ (prior : List EndPort) (marks : List Bool) (are : AreClaimed lmc cells prior marks) (e : EndPort) where
    -- what is claimed fits by the marks as by the room
    pub fitting_is : fitting (length marks) (width_of lmc e) (claim_of cells e.node e.port) ≡ fitting_claim lmc cells e
    fitting_is = ap (λ n. fitting n (width_of lmc e) (claim_of cells e.node e.port)) are.all

    -- a claim that fits has a mark where an earlier one meets it
    first_by_marks : (c : ℕ) → fitting_claim lmc cells e ≡ Some c → any_marked marks (range_at lmc e c) ≡ list_any (claims lmc cells (range_at lmc e c)) prior
    first_by_marks c f = same_tests (any_marked marks (range_at lmc e c)) (list_any (claims lmc cells (range_at lmc e c)) prior) to from
      where
        end : c + width_of lmc e ≤ room cells
        end = (claims_fitting lmc cells e c f).claim_fits.in_room

        to : any_marked marks (range_at lmc e c) ≡ true → list_any (claims lmc cells (range_at lmc e c)) prior ≡ true
        to m =
            let n = at_marked marks (range_at lmc e c) m in
            let x = list_any_at (claims_number lmc cells n.0) prior (sym (are.each n.0 (omega (arith, n.1.1, end))) ∙ n.2) in
            let d = claimed_number n.0 x.0 x.2 in
            list_any_true (claims lmc cells (range_at lmc e c)) prior x.0 x.1 (claims_from lmc cells (range_at lmc e c) x.0 d.0 d.1
            (meets_at (range_at lmc e c) (range_at lmc x.0 d.0) n.0 n.1 (in_from_test (range_at lmc x.0 d.0) n.0 d.2)))

        from : list_any (claims lmc cells (range_at lmc e c)) prior ≡ true → any_marked marks (range_at lmc e c) ≡ true
        from a =
            let x = list_any_at (claims lmc cells (range_at lmc e c)) prior a in
            let d = claims_at lmc cells (range_at lmc e c) x.0 x.2 in
            let n = common_number (range_at lmc e c) (range_at lmc x.0 d.0) (some_width lmc e) (some_width lmc x.0) d.2 in
            marked_at marks (range_at lmc e c) n.0 n.1.0.0 n.1.0.1 (are.each n.0 (omega (arith, n.1.0.1, end))
            ∙ list_any_true (claims_number lmc cells n.0) prior x.0 x.1 (number_claimed n.0 d.0 x.0 d.1 (test_from_in (range_at lmc x.0 d.0) n.0 n.1.1)))

    pub unmarked_is : unmarked marks (width_of lmc e) (claim_of cells e.node e.port) ≡ kept_claim lmc cells prior e
    unmarked_is =
        ap (option_and_then (if_unmarked marks (width_of lmc e))) fitting_is
        ∙ (elim (fitting_claim lmc cells e) as (λ o. fitting_claim lmc cells e ≡ o → option_and_then (if_unmarked marks (width_of lmc e)) o
        ≡ option_and_then (if_first lmc cells prior e) o) [
          | None ↦ λ p. refl
          | Some c ↦ λ p. ap (λ t. cond t None (Some c)) (first_by_marks c p)
        ] refl)

    -- and then its own claim is marked too
    pub claimed_more : (new : List Bool)
        → AreMarkedMore (option_map (from_on (width_of lmc e)) (fitting (length marks) (width_of lmc e) (claim_of cells e.node e.port))) marks new
        → AreClaimed lmc cells (e ∷ prior) new
    claimed_more new m =
        record {
          all = m.all ∙ are.all;
          each = λ n h.
              m.each n (omega (arith, h, are.all)) ∙ ap (λ o. is_in_some (option_map (range_at lmc e) o) n || is_marked marks n) fitting_is
              ∙ ap (λ t. claims_number lmc cells n e || t) (are.each n h);
        }

-- marks of what is taken -------------------------------------------------------------------

any_pushed : (p : Range → Bool) (rs : List Range) (o : Option Range) → list_any p (rs ++ cons_option o []) ≡ (option_map_or p o false || list_any p rs)
any_pushed p [] None = refl
any_pushed p [] (Some r) = refl
any_pushed p (x ∷ rs) o = ap (λ t. p x || t) (any_pushed p rs o) ∙ turned (p x) (option_map_or p o false) (list_any p rs)
  where
    turned : (a b c : Bool) → (a || (b || c)) ≡ (b || (a || c))
    turned true true c = refl
    turned true false c = refl
    turned false b c = refl

pub taken_pushed : (most lmc : ℕ) (done : Ports) (e : EndPort) (o : Option ℕ) (old new : List Bool) → AreTaken most (ranges_of lmc done) old
    → AreMarkedMore (option_map (from_on (width_of lmc e)) o) old new → AreTaken most (ranges_of lmc (done ++ (e, o) ∷ [])) new
taken_pushed most lmc done e o old new are m =
    record {
      all = m.all ∙ are.all;
      each = λ n h.
          m.each n (omega (arith, h, are.all)) ∙ ap (λ t. is_in_some (option_map (range_at lmc e) o) n || t) (are.each n h)
          ∙ sym (ap (list_any (λ r. is_in r n)) (filter_map-append (kept_range lmc) done ((e, o) ∷ []))
          ∙ any_pushed (λ r. is_in r n) (ranges_of lmc done) (option_map (range_at lmc e) o));
    }

-- end port by end port ---------------------------------------------------------------------

-- what was kept, and what is kept of the rest, are all that is kept
pub record IsKeeping (lmc : ℕ) (cells : Cells) (done : Ports) (rest : List EndPort) (claimed taken : List Bool) : Type 0 where
  pub prior : List EndPort
  pub follows : done ++ with_kept lmc cells prior rest ≡ kept lmc cells
  pub claims : AreClaimed lmc cells prior claimed
  pub takes : AreTaken (room cells) (ranges_of lmc done) taken

unset : (most : ℕ) (marks : List Bool) (n : ℕ) → marks ≡ replicate most false → n < most → is_marked marks n ≡ false
unset most marks n is h = ap (λ ms. slice_index_or ms n false) is ∙ get_or-replicate most n false false h

pub claimed_start : (lmc : ℕ) (cells : Cells) (marks : List Bool) → marks ≡ replicate (room cells) false → AreClaimed lmc cells [] marks
claimed_start lmc cells marks is = record { all = ap length is ∙ length-replicate (room cells) false; each = λ n h. unset (room cells) marks n is h }

pub keeping_start : (lmc : ℕ) (cells : Cells) (done : Ports) (rest : List EndPort) (claimed taken : List Bool) → done ≡ [] → rest ≡ end_ports cells
    → claimed ≡ replicate (room cells) false → taken ≡ replicate (room cells) false → IsKeeping lmc cells done rest claimed taken
keeping_start lmc cells done rest claimed taken d r m k =
    record {
      prior = [];
      follows = ap (λ x. x ++ with_kept lmc cells [] rest) d ∙ ap (with_kept lmc cells []) r;
      claims = claimed_start lmc cells claimed m;
      takes = record {
        all = ap length k ∙ length-replicate (room cells) false;
        each = λ n h. unset (room cells) taken n k h ∙ sym (ap (λ ports. list_any (λ r. is_in r n) (ranges_of lmc ports)) d);
      };
    }

pub keeping_more : (lmc : ℕ) (cells : Cells) (done : Ports) (e : EndPort) (rest : List EndPort) (claimed taken new_claimed new_taken : List Bool) (width : ℕ)
    (claim lid : Option ℕ)
    → width ≡ width_of lmc e → claim ≡ claim_of cells e.node e.port → lid ≡ unmarked claimed width claim
    → AreMarkedMore (option_map (from_on width) (fitting (length claimed) width claim)) claimed new_claimed
    → AreMarkedMore (option_map (from_on width) lid) taken new_taken
    → IsKeeping lmc cells done (e ∷ rest) claimed taken → IsKeeping lmc cells (done ++ (e, lid) ∷ []) rest new_claimed new_taken
keeping_more lmc cells done e rest claimed taken new_claimed new_taken width claim lid w a b m t k =
    let is : lid ≡ kept_claim lmc cells k.prior e = b ∙ (λ i. unmarked claimed (w i) (a i)) ∙ unmarked_is lmc cells k.prior claimed k.claims e in
    record {
      prior = e ∷ k.prior;
      follows = append_assoc done ((e, lid) ∷ []) (with_kept lmc cells (e ∷ k.prior) rest)
          ∙ ap (λ o. done ++ (e, o) ∷ with_kept lmc cells (e ∷ k.prior) rest) is ∙ k.follows;
      claims = claimed_more lmc cells k.prior claimed k.claims e new_claimed
          (subst (λ (x : ℕ × Option ℕ). AreMarkedMore (option_map (from_on x.0) (fitting (length claimed) x.0 x.1)) claimed new_claimed) (λ i. (w i, a i)) m);
      takes = taken_pushed (room cells) lmc done e lid taken new_taken k.takes (subst (λ (v : ℕ). AreMarkedMore (option_map (from_on v) lid) taken new_taken) w
          t);
    }

-- the end ------------------------------------------------------------------------------------

module _ (lmc : ℕ) (cells : Cells) (done : Ports) (rest : List EndPort) (claimed taken : List Bool) (none : rest
    ≡ []) (k : IsKeeping lmc cells done rest claimed taken) where
  pub kept_all : done ≡ kept lmc cells
  kept_all = sym (append-nil done) ∙ ap (λ es. done ++ with_kept lmc cells k.prior es) (sym none) ∙ k.follows

  pub taken_all : AreTaken (room cells) (ranges_of lmc (kept lmc cells)) taken
  taken_all = subst (λ (ports : Ports). AreTaken (room cells) (ranges_of lmc ports) taken) kept_all k.takes
