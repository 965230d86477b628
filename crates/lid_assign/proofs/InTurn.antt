-- End ports that are searched for one after the other: how claims are kept, and LIDs given.
use Rattle.std.proofs.Common.{◌≡◌, ℕ, List, [], ◌∷◌, ◌++◌, refl, sym, ap, ◌∙◌, subst, Bool, true, false, map, not, length}
use Rattle.std.specs.Prelude.{Option, None, Some, is_some, option_map, replicate}
use Rattle.subnet_view.specs.declared.end_port.EndPort.{EndPort}
use Rattle.reply_facts.specs.Known.{claim_of}
use Rattle.subnet_view.specs.Reading.{Cells}
use Rattle.subnet_view.specs.EndPort.{end_ports, ports_after}
use Rattle.lid_assign.specs.declared.hand_out.Next.{Next}
use Rattle.lid_assign.specs.Ranges.{width_of}
use Rattle.lid_assign.specs.Lids.{handed_out, is_no_room}
use Rattle.lid_assign.specs.Claims.{room, kept_claim, with_kept, kept}
use Rattle.lid_assign.specs.LidMarks.{from_on, fitting, unmarked, AreMarkedMore, AreTaken, ArePassed, NoneUnmarked, IsLeastUnmarked}
use Rattle.lid_assign.proofs.Giving.{IsGiving, giving_start, given_kept, given_open, given_none, given_all}
use Rattle.lid_assign.proofs.HandOut.{GivenLids}
use Rattle.lid_assign.proofs.Keeping.{AreClaimed, claimed_start, IsKeeping, keeping_start, keeping_more, taken_all, unmarked_is, claimed_more}
use Rattle.lid_assign.proofs.KeptClaims.{Ports}
use Rattle.lid_assign.proofs.LidLaws.{ranges_of}

-- those that come after the last one
abbrev pub left : Cells → Option (ℕ × EndPort) → List EndPort
left cells last = map (λ e. e.1) (ports_after cells last)

left_step : (cells : Cells) (last : Option (ℕ × EndPort)) (end : ℕ × EndPort) → ports_after cells last ≡ end ∷ ports_after cells (Some end) → left cells last
    ≡ end.1 ∷ left cells (Some end)
left_step cells last end e = ap (map (λ x. x.1)) e

pub none_left : (cells : Cells) (last : Option (ℕ × EndPort)) → ports_after cells last ≡ [] → left cells last ≡ []
none_left cells last e = ap (map (λ x. x.1)) e

-- keeping, where what is kept is not listed
pub record KeepsInTurn (lmc : ℕ) (cells : Cells) (last : Option (ℕ × EndPort)) (claimed taken : List Bool) : Type 0 where
  pub done : Ports
  pub keeping : IsKeeping lmc cells done (left cells last) claimed taken

pub in_turn_start : (lmc : ℕ) (cells : Cells) (claimed taken : List Bool) → claimed ≡ replicate (room cells) false → taken ≡ replicate (room cells) false
    → KeepsInTurn lmc cells None claimed taken
in_turn_start lmc cells claimed taken a b = record { done = []; keeping = keeping_start lmc cells [] (end_ports cells) claimed taken refl refl a b }

pub in_turn_more : (lmc : ℕ) (cells : Cells) (last : Option (ℕ × EndPort)) (end : ℕ
    × EndPort) (claimed taken new_claimed new_taken : List Bool) (width : ℕ) (claim lid : Option ℕ)
    → ports_after cells last ≡ end ∷ ports_after cells (Some end) → width ≡ width_of lmc end.1 → claim ≡ claim_of cells end.1.node end.1.port → lid
    ≡ unmarked claimed width claim
    → AreMarkedMore (option_map (from_on width) (fitting (length claimed) width claim)) claimed new_claimed
    → AreMarkedMore (option_map (from_on width) lid) taken new_taken
    → KeepsInTurn lmc cells last claimed taken → KeepsInTurn lmc cells (Some end) new_claimed new_taken
in_turn_more lmc cells last end claimed taken new_claimed new_taken width claim lid step w a b m t k =
    record {
      done = k.done ++ (end.1, lid) ∷ [];
      keeping = keeping_more lmc cells k.done end.1 (left cells (Some end)) claimed taken new_claimed new_taken width claim lid w a b m t
          (subst (λ (ports : List EndPort). IsKeeping lmc cells k.done ports claimed taken) (left_step cells last end step) k.keeping);
    }

pub in_turn_all : (lmc : ℕ) (cells : Cells) (last : Option (ℕ × EndPort)) (claimed taken : List Bool) → ports_after cells last ≡ []
    → KeepsInTurn lmc cells last claimed taken
    → AreTaken (room cells) (ranges_of lmc (kept lmc cells)) taken
in_turn_all lmc cells last claimed taken none k = taken_all lmc cells k.done (left cells last) claimed taken (none_left cells last none) k.keeping

-- giving, where what is given is not listed
pub record GivesInTurn (lmc : ℕ) (cells : Cells) (last : Option (ℕ × EndPort)) (claimed taken : List Bool) (next : Next) : Type 0 where
  pub prior : List EndPort
  pub given : GivenLids
  pub claims : AreClaimed lmc cells prior claimed
  pub giving : IsGiving (room cells) lmc (handed_out lmc cells) given (with_kept lmc cells prior (left cells last)) taken next

pub giving_in_turn : (lmc : ℕ) (cells : Cells) (claimed taken : List Bool) (next : Next) → claimed ≡ replicate (room cells) false
    → AreTaken (room cells) (ranges_of lmc (kept lmc cells)) taken
    → ArePassed lmc taken next → GivesInTurn lmc cells None claimed taken next
giving_in_turn lmc cells claimed taken next a t p =
    record {
      prior = [];
      given = [];
      claims = claimed_start lmc cells claimed a;
      giving =
          giving_start (room cells) lmc (kept lmc cells) [] taken next refl t p;
    }

module _ (lmc : ℕ) (cells : Cells) (last : Option (ℕ × EndPort)) (end : ℕ
    × EndPort) (claimed taken new_claimed : List Bool) (next : Next) (width : ℕ) (claim lid : Option ℕ)
    (step : ports_after cells last ≡ end ∷ ports_after cells (Some end)) (w : width ≡ width_of lmc end.1) (a : claim
    ≡ claim_of cells end.1.node end.1.port) (b : lid ≡ unmarked claimed width claim)
    (m : AreMarkedMore (option_map (from_on width) (fitting (length claimed) width claim)) claimed new_claimed)
    (g : GivesInTurn lmc cells last claimed taken next) where
  -- what the next end port keeps
  keeps_it : lid ≡ kept_claim lmc cells g.prior end.1
  keeps_it = b ∙ (λ i. unmarked claimed (w i) (a i)) ∙ unmarked_is lmc cells g.prior claimed g.claims end.1

  at_next : IsGiving (room cells) lmc (handed_out lmc cells) g.given ((end.1, lid) ∷ with_kept lmc cells (end.1 ∷ g.prior) (left cells (Some end))) taken next
  at_next =
      subst (λ (ports : Ports). IsGiving (room cells) lmc (handed_out lmc cells) g.given ports taken next)
      (ap (with_kept lmc cells g.prior) (left_step cells last end step)
      ∙ ap (λ o. (end.1, o) ∷ with_kept lmc cells (end.1 ∷ g.prior) (left cells (Some end))) (sym keeps_it)) g.giving

  now_claims : AreClaimed lmc cells (end.1 ∷ g.prior) new_claimed
  now_claims =
      claimed_more lmc cells g.prior claimed g.claims end.1 new_claimed
      (subst (λ (x : ℕ × Option ℕ). AreMarkedMore (option_map (from_on x.0) (fitting (length claimed) x.0 x.1)) claimed new_claimed) (λ i. (w i, a i)) m)

  pub gives_kept : (c : ℕ) → lid ≡ Some c → GivesInTurn lmc cells (Some end) new_claimed taken next
  gives_kept c is =
      record {
        prior = end.1 ∷ g.prior;
        given = g.given ++ (end.1, c) ∷ [];
        claims = now_claims;
        giving = given_kept (room cells) lmc (handed_out lmc cells) g.given end.1 (with_kept lmc cells (end.1 ∷ g.prior) (left cells (Some end))) taken next c
            (subst (λ (o : Option ℕ). IsGiving (room cells) lmc (handed_out lmc cells) g.given ((end.1, o)
            ∷ with_kept lmc cells (end.1 ∷ g.prior) (left cells (Some end))) taken next) is at_next);
      }

  module _ (none : lid ≡ None) where
    at_other : IsGiving (room cells) lmc (handed_out lmc cells) g.given ((end.1, None)
        ∷ with_kept lmc cells (end.1 ∷ g.prior) (left cells (Some end))) taken next
    at_other = subst (λ (o : Option ℕ). IsGiving (room cells) lmc (handed_out lmc cells) g.given ((end.1, o)
        ∷ with_kept lmc cells (end.1 ∷ g.prior) (left cells (Some end))) taken next) none at_next

    pub gives_open : (n : ℕ) (new_taken : List Bool) (then : Next) → IsLeastUnmarked taken (width_of lmc end.1) 0 n
        → AreMarkedMore (Some (from_on (width_of lmc end.1) n)) taken new_taken
        → ArePassed lmc new_taken then → GivesInTurn lmc cells (Some end) new_claimed new_taken then
    gives_open n new_taken then l t p =
        record {
          prior = end.1 ∷ g.prior;
          given = g.given ++ (end.1, n) ∷ [];
          claims = now_claims;
          giving = given_open (room cells) lmc (handed_out lmc cells) g.given end.1 (with_kept lmc cells (end.1 ∷ g.prior) (left cells (Some end))) taken next n
              new_taken then l t p at_other;
        }

    pub finds_none : NoneUnmarked taken (width_of lmc end.1) 0 (length taken) → true ≡ is_no_room lmc cells
    finds_none none_open =
        ap (λ o. not (is_some o)) (given_none (room cells) lmc (handed_out lmc cells) g.given end.1 (with_kept lmc cells (end.1
        ∷ g.prior) (left cells (Some end))) taken next none_open at_other)

pub all_given : (lmc : ℕ) (cells : Cells) (last : Option (ℕ × EndPort)) (claimed taken : List Bool) (next : Next) → ports_after cells last ≡ []
    → GivesInTurn lmc cells last claimed taken next
    → false ≡ is_no_room lmc cells
all_given lmc cells last claimed taken next none g =
    ap (λ o. not (is_some o)) (given_all (room cells) lmc (handed_out lmc cells) g.given (with_kept lmc cells g.prior (left cells last)) taken next
    (ap (with_kept lmc cells g.prior) (none_left cells last none)) g.giving)
