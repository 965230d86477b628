-- Who holds each LID, as a table that is looked up in one step.
use Rattle.std.specs.Prelude.{◌≡◌, ◌↔◌, ◌<◌, ◌==◌, ℕ, Bool, true, false, List, [], ◌∷◌, Option, None, Some, count_by}
use Rattle.std.specs.Prelude.{length, nat_lt, slice_index_or, IsTrue}
use Rattle.std.specs.List.{list_all}
use Rattle.subnet_view.specs.declared.end_port.EndPort.{EndPort}
use Rattle.held_tables.specs.declared.held.HeldLid.{HeldLid}
use Rattle.held_tables.specs.Held.{HeldPlan}
use Rattle.held_tables.specs.Tables.{holders, is_owner, is_same_end, owners_of}
use Rattle.held_tables.specs.declared.owners.Owner.{Owner}
use Rattle.held_tables.specs.declared.owners.Owner.TheVariants.{Nobody, Sole, Several}

-- the owner of a LID, given the list of end ports that hold it: nobody, one end port alone, or several
abbrev pub owner_among : List EndPort → Owner
owner_among [] = Nobody
owner_among (e ∷ []) = Sole e
owner_among (e ∷ x ∷ es) = Several

-- if exactly one end port holds a LID, this end port; otherwise None
abbrev pub sole_among : Owner → Option EndPort
sole_among Nobody = None
sole_among (Sole e) = Some e
sole_among Several = None

-- whether more than one end port holds a LID
abbrev pub is_several : Owner → Bool
is_several Nobody = false
is_several (Sole e) = false
is_several Several = true

-- the owner of a LID after `e` was added to the end ports that hold it
abbrev pub owner_more : Owner → EndPort → Owner
owner_more Nobody e = Sole e
owner_more (Sole x) e = Several
owner_more Several e = Several

-- whether each of `owners` is `port`; true if there are no owners
abbrev pub is_sole : EndPort → List EndPort → Bool
is_sole port owners = list_all (is_same_end port) owners

-- if `port` owns a LID, then all its owners are `port` exactly when the list of owners is `port` alone
abbrev pub SoleOwnersAreAlone : Type 0
SoleOwnersAreAlone =
    (held : HeldPlan) (lid : ℕ) (port : EndPort) → IsTrue (is_owner (owners_of held lid) port)
    → IsTrue (is_sole port (owners_of held lid)) ↔ (owners_of held lid ≡ port ∷ [])

-- whether more than one of `lines` is for the LID. If so, and no two lines are equal, more than one end port holds the
-- LID
abbrev pub has_several_owners : List HeldLid → ℕ → Bool
has_several_owners lines lid = nat_lt 1 (count_by (λ (line : HeldLid). line.lid == lid) lines)

-- each item of `owners` says who holds its LID according to `lines`
pub record AreOwners (lines : List HeldLid) (owners : List Owner) : Type 0 where
  pub each : (lid : ℕ) → lid < length owners → slice_index_or owners lid Several ≡ owner_among (holders lines lid)
