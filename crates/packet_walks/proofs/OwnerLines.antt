-- An end port that holds a LID has a line for it, and the end port of a line holds the line's LID.
use Rattle.std.proofs.Common.{◌≡◌, ℕ, true, false, cond, ◌||◌, List, [], ◌∷◌, refl, ap, ◌∙◌, inl, inr}
use Rattle.std.specs.Prelude.{map, filter, Contains, ◌==◌}
use Rattle.std.proofs.lemmas.Bool.{eqb-true, eq-eqb}
use Rattle.subnet_view.specs.declared.end_port.EndPort.{EndPort}
use Rattle.subnet_view.proofs.Members.{contains_here, contains_later, contains_cases, contains_none}
use Rattle.held_tables.specs.declared.held.HeldLid.{HeldLid}
use Rattle.held_tables.specs.Tables.{holders, is_owner, is_same_end, lines_of, owners_of}
use Rattle.held_tables.proofs.Once.{once_from, once_has}
use Rattle.held_tables.specs.Held.{HeldPlan}
use Rattle.packet_walks.proofs.Judged.{same_ends, same_itself}

pub record LineOf (lids : List HeldLid) (lid : ℕ) (e : EndPort) : Type 0 where
  pub line : HeldLid
  pub is_held : Contains lids line
  pub lid_is : line.lid ≡ lid
  pub port_is : line.port ≡ e

later_line : (x : HeldLid) (lids : List HeldLid) (lid : ℕ) (e : EndPort) → LineOf lids lid e → LineOf (x ∷ lids) lid e
later_line x lids lid e l = record { line = l.line; is_held = contains_later x l.line lids l.is_held; lid_is = l.lid_is; port_is = l.port_is }

lids_line : (lids : List HeldLid) (lid : ℕ) (e : EndPort) → is_owner (holders lids lid) e ≡ true → LineOf lids lid e
lids_line [] lid e h = cc
lids_line (x ∷ lids) lid e h =
    elim (x.lid == lid) as (λ t. (x.lid == lid) ≡ t
    → is_owner (map (λ y. y.port) (cond t (x ∷ filter (λ y. y.lid == lid) lids) (filter (λ y. y.lid == lid) lids))) e ≡ true → LineOf (x ∷ lids) lid e) [
      | true ↦ λ q k. (elim (is_same_end e x.port) as (λ t. is_same_end e x.port ≡ t → (t || is_owner (holders lids lid) e) ≡ true
          → LineOf (x ∷ lids) lid e) [
            | true ↦ λ s m. record { line = x; is_held = contains_here x lids; lid_is = eqb-true x.lid lid q; port_is = same_ends e x.port s }
            | false ↦ λ s m. later_line x lids lid e (lids_line lids lid e m)
          ] refl k)
      | false ↦ λ q k. later_line x lids lid e (lids_line lids lid e k)
    ] refl h

lids_owner : (lids : List HeldLid) (line : HeldLid) → Contains lids line → is_owner (holders lids line.lid) line.port ≡ true
lids_owner [] line h = absurd (contains_none line h)
lids_owner (x ∷ lids) line h =
    elim (x.lid == line.lid) as (λ t. (x.lid == line.lid) ≡ t
    → is_owner (map (λ y. y.port) (cond t (x ∷ filter (λ y. y.lid == line.lid) lids) (filter (λ y. y.lid == line.lid) lids))) line.port ≡ true) [
      | true ↦ λ q. (elim (is_same_end line.port x.port) as (λ t. is_same_end line.port x.port ≡ t → (t || is_owner (holders lids line.lid) line.port)
          ≡ true) [
            | true ↦ λ s. refl
            | false ↦ λ s. (elim (contains_cases x line lids h) [
              | inl same ↦ let is : is_same_end line.port x.port ≡ true =
                  ap (λ (y : HeldLid). is_same_end line.port y.port) same ∙ same_itself line.port in absurd (cc)
              | inr later ↦ lids_owner lids line later
            ])
          ] refl)
      | false ↦ λ q. (elim (contains_cases x line lids h) [
        | inl same ↦ let is : (x.lid == line.lid) ≡ true = eq-eqb x.lid line.lid (ap (λ (y : HeldLid). y.lid) same) in absurd (cc)
        | inr later ↦ lids_owner lids line later
      ])
    ] refl

-- a LID's owner by tables has a line there
pub owner_line : (held : HeldPlan) (lid : ℕ) (e : EndPort) → is_owner (owners_of held lid) e ≡ true → LineOf held.lids lid e
owner_line held lid e h =
    let l = lids_line (lines_of held) lid e h in
    record { line = l.line; is_held = once_from held.lids l.line l.is_held; lid_is = l.lid_is; port_is = l.port_is }

pub line_owner : (held : HeldPlan) (line : HeldLid) → Contains held.lids line → is_owner (owners_of held line.lid) line.port ≡ true
line_owner held line h = lids_owner (lines_of held) line (once_has held.lids line h)
