-- Who holds each LID: what one line more changes, and what the table says of a LID.
use Rattle.std.proofs.Common.{◌≡◌, ◌<◌, ℕ, Bool, List, [], ◌∷◌, ◌++◌, length, map, cond, nat_lt, replicate, refl, sym, ap, ◌∙◌, arith, inl, inr}
use Rattle.std.specs.Prelude.{count_by, filter, slice_index_or, slice_set, ◌==◌}
use Rattle.std.proofs.lemmas.Grind.{get_or-set_at}
use Rattle.std.proofs.lemmas.List.{append-nil, get_or-replicate, get_or-set_other, length-map, length-replicate, length-set, map-append}
use Rattle.std.proofs.lemmas.List.Elements.{filter-append}
use Rattle.std.proofs.lemmas.List.Sums.{length-filter}
use Rattle.std.proofs.lemmas.Bool.{cases_eq, eq-eqb, lt-ltb, ne_eqb}
use Rattle.subnet_view.specs.declared.end_port.EndPort.{EndPort}
use Rattle.held_tables.specs.declared.held.HeldLid.{HeldLid}
use Rattle.held_tables.specs.declared.owners.Owner.{Owner}
use Rattle.held_tables.specs.declared.owners.Owner.TheVariants.{Nobody, Several}
use Rattle.held_tables.specs.Owners.{AreOwners, is_several, has_several_owners, owner_among, owner_more}
use Rattle.held_tables.specs.Tables.{holders}

port_more : (es : List EndPort) (e : EndPort) → owner_among (es ++ e ∷ []) ≡ owner_more (owner_among es) e
port_more [] e = refl
port_more (x ∷ []) e = refl
port_more (x ∷ y ∷ es) e = refl

line_more : (lines : List HeldLid) (x : HeldLid) (lid : ℕ) → holders (lines ++ x ∷ []) lid ≡ holders lines lid ++ holders (x ∷ []) lid
line_more lines x lid =
    let held : HeldLid → Bool = λ y. y.lid == lid in
    ap (map (λ y. y.port)) (filter-append held lines (x ∷ [])) ∙ map-append (λ y. y.port) (filter held lines) (filter held (x ∷ []))

-- no line
pub no_owners : (owners : List Owner) (n : ℕ) → owners ≡ replicate n Nobody → AreOwners [] owners
no_owners owners n e =
    record {
      each = λ lid less. ap (λ xs. slice_index_or xs lid Several) e
          ∙ get_or-replicate n lid Nobody Several (omega (arith, ap length e, length-replicate n Nobody));
    }

holders_here : (x : HeldLid) (lid : ℕ) → lid ≡ x.lid → holders (x ∷ []) lid ≡ x.port ∷ []
holders_here x lid e = ap (λ b. map (λ y. y.port) (cond b (x ∷ []) [])) (eq-eqb x.lid lid (sym e))

holders_elsewhere : (x : HeldLid) (lid : ℕ) → (lid ≡ x.lid → ⊥) → holders (x ∷ []) lid ≡ []
holders_elsewhere x lid apart = ap (λ b. map (λ y. y.port) (cond b (x ∷ []) [])) (ne_eqb x.lid lid (λ e. apart (sym e)))

-- a line more
pub owners_more : (lines : List HeldLid) (owners new : List Owner) (x : HeldLid) → AreOwners lines owners
    → new ≡ slice_set owners x.lid (owner_more (slice_index_or owners x.lid Several) x.port) → AreOwners (lines ++ x ∷ []) new
owners_more lines owners new x h e = record { each = each }
  where
    each : (lid : ℕ) → lid < length new → slice_index_or new lid Several ≡ owner_among (holders (lines ++ x ∷ []) lid)
    each lid less =
        let more : Owner = owner_more (slice_index_or owners x.lid Several) x.port in
        let long : length new ≡ length owners = ap length e ∙ length-set owners x.lid more in
        let within : lid < length owners = omega arith in
        let stands : slice_index_or new lid Several ≡ slice_index_or (slice_set owners x.lid more) lid Several =
        ap (λ xs. slice_index_or xs lid Several) e in
        elim (cases_eq lid x.lid) [
          | inl same ↦ (
              stands ∙ get_or-set_at owners x.lid lid more Several same (omega arith)
              ∙ ap (λ owner. owner_more owner x.port) (ap (λ k. slice_index_or owners k Several) (sym same) ∙ h.each lid within)
              ∙ sym (port_more (holders lines lid) x.port)
              ∙ ap owner_among (ap (λ es. holders lines lid ++ es) (sym (holders_here x lid same)) ∙ sym (line_more lines x lid)))
          | inr apart ↦ (
              stands ∙ get_or-set_other owners x.lid lid more Several apart ∙ h.each lid within
              ∙ ap owner_among (sym (append-nil (holders lines lid)) ∙ ap (λ es. holders lines lid ++ es) (sym (holders_elsewhere x lid apart))
              ∙ sym (line_more lines x lid)))
        ]

-- as many lines are for a LID as end ports are listed for it
as_many : (lines : List HeldLid) (lid : ℕ) → count_by (λ (line : HeldLid). line.lid == lid) lines ≡ length (holders lines lid)
as_many lines lid =
    let tells : HeldLid → Bool = λ line. line.lid == lid in
    sym (length-filter tells lines) ∙ sym (length-map (filter tells lines) (λ line. line.port))

several_told : (es : List EndPort) → is_several (owner_among es) ≡ nat_lt 1 (length es)
several_told [] = refl
several_told (e ∷ []) = refl
several_told (e ∷ x ∷ es) = sym (lt-ltb 1 (length (e ∷ x ∷ es)) (omega arith))

-- several end ports hold a LID exactly if more than one line is for it
pub told_twice : (lines : List HeldLid) (owners : List Owner) (lid : ℕ) (owner : Owner) → AreOwners lines owners → lid < length owners
    → owner ≡ slice_index_or owners lid Several → is_several owner ≡ has_several_owners lines lid
told_twice lines owners lid owner h less is =
    ap is_several (is ∙ h.each lid less) ∙ several_told (holders lines lid) ∙ ap (nat_lt 1) (sym (as_many lines lid))
