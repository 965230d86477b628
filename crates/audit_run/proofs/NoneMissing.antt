-- If the text gives each packet a service level, none is missing.
use Rattle.std.proofs.Common.{◌≡◌, ◌∙◌, ◌++◌, ◌&&◌, ℕ, Bool, true, false, cond, not, List, [], ◌∷◌, Option, None, Some, refl, ap, sym}
use Rattle.std.specs.Prelude.{◌/◌, ◌%◌, filter, find, is_some, map, nat_lt, slice_index}
use Rattle.std.specs.List.{flat_map}
use Rattle.std.proofs.Math.Seq.{take-nil}
use Rattle.subnet_view.specs.EndPort.{end_ports}
use Rattle.subnet_view.specs.Reading.{Cells}
use Rattle.held_tables.specs.declared.held.HeldLid.{HeldLid}
use Rattle.held_tables.specs.Held.{HeldPlan}
use Rattle.held_tables.specs.Tables.{is_owner, is_same_end, lines_of}
use Rattle.audit_counts.specs.declared.site.Site.{Site}
use Rattle.audit_counts.specs.FirstFew.{Listed, all_listed}
use Rattle.audit_counts.specs.Site.{are_adapters, are_joined, site_of}
use Rattle.lanes_file.specs.Carried.{has_level_for_all}
use Rattle.lanes_file.specs.Lanes.{LanesSaid, is_block, level_by, level_of}
use Rattle.lanes_file.specs.declared.lanes.LevelBlock.{LevelBlock}
use Rattle.audit_run.specs.declared.levels_missing.PacketPair.{PacketPair}
use Rattle.audit_run.specs.LevelsMissing.{lacks_level, missing_at, missing_for, missing_levels, pair_of}

-- none passes a test that each fails
pub none_pass : {X : Type 0} (test : X → Bool) → ((x : X) → test x ≡ false) → (xs : List X) → filter test xs ≡ []
none_pass test fails [] = refl
none_pass test fails (x ∷ xs) = ap (λ t. cond t (x ∷ filter test xs) (filter test xs)) (fails x) ∙ none_pass test fails xs

nothing_given : {X Y : Type 0} (f : X → List Y) → ((x : X) → f x ≡ []) → (xs : List X) → flat_map f xs ≡ []
nothing_given f none [] = refl
nothing_given f none (x ∷ xs) = ap (λ ys. ys ++ flat_map f xs) (none x) ∙ nothing_given f none xs

pub none_fourth : (a b c d : Bool) → d ≡ true → (a && b && c && not d) ≡ false
none_fourth true true true d e = ap not e
none_fourth true true false d e = refl
none_fourth true false c d e = refl
none_fourth false b c d e = refl

-- where there is a level for all, each packet has that or one of a block
has_level : (own : Option ℕ) (index : ℕ) (block : Option LevelBlock) → is_some own ≡ true → is_some (level_by own index block) ≡ true
has_level own index None h = h
has_level own index (Some block) h =
    let byte = slice_index block.levels index in elim (nat_lt byte 16) as (λ t. is_some (cond t (Some byte) own) ≡ true) [ true ↦ refl | false ↦ h ]

has_level_of : (said : LanesSaid) (node port lid : ℕ) → is_some said.level ≡ true → is_some (level_of said node port lid) ≡ true
has_level_of said node port lid h = has_level said.level (lid % 64) (find (is_block node port (lid / 64)) said.levels) h

module _ (said : LanesSaid) (cells : Cells) (all : has_level_for_all said ≡ true) where
  lacks_none : (line : HeldLid) (owner site : Site) → lacks_level said line owner site ≡ false
  lacks_none line owner site =
      none_fourth (are_joined site owner) (are_adapters site.port owner.port) (not (is_same_end site.port owner.port))
      (is_some (level_of said site.port.node site.port.port line.lid)) (has_level_of said site.port.node site.port.port line.lid all)

  none_for : (sites : List Site) (line : HeldLid) (owner : Site) → missing_for said sites line owner ≡ []
  none_for sites line owner = ap (map (pair_of line)) (none_pass (lacks_level said line owner) (lacks_none line owner) sites)

  none_at : (line : HeldLid) → missing_at said cells line ≡ []
  none_at line =
      let sites = map (site_of cells) (end_ports cells) in
      elim (is_owner (end_ports cells) line.port)
      as (λ t. cond t (missing_for said sites line (site_of cells line.port)) [] ≡ []) [
        | true ↦ none_for sites line (site_of cells line.port)
        | false ↦ refl
      ]

  pub none_missing : (held : HeldPlan) → missing_levels said cells held ≡ []
  none_missing held = nothing_given (missing_at said cells) none_at (lines_of held)

  pub nothing_listed : (most : ℕ) (held : HeldPlan) (few : Listed PacketPair) → few ≡ record { most = most; first = []; count = 0 }
      → few ≡ all_listed most (missing_levels said cells held)
  nothing_listed most held few e =
      e ∙ (λ i. record { most = most; first = sym (take-nil {A = PacketPair} most) i; count = 0 }) ∙ ap (all_listed most) (sym (none_missing held))
