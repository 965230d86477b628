use Rattle.std.proofs.Common.{◌≡◌, ◌<◌, ◌+◌, ◌++◌, ◌∷◌, [], ℕ, List, Vec, Global, sym, ap, ◌∙◌, subst, arith, get_or, length, map}
use Rattle.std.proofs.lemmas.List.{get_or-map, get_or_default, length-map, map-set}
use Rattle.std.specs.Prelude.{MatchOption, None, Option, Some, slice_index_or, slice_set}
use Rattle.lft_blocks.specs.declared.attachment.Attachment.{Attachment}
use Rattle.lft_blocks.specs.TableRow.{AreLidsAt}
use Rattle.lft_blocks.proofs.RowSteps.{lid_added, lid_passed}
use Rattle.lft_blocks.proofs.table_row.lids_by_switch.Goals as goal
use Rattle.lft_blocks.proofs.table_row.lids_by_switch.Goals.{in-Some+in_ok-push, in_default}

abbrev lids_items : Vec ℕ Global → List ℕ
lids_items lids = lids.items

pub loop-lid-preserved : goal.loop-lid-preserved
loop-lid-preserved c =
    let attachments = c.args.attachments.now in
    let n = c.loop-lid.lid in
    let lists = c.loop-lid.lists in
    elim c.match-attachments-lid.branch [
      | in-Some+in_ok-push w ↦
          let attachment = w.in-Some.attachment in
          let i = attachment.switch in
          let there : slice_index_or attachments n None ≡ Some attachment = get_or_default attachments n None _ c.loop-lid-test.true ∙ w.in-Some.is in
          let below : i < c.args.switches =
          subst (λ (o : Option Attachment). MatchOption o (Unit {0}) (λ h. h.switch < c.args.switches)) there (c.requires.within n) in
          let long : i < length lists.items = omega (arith, below, c.loop-lid.invariant.all, length-map lists.items lids_items) in
          let before : w.index_mut.result.now.items ≡ get_or (map lids_items lists.items) i [] =
          ap lids_items w.index_mut.ensures.value ∙ sym (get_or-map lids_items lists.items i w.index_mut.result.now [] long) in
          let list : w.push.new.self.items ≡ get_or (map lids_items lists.items) i [] ++ n ∷ [] =
          w.in_ok-push.ensures.items ∙ (λ j. before j ++ w.new.ensures j ∷ []) in
          lid_added attachments n c.args.switches attachment (map lids_items lists.items) (map lids_items c.match-attachments-lid.lists.items) there below
          (ap (λ v. map lids_items v.items) w.lists-is ∙ map-set lids_items lists.items i w.push.new.self ∙ ap (slice_set (map lids_items lists.items) i) list)
          c.loop-lid.invariant
      | in_default w ↦
          subst (λ (v : Vec (Vec ℕ Global) Global). AreLidsAt attachments (n + 1) c.args.switches (map lids_items v.items)) (sym w.lists-is)
          (lid_passed attachments n c.args.switches (map lids_items lists.items) (get_or_default attachments n None _ c.loop-lid-test.true
          ∙ w.in_default.is) c.loop-lid.invariant)
    ]
