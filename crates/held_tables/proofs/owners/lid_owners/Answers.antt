-- A line more.
use Rattle.std.proofs.Common.{◌+◌, ◌++◌, ◌∷◌, [], List, ap, subst, sym, ◌∙◌, ◌≡◌, take}
use Rattle.std.proofs.lemmas.List.{take_more}
use Rattle.held_tables.specs.declared.held.HeldLid.{HeldLid}
use Rattle.held_tables.specs.Owners.{AreOwners}
use Rattle.held_tables.proofs.Owned.{no_owners, owners_more}
use Rattle.held_tables.proofs.owners.lid_owners.Goals as goal

pub loop-line-init : goal.loop-line-init
loop-line-init c = no_owners c.in_ok-owners.owners.items 0xC000 (c.in_ok-owners.ensures.items_if_clones_equal (λ x same. same))

pub loop-line-preserved : goal.loop-line-preserved
loop-line-preserved c =
    let lines = c.args.lines.now in
    let k = c.loop-line.line-index in
    let line = c.line-item.result in
    let more : take (k + 1) lines ≡ take k lines ++ line ∷ [] =
    take_more lines k line c.loop-line-test.true ∙ ap (λ x. take k lines ++ x ∷ []) (sym c.line-item.is) in
    subst (λ (xs : List HeldLid). AreOwners xs c.add_owner.new.owners.items) (sym more)
    (owners_more (take k lines) c.loop-line.owners.items c.add_owner.new.owners.items line c.loop-line.invariant c.add_owner.ensures)
