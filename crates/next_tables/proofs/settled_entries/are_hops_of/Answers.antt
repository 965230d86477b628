-- They agree at each index.
use Rattle.std.proofs.Common.{◌∙◌, ◌<◌, below_more, length, refl, sym, arith}
use Rattle.std.proofs.lemmas.List.{ext_get_or, get_or-map, get_or_default, length-map}
use Rattle.packet_walks.specs.declared.next_hop.NextHop.TheVariants.{To}
use Rattle.next_tables.specs.SettledEntries.{hops_of}
use Rattle.packet_walks.specs.declared.next_hop.SwitchStep.{SwitchStep}
use Rattle.next_tables.proofs.settled_entries.are_hops_of.Goals as goal

pub loop-index-preserved : goal.loop-index-preserved
loop-index-preserved c =
    let less : c.loop-index.index < length c.args.steps.now = omega arith in
    below_more _ _ c.loop-index.invariant
    (get_or_default c.args.hops.now c.loop-index.index (To 0) c.index-hops-index.result (omega arith) ∙ sym c.index-hops-index.is
    ∙ c.is_same_hop.ensures.0 c.if-not-is_same_hop.false
    ∙ sym (get_or-map (λ (x : SwitchStep). x.hop) c.args.steps.now c.loop-index.index _ (To 0) less))

pub returns : goal.returns
returns c = (
  λ t. ext_get_or (To 0) c.args.hops.now (hops_of c.args.steps.now) (c.if-hops-steps.false ∙ sym (length-map c.args.steps.now (λ (x : SwitchStep). x.hop)))
      (λ k less. c.loop-index.invariant k (omega arith)),
  λ e. refl,
)
