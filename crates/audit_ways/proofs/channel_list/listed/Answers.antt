-- A channel more.
use Rattle.std.proofs.Common.{◌∙◌, ◌++◌, ◌∷◌, [], sym, ap}
use Rattle.fact_store.specs.View.{cells_of}
use Rattle.audit_ways.specs.ChannelList.{loaded_channel}
use Rattle.audit_ways.specs.Ways.{is_to_switch}
use Rattle.audit_ways.proofs.ChannelList.{none_listed, one_listed}
use Rattle.audit_ways.proofs.channel_list.listed.Goals as goal
use Rattle.audit_ways.proofs.channel_list.listed.Goals.{then-is_to_switch+in_ok-push, else-is_to_switch}

pub loop-channel-preserved : goal.loop-channel-preserved
loop-channel-preserved c =
    let cells = cells_of c.args.network.now.facts in
    let loads = c.args.loads.now in
    let n = c.loop-channel.channel in
    let tests = c.is_to_switch.ensures ∙ ap is_to_switch c.far.ensures in
    elim c.if-is_to_switch.branch [
      | then-is_to_switch+in_ok-push w ↦
          ap (λ xs. xs.items) w.found-is ∙ w.in_ok-push.ensures.items ∙ ap (λ xs. xs ++ loaded_channel loads n ∷ []) c.loop-channel.invariant
          ∙ one_listed cells loads n (sym tests ∙ w.if-is_to_switch.true)
      | else-is_to_switch w ↦
          ap (λ xs. xs.items) w.found-is ∙ c.loop-channel.invariant ∙ none_listed cells loads n (sym tests ∙ w.if-is_to_switch.false)
    ]
