-- An end port more, the first that fails, and none.
use Rattle.std.proofs.Common.{sym, ap, ◌∙◌, arith, below_more}
use Rattle.std.specs.Prelude.{None, Option, not}
use Rattle.packet_walks.specs.declared.packet_end.End.{End}
use Rattle.packet_walks.specs.HopsByTables.{is_at}
use Rattle.packet_walks.proofs.Arrivals.{first_there, nowhere}
use Rattle.packet_walks.proofs.ends_by_sender.Ends.look_elsewhere.Goals as goal

pub loop-index-preserved : goal.loop-index-preserved
loop-index-preserved c = below_more _ _ c.loop-index.invariant (sym c.arrives.ensures ∙ c.if-not-arrives.false)

pub returns-then-not-arrives : goal.returns-then-not-arrives
returns-then-not-arrives c =
    let port = c.args.self.now.port in
    first_there (λ (end : Option End). not (is_at port end)) c.args.self.now.ends None c.loop-index.index (omega arith)
    (λ k less. ap not (c.loop-index.invariant k less)) (sym (ap not c.arrives.ensures) ∙ ap not c.if-not-arrives.true)

pub returns : goal.returns
returns c =
    let port = c.args.self.now.port in
    nowhere (λ (end : Option End). not (is_at port end)) c.args.self.now.ends None c.loop-index.index (omega arith)
    (λ k less. ap not (c.loop-index.invariant k less))
