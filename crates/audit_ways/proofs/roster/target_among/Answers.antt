-- The roster is searched by the node and the port.
use Rattle.std.proofs.Common.{◌≡◌, ◌∙◌, true, rules, of_calls, sym, subst}
use Rattle.std.proofs.lemmas.List.Sorted.{answers_always}
use Rattle.audit_ways.specs.SenderGroups.{IsTargetAmong, port_of}
use Rattle.audit_ways.specs.Ways.{is_adapter}
use Rattle.audit_ways.proofs.Rosters.{not_among, one_found, none_found}
use Rattle.audit_ways.proofs.roster.target_among.Goals as goal

pub returns-in_err-index : goal.returns-in_err-index
returns-in_err-index c =
    let roster = c.args.roster.now in
    let e = c.args.port.now in
    let found = c.binary_search_by_key.ensures.position port_of (answers_always _ _ _ (λ f a r g called. search (rules, of_calls))) in
    subst (IsTargetAmong roster e) (sym c.from_residual.ensures)
    (not_among roster e (none_found roster e c.binary_search_by_key.result c.requires found (sym c.ok.ensures.value ∙ c.in_err-index.was)))

pub returns : goal.returns
returns c =
    let roster = c.args.roster.now in
    let e = c.args.port.now in
    let found = c.binary_search_by_key.ensures.position port_of (answers_always _ _ _ (λ f a r g called. search (rules, of_calls))) in
    let is : is_adapter e ≡ true = search rules in (
      is,
      one_found roster e c.binary_search_by_key.result c.in_ok-index.index c.index-roster-index.result c.binary_search_by_key.ensures.bound found
          (sym c.ok.ensures.value ∙ c.in_ok-index.was),
    )
