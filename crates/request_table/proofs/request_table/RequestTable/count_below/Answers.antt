-- The numbers rise, so one search finds the index.
use Rattle.std.proofs.lemmas.Fn.{always_returns_same}
use Rattle.std.proofs.Common.{◌≡◌, Bool, subst, rules, of_calls}
use Rattle.std.specs.Prelude.{nat_lt}
use Rattle.request_table.specs.Order.{IsIndex}
use Rattle.request_table.specs.Numbers.{Table}
use Rattle.request_table.proofs.Numbers.{numbers_part}
use Rattle.request_table.proofs.request_table.RequestTable.count_below.Goals as goal

pub returns-clause-index : goal.returns-clause-index
returns-clause-index g c =
    let test : g.row.T.Denot → Bool = λ r. nat_lt (g.T.Numbered.number r) c.args.number in
    subst (λ (v : Table g.row.T.Denot). IsIndex test v.requests c.partition_point.result) c.self.view_is
    (record {
      within = search rules;
      parts =
          c.partition_point.ensures.partitioned test
          (always_returns_same _ (λ a r. r ≡ test a.0.now) _ (λ a r f h. search (rules, of_calls)))
          (numbers_part g.T.Numbered.number c.args.number 0 c.self.inside.requests.items c.self.inside.next c.self.invariant.rising);
    })
