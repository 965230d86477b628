-- The first of them.
use Rattle.std.proofs.Common.{◌≡◌, take, ap, sym, ◌∙◌, subst, arith, ℕ, ◌<◌, ◌^◌}
use Rattle.std.proofs.lemmas.List.Elements.{All-take}
use Rattle.std.specs.Prelude.{All}
use Rattle.page_list.specs.Starts.{raised}
use Rattle.page_list.proofs.Raised.{raised-take}
use Rattle.page_list.proofs.starts.Starts.truncate.Goals as goal

pub invariant_of-self : goal.invariant_of-self
invariant_of-self c =
    let added = c.self.inside.added.items in
    let s = c.self.inside.starts.items in
    record {
      grouped = omega (arith, c.self.invariant.grouped, c.truncate.ensures.len, c.truncate.new.self.ok.0, c.self.inside.starts.ok.0);
      fit =
          subst (All (λ (n : ℕ). n < 2 ^ 64)) (sym (ap (raised added 0) c.truncate.ensures.items ∙ raised-take added 0 s c.args.n))
          (All-take (λ (n : ℕ). n < 2 ^ 64) c.args.n (raised added 0 s) c.self.invariant.fit);
    }

pub returns-clause-items : goal.returns-clause-items
returns-clause-items c =
    let added = c.self.inside.added.items in
    let s = c.self.inside.starts.items in
    let view : raised added 0 s ≡ c.args.self.now.items = λ i. (c.self.view_is i).items in
    ap (raised added 0) c.truncate.ensures.items ∙ raised-take added 0 s c.args.n ∙ ap (take c.args.n) view
