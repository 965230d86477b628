use Rattle.std.proofs.Common.{◌≡◌, ◌+◌, ◌++◌, Bool, true, false, [], ◌∷◌, sym, ap, ◌∙◌, arith, cond, add-one}
use Rattle.std.proofs.lemmas.List.{append-nil}
use Rattle.std.specs.Prelude.{filter}
use Rattle.std.specs.List.{range_with_len}
use Rattle.fact_store.specs.View.{cells_of}
use Rattle.multicast_tree.specs.Tree.{is_tree_port, parent_in}
use Rattle.multicast_tree.proofs.ParentPorts.{filter_more}
use Rattle.multicast_tree.proofs.tree.tree_ports.Goals as goal
use Rattle.multicast_tree.proofs.tree.tree_ports.Goals.{then-is_tree_port+in_ok-push, else-is_tree_port}

pub loop-before-preserved : goal.loop-before-preserved
loop-before-preserved c =
    let k = c.loop-before.before in
    let f = is_tree_port (cells_of c.args.wires.now) (parent_in c.args.guids.now c.args.parents.now) c.args.guid in
    let ports = c.loop-before.ports.items in
    let port : c.new-port.result ≡ 1 + k = c.new-port.ensures ∙ omega arith in
    let is : c.is_tree_port.result ≡ f (1 + k) = c.is_tree_port.ensures ∙ ap f port in
    let more : (t : Bool) → f (1 + k) ≡ t → ports ++ cond t ((1 + k) ∷ []) [] ≡ filter f (range_with_len 1 (k + 1)) =
    λ t e. ap (λ xs. xs ++ cond t ((1 + k) ∷ []) []) c.loop-before.invariant ∙ sym (ap (λ n. filter f (range_with_len 1 n)) (add-one k) ∙ filter_more f 1 k t e) in
    elim c.if-is_tree_port.branch [
      | then-is_tree_port+in_ok-push w ↦
          ap (λ v. v.items) w.ports-is ∙ w.in_ok-push.ensures.items ∙ ap (λ p. ports ++ p ∷ []) port ∙ more true (sym is ∙ w.if-is_tree_port.true)
      | else-is_tree_port w ↦
          ap (λ v. v.items) w.ports-is ∙ sym (append-nil ports) ∙ more false (sym is ∙ w.if-is_tree_port.false)
    ]
