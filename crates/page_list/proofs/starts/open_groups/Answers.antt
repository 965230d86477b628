-- Zeros behind what is added.
use Rattle.std.proofs.Common.{◌≡◌, ◌≤◌, ◌-◌, ◌++◌, Bool, true, false, cond, ℕ, List, length, take, replicate, ap, ◌∙◌, arith}
use Rattle.std.proofs.lemmas.List.{take_all}
use Rattle.std.specs.Prelude.{is_ok}
use Rattle.std.specs.Vec.{vec_len}
use Rattle.page_list.specs.Starts.{raised}
use Rattle.page_list.proofs.Raised.{raised-grown}
use Rattle.page_list.proofs.starts.open_groups.Goals as goal

-- the indices stay, with them or without
same_indices : (b : Bool) (s added added' : List ℕ) (n m : ℕ) → length added ≤ n → added' ≡ cond b (take n added ++ replicate m 0) added → raised added' 0 s
    ≡ raised added 0 s
same_indices true s added added' n m more e =
    ap (λ (a : List ℕ). raised a 0 s) (e ∙ ap (λ (t : List ℕ). t ++ replicate m 0) (take_all n added more)) ∙ raised-grown added m 0 s
same_indices false s added added' n m more e = ap (λ (a : List ℕ). raised a 0 s) e

pub returns-clause-same : goal.returns-clause-same
returns-clause-same c starts =
    same_indices (is_ok c.resize.result) starts c.args.added.now.items c.resize.new.self.items c.args.groups (c.args.groups - vec_len c.args.added.now)
    (omega (arith, c.if-len-groups.false, c.len.ensures, c.args.added.now.ok.0)) c.resize.ensures.items
