-- A step that is done once more.
use Rattle.std.proofs.Common.{◌≡◌, ◌∙◌, ◌+◌, ℕ, add-one, ap, sym}
use Rattle.acting_manager.specs.Acting.{Acting}
use Rattle.acting_manager.specs.Working.{repeated}

pub once_more : (n : ℕ) (step : Acting → Acting) (first before after : Acting) → before ≡ repeated n step first → after ≡ step before
    → after ≡ repeated (n + 1) step first
once_more n step first before after so_far goes = goes ∙ ap step so_far ∙ sym (ap (λ k. repeated k step first) (add-one n))
