-- A step of a packet that is followed.
use Rattle.std.proofs.Common.{◌≡◌, ℕ, suc, Bool, true, Option, sym, ap, ◌∙◌}
use Rattle.subnet_view.specs.declared.end_port.EndPort.{EndPort}
use Rattle.sa_answers.specs.Told.{Told}
use Rattle.sa_answers.specs.Way.{after_step, followed, gone_on, step_at}
use Rattle.sa_answers.specs.declared.bound.Bound.{Bound}
use Rattle.sa_answers.specs.declared.way.WayNext.TheVariants.{Ends, Goes}

module _ (told : Told) (lid : ℕ) (owner : EndPort) (at : ℕ × ℕ) (by_wire : Bool) (least : Bound) (b : Option Bound) where
  -- what is left of the steps, after one
  one_less : (n m : ℕ) → n ≡ suc m → b ≡ followed told lid owner n at by_wire least
      → b ≡ gone_on (λ into less. followed told lid owner m into true less) (after_step told owner at least (step_at told lid owner at by_wire))
  one_less n m is e = e ∙ ap (λ k. followed told lid owner k at by_wire least) is

  -- it was the last
  pub ended : (n m : ℕ) (outcome : Option Bound) → n ≡ suc m → b ≡ followed told lid owner n at by_wire least
      → after_step told owner at least (step_at told lid owner at by_wire) ≡ Ends outcome → outcome ≡ b
  ended n m outcome more e is = sym (one_less n m more e ∙ ap (gone_on (λ into less. followed told lid owner m into true less)) is)

  -- or it goes on
  pub went_on : (n m : ℕ) (into : ℕ × ℕ) (less : Bound) → n ≡ suc m → b ≡ followed told lid owner n at by_wire least
      → after_step told owner at least (step_at told lid owner at by_wire) ≡ Goes into less → b ≡ followed told lid owner m into true less
  went_on n m into less more e is = one_less n m more e ∙ ap (gone_on (λ into less. followed told lid owner m into true less)) is
