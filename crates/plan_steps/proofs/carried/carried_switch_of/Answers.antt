use Rattle.std.proofs.Common.{ℕ, List, ap, sym, ◌∙◌}
use Rattle.smp_bytes.specs.Field.{bits_in, with_bits}
use Rattle.attr_codec.specs.SwitchInfo.{life_time_value, port_state_change}
use Rattle.plan_steps.specs.Carried.{one_second, or_default}
use Rattle.plan_steps.proofs.Whole.{copied_is}
use Rattle.plan_steps.proofs.carried.carried_switch_of.Goals as goal

pub returns : goal.returns
returns c =
    let read = c.decode-info.ensures.value ∙ sym (copied_is c.args.read.now (record { count = c.told-read; small = c.fits-read })) in
    let lifetime = c.or_default.ensures.value
    ∙ ap (or_default one_second) (c.life_time_value.ensures.number ∙ ap (bits_in life_time_value) c.decode-info.ensures.value) in
    c.set_port_state_change.ensures
    ∙ ap (with_bits port_state_change 1) (c.set_life_time_value.ensures
    ∙ ap (λ (n : ℕ). with_bits life_time_value n c.decode-info.result) lifetime
    ∙ ap (λ (bytes : List ℕ). with_bits life_time_value (or_default one_second (bits_in life_time_value c.args.read.now)) bytes) read)
