use Rattle.std.proofs.Common.{ℕ, List, ap, sym, ◌∙◌}
use Rattle.smp_bytes.specs.Field.{bits_in, number_in, with_bits, with_number}
use Rattle.attr_codec.specs.PortInfo.{gid_prefix, link_down_default_state, port_physical_state, client_reregister}
use Rattle.attr_codec.specs.PortInfo.{hoq_life, link_speed_enabled, link_speed_ext_enabled, link_width_enabled}
use Rattle.attr_codec.specs.PortInfo.{neighbor_mtu, subnet_timeout}
use Rattle.plan_steps.specs.Carried.{link_local_prefix, mtu_of, one_second, or_default, quarter_second}
use Rattle.plan_steps.proofs.Whole.{copied_is}
use Rattle.plan_steps.proofs.carried.carried_port_of.Goals as goal

pub returns : goal.returns
returns c =
    let own : List ℕ = c.args.own.now in
    let copy = c.decode-info.ensures.value ∙ sym (copied_is own (record { count = c.told-own; small = c.fits-own })) in
    let prefix = c.prefix_or_link_local.ensures
    ∙ ap (or_default link_local_prefix) (c.gid_prefix.ensures ∙ ap (number_in gid_prefix) c.decode-info.ensures.value) in
    let life = c.or_default-hoq_life.ensures.value ∙ ap (or_default quarter_second) c.bits.ensures.number in
    let timeout = c.or_default-timeout.ensures.value ∙ ap (or_default one_second) c.bits-2.ensures.number in
    let with_prefix = c.encode-bytes.ensures.bytes ∙ c.set_gid_prefix.ensures
    ∙ ap (λ (n : ℕ). with_number gid_prefix n c.decode-info.result) prefix
    ∙ ap (with_number gid_prefix (or_default link_local_prefix (number_in gid_prefix own))) copy in
    let with_speeds = c.with_bits-3.ensures ∙ ap (with_bits link_speed_ext_enabled 0) (c.with_bits-2.ensures
    ∙ ap (with_bits link_speed_enabled 0) (c.with_bits.ensures ∙ ap (with_bits link_width_enabled 0) with_prefix)) in
    let with_states = c.encode-bytes-2.ensures.bytes ∙ c.set_link_down_default_state.ensures
    ∙ ap (with_bits link_down_default_state 0) (c.set_port_physical_state.ensures
    ∙ ap (with_bits port_physical_state 0) (c.decode-info-2.ensures.value ∙ with_speeds)) in
    let with_mtu = c.with_bits-4.ensures ∙ ap (λ (n : ℕ). with_bits neighbor_mtu n c.encode-bytes-2.result) c.mtu_of-mtu.ensures.value
    ∙ ap (with_bits neighbor_mtu (mtu_of own c.args.far)) with_states in
    let with_life = c.with_bits-5.ensures ∙ ap (λ (n : ℕ). with_bits hoq_life n c.with_bits-4.new.bytes) life
    ∙ ap (with_bits hoq_life (or_default quarter_second (bits_in hoq_life own))) with_mtu in
    let with_timeout = c.with_bits-6.ensures ∙ ap (λ (n : ℕ). with_bits subnet_timeout n c.with_bits-5.new.bytes) timeout
    ∙ ap (with_bits subnet_timeout (or_default one_second (bits_in subnet_timeout own))) with_life in
    c.with_bits-7.ensures ∙ ap (with_bits client_reregister 0) with_timeout
