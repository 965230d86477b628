-- Each field was read at its offset.
use Rattle.std.proofs.Common.{◌∙◌}
use Rattle.sa_bytes.proofs.member_record.MemberRecord.decode.Goals as goal

pub returns-clause-value : goal.returns-clause-value
returns-clause-value c = λ j. record {
  mgid_high = c.u64_at.ensures j;
  mgid_low = c.u64_at-2.ensures j;
  port_prefix = c.u64_at-3.ensures j;
  port_guid = (c.new.ensures ∙ c.u64_at-4.ensures) j;
  q_key = c.u32_at.ensures j;
  mlid = (c.new-2.ensures ∙ c.u16_at.ensures) j;
  mtu = c.u8_at.ensures j;
  traffic_class = c.u8_at-2.ensures j;
  p_key = c.u16_at-2.ensures j;
  rate = c.u8_at-3.ensures j;
  packet_life_time = c.u8_at-4.ensures j;
  sl_flow_and_hops = c.u32_at-2.ensures j;
  scope_and_state = c.u8_at-5.ensures j;
  proxy_join = c.u8_at-6.ensures j;
}
