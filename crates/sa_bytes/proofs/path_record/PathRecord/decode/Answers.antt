-- Each field was read at its offset.
use Rattle.std.proofs.Common.{◌∙◌}
use Rattle.sa_bytes.proofs.path_record.PathRecord.decode.Goals as goal

pub returns-clause-value : goal.returns-clause-value
returns-clause-value c = λ j. record {
  service_id = c.u64_at.ensures j;
  dgid_prefix = c.u64_at-2.ensures j;
  dgid_guid = (c.new.ensures ∙ c.u64_at-3.ensures) j;
  sgid_prefix = c.u64_at-4.ensures j;
  sgid_guid = (c.new-2.ensures ∙ c.u64_at-5.ensures) j;
  dlid = (c.new-3.ensures ∙ c.u16_at.ensures) j;
  slid = (c.new-4.ensures ∙ c.u16_at-2.ensures) j;
  flow_and_hops = c.u32_at.ensures j;
  traffic_class = c.u8_at.ensures j;
  reversible_and_count = c.u8_at-2.ensures j;
  p_key = c.u16_at-3.ensures j;
  qos_class_and_sl = c.u16_at-4.ensures j;
  mtu = c.u8_at-3.ensures j;
  rate = c.u8_at-4.ensures j;
  packet_life_time = c.u8_at-5.ensures j;
  preference = c.u8_at-6.ensures j;
}
