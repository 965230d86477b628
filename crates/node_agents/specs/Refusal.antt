-- The statuses that say why a request is refused.
-- InfiniBand Architecture Specification, Volume 1: management datagrams, status field.
use Rattle.std.specs.Prelude.{ℕ}
use Rattle.smp_bytes.specs.Header.{method_not_supported, method_and_attribute_not_supported, invalid_field}
use Rattle.node_agents.specs.declared.refusal.Refusal.{Refusal}
use Rattle.node_agents.specs.declared.refusal.Refusal.TheVariants.{Method, MethodAndAttribute, InvalidField}

-- the status of the answer to a request that is refused
abbrev pub status_of : Refusal → ℕ
status_of Method = method_not_supported
status_of MethodAndAttribute = method_and_attribute_not_supported
status_of InvalidField = invalid_field
