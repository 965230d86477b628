pub mod AuditText
pub mod Passing
pub mod Appendix
pub mod LineLimit
pub use Rattle.audit_counts.specs.Packets
pub use Rattle.audit_counts.specs.Site
pub use Rattle.audit_counts.specs.declared.sent_packet.SentPacket
