pub mod LaneText
pub mod LevelRow
pub mod LevelsMissing
pub mod VerdictText
pub mod AuditRun
