pub mod PlanRanges
pub mod PlanTables
pub use Rattle.lft_blocks.specs.Entries
pub use Rattle.lft_blocks.specs.Lids
pub use Rattle.lft_blocks.specs.Plan
pub use Rattle.lft_blocks.specs.PlanText
pub use Rattle.lft_blocks.specs.Rule
