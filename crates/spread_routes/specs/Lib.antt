pub mod Rule
pub mod Adapters
pub mod SwitchOrder
pub mod AdapterChoices
pub mod LeafNumbers
pub mod Spread
pub mod Exits
