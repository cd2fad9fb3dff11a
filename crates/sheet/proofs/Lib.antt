pub mod Items
pub mod TokenItems
pub mod Gathering
pub mod Reading
pub mod OneLine
pub mod Calls
