pub mod Access
pub mod Window
