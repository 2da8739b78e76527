pub mod Causes
pub mod Heap
pub mod Histories
pub mod Calls
pub mod Accounts
pub mod Reports
