pub mod Fault
pub mod Command
pub mod UriLines
pub mod NameLines
pub mod Input
pub mod Table
pub mod Run
pub mod View
