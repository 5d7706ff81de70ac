pub mod PagesApart
pub mod KeptLines
pub mod Served
pub mod PageLength
pub mod LongestPage
pub mod PageWriting
pub mod PageWays
