pub mod LineFeeds
pub mod LineCounts
pub mod Counted
