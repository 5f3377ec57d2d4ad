pub mod KindNear
pub mod NearLists
