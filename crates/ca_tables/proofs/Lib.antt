pub mod Behind
pub mod CountedItems
pub mod NumberTables
