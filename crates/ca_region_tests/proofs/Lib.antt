pub mod NumberedItems
