pub mod StatementReading
