pub mod RowTuples
