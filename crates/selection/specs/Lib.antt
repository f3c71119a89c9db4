-- Some of a claim's sets: their columns, and tables over these.
pub mod Selections
pub mod Recolumn
