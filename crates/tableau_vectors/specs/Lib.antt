pub mod SoleFormulas
