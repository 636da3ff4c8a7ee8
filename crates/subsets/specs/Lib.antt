-- Sets, costs, trees, the weighing of one split, the order of plans and the powers of three. Nothing here knows of sheets; Inner need not be read.
pub mod Sets
pub mod Costs
pub mod Tree
pub mod Order
pub mod Figures
pub mod Powers
pub mod Inner
