-- Records in arrays, and the instance that they tell of; and what runs through a link.
pub mod Told
pub mod Flows
pub mod Inner
