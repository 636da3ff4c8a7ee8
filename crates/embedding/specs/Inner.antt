-- How a planner reckons, which the theorems tie to plans and splits.
pub mod Charge
