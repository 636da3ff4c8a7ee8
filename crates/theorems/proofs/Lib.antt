-- The page to open first is Demands; Cases has the worked cases.
mod Lent
mod Planning
mod Roads
mod Copying
mod Billing
mod Editing
mod Joints
mod Surveys
pub mod Demands
pub mod Cases
