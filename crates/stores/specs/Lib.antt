pub mod Plans
pub mod PlanLaw
pub mod Cards
pub mod CardLaw
pub mod Pockets
pub mod PocketLaw
