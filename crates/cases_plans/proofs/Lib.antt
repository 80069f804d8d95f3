mod GivenPlans
mod Planned
mod WholeQuery
