mod Flows
mod Labels
mod Unknowns
mod Locals
mod Faults
mod Verdicts
mod Refusals
