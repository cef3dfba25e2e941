mod Carries
mod Codes
mod Cuts
mod Jsons
mod Lines
