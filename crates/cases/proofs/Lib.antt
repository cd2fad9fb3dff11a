mod EveryRoster
mod Expecting
