mod Wide
mod Ended
mod Chosen
mod Calls
mod Outwards
