mod Runs
mod RunCaptured
mod Refused
mod Logged
mod RehearsalRuns
mod RehearsedWith
mod ToldRehearsals
