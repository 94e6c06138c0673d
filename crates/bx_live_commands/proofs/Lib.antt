mod ToldAtDoor
mod Stopped
mod LineRuns
mod SaleStops
mod OpenOffices
mod ToldLive
