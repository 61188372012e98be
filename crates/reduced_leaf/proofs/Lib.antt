mod Known
mod Same
mod Faulty
mod Adding
mod Pricing
mod Answering
mod Charging
mod OneFault
