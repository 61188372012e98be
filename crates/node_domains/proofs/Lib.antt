mod Cells
mod Filled
mod InWhole
