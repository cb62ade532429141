mod Fronts
mod Said
