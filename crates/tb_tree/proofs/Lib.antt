mod Deep
mod DeepExprs
mod DeepTypes
pub mod Ends
mod Examples
mod Layers
mod TypeLayers
