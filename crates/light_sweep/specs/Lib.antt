pub mod LightSweep
