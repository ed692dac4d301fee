pub mod Outside
pub mod OutsideMemory
pub mod MemoryInputs
pub mod MemorySink
pub mod Files
pub mod FileInputs
pub mod WriterSink
