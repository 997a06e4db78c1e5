pub mod OperatorExamples
