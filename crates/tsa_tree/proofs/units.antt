-- Of whole units.
pub mod Meet
pub mod Laws
pub mod Read
pub mod MoreWords
pub mod Examples
pub mod FunctionLaws
pub mod NamesStand
pub mod SpansLie
pub mod NodesClimb
