mod AngleSteps
mod Arms
mod Candidates
mod CoeffFrame
mod CoeffPlaces
mod CoeffSteps
mod CoeffWriting
mod DeltaSteps
pub mod Effects
mod FilterArms
mod FilterSteps
pub mod Fresh
mod InterArms
mod InterSteps
mod IntraSteps
mod KindLaws
mod Marking
mod ModeArms
mod ModeSteps
mod OfCurrent
mod OneBlock
pub mod Places
mod Planes
pub mod ReadingBack
mod Ready
mod RestorationArms
mod RestorationSteps
mod Splitting
pub mod StepLaws
mod Switches
mod TransformArms
mod TransformSteps
mod VectorArms
mod VectorSteps
