-- `Same` says of every file that it is read as before, or was refused at kind 2; `Meeting` that the old reader gives 18 at the first kind 2, and reads every file without one; `Alike` and `Reaching` have the steps.
pub mod Alike
pub mod Reaching
pub mod Same
pub mod Meeting
