-- What the crate promises.
pub mod AnswerFault
pub mod Ends
pub mod Wishes
pub mod FrameCourse
pub mod Surprise
pub mod Heard
pub mod Frames
pub mod Hosted
pub mod AcceptFault
pub mod Accept
pub mod Lemmas
