pub mod HeadLemmas
pub mod BodyLemmas
pub mod TalkLemmas
pub mod ReplyLemmas
pub mod CallLemmas
