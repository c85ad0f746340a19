mod Files
mod PutLaws
pub mod SpreadLaws
