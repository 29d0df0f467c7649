mod FileLaws
mod OutputLaws
mod EndLaws
pub mod EndOnceLaws
mod RunLaws
mod DemoLaws
mod RenderLaws
mod WriteLaws
