mod PassLaws
mod PieceLaws
mod ImageLaws
mod SectionLaws
mod StatedLaws
mod ListLaws
mod FrontLaws
mod CountLaws
