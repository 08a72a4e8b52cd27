mod HistoryLaws
mod MarkLaws
mod Results
mod AskLaws
mod CursorLaws
mod ArrivalLaws
