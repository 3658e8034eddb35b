-- Lemmas on kept bytes, and on what writers are sent.
pub mod BufferFilled
pub mod BytesUnsent
pub mod ImagePieces
pub mod PieceSent
pub mod StreamSent
pub mod WriterProgress
