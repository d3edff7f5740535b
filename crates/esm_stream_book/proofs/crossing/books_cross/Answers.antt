use denote.Param.Send.{sendable}
use Rattle.esm_stream_book.proofs.Sent.{book_send}
use Rattle.esm_stream_book.proofs.crossing.books_cross.Goals as goal

pub crosses-requires-send-T : goal.crosses-requires-send-T
crosses-requires-send-T g c κs within = search (book_send, sendable) depth 10
