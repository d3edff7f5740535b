use Rattle.esm_tests_books.proofs.Mappings.{is_queue}
use Rattle.esm_tests_books.proofs.queue_book.mapping.Goals as goal

pub returns-clause-is_queue : goal.returns-clause-is_queue
returns-clause-is_queue c = is_queue _ c.in_ok-config.ensures
