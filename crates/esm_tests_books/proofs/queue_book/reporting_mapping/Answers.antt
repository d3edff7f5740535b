use Rattle.esm_tests_books.proofs.Mappings.{is_reporting}
use Rattle.esm_tests_books.proofs.queue_book.reporting_mapping.Goals as goal

pub returns : goal.returns
returns c = is_reporting _ c.in_ok-config.ensures.plain
