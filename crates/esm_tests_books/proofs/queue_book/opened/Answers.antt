use Rattle.esm_tests_books.proofs.queue_book.opened.Goals as goal

pub open-requires-clause-config : goal.open-requires-clause-config
open-requires-clause-config c = c.requires.config.config

pub open-requires-clause-patterns : goal.open-requires-clause-patterns
open-requires-clause-patterns c = rw c.requires.config.no_filters
