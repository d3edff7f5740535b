use Rattle.esm_stream_book.proofs.Readers as readers
use Rattle.esm_stream_book.proofs.lasting.items_last.Goals as goal

pub returns-clause-items : goal.returns-clause-items
returns-clause-items c = readers.items_last

pub returns-clause-shut : goal.returns-clause-shut
returns-clause-shut c = readers.shut_last
