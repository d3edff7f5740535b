use Rattle.esm_stream_book.proofs.Onward.{calls_last, rests_last, runs_last, finished_last, spent_last}
use Rattle.esm_stream_book.proofs.lasting.batchers_last.Goals as goal

pub returns-clause-calls : goal.returns-clause-calls
returns-clause-calls c = calls_last c.kept_is_legal.ensures c.calls_kept.ensures c.calls_kept_over_more_records.ensures

pub returns-clause-rests : goal.returns-clause-rests
returns-clause-rests c = rests_last c.kept_is_legal.ensures c.calls_kept.ensures c.calls_kept_over_more_records.ensures

pub returns-clause-runs : goal.returns-clause-runs
returns-clause-runs c = runs_last c.kept_is_legal.ensures c.calls_kept.ensures c.calls_kept_over_more_records.ensures

pub returns-clause-finished : goal.returns-clause-finished
returns-clause-finished c = finished_last c.kept_is_legal.ensures c.calls_kept.ensures c.calls_kept_over_more_records.ensures

pub returns-clause-spent : goal.returns-clause-spent
returns-clause-spent c = spent_last
