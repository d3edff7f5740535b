use Rattle.std.proofs.Common.{◌∙◌, length, ap, inl, reverse}
use Rattle.esm_mapping.specs.declared.expected.Expected.TheVariants.{Queue}
use Rattle.esm_model.specs.Valid.{is_stream}
use Rattle.esm_run.proofs.Results.{if_ok, not_true, on_err}
use Rattle.esm_run.proofs.TextRuns.{text_unnamed}
use Rattle.esm_run.proofs.redrive_ran.run_opened.Goals as goal

pub run_mapping-requires-clause-may_run : goal.run_mapping-requires-clause-may_run
run_mapping-requires-clause-may_run g c κs within = c.in-Ok.ensures.named.1

pub run_mapping-requires-clause-kind : goal.run_mapping-requires-clause-kind
run_mapping-requires-clause-kind g c κs within = not_true (is_stream c.in-Ok.mapping.config.kind) c.in-Ok.ensures.named.0.kind

pub returns-in-Err-clause-ended : goal.returns-in-Err-clause-ended
returns-in-Err-clause-ended g c =
    rw (c.closed.ensures.end, c.closed.ensures.nothing)
    (if_ok c.ending_of_mapping.result (λ e tells. text_unnamed _ Queue c.args.words.now.config _ _ _ _ (λ text e none. inl none) _ c.closed.ensures.front (record {
      untouched = record { no_trace = ap reverse c.closed.ensures.no_trace; unread = c.closed.ensures.input; uncalled = ap (λ v. v.items) c.closed.ensures.callers };
      unwritten = c.closed.ensures.unwritten;
      registry = c.closed.ensures.registry;
    }) (c.closed.ensures.good c.args.opened.registry) c.in-Err.why e c.in-Err.ensures.why tells) c.ending_of_mapping.ensures)

pub returns-in-Err-clause-stopped : goal.returns-in-Err-clause-stopped
returns-in-Err-clause-stopped g c =
    on_err c.closed.result.end _ (inl (record {
      untouched = record { no_trace = ap reverse c.closed.ensures.no_trace; unread = c.closed.ensures.input; uncalled = ap (λ v. v.items) c.closed.ensures.callers };
      unwritten = c.closed.ensures.unwritten;
      registry = c.closed.ensures.registry;
    }))

pub returns-in-Err-clause-as_many : goal.returns-in-Err-clause-as_many
returns-in-Err-clause-as_many g c = ap (λ v. length v.items) c.closed.ensures.callers ∙ c.requires.callers
