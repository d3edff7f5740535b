use Rattle.std.proofs.Common.{refl}
use Rattle.esm_gen.proofs.Runs.{has_run, has_finished}
use Rattle.esm_gen.proofs.run.run_prepared.Goals as goal

pub returns-clause-run : goal.returns-clause-run
returns-clause-run g c = λ records p.
    has_run _ _ _ records _ c.args.prepared.files c.args.prepared.input _ _ _ _ _ c.run_stream-run.result.end
    c.run_stream-run.ensures.ended c.run_stream-run.ensures.stopped refl refl refl
    (record {
      config_is = p.config;
      says_nothing = p.said;
      lines = p.lines;
      reads = p.reads;
      count = p.count;
      as_many = c.run_stream-run.ensures.as_many;
      unused = p.unused;
      functions = rw c.deref.ensures.value at c.all_keep.ensures;
    })

pub returns-clause-finished : goal.returns-clause-finished
returns-clause-finished g c = λ records p done.
    has_finished _ _ _ records _ c.args.prepared.files c.args.prepared.input _ _ _ _ _ c.run_stream-run.result.end
    c.run_stream-run.ensures.ended done refl refl refl
    (record {
      config_is = p.config;
      says_nothing = p.said;
      lines = p.lines;
      reads = p.reads;
      count = p.count;
      as_many = c.run_stream-run.ensures.as_many;
      unused = p.unused;
      functions = rw c.deref.ensures.value at c.all_keep.ensures;
    })
