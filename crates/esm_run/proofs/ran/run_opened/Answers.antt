use Rattle.std.proofs.Common.{◌∙◌, length, ap, inl, reverse, subst, sym}
use Rattle.esm_io.specs.Meanings.{disk as meaning}
use Rattle.esm_run.specs.Asks.{IsRegistryLeft}
use Rattle.esm_run.proofs.Results.{at_err, at_ok, if_ok, on_err, with_err}
use Rattle.esm_run.proofs.RunEndings.{mapping_ends, may_run, registry_left}
use Rattle.esm_run.proofs.ran.run_opened.Goals as goal

pub run_mapping-requires-clause-may_run : goal.run_mapping-requires-clause-may_run
run_mapping-requires-clause-may_run g c κs within =
    may_run (meaning g.D.Disk) c.args.words.now.which c.args.opened.registry c.in-Ok.mapping
    (at_ok _ c.read_mapping-named.result.named c.in-Ok.mapping c.in-Ok.is c.read_mapping-named.ensures.named)

pub returns-in-Ok-clause-ended : goal.returns-in-Ok-clause-ended
returns-in-Ok-clause-ended g c =
    if_ok c.run_mapping.result.end (λ e ends. ends c.args.opened.registry
    (at_ok _ c.read_mapping-named.result.named c.in-Ok.mapping c.in-Ok.is c.read_mapping-named.ensures.named)
    (registry_left _ c.args.words.now.which c.args.opened.registry c.read_mapping-named.result.registry c.read_mapping-named.ensures.only_read c.read_mapping-named.ensures.untouched)) c.run_mapping.ensures.ended

pub returns-in-Ok-clause-stopped : goal.returns-in-Ok-clause-stopped
returns-in-Ok-clause-stopped g c =
    with_err c.run_mapping.result.end (λ stopped. stopped c.args.opened.registry
    (at_ok _ c.read_mapping-named.result.named c.in-Ok.mapping c.in-Ok.is c.read_mapping-named.ensures.named)
    (registry_left _ c.args.words.now.which c.args.opened.registry c.read_mapping-named.result.registry c.read_mapping-named.ensures.only_read c.read_mapping-named.ensures.untouched)) c.run_mapping.ensures.stopped

pub returns-in-Ok-clause-registry : goal.returns-in-Ok-clause-registry
returns-in-Ok-clause-registry g c =
    rw c.run_mapping.ensures.registry
    (registry_left _ c.args.words.now.which c.args.opened.registry c.read_mapping-named.result.registry c.read_mapping-named.ensures.only_read c.read_mapping-named.ensures.untouched)

pub returns-in-Err-clause-ended : goal.returns-in-Err-clause-ended
returns-in-Err-clause-ended g c =
    let left = registry_left _ c.args.words.now.which c.args.opened.registry c.read_mapping-named.result.registry c.read_mapping-named.ensures.only_read c.read_mapping-named.ensures.untouched in
    rw (c.closed.ensures.end, c.closed.ensures.nothing)
    (if_ok c.ending_of_mapping.result (λ e tells. mapping_ends _ _ _ _ _ _ c.closed.ensures.front (record {
      untouched = record { no_trace = ap reverse c.closed.ensures.no_trace; unread = c.closed.ensures.input; uncalled = ap (λ v. v.items) c.closed.ensures.callers };
      unwritten = c.closed.ensures.unwritten;
      registry = subst (λ disk. IsRegistryLeft (meaning g.D.Disk) c.args.words.now.which c.args.opened.registry disk) (sym c.closed.ensures.registry) left;
    }) (c.closed.ensures.good c.args.opened.registry)
    c.in-Err.why e c.read_mapping-named.result.registry c.closed.ensures.registry
    (at_err _ c.read_mapping-named.result.named c.in-Err.why c.in-Err.is c.read_mapping-named.ensures.why) tells) c.ending_of_mapping.ensures)

pub returns-in-Err-clause-stopped : goal.returns-in-Err-clause-stopped
returns-in-Err-clause-stopped g c =
    let left = registry_left _ c.args.words.now.which c.args.opened.registry c.read_mapping-named.result.registry c.read_mapping-named.ensures.only_read c.read_mapping-named.ensures.untouched in
    on_err c.closed.result.end _ (inl (record {
      untouched = record { no_trace = ap reverse c.closed.ensures.no_trace; unread = c.closed.ensures.input; uncalled = ap (λ v. v.items) c.closed.ensures.callers };
      unwritten = c.closed.ensures.unwritten;
      registry = subst (λ disk. IsRegistryLeft (meaning g.D.Disk) c.args.words.now.which c.args.opened.registry disk) (sym c.closed.ensures.registry) left;
    }))

pub returns-in-Err-clause-registry : goal.returns-in-Err-clause-registry
returns-in-Err-clause-registry g c =
    rw c.closed.ensures.registry
    (registry_left _ c.args.words.now.which c.args.opened.registry c.read_mapping-named.result.registry c.read_mapping-named.ensures.only_read c.read_mapping-named.ensures.untouched)

pub returns-in-Err-clause-as_many : goal.returns-in-Err-clause-as_many
returns-in-Err-clause-as_many g c = ap (λ v. length v.items) c.closed.ensures.callers ∙ c.requires.callers
