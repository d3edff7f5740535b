use Rattle.std.specs.Prelude.{map}
use Rattle.std.specs.String.{string_bytes}
use Rattle.esm_program_life.proofs.program.esm_keeps_life.Goals as goal

pub returns-clause-said : goal.returns-clause-said
returns-clause-said g c = record { outcome = c.esm.ensures.outcome; want_of_memory = c.esm.ensures.want_of_memory; left = c.esm.ensures.left; untouched = c.esm.ensures.untouched }

pub returns-clause-keeps : goal.returns-clause-keeps
returns-clause-keeps g c = λ command life epoch spelled.
    c.command_keeps_life.ensures (map string_bytes c.args.words.now) c.args.world c.esm.result.world c.esm.result.status command life epoch
    (record { outcome = c.esm.ensures.outcome; want_of_memory = c.esm.ensures.want_of_memory; left = c.esm.ensures.left; untouched = c.esm.ensures.untouched }) spelled

pub returns-clause-whole : goal.returns-clause-whole
returns-clause-whole g c = λ command life epoch spelled.
    c.command_keeps_whole.ensures (map string_bytes c.args.words.now) c.args.world c.esm.result.world c.esm.result.status command life epoch
    (record { outcome = c.esm.ensures.outcome; want_of_memory = c.esm.ensures.want_of_memory; left = c.esm.ensures.left; untouched = c.esm.ensures.untouched }) spelled

pub returns-clause-refused : goal.returns-clause-refused
returns-clause-refused g c = λ life epoch none.
    c.refusal_keeps_life.ensures (map string_bytes c.args.words.now) c.args.world c.esm.result.world c.esm.result.status life epoch
    (record { outcome = c.esm.ensures.outcome; want_of_memory = c.esm.ensures.want_of_memory; left = c.esm.ensures.left; untouched = c.esm.ensures.untouched }) none

pub returns-clause-keeps_queue : goal.returns-clause-keeps_queue
returns-clause-keeps_queue g c = λ command fifo life epoch spelled.
    c.command_keeps_queue_life.ensures (map string_bytes c.args.words.now) c.args.world c.esm.result.world c.esm.result.status command fifo life epoch
    (record { outcome = c.esm.ensures.outcome; want_of_memory = c.esm.ensures.want_of_memory; left = c.esm.ensures.left; untouched = c.esm.ensures.untouched }) spelled

pub returns-clause-whole_queue : goal.returns-clause-whole_queue
returns-clause-whole_queue g c = λ command fifo life epoch spelled.
    c.command_keeps_queue_whole.ensures (map string_bytes c.args.words.now) c.args.world c.esm.result.world c.esm.result.status command fifo life epoch
    (record { outcome = c.esm.ensures.outcome; want_of_memory = c.esm.ensures.want_of_memory; left = c.esm.ensures.left; untouched = c.esm.ensures.untouched }) spelled

pub returns-clause-refused_queue : goal.returns-clause-refused_queue
returns-clause-refused_queue g c = λ fifo life epoch none.
    c.refusal_keeps_queue_life.ensures (map string_bytes c.args.words.now) c.args.world c.esm.result.world c.esm.result.status fifo life epoch
    (record { outcome = c.esm.ensures.outcome; want_of_memory = c.esm.ensures.want_of_memory; left = c.esm.ensures.left; untouched = c.esm.ensures.untouched }) none

pub returns-clause-runs : goal.returns-clause-runs
returns-clause-runs g c = λ command spelled.
    c.command_runs.ensures (map string_bytes c.args.words.now) c.args.world c.esm.result.world c.esm.result.status command
    (record { outcome = c.esm.ensures.outcome; want_of_memory = c.esm.ensures.want_of_memory; left = c.esm.ensures.left; untouched = c.esm.ensures.untouched }) spelled

pub returns-clause-runs_queue : goal.returns-clause-runs_queue
returns-clause-runs_queue g c = λ command fifo spelled.
    c.command_runs_queue.ensures (map string_bytes c.args.words.now) c.args.world c.esm.result.world c.esm.result.status command fifo
    (record { outcome = c.esm.ensures.outcome; want_of_memory = c.esm.ensures.want_of_memory; left = c.esm.ensures.left; untouched = c.esm.ensures.untouched }) spelled

pub returns-clause-begins : goal.returns-clause-begins
returns-clause-begins g c = λ spelled.
    c.init_begins_life.ensures (map string_bytes c.args.words.now) c.args.world c.esm.result.world c.esm.result.status
    (record { outcome = c.esm.ensures.outcome; want_of_memory = c.esm.ensures.want_of_memory; left = c.esm.ensures.left; untouched = c.esm.ensures.untouched }) spelled

pub returns-clause-begins_queue : goal.returns-clause-begins_queue
returns-clause-begins_queue g c = λ fifo spelled.
    c.init_begins_queue_life.ensures (map string_bytes c.args.words.now) c.args.world c.esm.result.world c.esm.result.status fifo
    (record { outcome = c.esm.ensures.outcome; want_of_memory = c.esm.ensures.want_of_memory; left = c.esm.ensures.left; untouched = c.esm.ensures.untouched }) spelled

pub returns-clause-migrates : goal.returns-clause-migrates
returns-clause-migrates g c = λ life epoch spelled.
    c.migrate_keeps_life.ensures (map string_bytes c.args.words.now) c.args.world c.esm.result.world c.esm.result.status life epoch
    (record { outcome = c.esm.ensures.outcome; want_of_memory = c.esm.ensures.want_of_memory; left = c.esm.ensures.left; untouched = c.esm.ensures.untouched }) spelled

pub returns-clause-migrates_queue : goal.returns-clause-migrates_queue
returns-clause-migrates_queue g c = λ fifo life epoch spelled.
    c.migrate_keeps_queue_life.ensures (map string_bytes c.args.words.now) c.args.world c.esm.result.world c.esm.result.status fifo life epoch
    (record { outcome = c.esm.ensures.outcome; want_of_memory = c.esm.ensures.want_of_memory; left = c.esm.ensures.left; untouched = c.esm.ensures.untouched }) spelled

pub returns-clause-compacts : goal.returns-clause-compacts
returns-clause-compacts g c = λ life epoch spelled.
    c.compact_rewrites_life.ensures (map string_bytes c.args.words.now) c.args.world c.esm.result.world c.esm.result.status life epoch
    (record { outcome = c.esm.ensures.outcome; want_of_memory = c.esm.ensures.want_of_memory; left = c.esm.ensures.left; untouched = c.esm.ensures.untouched }) spelled

pub returns-clause-compacts_queue : goal.returns-clause-compacts_queue
returns-clause-compacts_queue g c = λ fifo life epoch spelled.
    c.compact_rewrites_queue_life.ensures (map string_bytes c.args.words.now) c.args.world c.esm.result.world c.esm.result.status fifo life epoch
    (record { outcome = c.esm.ensures.outcome; want_of_memory = c.esm.ensures.want_of_memory; left = c.esm.ensures.left; untouched = c.esm.ensures.untouched }) spelled
