use Rattle.std.proofs.Common.{◌∙◌, length, ap, inl, inr, reverse}
use Rattle.std.specs.Prelude.{map}
use Rattle.std.specs.String.{string_bytes}
use Rattle.esm_cli.specs.declared.command.Command.TheVariants.{Ddb, Gen, Redrive, Replay, Run, Serve}
use Rattle.esm_journal_state.specs.Meaning.{history}
use Rattle.esm_run.specs.Commands.{Completes, IsLeft, redrive_words}
use Rattle.esm_run.specs.Tended.{command_of}
use Rattle.esm_run.specs.World.{devices, history as told_history, of_run, output, seen}
use Rattle.esm_run.proofs.CompleteDdb.{complete_ddb}
use Rattle.esm_run.proofs.CompleteRedrive.{complete_redrive, files_complete}
use Rattle.esm_run.proofs.CompleteRun.{complete_run}
use Rattle.esm_run.proofs.Cuts.{left_alone, stopped_alone, stopped_at, untouched_alone}
use Rattle.esm_run.proofs.FilesCommands.{files_cut, files_ended, files_left}
use Rattle.esm_run.proofs.OneCommand.{by_command}
use Rattle.esm_run.proofs.OneOutcome.{one_outcome}
use Rattle.esm_run.proofs.Receives.{receives_within}
use Rattle.esm_run.proofs.top.esm.Goals as goal

-- a command over the files

pub returns-in-Files-clause-outcome : goal.returns-in-Files-clause-outcome
returns-in-Files-clause-outcome g c = λ known.
    let t = devices g.C.Clock g.F.Caller g.D.Disk g.S.Source g.K.Sink g.L.Door g.L.Conn.Link in
    inl ((command_of c.in-Files.command), c.in-Files.ensures, files_ended t c.args.world c.tend.result.world c.in-Files.command c.tend.result.status (c.tend.ensures.outcome known))

pub returns-in-Files-clause-exact : goal.returns-in-Files-clause-exact
returns-in-Files-clause-exact g c = λ known sound other is.
    let t = devices g.C.Clock g.F.Caller g.D.Disk g.S.Source g.K.Sink g.L.Door g.L.Conn.Link in
    one_outcome t (map string_bytes c.args.words.now) c.args.world c.tend.result.world other c.tend.result.status
    (record {
      one_command = c.one_command.ensures;
      whole_goes_on = c.whole_goes_on.ensures;
      same_told = λ t u payloads. c.same_told.ensures t u (history payloads) (history payloads);
      one_answer = record {
        one_mapping = c.one_answer.ensures.one_mapping;
        no_reason = c.one_answer.ensures.no_reason;
        one_reason = c.one_answer.ensures.one_reason;
      };
      one_expected = record {
        one_mapping = c.one_expected.ensures.one_mapping;
        no_reason = c.one_expected.ensures.no_reason;
        one_reason = c.one_expected.ensures.one_reason;
      };
    }) sound is (inl ((command_of c.in-Files.command), c.in-Files.ensures, files_ended t c.args.world c.tend.result.world c.in-Files.command c.tend.result.status (c.tend.ensures.outcome known)))

pub returns-in-Files-clause-complete : goal.returns-in-Files-clause-complete
returns-in-Files-clause-complete g c = λ known none d spelled.
    let t = devices g.C.Clock g.F.Caller g.D.Disk g.S.Source g.K.Sink g.L.Door g.L.Conn.Link in
    by_command (λ d. Completes t d c.args.world c.tend.result.world c.tend.result.status) (map string_bytes c.args.words.now) (command_of c.in-Files.command) c.one_command.ensures c.in-Files.ensures
    (files_complete t c.in-Files.command c.args.world c.tend.result.world c.tend.result.status) d spelled

pub returns-in-Files-clause-bad_words : goal.returns-in-Files-clause-bad_words
returns-in-Files-clause-bad_words g c = λ bad. absurd (c.tend.ensures.good_words bad)

pub returns-in-Files-clause-spelled : goal.returns-in-Files-clause-spelled
returns-in-Files-clause-spelled g c = λ good known. ((command_of c.in-Files.command), c.in-Files.ensures)

pub returns-in-Files-clause-want_of_memory : goal.returns-in-Files-clause-want_of_memory
returns-in-Files-clause-want_of_memory g c = λ short.
    let t = devices g.C.Clock g.F.Caller g.D.Disk g.S.Source g.K.Sink g.L.Door g.L.Conn.Link in
    stopped_at t c.args.world c.tend.result.world (map string_bytes c.args.words.now) (command_of c.in-Files.command) c.one_command.ensures c.in-Files.ensures (c.tend.ensures.untold short) (files_cut t c.args.world c.tend.result.world c.in-Files.command (c.tend.ensures.compact_cut short))

pub returns-in-Files-clause-left : goal.returns-in-Files-clause-left
returns-in-Files-clause-left g c = λ d spelled.
    let t = devices g.C.Clock g.F.Caller g.D.Disk g.S.Source g.K.Sink g.L.Door g.L.Conn.Link in
    by_command (λ d. IsLeft t d c.args.world c.tend.result.world) (map string_bytes c.args.words.now) (command_of c.in-Files.command) c.one_command.ensures c.in-Files.ensures (files_left t c.args.world c.tend.result.world c.in-Files.command (record { kept = c.tend.ensures.kept; files_left = c.tend.ensures.left })) d spelled

pub returns-in-Files-clause-untouched : goal.returns-in-Files-clause-untouched
returns-in-Files-clause-untouched g c = λ none. absurd (none (command_of c.in-Files.command) c.in-Files.ensures)

pub returns-in-Files-clause-as_many : goal.returns-in-Files-clause-as_many
returns-in-Files-clause-as_many g c = ap (λ w. length w.callers.items) c.tend.ensures.kept ∙ c.requires.callers

pub returns-in-Files-clause-clock : goal.returns-in-Files-clause-clock
returns-in-Files-clause-clock g c = ap (λ w. w.clock) c.tend.ensures.kept

pub returns-in-Files-clause-door : goal.returns-in-Files-clause-door
returns-in-Files-clause-door g c = λ none. ap (λ w. w.door) c.tend.ensures.kept

-- `serve`

pub returns-in-Serve-clause-outcome : goal.returns-in-Serve-clause-outcome
returns-in-Serve-clause-outcome g c = λ known.
    inl ((Serve c.in-Serve.requests), c.in-Serve.ensures, c.serve.ensures.outcome known)

pub returns-in-Serve-clause-exact : goal.returns-in-Serve-clause-exact
returns-in-Serve-clause-exact g c = λ known sound other is.
    let t = devices g.C.Clock g.F.Caller g.D.Disk g.S.Source g.K.Sink g.L.Door g.L.Conn.Link in
    one_outcome t (map string_bytes c.args.words.now) c.args.world c.serve.result.world other c.serve.result.status
    (record {
      one_command = c.one_command.ensures;
      whole_goes_on = c.whole_goes_on.ensures;
      same_told = λ t u payloads. c.same_told.ensures t u (history payloads) (history payloads);
      one_answer = record {
        one_mapping = c.one_answer.ensures.one_mapping;
        no_reason = c.one_answer.ensures.no_reason;
        one_reason = c.one_answer.ensures.one_reason;
      };
      one_expected = record {
        one_mapping = c.one_expected.ensures.one_mapping;
        no_reason = c.one_expected.ensures.no_reason;
        one_reason = c.one_expected.ensures.one_reason;
      };
    }) sound is (inl ((Serve c.in-Serve.requests), c.in-Serve.ensures, c.serve.ensures.outcome known))

pub returns-in-Serve-clause-complete : goal.returns-in-Serve-clause-complete
returns-in-Serve-clause-complete g c = λ known none d spelled.
    let t = devices g.C.Clock g.F.Caller g.D.Disk g.S.Source g.K.Sink g.L.Door g.L.Conn.Link in
    by_command (λ d. Completes t d c.args.world c.serve.result.world c.serve.result.status) (map string_bytes c.args.words.now) (Serve c.in-Serve.requests) c.one_command.ensures c.in-Serve.ensures
    tt d spelled

pub returns-in-Serve-clause-bad_words : goal.returns-in-Serve-clause-bad_words
returns-in-Serve-clause-bad_words g c = λ bad. absurd (c.serve.ensures.good_words bad)

pub returns-in-Serve-clause-spelled : goal.returns-in-Serve-clause-spelled
returns-in-Serve-clause-spelled g c = λ good known. ((Serve c.in-Serve.requests), c.in-Serve.ensures)

pub returns-in-Serve-clause-want_of_memory : goal.returns-in-Serve-clause-want_of_memory
returns-in-Serve-clause-want_of_memory g c = λ short.
    let t = devices g.C.Clock g.F.Caller g.D.Disk g.S.Source g.K.Sink g.L.Door g.L.Conn.Link in
    stopped_at t c.args.world c.serve.result.world (map string_bytes c.args.words.now) (Serve c.in-Serve.requests) c.one_command.ensures c.in-Serve.ensures (c.serve.ensures.untold short) (c.serve.ensures.want_of_memory short)

pub returns-in-Serve-clause-left : goal.returns-in-Serve-clause-left
returns-in-Serve-clause-left g c = λ d spelled.
    let t = devices g.C.Clock g.F.Caller g.D.Disk g.S.Source g.K.Sink g.L.Door g.L.Conn.Link in
    by_command (λ d. IsLeft t d c.args.world c.serve.result.world) (map string_bytes c.args.words.now) (Serve c.in-Serve.requests) c.one_command.ensures c.in-Serve.ensures (c.serve.ensures.kept) d spelled

pub returns-in-Serve-clause-untouched : goal.returns-in-Serve-clause-untouched
returns-in-Serve-clause-untouched g c = λ none. absurd (none (Serve c.in-Serve.requests) c.in-Serve.ensures)

pub returns-in-Serve-clause-as_many : goal.returns-in-Serve-clause-as_many
returns-in-Serve-clause-as_many g c = ap (λ w. length w.callers.items) c.serve.ensures.kept ∙ c.requires.callers

pub returns-in-Serve-clause-clock : goal.returns-in-Serve-clause-clock
returns-in-Serve-clause-clock g c = ap (λ w. w.clock) c.serve.ensures.kept

pub returns-in-Serve-clause-door : goal.returns-in-Serve-clause-door
returns-in-Serve-clause-door g c = λ none. absurd (none c.in-Serve.requests c.in-Serve.ensures)

-- `gen`

pub returns-in-Gen-clause-outcome : goal.returns-in-Gen-clause-outcome
returns-in-Gen-clause-outcome g c = λ known.
    inl ((Gen c.in-Gen.records), c.in-Gen.ensures, c.generate.ensures.outcome known)

pub returns-in-Gen-clause-exact : goal.returns-in-Gen-clause-exact
returns-in-Gen-clause-exact g c = λ known sound other is.
    let t = devices g.C.Clock g.F.Caller g.D.Disk g.S.Source g.K.Sink g.L.Door g.L.Conn.Link in
    one_outcome t (map string_bytes c.args.words.now) c.args.world c.generate.result.world other c.generate.result.status
    (record {
      one_command = c.one_command.ensures;
      whole_goes_on = c.whole_goes_on.ensures;
      same_told = λ t u payloads. c.same_told.ensures t u (history payloads) (history payloads);
      one_answer = record {
        one_mapping = c.one_answer.ensures.one_mapping;
        no_reason = c.one_answer.ensures.no_reason;
        one_reason = c.one_answer.ensures.one_reason;
      };
      one_expected = record {
        one_mapping = c.one_expected.ensures.one_mapping;
        no_reason = c.one_expected.ensures.no_reason;
        one_reason = c.one_expected.ensures.one_reason;
      };
    }) sound is (inl ((Gen c.in-Gen.records), c.in-Gen.ensures, c.generate.ensures.outcome known))

pub returns-in-Gen-clause-complete : goal.returns-in-Gen-clause-complete
returns-in-Gen-clause-complete g c = λ known none d spelled.
    let t = devices g.C.Clock g.F.Caller g.D.Disk g.S.Source g.K.Sink g.L.Door g.L.Conn.Link in
    by_command (λ d. Completes t d c.args.world c.generate.result.world c.generate.result.status) (map string_bytes c.args.words.now) (Gen c.in-Gen.records) c.one_command.ensures c.in-Gen.ensures
    tt d spelled

pub returns-in-Gen-clause-bad_words : goal.returns-in-Gen-clause-bad_words
returns-in-Gen-clause-bad_words g c = λ bad. absurd (c.generate.ensures.good_words bad)

pub returns-in-Gen-clause-spelled : goal.returns-in-Gen-clause-spelled
returns-in-Gen-clause-spelled g c = λ good known. ((Gen c.in-Gen.records), c.in-Gen.ensures)

pub returns-in-Gen-clause-want_of_memory : goal.returns-in-Gen-clause-want_of_memory
returns-in-Gen-clause-want_of_memory g c = λ short.
    let t = devices g.C.Clock g.F.Caller g.D.Disk g.S.Source g.K.Sink g.L.Door g.L.Conn.Link in
    stopped_at t c.args.world c.generate.result.world (map string_bytes c.args.words.now) (Gen c.in-Gen.records) c.one_command.ensures c.in-Gen.ensures (c.generate.ensures.untold short) (inr (c.generate.ensures.want_of_memory short))

pub returns-in-Gen-clause-left : goal.returns-in-Gen-clause-left
returns-in-Gen-clause-left g c = λ d spelled.
    let t = devices g.C.Clock g.F.Caller g.D.Disk g.S.Source g.K.Sink g.L.Door g.L.Conn.Link in
    by_command (λ d. IsLeft t d c.args.world c.generate.result.world) (map string_bytes c.args.words.now) (Gen c.in-Gen.records) c.one_command.ensures c.in-Gen.ensures (c.generate.ensures.kept) d spelled

pub returns-in-Gen-clause-untouched : goal.returns-in-Gen-clause-untouched
returns-in-Gen-clause-untouched g c = λ none. absurd (none (Gen c.in-Gen.records) c.in-Gen.ensures)

pub returns-in-Gen-clause-as_many : goal.returns-in-Gen-clause-as_many
returns-in-Gen-clause-as_many g c = ap (λ w. length w.callers.items) c.generate.ensures.kept ∙ c.requires.callers

pub returns-in-Gen-clause-clock : goal.returns-in-Gen-clause-clock
returns-in-Gen-clause-clock g c = ap (λ w. w.clock) c.generate.ensures.kept

pub returns-in-Gen-clause-door : goal.returns-in-Gen-clause-door
returns-in-Gen-clause-door g c = λ none. ap (λ w. w.door) c.generate.ensures.kept

-- `run`

pub returns-in-Run-clause-outcome : goal.returns-in-Run-clause-outcome
returns-in-Run-clause-outcome g c = λ known.
    inl ((Run c.in-Run.options), c.in-Run.ensures, c.run.ensures.outcome known)

pub returns-in-Run-clause-exact : goal.returns-in-Run-clause-exact
returns-in-Run-clause-exact g c = λ known sound other is.
    let t = devices g.C.Clock g.F.Caller g.D.Disk g.S.Source g.K.Sink g.L.Door g.L.Conn.Link in
    one_outcome t (map string_bytes c.args.words.now) c.args.world c.run.result.world other c.run.result.status
    (record {
      one_command = c.one_command.ensures;
      whole_goes_on = c.whole_goes_on.ensures;
      same_told = λ t u payloads. c.same_told.ensures t u (history payloads) (history payloads);
      one_answer = record {
        one_mapping = c.one_answer.ensures.one_mapping;
        no_reason = c.one_answer.ensures.no_reason;
        one_reason = c.one_answer.ensures.one_reason;
      };
      one_expected = record {
        one_mapping = c.one_expected.ensures.one_mapping;
        no_reason = c.one_expected.ensures.no_reason;
        one_reason = c.one_expected.ensures.one_reason;
      };
    }) sound is (inl ((Run c.in-Run.options), c.in-Run.ensures, c.run.ensures.outcome known))

pub returns-in-Run-clause-complete : goal.returns-in-Run-clause-complete
returns-in-Run-clause-complete g c = λ known none d spelled.
    let t = devices g.C.Clock g.F.Caller g.D.Disk g.S.Source g.K.Sink g.L.Door g.L.Conn.Link in
    by_command (λ d. Completes t d c.args.world c.run.result.world c.run.result.status) (map string_bytes c.args.words.now) (Run c.in-Run.options) c.one_command.ensures c.in-Run.ensures
    (complete_run (of_run t) c.in-Run.options (output t c.args.world c.run.result.world) (told_history c.run.result.world) (seen c.args.world) (seen c.run.result.world) c.run.result.status
    (record {
      one_command = c.one_command.ensures;
      whole_goes_on = c.whole_goes_on.ensures;
      same_told = λ t u payloads. c.same_told.ensures t u (history payloads) (history payloads);
      one_answer = record {
        one_mapping = c.one_answer.ensures.one_mapping;
        no_reason = c.one_answer.ensures.no_reason;
        one_reason = c.one_answer.ensures.one_reason;
      };
      one_expected = record {
        one_mapping = c.one_expected.ensures.one_mapping;
        no_reason = c.one_expected.ensures.no_reason;
        one_reason = c.one_expected.ensures.one_reason;
      };
    }) c.bound_is_not_reached.ensures (none.command (Run c.in-Run.options) c.in-Run.ensures) none.output_told (c.run.ensures.outcome known)) d spelled

pub returns-in-Run-clause-bad_words : goal.returns-in-Run-clause-bad_words
returns-in-Run-clause-bad_words g c = λ bad. absurd (c.run.ensures.good_words bad)

pub returns-in-Run-clause-spelled : goal.returns-in-Run-clause-spelled
returns-in-Run-clause-spelled g c = λ good known. ((Run c.in-Run.options), c.in-Run.ensures)

pub returns-in-Run-clause-want_of_memory : goal.returns-in-Run-clause-want_of_memory
returns-in-Run-clause-want_of_memory g c = λ short.
    let t = devices g.C.Clock g.F.Caller g.D.Disk g.S.Source g.K.Sink g.L.Door g.L.Conn.Link in
    stopped_at t c.args.world c.run.result.world (map string_bytes c.args.words.now) (Run c.in-Run.options) c.one_command.ensures c.in-Run.ensures (c.run.ensures.untold short) (c.run.ensures.want_of_memory short)

pub returns-in-Run-clause-left : goal.returns-in-Run-clause-left
returns-in-Run-clause-left g c = λ d spelled.
    let t = devices g.C.Clock g.F.Caller g.D.Disk g.S.Source g.K.Sink g.L.Door g.L.Conn.Link in
    by_command (λ d. IsLeft t d c.args.world c.run.result.world) (map string_bytes c.args.words.now) (Run c.in-Run.options) c.one_command.ensures c.in-Run.ensures (c.run.ensures.registry) d spelled

pub returns-in-Run-clause-untouched : goal.returns-in-Run-clause-untouched
returns-in-Run-clause-untouched g c = λ none. absurd (none (Run c.in-Run.options) c.in-Run.ensures)

pub returns-in-Run-clause-clock : goal.returns-in-Run-clause-clock
returns-in-Run-clause-clock g c = ap (λ w. w.clock) c.run.ensures.kept

pub returns-in-Run-clause-door : goal.returns-in-Run-clause-door
returns-in-Run-clause-door g c = λ none. ap (λ w. w.door) c.run.ensures.kept

-- `ddb`

pub returns-in-Ddb-clause-outcome : goal.returns-in-Ddb-clause-outcome
returns-in-Ddb-clause-outcome g c = λ known.
    inl ((Ddb c.in-Ddb.config c.in-Ddb.calls c.in-Ddb.timeout c.in-Ddb.trace), c.in-Ddb.ensures, c.ddb.ensures.outcome known)

pub returns-in-Ddb-clause-exact : goal.returns-in-Ddb-clause-exact
returns-in-Ddb-clause-exact g c = λ known sound other is.
    let t = devices g.C.Clock g.F.Caller g.D.Disk g.S.Source g.K.Sink g.L.Door g.L.Conn.Link in
    one_outcome t (map string_bytes c.args.words.now) c.args.world c.ddb.result.world other c.ddb.result.status
    (record {
      one_command = c.one_command.ensures;
      whole_goes_on = c.whole_goes_on.ensures;
      same_told = λ t u payloads. c.same_told.ensures t u (history payloads) (history payloads);
      one_answer = record {
        one_mapping = c.one_answer.ensures.one_mapping;
        no_reason = c.one_answer.ensures.no_reason;
        one_reason = c.one_answer.ensures.one_reason;
      };
      one_expected = record {
        one_mapping = c.one_expected.ensures.one_mapping;
        no_reason = c.one_expected.ensures.no_reason;
        one_reason = c.one_expected.ensures.one_reason;
      };
    }) sound is (inl ((Ddb c.in-Ddb.config c.in-Ddb.calls c.in-Ddb.timeout c.in-Ddb.trace), c.in-Ddb.ensures, c.ddb.ensures.outcome known))

pub returns-in-Ddb-clause-complete : goal.returns-in-Ddb-clause-complete
returns-in-Ddb-clause-complete g c = λ known none d spelled.
    let t = devices g.C.Clock g.F.Caller g.D.Disk g.S.Source g.K.Sink g.L.Door g.L.Conn.Link in
    by_command (λ d. Completes t d c.args.world c.ddb.result.world c.ddb.result.status) (map string_bytes c.args.words.now) (Ddb c.in-Ddb.config c.in-Ddb.calls c.in-Ddb.timeout c.in-Ddb.trace) c.one_command.ensures c.in-Ddb.ensures
    (complete_ddb (of_run t) c.in-Ddb.config c.in-Ddb.calls c.in-Ddb.trace (output t c.args.world c.ddb.result.world) (told_history c.ddb.result.world) (seen c.args.world) (seen c.ddb.result.world) c.ddb.result.status
    (record {
      one_command = c.one_command.ensures;
      whole_goes_on = c.whole_goes_on.ensures;
      same_told = λ t u payloads. c.same_told.ensures t u (history payloads) (history payloads);
      one_answer = record {
        one_mapping = c.one_answer.ensures.one_mapping;
        no_reason = c.one_answer.ensures.no_reason;
        one_reason = c.one_answer.ensures.one_reason;
      };
      one_expected = record {
        one_mapping = c.one_expected.ensures.one_mapping;
        no_reason = c.one_expected.ensures.no_reason;
        one_reason = c.one_expected.ensures.one_reason;
      };
    }) c.bound_is_not_reached.ensures (none.command (Ddb c.in-Ddb.config c.in-Ddb.calls c.in-Ddb.timeout c.in-Ddb.trace) c.in-Ddb.ensures) none.output_told (c.ddb.ensures.outcome known)) d spelled

pub returns-in-Ddb-clause-bad_words : goal.returns-in-Ddb-clause-bad_words
returns-in-Ddb-clause-bad_words g c = λ bad. absurd (c.ddb.ensures.good_words bad)

pub returns-in-Ddb-clause-spelled : goal.returns-in-Ddb-clause-spelled
returns-in-Ddb-clause-spelled g c = λ good known. ((Ddb c.in-Ddb.config c.in-Ddb.calls c.in-Ddb.timeout c.in-Ddb.trace), c.in-Ddb.ensures)

pub returns-in-Ddb-clause-want_of_memory : goal.returns-in-Ddb-clause-want_of_memory
returns-in-Ddb-clause-want_of_memory g c = λ short.
    let t = devices g.C.Clock g.F.Caller g.D.Disk g.S.Source g.K.Sink g.L.Door g.L.Conn.Link in
    stopped_at t c.args.world c.ddb.result.world (map string_bytes c.args.words.now) (Ddb c.in-Ddb.config c.in-Ddb.calls c.in-Ddb.timeout c.in-Ddb.trace) c.one_command.ensures c.in-Ddb.ensures (c.ddb.ensures.untold short) (c.ddb.ensures.want_of_memory short)

pub returns-in-Ddb-clause-left : goal.returns-in-Ddb-clause-left
returns-in-Ddb-clause-left g c = λ d spelled.
    let t = devices g.C.Clock g.F.Caller g.D.Disk g.S.Source g.K.Sink g.L.Door g.L.Conn.Link in
    by_command (λ d. IsLeft t d c.args.world c.ddb.result.world) (map string_bytes c.args.words.now) (Ddb c.in-Ddb.config c.in-Ddb.calls c.in-Ddb.timeout c.in-Ddb.trace) c.one_command.ensures c.in-Ddb.ensures (c.ddb.ensures.registry) d spelled

pub returns-in-Ddb-clause-untouched : goal.returns-in-Ddb-clause-untouched
returns-in-Ddb-clause-untouched g c = λ none. absurd (none (Ddb c.in-Ddb.config c.in-Ddb.calls c.in-Ddb.timeout c.in-Ddb.trace) c.in-Ddb.ensures)

pub returns-in-Ddb-clause-clock : goal.returns-in-Ddb-clause-clock
returns-in-Ddb-clause-clock g c = c.ddb.ensures.kept.0

pub returns-in-Ddb-clause-door : goal.returns-in-Ddb-clause-door
returns-in-Ddb-clause-door g c = λ none. c.ddb.ensures.kept.1

-- `redrive`

pub redrive-requires-clause-receives : goal.redrive-requires-clause-receives
redrive-requires-clause-receives g c κs within = receives_within (map string_bytes c.args.words.now) c.in-Redrive.words.config c.in-Redrive.words.max_receives c.in-Redrive.words.calls c.in-Redrive.words.visibility c.in-Redrive.words.timeout c.in-Redrive.words.trace c.in-Redrive.ensures.0

pub returns-in-Redrive-clause-outcome : goal.returns-in-Redrive-clause-outcome
returns-in-Redrive-clause-outcome g c = λ known.
    inl ((Redrive c.in-Redrive.words.config c.in-Redrive.words.max_receives c.in-Redrive.words.calls c.in-Redrive.words.visibility c.in-Redrive.words.timeout c.in-Redrive.words.trace), c.in-Redrive.ensures, c.redrive.ensures.outcome known)

pub returns-in-Redrive-clause-exact : goal.returns-in-Redrive-clause-exact
returns-in-Redrive-clause-exact g c = λ known sound other is.
    let t = devices g.C.Clock g.F.Caller g.D.Disk g.S.Source g.K.Sink g.L.Door g.L.Conn.Link in
    one_outcome t (map string_bytes c.args.words.now) c.args.world c.redrive.result.world other c.redrive.result.status
    (record {
      one_command = c.one_command.ensures;
      whole_goes_on = c.whole_goes_on.ensures;
      same_told = λ t u payloads. c.same_told.ensures t u (history payloads) (history payloads);
      one_answer = record {
        one_mapping = c.one_answer.ensures.one_mapping;
        no_reason = c.one_answer.ensures.no_reason;
        one_reason = c.one_answer.ensures.one_reason;
      };
      one_expected = record {
        one_mapping = c.one_expected.ensures.one_mapping;
        no_reason = c.one_expected.ensures.no_reason;
        one_reason = c.one_expected.ensures.one_reason;
      };
    }) sound is (inl ((Redrive c.in-Redrive.words.config c.in-Redrive.words.max_receives c.in-Redrive.words.calls c.in-Redrive.words.visibility c.in-Redrive.words.timeout c.in-Redrive.words.trace), c.in-Redrive.ensures, c.redrive.ensures.outcome known))

pub returns-in-Redrive-clause-complete : goal.returns-in-Redrive-clause-complete
returns-in-Redrive-clause-complete g c = λ known none d spelled.
    let t = devices g.C.Clock g.F.Caller g.D.Disk g.S.Source g.K.Sink g.L.Door g.L.Conn.Link in
    by_command (λ d. Completes t d c.args.world c.redrive.result.world c.redrive.result.status) (map string_bytes c.args.words.now) (Redrive c.in-Redrive.words.config c.in-Redrive.words.max_receives c.in-Redrive.words.calls c.in-Redrive.words.visibility c.in-Redrive.words.timeout c.in-Redrive.words.trace) c.one_command.ensures c.in-Redrive.ensures
    (complete_redrive (of_run t) (redrive_words c.in-Redrive.words.config c.in-Redrive.words.max_receives c.in-Redrive.words.calls c.in-Redrive.words.visibility c.in-Redrive.words.timeout c.in-Redrive.words.trace) (output t c.args.world c.redrive.result.world) (told_history c.redrive.result.world) (seen c.args.world) (seen c.redrive.result.world) c.redrive.result.status
    (record {
      one_command = c.one_command.ensures;
      whole_goes_on = c.whole_goes_on.ensures;
      same_told = λ t u payloads. c.same_told.ensures t u (history payloads) (history payloads);
      one_answer = record {
        one_mapping = c.one_answer.ensures.one_mapping;
        no_reason = c.one_answer.ensures.no_reason;
        one_reason = c.one_answer.ensures.one_reason;
      };
      one_expected = record {
        one_mapping = c.one_expected.ensures.one_mapping;
        no_reason = c.one_expected.ensures.no_reason;
        one_reason = c.one_expected.ensures.one_reason;
      };
    }) (none.command (Redrive c.in-Redrive.words.config c.in-Redrive.words.max_receives c.in-Redrive.words.calls c.in-Redrive.words.visibility c.in-Redrive.words.timeout c.in-Redrive.words.trace) c.in-Redrive.ensures) none.output_told (c.redrive.ensures.outcome known)) d spelled

pub returns-in-Redrive-clause-bad_words : goal.returns-in-Redrive-clause-bad_words
returns-in-Redrive-clause-bad_words g c = λ bad. absurd (c.redrive.ensures.good_words bad)

pub returns-in-Redrive-clause-spelled : goal.returns-in-Redrive-clause-spelled
returns-in-Redrive-clause-spelled g c = λ good known. ((Redrive c.in-Redrive.words.config c.in-Redrive.words.max_receives c.in-Redrive.words.calls c.in-Redrive.words.visibility c.in-Redrive.words.timeout c.in-Redrive.words.trace), c.in-Redrive.ensures)

pub returns-in-Redrive-clause-want_of_memory : goal.returns-in-Redrive-clause-want_of_memory
returns-in-Redrive-clause-want_of_memory g c = λ short.
    let t = devices g.C.Clock g.F.Caller g.D.Disk g.S.Source g.K.Sink g.L.Door g.L.Conn.Link in
    stopped_at t c.args.world c.redrive.result.world (map string_bytes c.args.words.now) (Redrive c.in-Redrive.words.config c.in-Redrive.words.max_receives c.in-Redrive.words.calls c.in-Redrive.words.visibility c.in-Redrive.words.timeout c.in-Redrive.words.trace) c.one_command.ensures c.in-Redrive.ensures (c.redrive.ensures.untold short) (c.redrive.ensures.want_of_memory short)

pub returns-in-Redrive-clause-left : goal.returns-in-Redrive-clause-left
returns-in-Redrive-clause-left g c = λ d spelled.
    let t = devices g.C.Clock g.F.Caller g.D.Disk g.S.Source g.K.Sink g.L.Door g.L.Conn.Link in
    by_command (λ d. IsLeft t d c.args.world c.redrive.result.world) (map string_bytes c.args.words.now) (Redrive c.in-Redrive.words.config c.in-Redrive.words.max_receives c.in-Redrive.words.calls c.in-Redrive.words.visibility c.in-Redrive.words.timeout c.in-Redrive.words.trace) c.one_command.ensures c.in-Redrive.ensures (c.redrive.ensures.registry) d spelled

pub returns-in-Redrive-clause-untouched : goal.returns-in-Redrive-clause-untouched
returns-in-Redrive-clause-untouched g c = λ none. absurd (none (Redrive c.in-Redrive.words.config c.in-Redrive.words.max_receives c.in-Redrive.words.calls c.in-Redrive.words.visibility c.in-Redrive.words.timeout c.in-Redrive.words.trace) c.in-Redrive.ensures)

pub returns-in-Redrive-clause-clock : goal.returns-in-Redrive-clause-clock
returns-in-Redrive-clause-clock g c = c.redrive.ensures.kept.0

pub returns-in-Redrive-clause-door : goal.returns-in-Redrive-clause-door
returns-in-Redrive-clause-door g c = λ none. c.redrive.ensures.kept.1

-- `replay`

pub returns-in-Replay-clause-outcome : goal.returns-in-Replay-clause-outcome
returns-in-Replay-clause-outcome g c = λ known.
    inl ((Replay c.in-Replay.config c.in-Replay.calls c.in-Replay.timeout c.in-Replay.trace), c.in-Replay.ensures, c.replay.ensures.outcome known)

pub returns-in-Replay-clause-exact : goal.returns-in-Replay-clause-exact
returns-in-Replay-clause-exact g c = λ known sound other is.
    let t = devices g.C.Clock g.F.Caller g.D.Disk g.S.Source g.K.Sink g.L.Door g.L.Conn.Link in
    one_outcome t (map string_bytes c.args.words.now) c.args.world c.replay.result.world other c.replay.result.status
    (record {
      one_command = c.one_command.ensures;
      whole_goes_on = c.whole_goes_on.ensures;
      same_told = λ t u payloads. c.same_told.ensures t u (history payloads) (history payloads);
      one_answer = record {
        one_mapping = c.one_answer.ensures.one_mapping;
        no_reason = c.one_answer.ensures.no_reason;
        one_reason = c.one_answer.ensures.one_reason;
      };
      one_expected = record {
        one_mapping = c.one_expected.ensures.one_mapping;
        no_reason = c.one_expected.ensures.no_reason;
        one_reason = c.one_expected.ensures.one_reason;
      };
    }) sound is (inl ((Replay c.in-Replay.config c.in-Replay.calls c.in-Replay.timeout c.in-Replay.trace), c.in-Replay.ensures, c.replay.ensures.outcome known))

pub returns-in-Replay-clause-complete : goal.returns-in-Replay-clause-complete
returns-in-Replay-clause-complete g c = λ known none d spelled.
    let t = devices g.C.Clock g.F.Caller g.D.Disk g.S.Source g.K.Sink g.L.Door g.L.Conn.Link in
    by_command (λ d. Completes t d c.args.world c.replay.result.world c.replay.result.status) (map string_bytes c.args.words.now) (Replay c.in-Replay.config c.in-Replay.calls c.in-Replay.timeout c.in-Replay.trace) c.one_command.ensures c.in-Replay.ensures
    tt d spelled

pub returns-in-Replay-clause-bad_words : goal.returns-in-Replay-clause-bad_words
returns-in-Replay-clause-bad_words g c = λ bad. absurd (c.replay.ensures.good_words bad)

pub returns-in-Replay-clause-spelled : goal.returns-in-Replay-clause-spelled
returns-in-Replay-clause-spelled g c = λ good known. ((Replay c.in-Replay.config c.in-Replay.calls c.in-Replay.timeout c.in-Replay.trace), c.in-Replay.ensures)

pub returns-in-Replay-clause-want_of_memory : goal.returns-in-Replay-clause-want_of_memory
returns-in-Replay-clause-want_of_memory g c = λ short.
    let t = devices g.C.Clock g.F.Caller g.D.Disk g.S.Source g.K.Sink g.L.Door g.L.Conn.Link in
    stopped_at t c.args.world c.replay.result.world (map string_bytes c.args.words.now) (Replay c.in-Replay.config c.in-Replay.calls c.in-Replay.timeout c.in-Replay.trace) c.one_command.ensures c.in-Replay.ensures (c.replay.ensures.untold short) (c.replay.ensures.want_of_memory short)

pub returns-in-Replay-clause-left : goal.returns-in-Replay-clause-left
returns-in-Replay-clause-left g c = λ d spelled.
    let t = devices g.C.Clock g.F.Caller g.D.Disk g.S.Source g.K.Sink g.L.Door g.L.Conn.Link in
    by_command (λ d. IsLeft t d c.args.world c.replay.result.world) (map string_bytes c.args.words.now) (Replay c.in-Replay.config c.in-Replay.calls c.in-Replay.timeout c.in-Replay.trace) c.one_command.ensures c.in-Replay.ensures (c.replay.ensures.registry) d spelled

pub returns-in-Replay-clause-untouched : goal.returns-in-Replay-clause-untouched
returns-in-Replay-clause-untouched g c = λ none. absurd (none (Replay c.in-Replay.config c.in-Replay.calls c.in-Replay.timeout c.in-Replay.trace) c.in-Replay.ensures)

pub returns-in-Replay-clause-clock : goal.returns-in-Replay-clause-clock
returns-in-Replay-clause-clock g c = c.replay.ensures.kept.0

pub returns-in-Replay-clause-door : goal.returns-in-Replay-clause-door
returns-in-Replay-clause-door g c = λ none. c.replay.ensures.kept.1

-- no command

pub returns-in-Nothing-clause-outcome : goal.returns-in-Nothing-clause-outcome
returns-in-Nothing-clause-outcome g c = λ known.
    let t = devices g.C.Clock g.F.Caller g.D.Disk g.S.Source g.K.Sink g.L.Door g.L.Conn.Link in
    inr (record {
      none_spelled = c.in-Nothing.ensures (c.refuse.ensures.told known).0;
      untouched = untouched_alone t c.args.world c.refuse.result.world (λ disk bytes. (g.met.D.Disk g.world.𝓛 g.world.𝓜 g.world.𝓡 ((λ s x. x), (λ x. x), (λ x. x), λ x. x)).only_now disk bytes) c.refuse.ensures.same (ap (λ w. reverse w.trace.items) c.refuse.ensures.same ∙ ap reverse c.requires.trace);
      told = (c.refuse.ensures.told known).1;
    })

pub returns-in-Nothing-clause-exact : goal.returns-in-Nothing-clause-exact
returns-in-Nothing-clause-exact g c = λ known sound other is.
    let t = devices g.C.Clock g.F.Caller g.D.Disk g.S.Source g.K.Sink g.L.Door g.L.Conn.Link in
    one_outcome t (map string_bytes c.args.words.now) c.args.world c.refuse.result.world other c.refuse.result.status
    (record {
      one_command = c.one_command.ensures;
      whole_goes_on = c.whole_goes_on.ensures;
      same_told = λ t u payloads. c.same_told.ensures t u (history payloads) (history payloads);
      one_answer = record {
        one_mapping = c.one_answer.ensures.one_mapping;
        no_reason = c.one_answer.ensures.no_reason;
        one_reason = c.one_answer.ensures.one_reason;
      };
      one_expected = record {
        one_mapping = c.one_expected.ensures.one_mapping;
        no_reason = c.one_expected.ensures.no_reason;
        one_reason = c.one_expected.ensures.one_reason;
      };
    }) sound is
    (inr (record {
      none_spelled = c.in-Nothing.ensures (c.refuse.ensures.told known).0;
      untouched = untouched_alone t c.args.world c.refuse.result.world (λ disk bytes. (g.met.D.Disk g.world.𝓛 g.world.𝓜 g.world.𝓡 ((λ s x. x), (λ x. x), (λ x. x), λ x. x)).only_now disk bytes) c.refuse.ensures.same (ap (λ w. reverse w.trace.items) c.refuse.ensures.same ∙ ap reverse c.requires.trace);
      told = (c.refuse.ensures.told known).1;
    }))

pub returns-in-Nothing-clause-complete : goal.returns-in-Nothing-clause-complete
returns-in-Nothing-clause-complete g c = λ known none d spelled. absurd (c.in-Nothing.ensures (c.refuse.ensures.told known).0 d spelled)

pub returns-in-Nothing-clause-spelled : goal.returns-in-Nothing-clause-spelled
returns-in-Nothing-clause-spelled g c = λ good known.
    elim (c.refuse.ensures.told known).1 [ inl told ↦ absurd (good told.0) | inr told ↦ absurd (good told.0) ]

pub returns-in-Nothing-clause-want_of_memory : goal.returns-in-Nothing-clause-want_of_memory
returns-in-Nothing-clause-want_of_memory g c = λ short.
    let t = devices g.C.Clock g.F.Caller g.D.Disk g.S.Source g.K.Sink g.L.Door g.L.Conn.Link in
    stopped_alone t c.args.world c.refuse.result.world (λ disk bytes. (g.met.D.Disk g.world.𝓛 g.world.𝓜 g.world.𝓡 ((λ s x. x), (λ x. x), (λ x. x), λ x. x)).only_now disk bytes) c.refuse.ensures.same (ap (λ w. reverse w.trace.items) c.refuse.ensures.same ∙ ap reverse c.requires.trace) (map string_bytes c.args.words.now) (c.refuse.ensures.untold short)

pub returns-in-Nothing-clause-left : goal.returns-in-Nothing-clause-left
returns-in-Nothing-clause-left g c = λ d spelled.
    let t = devices g.C.Clock g.F.Caller g.D.Disk g.S.Source g.K.Sink g.L.Door g.L.Conn.Link in
    left_alone t c.args.world c.refuse.result.world (λ disk bytes. (g.met.D.Disk g.world.𝓛 g.world.𝓜 g.world.𝓡 ((λ s x. x), (λ x. x), (λ x. x), λ x. x)).only_now disk bytes) c.refuse.ensures.same d

pub returns-in-Nothing-clause-untouched : goal.returns-in-Nothing-clause-untouched
returns-in-Nothing-clause-untouched g c = λ none. c.refuse.ensures.same

pub returns-in-Nothing-clause-as_many : goal.returns-in-Nothing-clause-as_many
returns-in-Nothing-clause-as_many g c = ap (λ w. length w.callers.items) c.refuse.ensures.same ∙ c.requires.callers

pub returns-in-Nothing-clause-clock : goal.returns-in-Nothing-clause-clock
returns-in-Nothing-clause-clock g c = ap (λ w. w.clock) c.refuse.ensures.same

pub returns-in-Nothing-clause-door : goal.returns-in-Nothing-clause-door
returns-in-Nothing-clause-door g c = λ none. ap (λ w. w.door) c.refuse.ensures.same
