use Rattle.std.proofs.Common.{◌∙◌, ap}
use Rattle.esm_runner.proofs.Begins.{core_begun}
use Rattle.esm_runner.proofs.stream_run.begin.Goals as goal

pub returns-in-Ok-open_book-clause-begun : goal.returns-in-Ok-open_book-clause-begun
returns-in-Ok-open_book-clause-begun g c =
    let opened = c.in-Ok-open_book.ensures.opened in
    record {
      core = core_begun c.args.config c.args.calls c.args.said.now c.args.pair.payloads c.in-Ok-open_book.book.core c.same_told.ensures c.requires.tells c.requires.order opened.core;
      pair_is = opened.pair_is;
      dest_is = ap g.W.FailureFile.file opened.dest_is ∙ c.over.ensures;
      found = opened.found;
      found_dest = ap g.W.FailureFile.file opened.found_dest ∙ c.over.ensures;
      up = opened.trouble;
      input = c.in-Ok-new.ensures.made;
      name_is = c.in-Ok.ensures;
    }
