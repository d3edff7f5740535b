use Rattle.esm_filter.specs.Criteria.{patterns_view}
use Rattle.esm_filter.specs.Named.{is_named}
use Rattle.esm_filter.proofs.CriteriaLemmas.{no_text, text_read}
use Rattle.esm_filter.proofs.document.read_bytes.Goals as goal

pub returns-in-Ok : goal.returns-in-Ok
returns-in-Ok c =
    text_read (is_named (patterns_view c.args.patterns.now)) c.args.bytes.now c.in-Ok.text.now c.read_document.result c.in-Ok.ensures.cases.1 c.in-Ok.ensures.cases.0 c.read_document.ensures

pub returns-in-Err : goal.returns-in-Err
returns-in-Err c = no_text (is_named (patterns_view c.args.patterns.now)) c.args.bytes.now c.in-Err.ensures.cases.0
