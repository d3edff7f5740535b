use Rattle.std.proofs.Common.{◌≡◌, ◌∙◌, List, length, refl, ap, arith}
use Rattle.esm_model.specs.Records.{Record}
use Rattle.esm_model.specs.Valid.{is_stream}
use Rattle.esm_ledger.specs.Ledger.{past_of, setting_of}
use Rattle.esm_ingest.specs.Judged.{IsJudgedBy}
use Rattle.esm_ingest.proofs.Staying.{staying_in_row}
use Rattle.esm_ingest.proofs.Partwise.{made_with, made_part}
use Rattle.esm_ingest.proofs.parts.part_of.Goals as goal

pub judge-requires : goal.judge-requires
judge-requires c =
    let first = c.came_of-first.ensures in
    let same : length c.as_slice.result.now ≡ length c.args.group.records.items = ap (λ (rs : List Record). length rs) c.as_slice.ensures.value in
    let few = c.requires.few in
    omega (arith, first, same, few)

pub with_own_texts-requires : goal.with_own_texts-requires
with_own_texts-requires c =
    let s = setting_of c.args.ledger.now in
    let judged : IsJudgedBy (setting_of c.args.ledger.now) c.args.ledger.now.found c.args.criteria.now = record { fates = refl; judges = c.requires.judged; stream = ap is_stream c.requires.kept.config.kind } in
    staying_in_row s c.args.group.shard c.came_of-first.result c.as_slice.result.now c.args.group.records.items c.as_slice-2.result.now c.as_slice.ensures.value
    (c.as_slice-2.ensures.value ∙ c.in_ok-judged.ensures.staying (setting_of c.args.ledger.now) judged)

pub returns : goal.returns
returns c =
    let s = setting_of c.args.ledger.now in
    let judged : IsJudgedBy (setting_of c.args.ledger.now) c.args.ledger.now.found c.args.criteria.now = record { fates = refl; judges = c.requires.judged; stream = ap is_stream c.requires.kept.config.kind } in
    ap (λ (rs : List Record). made_with c.args.group.shard c.came_of-first.result rs c.from_vec.result) c.in_ok-records.ensures
    ∙ made_part s (past_of c.args.ledger.now) c.args.group.shard c.came_of-first.result c.args.group.records.items c.as_slice.result.now c.from_vec.result c.came_of-first.ensures c.as_slice.ensures.value
    (c.from_vec.ensures ∙ c.in_ok-judged.ensures.refused (setting_of c.args.ledger.now) judged)
