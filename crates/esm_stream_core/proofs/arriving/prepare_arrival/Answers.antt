use Rattle.std.proofs.Common.{◌≡◌, ◌∙◌, ◌++◌, ◌+◌, ◌<◌, ◌≤◌, length, map, reverse, sym, ap, subst, arith, rules}
use Rattle.std.proofs.lemmas.List.{length-map, reverse-reverse}
use Rattle.esm_model.specs.declared.limits.TheConstants.{MAX_ENTRIES}
use Rattle.esm_ledger.specs.Ledger.{HasRoom, HasShardRoom}
use Rattle.esm_ingest.specs.Parts.{part}
use Rattle.esm_stream_core.proofs.Arrivals.{arrival_decides, owed_is, doubled}
use Rattle.esm_stream_core.proofs.arriving.prepare_arrival.Goals as goal

pub returns-clause-decides : goal.returns-clause-decides
returns-clause-decides c =
    let a = c.args.ledger.now in
    let d = c.gather.new.ledger in
    let g = c.in_ok-coming.field-0 in
    let ps = map part c.args.parts.items in
    let coming : reverse c.reverse.new.self.items ≡ g.coming.items = ap reverse c.reverse.ensures.items ∙ reverse-reverse g.coming.items in
    let owed : reverse c.in_ok-owed.owed.items ≡ g.came.items ++ g.filtered.items = ap reverse c.in_ok-owed.ensures ∙ reverse-reverse (g.came.items ++ g.filtered.items) in
    let count : c.len-count.result ≡ length c.args.parts.items = search rules in
    let parts : length ps ≡ c.len-count.result = length-map c.args.parts.items part ∙ sym count in
    let room : HasRoom d c.saturating_mul.result = c.gather.ensures.room c.saturating_mul.result (c.prepare_shards.ensures.room c.saturating_mul.result c.in_ok-prepare_entries.ensures.ok) in
    let shards : HasShardRoom d (length ps) = subst (HasShardRoom d) (sym parts) (c.gather.ensures.shards c.len-count.result c.in_ok-prepare_shards.ensures.ok) in
    let low : c.saturating_mul.result < MAX_ENTRIES = (let short = room.short in omega (arith, short)) in
    let two = doubled c.len-count.result c.saturating_mul.result c.saturating_mul.ensures low in
    let enough : length ps + length ps ≤ c.saturating_mul.result = omega (arith, two, parts) in
    let got = c.gather.ensures.same in
    arrival_decides a d c.args.moment ps g (reverse c.reverse.new.self.items) (reverse c.in_ok-owed.owed.items) c.requires.may (search rules) coming owed c.saturating_mul.result c.requires.bounds c.requires.kept.config
    (record { keeps = got.keeps; past = got.past ∙ (c.prepare_shards.ensures.past ∙ c.prepare_entries.ensures.past); setting = got.setting ∙ (c.prepare_shards.ensures.setting ∙ c.prepare_entries.ensures.setting) }) enough room shards

pub returns-clause-owed : goal.returns-clause-owed
returns-clause-owed c =
    let g = c.in_ok-coming.field-0 in
    let ps = map part c.args.parts.items in
    let coming : reverse c.reverse.new.self.items ≡ g.coming.items = ap reverse c.reverse.ensures.items ∙ reverse-reverse g.coming.items in
    let owed : reverse c.in_ok-owed.owed.items ≡ g.came.items ++ g.filtered.items = ap reverse c.in_ok-owed.ensures ∙ reverse-reverse (g.came.items ++ g.filtered.items) in
    owed_is c.args.ledger.now c.gather.new.ledger c.args.moment ps g (reverse c.reverse.new.self.items) (reverse c.in_ok-owed.owed.items) c.requires.may (search rules) coming owed
