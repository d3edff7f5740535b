use Rattle.std.proofs.Common.{◌≡◌, ◌∙◌, ◌<◌, ℕ, List, length, take, refl, sym, ap, subst}
use Rattle.std.proofs.lemmas.List.{length-map}
use Rattle.std.proofs.lemmas.List.Elements.{All-take}
use Rattle.esm_model.specs.Records.{Record}
use Rattle.esm_replay.specs.declared.rows.Named.{Named}
use Rattle.esm_replay.specs.Rows.{places_of}
use Rattle.esm_replay.specs.Batch.{records_in, IsRowWithin}
use Rattle.esm_replay.proofs.Gathered.{batch_is}
use Rattle.esm_replay.proofs.batch.batch_of.Goals as goal

pub gather-requires : goal.gather-requires
gather-requires c = All-take (λ (d : Named). d.at < length c.args.records.now) c.call_length-count.result c.args.named.now c.requires.stand

pub returns-clause-call : goal.returns-clause-call
returns-clause-call c = λ s placed.
    let rs : List Record = c.args.records.now in
    let ds : List Named = c.args.named.now in
    let count = c.call_length-count.result in
    let front : List Named = take count ds in
    let places : c.from_vec.result ≡ places_of front = c.from_vec.ensures ∙ c.in_ok-places.ensures in
    let long : length c.from_vec.result ≡ length front = ap (λ (xs : List ℕ). length xs) places ∙ length-map front (λ (d : Named). d.place) in
    let records = ap (λ (k : ℕ). records_in rs k c.in_ok-gathered.gathered) long ∙ c.in_ok-gathered.ensures.records in
    let facts = batch_is s c.args.config.now rs c.args.shard ds count _ c.from_vec.result placed c.call_length-count.ensures.within (c.call_length-count.ensures.some c.requires.some) records (c.call_length-count.ensures.longest s c.args.shard placed) places in
    (refl, facts.0, facts.1, facts.2)

pub returns-clause-among : goal.returns-clause-among
returns-clause-among c =
    let front : List Named = take c.call_length-count.result c.args.named.now in
    let long : length c.from_vec.result ≡ length front = ap (λ (xs : List ℕ). length xs) (c.from_vec.ensures ∙ c.in_ok-places.ensures) ∙ length-map front (λ (d : Named). d.place) in
    subst (λ (k : ℕ). IsRowWithin (length c.args.records.now) k c.in_ok-gathered.gathered) (sym long) c.in_ok-gathered.ensures.within
