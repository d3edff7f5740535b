use Rattle.std.proofs.Common.{refl}
use Rattle.serde_json.specs.Data.{Data, Members, no_members, number, put, string, unsigned}
use Rattle.esm_record.specs.Line.{name_of}
use Rattle.esm_record.specs.declared.error.Field.TheVariants as field
use Rattle.esm_record.proofs.Leaves.{none_found}
use Rattle.esm_record.proofs.UsualLines.{members_in, usual_object}
use Rattle.esm_record.proofs.usual.read_usual.Goals as goal

pub returns-clause-read : goal.returns-clause-read
returns-clause-read c = λ was.
    let u = c.in-Some.usual in
    let s : Data = string u.shard.bytes.now in
    let q : Data = string u.seq.bytes.now in
    let k : Data = string u.key.bytes.now in
    let d : Data = string u.payload.bytes.now in
    let m : Data = number (unsigned u.arrival) in
    let s_put : Members = put (name_of field.ShardId) s no_members in
    let q_put : Members = put (name_of field.SequenceNumber) q s_put in
    let k_put : Members = put (name_of field.PartitionKey) k q_put in
    let d_put : Members = put (name_of field.Data) d k_put in
    let s_found = c.keep_field.ensures.kept s no_members (record { text = refl; whole = refl }) (none_found c.args.found.now c.requires.empty) in
    let q_found = c.keep_field-2.ensures.kept q s_put (record { text = refl; whole = refl }) s_found in
    let k_found = c.keep_field-3.ensures.kept k q_put (record { text = refl; whole = refl }) q_found in
    let d_found = c.keep_field-4.ensures.kept d k_put (record { text = refl; whole = refl }) k_found in
    let m_found = c.keep_field-5.ensures.kept m d_put (record { text = refl; whole = refl }) d_found in
    (members_in u, usual_object c.args.line.now u c.in-Some.ensures, m_found)
